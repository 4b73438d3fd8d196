-- What the ledger becomes: filing and withdrawing set the block's own entry and no other, and the tree of a rebuild depends on the
-- set of the stored signatures alone.
-- Assumes nothing.
use Prim.Native.Nat.{ℕ, ◌-◌, ◌≤◌}
use native.Mathlib.Omega.{arith}
use mathlib.Core.Path.{◌≡◌, sym, ◌∙◌, ap}
use mathlib.Core.Logic.{◌≢◌}
use mathlib.Core.List.{List}
use lib.ListN.{length}
use Rattle.model.specs.Wide.{number_in}
use lib.Seq.{get_or-set_same, get_or-set_other}
use Rattle.model.specs.Tree.{Tree}
use Rattle.model.specs.Build.{build}
use Rattle.model.specs.Questions.{file, withdraw, rebuild}
use Rattle.model.specs.Ledger.{unfiled, pair, Ledger, entry_of, pair_signatures, stored, entered, grown}
use Rattle.model.specs.SameQuote.{SameWidth, SameSet}
use Rattle.model.proofs.Members.{Same, same_members, has_in, in_has, once_in, in_once, once_distinct}
use Rattle.model.proofs.Build.{build_same}

module _ (L : Ledger) (b : ℕ) (from : 1 ≤ b) where
  -- the block's own entry
  pub file_own : (s : List ℕ) → b ≤ length L.entries → entry_of (entered L (file b s)).entries b ≡ pair (number_in s)
  file_own s h = get_or-set_same L.entries (b - 1) (pair (number_in s)) unfiled (omega arith)

  pub withdraw_own : b ≤ length L.entries → entry_of (entered L (withdraw b)).entries b ≡ unfiled
  withdraw_own h = get_or-set_same L.entries (b - 1) unfiled unfiled (omega arith)

  -- every other entry
  pub file_others : (s : List ℕ) (c : ℕ) → c ≢ b → 1 ≤ c → entry_of (entered L (file b s)).entries c ≡ entry_of L.entries c
  file_others s c n h = get_or-set_other L.entries (b - 1) (c - 1) (pair (number_in s)) unfiled (omega arith)

  pub withdraw_others : (c : ℕ) → c ≢ b → 1 ≤ c → entry_of (entered L (withdraw b)).entries c ≡ entry_of L.entries c
  withdraw_others c n h = get_or-set_other L.entries (b - 1) (c - 1) unfiled unfiled (omega arith)

-- ledgers with the same set have the same distinct signatures, in whatever order
pub stored_same : (L L' : Ledger) → SameSet L L' → Same (stored L) (stored L')
stored_same L L' h =
    same_members (stored L) (stored L') (once_distinct (pair_signatures L.entries)) (once_distinct (pair_signatures L'.entries))
    (λ s m. in_once (pair_signatures L'.entries) s (has_in s _ (sym (h s) ∙ in_has s _ (once_in (pair_signatures L.entries) s m))))
    (λ s m. in_once (pair_signatures L.entries) s (has_in s _ (h s ∙ in_has s _ (once_in (pair_signatures L'.entries) s m))))

-- and so the same tree after a rebuild
pub rebuild_set : (L L' : Ledger) (t t' : Tree) → SameWidth L L' → SameSet L L' → grown L t rebuild ≡ grown L' t' rebuild
rebuild_set L L' t t' w h = build_same L.width (stored L) (stored L') (stored_same L L' h) ∙ ap (λ (F : ℕ). build F (stored L')) w
