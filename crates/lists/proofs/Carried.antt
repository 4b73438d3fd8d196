-- Any request, from any beginning, on the index's own slice or on another: refused as the ledger refuses it, or carried out as its
-- promise says. Only a clear is carried out on tables never cleared, or on another slice, and it needs nothing of the old tables.
-- Assumes nothing.
use Prim.Native.Nat.{ℕ, ◌≤◌}
use native.Mathlib.Decide.{ℕ_discrete}
use native.Mathlib.Omega.{arith}
use mathlib.Core.Path.{◌≡◌, refl, sym, ◌∙◌, ap, subst}
use mathlib.Core.List.{List}
use lib.ListN.{length}
use Rattle.model.specs.Tree.{Tree}
use Rattle.model.specs.Questions.{asks_tables, Work, Call, clear, file, withdraw, rebuild, search, audit, refusal, Reading, refused, carries}
use Rattle.model.specs.Ledger.{Ledger, asks_ledger, Report}
use Rattle.model.specs.Lists.{Memory, Gives, GivesReading, Slice, own, another, lent_slice, MayLend, slice_after}
use Rattle.model.specs.Claim.{Begins, sound, zeros}
use Rattle.lists.specs.Moves.{refusal_in}
use Rattle.lists.specs.Stepped.{Stepped, Refused}
use Rattle.lists.proofs.Readings.{carried, is_clear, number_of}
use Rattle.lists.proofs.Given.{refused_gives, done_gives}
use Rattle.lists.proofs.Zeros.{zero_clears}
use Rattle.lists.proofs.Slices.{slice_stays, slice_goes}
use Rattle.lists.proofs.Steps.{begins_sound, begins_refusal, begins_blocks, stays, halts, works, clear_step}

-- the memory lent with a call
abbrev pub lending : List ℕ → List ℕ → Work → Memory
lending words links W = record { signatures = words; links = links; work = W }

-- a call that is no clear, not refused: on the index's own slice, and not before a first clear
other_call : (words links : List ℕ) (L : Ledger) (t : Tree) (c : Call) → is_clear c ≡ 0 → (W : Work) (o : Report) (M' : Memory) → Begins words links L t → (s : Slice)
    → MayLend s (carries c) → Gives c (lending (lent_slice words s) links W) o M' → refusal_in (lending (lent_slice words s) links W) c ≡ 0
    → Stepped L t (carries c) (lending (lent_slice words s) links W) o M' (slice_after words s o.answer M'.signatures)
other_call words links L t c i W o M' b (another ws) m g e = absurd (omega (arith, ap is_clear m.1))
other_call words links L t c i W o M' (sound S) own m g e =
    let M : Memory = lending words links W in
    let d = done_gives c i M o M' g e S in
    works _ _ M o M' M'.signatures c (begins_refusal words links _ _ (sound S) words W c ∙ e) d.report d.searched
    (begins_sound M'.signatures M'.links _ _ d.moves.sound d.moves.ledger d.moves.tree)
other_call words links L t c i W o M' (zeros B h k f) own m g e =
    let z : is_clear c ≡ 1 = zero_clears words B h k W c (subst (λ (x : List ℕ). refusal (asks_tables words x) W c ≡ 0) f e) in
    absurd (omega arith)

module _ (words links : List ℕ) (L : Ledger) (t : Tree) (b : Begins words links L t) (s : Slice) (W : Work) (o : Report) (M' : Memory) where
  abbrev M : Memory
  M = lending (lent_slice words s) links W

  abbrev words' : List ℕ
  words' = slice_after words s o.answer M'.signatures

  same : (c : Call) → refusal (asks_ledger L (length (lent_slice words s))) W c ≡ refusal_in M c
  same c = begins_refusal words links L t b (lent_slice words s) W c

  -- what no question refuses
  accepted : (c : Call) → MayLend s (carries c) → Gives c M o M' → refusal_in M c ≡ 0 → Stepped L t (carries c) M o M' words'
  accepted (clear F) m g e =
      clear_step L t M o M' words' F (begins_blocks words links L t b) g e (same (clear F) ∙ e) (slice_goes words s o.answer M'.signatures (g.0.done e).0)
  accepted (file k v) m g e = other_call words links L t (file k v) refl W o M' b s m g e
  accepted (withdraw k) m g e = other_call words links L t (withdraw k) refl W o M' b s m g e
  accepted rebuild m g e = other_call words links L t rebuild refl W o M' b s m g e
  accepted (search q) m g e = other_call words links L t (search q) refl W o M' b s m g e
  accepted audit m g e = other_call words links L t audit refl W o M' b s m g e

  -- what is refused leaves the index its slice
  left_alone : (n : ℕ) → 1 ≤ n → Refused n M o M' → words' ≡ words
  left_alone n h x = slice_stays words s o.answer M'.signatures (λ z. let e : o.answer ≡ n = ap (λ (y : Report). y.answer) x.0 in omega arith) (ap (λ (y : Memory). y.signatures) x.1)

  pub step : (r : Reading) → MayLend s r → 1 ≤ number_of r → GivesReading r M o M' → Stepped L t r M o M' words'
  step (refused n) m h g = stays L t M o M' words' words (refused n) b (left_alone n h g) g.0 g.1 (λ q i z. omega (arith, ap carried i)) refl refl
  step (carries c) m h g = go (ℕ_discrete (refusal_in M c) 0)
    where
      go : Dec (refusal_in M c ≡ 0) → Stepped L t (carries c) M o M' words'
      go (yes e) = accepted c m g e
      go (no n) =
          let x = refused_gives c M o M' g n in
          halts L t M o M' words' words c b (left_alone (refusal_in M c) (omega arith) x) (λ e. n (sym (same c) ∙ e)) (subst (λ (k : ℕ). Refused k M o M') (sym (same c)) x)
