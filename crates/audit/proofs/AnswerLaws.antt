-- The verdict's steps, as the code takes them: the rows, the count, the tree, then what the tree left.
-- Assumes nothing.
use Prim.Native.Nat.{ℕ, ◌-◌}
use mathlib.Core.Path.{◌≡◌, sym, ◌∙◌, ap}
use mathlib.Core.Logic.{◌≢◌}
use mathlib.Core.Bool.{true, false}
use mathlib.Core.List.{List}
use lib.ListN.{length}
use borrow.Author.Tests.{eq-eqb, ne_eqb}
use Rattle.std.specs.Prelude.{Option}
use Rattle.model.specs.Tables.{count_of}
use Rattle.model.specs.Sound.{filed_up_to}
use Rattle.audit.specs.declared.walk.Lent.{Lent}
use Rattle.audit.specs.Audit.{rows_ok, tree_twin, lent_tree, rest_ok, soundb}

module _ (S L : List ℕ) where
  pub sound_rows : rows_ok S L (length S) ≡ false → soundb S L ≡ false
  unfolding soundb
  sound_rows e = simp e

  module _ (rows : rows_ok S L (length S) ≡ true) (c : ℕ) (count : c ≡ filed_up_to L (length S)) where
    pub sound_count : c ≢ count_of L → soundb S L ≡ false
    unfolding soundb
    sound_count ne = let d : count_of L ≢ filed_up_to L (length S) = λ e. ne (count ∙ sym e) in simp (rows, ne_eqb _ _ d)

    pub sound_rest : c ≡ count_of L → (w : Option Lent) → w ≡ tree_twin S L (record { nodes = length S - 1; blocks = c }) → soundb S L ≡ rest_ok L (length S) w
    unfolding soundb
    sound_rest told w tree =
        let d : count_of L ≡ filed_up_to L (length S) = sym told ∙ count in
        let e : tree_twin S L (lent_tree S L) ≡ w = ap (λ (b : ℕ). tree_twin S L (record { nodes = length S - 1; blocks = b })) (sym told) ∙ sym tree in
        rw (rows, soundb, eq-eqb _ _ d, e)
