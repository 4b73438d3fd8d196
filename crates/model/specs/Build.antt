-- The split of Rebuild (document 01, "The calls"). It is said once for lists of any entries that have signatures, since the plain
-- tree splits a list of signatures and the tables a list of head blocks: `of` gives an entry's signature.
-- Assumes nothing.
use Rattle.std.specs.Prelude.{ℕ, zero, suc, ◌-◌, min, true, false, List, [], ◌∷◌, eqb, ltb, length}
use Rattle.model.specs.Basics.{keep, up_from}
use Rattle.model.specs.Signature.{bit_at}
use Rattle.model.specs.Tree.{Tree, nothing, leaf, node}

-- the side e of a split at position p: the entries whose signature has bit e there
abbrev pub side : ℕ → (ℕ → ℕ) → ℕ → ℕ → List ℕ → List ℕ
side F of p e = keep (λ x. eqb (bit_at F (of x) p) e)

-- the size of the smaller side of a split at p
unfoldable pub smaller : ℕ → (ℕ → ℕ) → ℕ → List ℕ → ℕ
smaller F of p xs = min (length (side F of p 0 xs)) (length (side F of p 1 xs))

-- of best and some later positions, the one where the smaller side is largest, the lowest on a tie
unfoldable pub best_of : ℕ → (ℕ → ℕ) → List ℕ → ℕ → List ℕ → ℕ
best_of F of xs best [] = best
best_of F of xs best (p ∷ ps) = best_of F of xs (elim (ltb (smaller F of best xs) (smaller F of p xs)) [ true ↦ p | false ↦ best ]) ps

-- of all positions 1 to F
abbrev pub best_position : ℕ → (ℕ → ℕ) → List ℕ → ℕ
best_position F of xs = best_of F of xs 1 (up_from (F - 1) 2)

-- none gives nothing, one its leaf, more are split at the best position, then each side likewise; n bounds the depth
unfoldable pub build_within : ℕ → ℕ → List ℕ → Tree
build_within zero F ss = nothing
build_within (suc n) F [] = nothing
build_within (suc n) F (s ∷ []) = leaf s
build_within (suc n) F (s ∷ u ∷ ss) =
    let p = best_position F (λ x. x) (s ∷ u ∷ ss) in
    node p (build_within n F (side F (λ x. x) p 0 (s ∷ u ∷ ss))) (build_within n F (side F (λ x. x) p 1 (s ∷ u ∷ ss)))

-- the tree made anew from distinct signatures
abbrev pub build : ℕ → List ℕ → Tree
build F ss = build_within (length ss) F ss
