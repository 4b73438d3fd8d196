-- The tables that File leaves (document 01, "The calls"). The address of the word that holds a reference makes "takes the leaf's
-- place" one store, at the root as at a node.
-- Assumes nothing.
use Rattle.std.specs.Prelude.{ℕ, zero, suc, ◌+◌, ◌-◌, true, false, List, [], ◌∷◌, eqb, leb, length, set}
use Rattle.model.specs.Signature.{bit_at, first_difference}
use Rattle.model.specs.Wide.{word_count, set_words}
use Rattle.model.specs.Tables.{word, root_at, free_at, count_at, next_at, filed_at, position_at, side_at, width_of, free_of, count_of, next_of, position_of, left_of, signature_of}
use Rattle.model.specs.Stores.{Store, ◌↤◌, stores}

-- the address of the edge of node i that s takes
abbrev pub edge_at : ℕ → ℕ → List ℕ → ℕ → ℕ → ℕ
edge_at B F links s i = side_at B i (bit_at F s (position_of B links i))

-- the address of the word that holds the reference, nothing or a leaf, reached from address at by the bits of s; n bounds the nodes passed
unfoldable pub spot_from : ℕ → ℕ → List ℕ → ℕ → ℕ → ℕ → ℕ
spot_from B F links s zero at = at
spot_from B F links s (suc n) at = elim (leb (word links at) B) [ true ↦ at | false ↦ spot_from B F links s n (edge_at B F links s (word links at - B)) ]

-- the same from the root
abbrev pub spot_of : ℕ → ℕ → List ℕ → ℕ → ℕ
spot_of B F links s = spot_from B F links s F root_at

-- the stores of every filing: the filed word and the count
abbrev pub filing_stores : List ℕ → ℕ → List Store → List Store
filing_stores links b ws = (filed_at b ↤ 1) ∷ (count_at ↤ count_of links + 1) ∷ ws

-- into an empty tree: the root becomes the leaf
abbrev pub first_stores : List ℕ → ℕ → List Store
first_stores links b = filing_stores links b ((next_at b ↤ 0) ∷ (root_at ↤ b) ∷ [])

-- an equal signature, head h: the block goes directly after the head in its chain
abbrev pub chain_stores : List ℕ → ℕ → ℕ → List Store
chain_stores links b h = filing_stores links b ((next_at b ↤ next_of links h) ∷ (next_at h ↤ b) ∷ [])

-- otherwise the first free node f takes the place, at address at, of the leaf h, and tests position p; b goes to its side e, the leaf to the other
abbrev pub split_stores : ℕ → List ℕ → ℕ → ℕ → ℕ → ℕ → ℕ → ℕ → List Store
split_stores B links b at h f p e =
    filing_stores links b ((next_at b ↤ 0) ∷ (free_at ↤ left_of B links f) ∷ (position_at B f ↤ p) ∷ (side_at B f e ↤ b) ∷ (side_at B f (1 - e) ↤ h) ∷ (at ↤ B + f) ∷ [])

-- the stores where the walk ends at address at, whose reference h is nothing or a leaf of signature a; p is the first position where s and a differ
unfoldable pub file_stores : ℕ → ℕ → List ℕ → ℕ → ℕ → ℕ → ℕ → ℕ → ℕ → List Store
file_stores B F links b s at h a p =
    elim (eqb h 0) [
      | true ↦ first_stores links b
      | false ↦ elim (eqb a s) [ true ↦ chain_stores links b h | false ↦ split_stores B links b at h (free_of links) p (bit_at F s p) ]
    ]

-- File: the signatures and the links that it leaves; the block's words become the lent ones
abbrev pub file_words : List ℕ → List ℕ → ℕ → List ℕ → List ℕ
file_words words links b s = set_words (word_count (width_of links)) words b s

abbrev pub file_signatures : List ℕ → ℕ → ℕ → List ℕ
file_signatures sigs b s = set sigs (b - 1) s

unfoldable pub file_links : List ℕ → List ℕ → ℕ → ℕ → List ℕ
file_links sigs links b s =
    let B = length sigs in
    let F = width_of links in
    let at = spot_of B F links s in
    let a = signature_of sigs (word links at) in
    stores links (file_stores B F links b s at (word links at) a (first_difference F s a))
