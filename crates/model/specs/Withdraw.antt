-- The tables that Withdraw leaves (document 01, "The calls").
-- Assumes nothing.
use Rattle.std.specs.Prelude.{ℕ, zero, suc, ◌-◌, true, false, List, [], ◌∷◌, eqb, leb, length, set, replicate}
use Rattle.model.specs.Wide.{word_count, set_words}
use Rattle.model.specs.Signature.{bit_at}
use Rattle.model.specs.Tables.{word, root_at, free_at, count_at, next_at, filed_at, position_at, side_at, left_at, right_at, width_of, root_of, free_of, count_of, next_of, position_of, signature_of}
use Rattle.model.specs.Stores.{Store, ◌↤◌, stores}
use Rattle.model.specs.File.{edge_at, spot_of}

-- the block before b on the chain from c; n bounds the blocks passed
unfoldable pub block_before : List ℕ → ℕ → ℕ → ℕ → ℕ
block_before links b zero c = c
block_before links b (suc n) c = elim (eqb (next_of links c) b) [ true ↦ c | false ↦ block_before links b n (next_of links c) ]

-- the address of the other edge of node i than the one that s takes: the sibling's
abbrev pub sibling_at : ℕ → ℕ → List ℕ → ℕ → ℕ → ℕ
sibling_at B F links s i = side_at B i (1 - bit_at F s (position_of B links i))

-- the address of the word that holds the reference to the last node on the walk by s from address at, which holds a node
unfoldable pub parent_from : ℕ → ℕ → List ℕ → ℕ → ℕ → ℕ → ℕ
parent_from B F links s zero at = at
parent_from B F links s (suc n) at =
    elim (leb (word links (edge_at B F links s (word links at - B))) B) [ true ↦ at | false ↦ parent_from B F links s n (edge_at B F links s (word links at - B)) ]

-- the same from the root
abbrev pub parent_of : ℕ → ℕ → List ℕ → ℕ → ℕ
parent_of B F links s = parent_from B F links s F root_at

-- the stores of every withdrawal: the row becomes 0, and the count falls by one
abbrev pub withdrawal_stores : List ℕ → ℕ → List Store → List Store
withdrawal_stores links b ws = (next_at b ↤ 0) ∷ (filed_at b ↤ 0) ∷ (count_at ↤ count_of links - 1) ∷ ws

-- b stands on its chain after block c
abbrev pub unlink_stores : List ℕ → ℕ → ℕ → List Store
unlink_stores links b c = withdrawal_stores links b ((next_at c ↤ next_of links b) ∷ [])

-- b is the head and its chain goes on: the next block becomes the leaf, at address at
abbrev pub head_stores : List ℕ → ℕ → ℕ → List Store
head_stores links b at = withdrawal_stores links b ((at ↤ next_of links b) ∷ [])

-- the chain is empty and there is no parent: root is 0
abbrev pub last_stores : List ℕ → ℕ → List Store
last_stores links b = withdrawal_stores links b ((root_at ↤ 0) ∷ [])

-- the chain is empty: the sibling r takes the place of the parent, node i, at address at, and i becomes the first free node
abbrev pub raise_stores : ℕ → List ℕ → ℕ → ℕ → ℕ → ℕ → List Store
raise_stores B links b at i r =
    withdrawal_stores links b ((position_at B i ↤ 0) ∷ (left_at B i ↤ free_of links) ∷ (right_at B i ↤ 0) ∷ (free_at ↤ i) ∷ (at ↤ r) ∷ [])

-- the stores where the walk ends at address at, at the chain with head h; up is the address of the parent's reference; there is no parent where the root is a leaf
unfoldable pub withdraw_stores : ℕ → ℕ → List ℕ → ℕ → ℕ → ℕ → ℕ → ℕ → List Store
withdraw_stores B F links b s at h up =
    elim (eqb h b) [
      | false ↦ unlink_stores links b (block_before links b B h)
      | true ↦ elim (eqb (next_of links b) 0) [
        | false ↦ head_stores links b at
        | true ↦ elim (leb (root_of links) B) [
          | true ↦ last_stores links b
          | false ↦ raise_stores B links b up (word links up - B) (word links (sibling_at B F links s (word links up - B)))
        ]
      ]
    ]

-- Withdraw: the signatures and the links that it leaves; the block's words become 0
abbrev pub withdraw_words : List ℕ → List ℕ → ℕ → List ℕ
withdraw_words words links b = set_words (word_count (width_of links)) words b (replicate (word_count (width_of links)) 0)

abbrev pub withdraw_signatures : List ℕ → ℕ → List ℕ
withdraw_signatures sigs b = set sigs (b - 1) 0

unfoldable pub withdraw_links : List ℕ → List ℕ → ℕ → List ℕ
withdraw_links sigs links b =
    let B = length sigs in
    let F = width_of links in
    let s = signature_of sigs b in
    let at = spot_of B F links s in
    stores links (withdraw_stores B F links b s at (word links at) (parent_of B F links s))
