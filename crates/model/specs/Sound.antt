-- Sound tables (document 01, "The tables"), clause by clause. The tree that the links spell is carried as data, so that a clause
-- about "each node met from the root" is a predicate by recursion on it. That nodes and blocks are distinct is implied, not said.
-- Assumes nothing.
use Rattle.std.specs.Prelude.{ℕ, zero, suc, ◌+◌, ◌*◌, ◌^◌, ◌≤◌, ◌<◌, ◌≡◌, ◌⊎◌, length}
use mathlib.Core.List.{List, [], ◌∷◌, ◌++◌, Memᴰ}
use Rattle.model.specs.Limits.{widest, most_blocks}
use Rattle.model.specs.Tree.{Edge, edge, Agrees, Untested}
use Rattle.model.specs.Tables.{links_of, width_of, told_blocks, root_of, free_of, count_of, next_of, filed_of, position_of, left_of, right_of, signature_of, blocks_of, signatures_of}
use Rattle.model.specs.Wide.{word_count}

-- What the links spell from a reference: a leaf with the head of its chain and the blocks after it, or node i with its position and its two sides.
pub data Shape : Type 0 where
  tip : ℕ → List ℕ → Shape
  fork : ℕ → ℕ → Shape → Shape → Shape

-- what they spell from the root: nothing for root 0
pub data Rooted : Type 0 where
  none : Rooted
  some : Shape → Rooted

-- the chain from block h by the next words: these blocks, then zero
abbrev pub Chain : ℕ → List ℕ → ℕ → List ℕ → Type 0
Chain B links h [] = next_of links h ≡ 0
Chain B links h (c ∷ cs) = (next_of links h ≡ c) × (1 ≤ c) × (c ≤ B) × Chain B links c cs

-- reference r leads to this shape: 1 to B is a leaf, B + i, below 2 * B, is node i with two nonzero references
abbrev pub Holds : ℕ → List ℕ → ℕ → Shape → Type 0
Holds B links r (tip h cs) = (r ≡ h) × (1 ≤ h) × (h ≤ B) × Chain B links h cs
Holds B links r (fork i p l k) = (r ≡ B + i) × (1 ≤ i) × (i < B) × (position_of B links i ≡ p) × Holds B links (left_of B links i) l × Holds B links (right_of B links i) k

abbrev pub HoldsRoot : ℕ → List ℕ → ℕ → Rooted → Type 0
HoldsRoot B links r none = r ≡ 0
HoldsRoot B links r (some t) = Holds B links r t

-- the nodes of a shape, and the blocks on its chains
abbrev pub nodes : Shape → List ℕ
nodes (tip h cs) = []
nodes (fork i p l k) = i ∷ nodes l ++ nodes k

abbrev pub blocks : Shape → List ℕ
blocks (tip h cs) = h ∷ cs
blocks (fork i p l k) = blocks l ++ blocks k

abbrev pub nodes_in : Rooted → List ℕ
nodes_in none = []
nodes_in (some t) = nodes t

abbrev pub blocks_in : Rooted → List ℕ
blocks_in none = []
blocks_in (some t) = blocks t

-- Below a path: each node tests a position 1 to F not tested above it; each leaf's signature agrees with every edge on its path;
-- each chain holds only filed blocks of that signature.
abbrev pub Placed : ℕ → List ℕ → List ℕ → List Edge → Shape → Type 0
Placed F sigs links path (tip h cs) =
    Agrees F (signature_of sigs h) path × ((c : ℕ) → Memᴰ c (h ∷ cs) → (filed_of links c ≡ 1) × (signature_of sigs c ≡ signature_of sigs h))
Placed F sigs links path (fork i p l k) =
    (1 ≤ p) × (p ≤ F) × Untested p path × Placed F sigs links (edge p 0 ∷ path) l × Placed F sigs links (edge p 1 ∷ path) k

abbrev pub PlacedRoot : ℕ → List ℕ → List ℕ → Rooted → Type 0
PlacedRoot F sigs links none = Unit {0}
PlacedRoot F sigs links (some t) = Placed F sigs links [] t

-- the chain of free nodes from node number r by their left words, zero ending; their position and right are 0
abbrev pub FreeChain : ℕ → List ℕ → ℕ → List ℕ → Type 0
FreeChain B links r [] = r ≡ 0
FreeChain B links r (i ∷ is) = (r ≡ i) × (1 ≤ i) × (i < B) × (position_of B links i ≡ 0) × (right_of B links i ≡ 0) × FreeChain B links (left_of B links i) is

-- how many of the blocks 1 to n are filed, where filed words are 0 or 1
abbrev pub filed_up_to : List ℕ → ℕ → ℕ
filed_up_to links zero = 0
filed_up_to links (suc n) = filed_of links (suc n) + filed_up_to links n

-- Question 4: do lengths, B, F and words 0 and 1 fit?
pub record FitsAt (B F : ℕ) (sigs links : List ℕ) : Type 0 where
  pub blocks_from : 1 ≤ B
  pub blocks_to : B ≤ most_blocks
  pub sigs_long : length sigs ≡ B
  pub links_long : length links ≡ links_of B
  pub width_from : 1 ≤ F
  pub width_to : F ≤ widest
  pub width_word : width_of links ≡ F
  pub told_word : told_blocks links ≡ B

-- Sound tables of B blocks and width F.
pub record SoundAt (B F : ℕ) (sigs links : List ℕ) : Type 0 where
  -- the lengths and words 0 and 1 fit
  pub fits : FitsAt B F sigs links
  -- the tree from the root (0 where there is none): its references, its positions, its leaves and its chains
  pub tree : Rooted
  pub holds : HoldsRoot B links (root_of links) tree
  pub placed : PlacedRoot F sigs links tree
  -- filed words are 0 or 1; every filed block is on a chain, and word 4 counts them
  pub filed_bit : (b : ℕ) → 1 ≤ b → b ≤ B → filed_of links b ≤ 1
  pub on_chain : (b : ℕ) → 1 ≤ b → b ≤ B → filed_of links b ≡ 1 → Memᴰ b (blocks_in tree)
  pub counted : count_of links ≡ filed_up_to links B
  -- unfiled rows and their signatures are 0; all signatures are below 2 ^ F
  pub blank : (b : ℕ) → 1 ≤ b → b ≤ B → filed_of links b ≡ 0 → (next_of links b ≡ 0) × (signature_of sigs b ≡ 0)
  pub narrow : (b : ℕ) → 1 ≤ b → b ≤ B → signature_of sigs b < 2 ^ F
  -- the free chain ends and holds exactly the nodes outside the tree
  pub free : List ℕ
  pub free_holds : FreeChain B links (free_of links) free
  pub free_outside : (i : ℕ) → Memᴰ i free → Memᴰ i (nodes_in tree) → ⊥
  pub free_all : (i : ℕ) → 1 ≤ i → i < B → Memᴰ i (nodes_in tree) ⊎ Memᴰ i free

-- Sound tables of these signatures: F is told from word 0.
abbrev pub Sound : List ℕ → List ℕ → Type 0
Sound sigs links = SoundAt (length sigs) (width_of links) sigs links

-- Sound tables as they are lent: the signature slice has as many words as B signatures of width F, and what they spell is sound.
pub record SoundLent (words links : List ℕ) : Type 0 where
  pub long : length words ≡ blocks_of links * word_count (width_of links)
  pub sound : Sound (signatures_of words links) links
