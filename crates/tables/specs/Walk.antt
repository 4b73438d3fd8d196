-- What the walk by a signature's bits finds, on any tables: on fit ones the reference that the definitions walk to, and its parent.
-- Assumes nothing.
use Rattle.std.specs.Prelude.{ℕ, zero, suc, ◌+◌, ◌-◌, ◌≤◌, ◌<◌, ◌≡◌, ◌≢◌, ◌⊎◌, List}
use Rattle.model.specs.Signature.{bit_at}
use Rattle.model.specs.Tables.{word, root_at, root_of, position_of}
use Rattle.model.specs.Packed.{position_in}
use Rattle.model.specs.File.{edge_at, spot_of}
use Rattle.model.specs.Withdraw.{parent_of}

-- there is a node i, and it tests a position 1 to F
abbrev pub NodeFits : ℕ → ℕ → List ℕ → ℕ → Type 0
NodeFits B F links i = (i < B) × (1 ≤ position_of B links i) × (position_of B links i ≤ F)

-- the address of the edge of node i that s takes, that of the root's reference for 0, which is no node
abbrev pub below_at : ℕ → ℕ → List ℕ → ℕ → ℕ → ℕ
below_at B F links s zero = root_at
below_at B F links s (suc i) = edge_at B F links s (suc i)

-- e is the side of node i that s takes, 0 or 1; more where the node is unfit
pub record EdgeOf (B F : ℕ) (links : List ℕ) (s i e : ℕ) : Type 0 where
  pub fit : NodeFits B F links i → e ≤ 1
  pub node : e ≤ 1 → NodeFits B F links i
  pub bit : e ≤ 1 → e ≡ bit_at F s (position_of B links i)

-- e is the side that s takes of a node with this word, 0 or 1; more where its position is none of 1 to F
pub record EdgeIn (F w s e : ℕ) : Type 0 where
  pub fit : (1 ≤ position_in w) × (position_in w ≤ F) → e ≤ 1
  pub node : e ≤ 1 → (1 ≤ position_in w) × (position_in w ≤ F)
  pub bit : e ≤ 1 → e ≡ bit_at F s (position_in w)

-- every node on the walk by s from address at is fit; n bounds the nodes passed
abbrev pub WalkFits : ℕ → ℕ → List ℕ → ℕ → ℕ → ℕ → Type 0
WalkFits B F links s zero at = Unit {0}
WalkFits B F links s (suc n) at = (word links at ≤ B) ⊎ (NodeFits B F links (word links at - B) × WalkFits B F links s n (edge_at B F links s (word links at - B)))

-- address above holds the reference to the last node on the walk by s, whose root is a node
pub record Parent (B F : ℕ) (links : List ℕ) (s above : ℕ) : Type 0 where
  pub some : above ≢ 0
  pub node : B < word links above
  pub fit : NodeFits B F links (word links above - B)
  pub root : B < root_of links
  pub parent : above ≡ parent_of B F links s

-- The walk from the root by s ends at address link, and above is the address of the parent's reference, or 0: fit tables have a link; it
-- is the definitions'; and where its reference is no node, there is no parent, as the root is none either, or it is the definitions'.
pub record Ends (B F : ℕ) (links : List ℕ) (s link above : ℕ) : Type 0 where
  pub fit : WalkFits B F links s F root_at → link ≢ 0
  pub spot : link ≢ 0 → link ≡ spot_of B F links s
  pub top : link ≢ 0 → word links link ≤ B → ((root_of links ≤ B) × (above ≡ 0)) ⊎ Parent B F links s above

-- what stands at these addresses: the reference reached, and the parent's node
pub record HeldBy (B : ℕ) (links : List ℕ) (link above reference parent : ℕ) : Type 0 where
  pub here : link ≢ 0 → reference ≡ word links link
  pub node : above ≢ 0 → (word links above ≡ B + parent) × (1 ≤ parent) × (parent < B)
