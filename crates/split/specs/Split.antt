-- What the contracts of the split cite: a group of head blocks, and what it is when it is parted at a position in place.
-- The best position, the sides and the words of the nodes are the definitions of the crate `model` (Build, Rebuild).
-- Assumes nothing.
use Rattle.std.specs.Prelude.{ℕ, zero, suc, ◌^◌, ◌≤◌, ◌<◌, ◌≡◌, true, false, List, eqb, length, get_or, take, drop}
use Rattle.model.specs.Limits.{widest}
use Rattle.model.specs.Signature.{bit_at}
use Rattle.model.specs.Build.{side, best_position}
use Rattle.model.specs.Tables.{signature_of}
use Rattle.model.proofs.Members.{total, Same}

-- each entry is a block, 1 to B
unfoldable pub Blocks : ℕ → List ℕ → Type 0
Blocks B g = (i : ℕ) → i < length g → (1 ≤ get_or g i 0) × (get_or g i 0 ≤ B)

-- 1 where block b has signature v, else 0
unfoldable pub hits : List ℕ → ℕ → ℕ → ℕ
hits sigs v b = elim (eqb (signature_of sigs b) v) [ true ↦ 1 | false ↦ 0 ]

-- no two of the blocks have one signature
unfoldable pub Apart : List ℕ → List ℕ → Type 0
Apart sigs g = (v : ℕ) → total (hits sigs v) g ≤ 1

-- all signatures are below 2 ^ F
unfoldable pub Below : ℕ → List ℕ → Type 0
Below F sigs = (i : ℕ) → get_or sigs i 0 < 2 ^ F

-- A group that can be split down to its blocks: a width, and blocks of signatures that fit it and differ.
pub record Group (F : ℕ) (sigs g : List ℕ) : Type 0 where
  pub from : 1 ≤ F
  pub to : F ≤ widest
  pub blocks : Blocks (length sigs) g
  pub below : Below F sigs
  pub apart : Apart sigs g

-- A list parted in place at position p: the entries with bit 0 there are its first k, the rest have bit 1.
pub record Parted (F : ℕ) (of : ℕ → ℕ) (p : ℕ) (before after : List ℕ) (k : ℕ) : Type 0 where
  pub same : Same after before
  pub fits : k ≤ length after
  pub low : (i : ℕ) → i < k → bit_at F (of (get_or after i 0)) p ≡ 0
  pub high : (i : ℕ) → k ≤ i → i < length after → bit_at F (of (get_or after i 0)) p ≡ 1

-- A list parted at its best position p: its two sides, in any order, the first of k entries.
pub record Halved (F : ℕ) (of : ℕ → ℕ) (before after : List ℕ) (p k : ℕ) : Type 0 where
  pub best : p ≡ best_position F of before
  pub same : Same after before
  pub fits : k ≤ length after
  pub left : Same (take k after) (side F of p 0 before)
  pub right : Same (drop k after) (side F of p 1 before)

-- the reference to a group of this size: nothing, its head, or its node
unfoldable pub reference_to : ℕ → ℕ → ℕ → ℕ
reference_to zero head node = 0
reference_to (suc zero) head node = head
reference_to (suc (suc n)) head node = node
