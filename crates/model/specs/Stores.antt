-- Words stored one after the other: what File and Withdraw do to the links.
-- Assumes nothing.
use Rattle.std.specs.Prelude.{ℕ, List, [], ◌∷◌, set}

-- an address and the word to be stored there
pub data Store : Type 0 where
  ◌↤◌ : ℕ → ℕ → Store

infix 20 ◌↤◌
-- the list after these stores, one after the other
abbrev pub stores : List ℕ → List Store → List ℕ
stores l [] = l
stores l ((a ↤ v) ∷ ws) = stores (set l a v) ws
