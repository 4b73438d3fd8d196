-- A node's word by the side that something goes to.
-- Assumes nothing.
use Rattle.std.specs.Prelude.{ℕ, zero, suc}
use Rattle.model.specs.Packed.{node_word}

-- side e is x, and the other side is y
unfoldable pub sides_word : ℕ → ℕ → ℕ → ℕ → ℕ
sides_word p zero x y = node_word p x y
sides_word p (suc e) x y = node_word p y x
