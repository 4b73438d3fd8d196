-- What the walk that collects the heads asks of the links, so that it ends inside its slices.
-- Assumes nothing.
use Rattle.std.specs.Prelude.{ℕ, zero, suc, ◌-◌, ◌*◌, ◌≤◌, ◌<◌, ◌⊎◌, List}
use Rattle.model.specs.Tables.{left_of, right_of}

-- from reference r every path ends at a leaf or at nothing after at most n nodes, all of them below B
abbrev pub Walkable : ℕ → List ℕ → ℕ → ℕ → Type 0
Walkable B links zero r = r ≤ B
Walkable B links (suc n) r = (r ≤ B) ⊎ ((r < 2 * B) × Walkable B links n (left_of B links (r - B)) × Walkable B links n (right_of B links (r - B)))
