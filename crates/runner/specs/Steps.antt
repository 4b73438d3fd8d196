-- Slips in turn as a list of calls. Each is lent the first of the words held: the index's own slice, or another one.
-- Assumes nothing.
use Rattle.std.specs.Prelude.{ℕ, List, [], ◌∷◌, ◌++◌}
use Rattle.model.specs.Ledger.{Report}
use Rattle.model.specs.Lists.{slip}
use Rattle.model.specs.PackedLists.{PackedMemory, PackedStep}
use Rattle.lists.specs.Held.{HeldStep}
use Rattle.lists.specs.Held as held
use Rattle.runner.specs.Served.{lent_count, Serves, InTurn, none, after, Ended, nothing, short, Ran}

-- a slip as a call: how many words it was lent, the slices to work in, its report, and what it left
abbrev pub step_of : {M M' : PackedMemory} {bytes : List ℕ} {o : Report} → Serves M bytes o M' → HeldStep
step_of {M = M} {bytes = bytes} {o = o} s = record { request = slip bytes; count = lent_count M.links bytes; lent = M.work; report = o; left = s.left }

abbrev pub turns_of : {M M' : PackedMemory} {bytes text : List ℕ} → InTurn M bytes text M' → List HeldStep
turns_of none = []
turns_of (after bytes text M₁ r one o M₂ whole s) = turns_of r ++ (step_of s ∷ [])

abbrev pub ends_of : {M M' : PackedMemory} {left : List ℕ} → Ended M left M' → List HeldStep
ends_of nothing = []
ends_of (short one o M' some few s) = step_of s ∷ []

-- all of them, as calls of packed tables
abbrev pub steps_of : {M M' : PackedMemory} → Ran M M' → List PackedStep
steps_of {M = M} r = held.steps_of M.signatures M.links (turns_of r.turns ++ ends_of r.ended)
