-- An index of packed tables whose signature words stand at the front of a longer slice (sigrun holds 8,192): each call is lent the first
-- words of it. Here `all` is that slice.
-- Assumes nothing.
use Rattle.std.specs.Prelude.{ℕ, ◌*◌, ◌≡◌, Bool, true, false, List, [], ◌∷◌, ◌++◌, eqb, take, drop}
use Rattle.model.specs.Wide.{word_count}
use Rattle.model.specs.Tables.{width_of}
use Rattle.model.specs.Tree.{Tree}
use Rattle.model.specs.Packed.{packed_blocks, unpacked}
use Rattle.model.specs.Questions.{Work, Reading}
use Rattle.model.specs.Ledger.{Ledger, Report}
use Rattle.model.specs.Lists.{Request, reading, Slice, own, another, MayLend}
use Rattle.model.specs.Claim.{Begins}
use Rattle.model.specs.PackedPromises.{packed_fit, asks_packed}
use Rattle.model.specs.PackedLists.{PackedMemory, PackedGives, PackedStep}

-- how many of the words are the index's: B times W
abbrev pub own_count : List ℕ → ℕ
own_count links = packed_blocks links * word_count (width_of links)

abbrev pub own_words : List ℕ → List ℕ → List ℕ
own_words all links = take (own_count links) all

-- One call: the request, how many words it was lent, the slices to work in, what it reported, and the memory that it left.
pub record HeldStep : Type 0 where
  pub request : Request
  pub count : ℕ
  pub lent : Work
  pub report : Report
  pub left : PackedMemory

abbrev pub lent_held : List ℕ → List ℕ → List ℕ → HeldStep → PackedMemory
lent_held all links nodes s = record { signatures = take s.count all; links = links; nodes = nodes; work = s.lent }

abbrev pub held_reading : List ℕ → List ℕ → List ℕ → HeldStep → Reading
held_reading all links nodes s = reading (asks_packed (take s.count all) links nodes) s.request

-- as many words as the index has are its own signature slice; any other number are another slice
abbrev pub slice_by : Bool → List ℕ → Slice
slice_by true words = own
slice_by false words = another words

abbrev pub slice_of : List ℕ → List ℕ → HeldStep → Slice
slice_of all links s = slice_by (eqb s.count (own_count links)) (take s.count all)

-- the long slice afterwards
abbrev pub held_after : List ℕ → HeldStep → List ℕ
held_after all s = s.left.signatures ++ drop s.count all

-- A run of such calls.
abbrev pub HeldRun : List ℕ → List ℕ → List ℕ → List HeldStep → Type 0
HeldRun all links nodes [] = Unit {0}
HeldRun all links nodes (s ∷ ss) =
    PackedGives (held_reading all links nodes s) (lent_held all links nodes s) s.report s.left
    × MayLend (slice_of all links s) (held_reading all links nodes s)
    × HeldRun (held_after all s) s.left.links s.left.nodes ss

-- where it ends: the long slice, the links and the nodes
abbrev pub held_end : List ℕ → List ℕ → List ℕ → List HeldStep → List ℕ × List ℕ × List ℕ
held_end all links nodes [] = (all, links, nodes)
held_end all links nodes (s ∷ ss) = held_end (held_after all s) s.left.links s.left.nodes ss

-- Between two calls: lengths that fit, and the index's words at the front, which go together with a ledger and a plain tree.
pub record AtFront (all links nodes : List ℕ) : Type 0 where
  pub fits : packed_fit links nodes ≡ true
  pub ledger : Ledger
  pub tree : Tree
  pub begins : Begins (own_words all links) (unpacked links nodes) ledger tree

-- the same calls as a list on the index's own slice or on another
abbrev pub step_of : List ℕ → List ℕ → HeldStep → PackedStep
step_of all links s = record { request = s.request; slice = slice_of all links s; lent = s.lent; report = s.report; left = s.left }

abbrev pub steps_of : List ℕ → List ℕ → List HeldStep → List PackedStep
steps_of all links [] = []
steps_of all links (s ∷ ss) = step_of all links s ∷ steps_of (held_after all s) s.left.links ss
