-- Ticket 11: both forms go together. The same requests, each form lent its own lengths: after every call the packed tables, unpacked, are
-- the others, and the answers, the counts, the marks and the lists are the same.
-- Assumes nothing: this is the statement, and its proof stands elsewhere.
use Rattle.std.specs.Prelude.{ℕ, ◌*◌, ◌≤◌, ◌≡◌, true, List, [], ◌∷◌, length}
use Rattle.model.specs.Limits.{widest}
use Rattle.model.specs.Wide.{word_count}
use Rattle.model.specs.Tree.{Tree}
use Rattle.model.specs.Tables.{links_of}
use Rattle.model.specs.Packed.{packed_blocks, unpacked}
use Rattle.model.specs.Questions.{clear, carries}
use Rattle.model.specs.Ledger.{Ledger}
use Rattle.model.specs.Lists.{lent_slice, Step, reading_on, Run}
use Rattle.model.specs.Claim.{Begins}
use Rattle.model.specs.PackedPromises.{packed_fit}
use Rattle.model.specs.PackedLists.{PackedStep, PackedRun}

-- the same requests in both forms, with the same slices lent: for signatures, and to work in
abbrev pub SameRequests : List Step → List PackedStep → Type 0
SameRequests [] [] = Unit {0}
SameRequests [] (u ∷ us) = ⊥
SameRequests (s ∷ ss) [] = ⊥
SameRequests (s ∷ ss) (u ∷ us) = (s.request ≡ u.request) × (s.slice ≡ u.slice) × (s.lent ≡ u.lent) × SameRequests ss us

-- after a call in both forms: the answer and the counts, the tables, the marks and the list are the same. What is left in rebuild's
-- scratch, no definition decides.
pub record SameAfter (s : Step) (u : PackedStep) : Type 0 where
  pub report : u.report ≡ s.report
  pub signatures : u.left.signatures ≡ s.left.signatures
  pub tables : unpacked u.left.links u.left.nodes ≡ s.left.links
  pub marks : u.left.work.marks ≡ s.left.work.marks
  pub output : u.left.work.output ≡ s.left.work.output

-- and so after every call
abbrev pub SameAll : List Step → List PackedStep → Type 0
SameAll [] [] = Unit {0}
SameAll [] (u ∷ us) = ⊥
SameAll (s ∷ ss) [] = ⊥
SameAll (s ∷ ss) (u ∷ us) = SameAfter s u × SameAll ss us

pub record SameForms : Type 0 where
  -- from the same tables, sound or never cleared
  pub from_same : (words old links nodes : List ℕ) → packed_fit links nodes ≡ true → unpacked links nodes ≡ old → (L : Ledger) (t : Tree) → Begins words old L t
      → (ss : List Step) (us : List PackedStep) → SameRequests ss us → Run words old ss → PackedRun words links nodes us → SameAll ss us
  -- from tables of as many blocks and any content, each its own, where the first call is a clear whose width fits, as does what it is lent
  pub from_clear : (words old words₂ links nodes : List ℕ) → length old ≡ links_of (packed_blocks links) → packed_fit links nodes ≡ true
      → (F : ℕ) → 1 ≤ F → F ≤ widest → (s : Step) (u : PackedStep) → reading_on words old s ≡ carries (clear F)
      → length (lent_slice words s.slice) ≡ packed_blocks links * word_count F → length (lent_slice words₂ u.slice) ≡ packed_blocks links * word_count F
      → (ss : List Step) (us : List PackedStep) → SameRequests (s ∷ ss) (u ∷ us) → Run words old (s ∷ ss) → PackedRun words₂ links nodes (u ∷ us) → SameAll (s ∷ ss) (u ∷ us)
