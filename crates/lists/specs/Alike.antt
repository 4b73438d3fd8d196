-- Two lists of the same requests: when they are alike, and what they reported.
-- Assumes nothing.
use Rattle.std.specs.Prelude.{◌≡◌, List, [], ◌∷◌, length}
use Rattle.model.specs.Questions.{Work}
use Rattle.model.specs.Ledger.{Report}
use Rattle.model.specs.Lists.{Slice, own, another, Step}

-- slices as long as the others
pub record SameLengths (W W' : Work) : Type 0 where
  pub scratch : length W.scratch ≡ length W'.scratch
  pub marks : length W.marks ≡ length W'.marks
  pub output : length W.output ≡ length W'.output

-- both the index's own signature slice, or another as long as the other's
abbrev pub SameSlice : Slice → Slice → Type 0
SameSlice own own = Unit {0}
SameSlice own (another vs) = ⊥
SameSlice (another ws) own = ⊥
SameSlice (another ws) (another vs) = length ws ≡ length vs

-- the same requests, with slices as long
abbrev pub Alike : List Step → List Step → Type 0
Alike [] [] = Unit {0}
Alike [] (u ∷ us) = ⊥
Alike (s ∷ ss) [] = ⊥
Alike (s ∷ ss) (u ∷ us) = (s.request ≡ u.request) × SameSlice s.slice u.slice × SameLengths s.lent u.lent × Alike ss us

-- what the steps reported
abbrev pub reports : List Step → List Report
reports [] = []
reports (s ∷ ss) = s.report ∷ reports ss
