-- Demand 3, by recursion on the list: tables, ledger and tree go together before each step and after it, and no other invariant is
-- needed.
-- Assumes nothing.
use Prim.Native.Nat.{ℕ}
use mathlib.Core.Path.{sym, subst}
use mathlib.Core.List.{List, [], ◌∷◌}
use Rattle.model.specs.Tree.{Tree}
use Rattle.model.specs.Questions.{asks_tables, Reading}
use Rattle.model.specs.Ledger.{Ledger}
use Rattle.model.specs.Lists.{Step, lent_slice, lent_to, words_after, reading_on, MayLend, GivesReading}
use Rattle.model.specs.Claim.{Begins, Demand, reading_by}
use Rattle.lists.specs.Stepped.{Stepped}
use Rattle.lists.proofs.Readings.{reading_number}
use Rattle.lists.proofs.Steps.{begins_reading}
use Rattle.lists.proofs.Carried.{step}

-- a step, read by the ledger as by the tables
pub stepped : (words links : List ℕ) (L : Ledger) (t : Tree) → Begins words links L t → (s : Step)
    → GivesReading (reading_on words links s) (lent_to words links s) s.report s.left → MayLend s.slice (reading_on words links s)
    → Stepped L t (reading_by L words s) (lent_to words links s) s.report s.left (words_after words s)
stepped words links L t b s g m =
    subst (λ (r : Reading). Stepped L t r (lent_to words links s) s.report s.left (words_after words s)) (sym (begins_reading words links L t b (lent_slice words s.slice) s.request))
    (step words links L t b s.slice s.lent s.report s.left (reading_on words links s) m (reading_number (asks_tables (lent_slice words s.slice) links) s.request) g)

-- THE THEOREM: demand 3, with no hypothesis.
pub demand : Demand
demand words links L t b [] run = tt
demand words links L t b (s ∷ ss) run =
    let x = stepped words links L t b s run.0 run.1 in
    (x.0, demand (words_after words s) s.left.links _ _ x.1 ss run.2)
