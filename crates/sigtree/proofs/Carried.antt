-- A slip that is read as a call has the promise of that call; and what a report counts as found fits the output.
-- Assumes nothing.
use Prim.Native.Nat.{ℕ, ◌≤◌}
use native.Mathlib.Decide.{ℕ_discrete}
use native.Mathlib.Omega.{arith}
use mathlib.Core.Path.{◌≡◌, refl, sym, ap, subst}
use mathlib.Core.Logic.{◌⊎◌, inl, inr}
use mathlib.Core.Bool.{Bool, true, false}
use mathlib.Core.List.{List, ◌++◌}
use lib.ListN.{length, length-append, drop}
use Rattle.model.specs.Wide.{number_in}
use Rattle.model.specs.Tables.{signatures_of}
use Rattle.model.specs.Questions.{Call, clear, file, withdraw, rebuild, search, audit, asks_tables, search_refusal, Reading, refused, carries, read_slip}
use Rattle.model.specs.Ledger.{Report, bare}
use Rattle.model.specs.Promises.{Listing, GivenUp, SearchPromise}
use Rattle.model.specs.Lists.{Memory, TablesOnly, Gives, GivesReading}
use Rattle.model.specs.PackedPromises.{PackedClear, PackedFile, PackedWithdraw, PackedRebuild, PackedSearch, Stays, packed_fit, asks_packed}
use Rattle.model.specs.PackedLists.{PackedMemory, PackedGives, PackedSlip, held}
use Rattle.std.specs.Prelude.{Result}
use Rattle.answers.specs.declared.refusal.Refusal.{Refusal}
use Rattle.answers.specs.declared.report.Counts.{Counts}
use Rattle.answers.specs.declared.report.Report as answers
use Rattle.answers.specs.Answers.{report_of, numbers_of}
use Rattle.sigtree.specs.Face.{lent}

-- no count, nothing found
bare_found : (o : Report) (n k : ℕ) → o ≡ bare n → o.found ≤ k
bare_found o n k e = omega (arith, ap (λ (x : Report). x.found) e)

-- a list at the front of the output is no longer than it
list_fits : (n : ℕ) (list old new : List ℕ) → n ≡ length list → new ≡ list ++ old → n ≤ length new
list_fits n list old new a b = omega (arith, ap length b, length-append list old)

search_found : (words links : List ℕ) (q : List ℕ) (marks output : List ℕ) (o : Report) (marks' output' : List ℕ) → SearchPromise words links q marks output o marks' output' → o.found ≤ length output'
search_found words links q marks output o marks' output' p = go (ℕ_discrete (search_refusal (asks_tables words links) q (length marks) (length output)) 0)
  where
    any : Listing (signatures_of words links) links (number_in q) marks output o marks' output' ⊎ GivenUp (signatures_of words links) marks output o marks' output' → o.found ≤ length output'
    any (inl x) = list_fits o.found x.list (drop (length x.list) output) output' x.found x.written
    any (inr x) = bare_found o 11 (length output') x.eleven

    go : Dec (search_refusal (asks_tables words links) q (length marks) (length output) ≡ 0) → o.found ≤ length output'
    go (yes e) = any (p.anyway e)
    go (no d) = bare_found o _ (length output') (p.refused d).0

call_found : (c : Call) (M : Memory) (o : Report) (M' : Memory) → Gives c M o M' → o.found ≤ length M'.work.output
call_found (clear F) M o M' g = bare_found o o.answer _ g.1.counts
call_found (file b s) M o M' g = bare_found o o.answer _ g.1.counts
call_found (withdraw b) M o M' g = bare_found o o.answer _ g.1.counts
call_found rebuild M o M' g = bare_found o o.answer _ g.1.counts
call_found (search q) M o M' g = search_found M.signatures M.links q M.work.marks M.work.output o M'.work.marks M'.work.output g.0
call_found audit M o M' g = bare_found o o.answer _ g.1

reading_found : (r : Reading) (M : Memory) (o : Report) (M' : Memory) → GivesReading r M o M' → o.found ≤ length M'.work.output
reading_found (refused n) M o M' g = bare_found o n _ g.0
reading_found (carries c) M o M' g = call_found c M o M' g

-- what was found stands in the output
packed_found : (r : Reading) (M : PackedMemory) (o : Report) (M' : PackedMemory) (fit : Bool) → fit ≡ packed_fit M.links M.nodes → PackedGives r M o M'
    → o.found ≤ length M'.work.output
packed_found r M o M' true e g = reading_found r (held M) o (held M') (g.asked (sym e)).0
packed_found (refused n) M o M' false e g = bare_found o n _ (g.unread n refl).0
packed_found (carries c) M o M' false e g = bare_found o 4 _ (g.unfit c refl (sym e)).0

-- the reading of a slip on packed tables
abbrev pub read_on : List ℕ → PackedMemory → Reading
read_on bytes M = read_slip (asks_packed M.signatures M.links M.nodes) bytes

-- A slip carried out: its promise, and room for what was found.
abbrev pub Done : List ℕ → PackedMemory → Report → PackedMemory → Type 0
Done bytes M o M' = PackedSlip bytes M o M' × (o.found ≤ length M'.work.output)

pub done : (bytes : List ℕ) (M : PackedMemory) (o : Report) (M' : PackedMemory) (r : Reading) → r ≡ read_on bytes M → PackedGives r M o M' → Done bytes M o M'
done bytes M o M' r e g = (subst (λ (x : Reading). PackedGives x M o M') e g, packed_found r M o M' _ refl g)

-- the same where the report is an answer alone
pub done_bare : (bytes : List ℕ) (M : PackedMemory) (o : Report) (M' : PackedMemory) (r : Reading) (n : ℕ) → r ≡ read_on bytes M → o ≡ bare n → PackedGives r M (bare n) M' → Done bytes M o M'
done_bare bytes M o M' r n e a g = subst (λ (x : Report). Done bytes M x M') (sym a) (done bytes M (bare n) M' r e g)

-- a refused slip carries no call
abbrev Carrying : Reading → Type 0
Carrying (refused n) = ⊥
Carrying (carries c) = Unit {0}

not_refused : (c : Call) (n : ℕ) → carries c ≡ refused n → ⊥
not_refused c n e = subst Carrying e tt

not_carried : (n : ℕ) (c : Call) → refused n ≡ carries c → ⊥
not_carried n c e = subst Carrying (sym e) tt

-- what each reading gives
stays_same : (n : ℕ) (links nodes : List ℕ) → Stays n links nodes links nodes
stays_same n links nodes = record { rows_long = refl; nodes_long = refl; untouched = λ _. (refl, refl) }

pub refused_gives : (n : ℕ) (M : PackedMemory) → PackedGives (refused n) M (bare n) M
refused_gives n M = record { unread = same; unfit = λ c e _. absurd (not_carried n c e); asked = λ _. ((refl, refl), stays_same n M.links M.nodes) }
  where
    number : Reading → ℕ
    number (refused k) = k
    number (carries c) = 0

    same : (k : ℕ) → refused n ≡ refused k → (bare n ≡ bare k) × (M ≡ M)
    same k e = (ap (λ (r : Reading). bare (number r)) e, refl)

module _ (sigs links nodes sigs' links' nodes' scratch marks output : List ℕ) (n : ℕ) where
  abbrev pub M : PackedMemory
  M = lent sigs links nodes scratch marks output

  abbrev pub M' : PackedMemory
  M' = lent sigs' links' nodes' scratch marks output

  four : (n ≡ 4) × ((sigs' ≡ sigs) × (links' ≡ links) × (nodes' ≡ nodes)) → (bare n ≡ bare 4) × (M' ≡ M)
  four (e, (a, b, c)) = (ap bare e, rw (a, b, c) refl)

  only : TablesOnly (held M) (bare n) (held M')
  only = record { counts = refl; work = refl }

  pub clear_gives : (F : ℕ) → PackedClear sigs links nodes F n sigs' links' nodes' → PackedGives (carries (clear F)) M (bare n) M'
  clear_gives F p = record { unread = λ k e. absurd (not_refused _ k e); unfit = λ _ _ f. four (p.unfit f); asked = λ f. (((p.asked f).0, only), (p.asked f).1) }

  pub file_gives : (b : ℕ) (s : List ℕ) → PackedFile sigs links nodes b s n sigs' links' nodes' → PackedGives (carries (file b s)) M (bare n) M'
  file_gives b s p = record { unread = λ k e. absurd (not_refused _ k e); unfit = λ _ _ f. four (p.unfit f); asked = λ f. (((p.asked f).0, only), (p.asked f).1) }

  pub withdraw_gives : (b : ℕ) → PackedWithdraw sigs links nodes b n sigs' links' nodes' → PackedGives (carries (withdraw b)) M (bare n) M'
  withdraw_gives b p = record { unread = λ k e. absurd (not_refused _ k e); unfit = λ _ _ f. four (p.unfit f); asked = λ f. (((p.asked f).0, only), (p.asked f).1) }

pub rebuild_gives : (sigs links nodes links' nodes' scratch scratch' marks output : List ℕ) (n : ℕ) → PackedRebuild sigs links nodes scratch n links' nodes' scratch'
    → PackedGives (carries rebuild) (lent sigs links nodes scratch marks output) (bare n) (lent sigs links' nodes' scratch' marks output)
rebuild_gives sigs links nodes links' nodes' scratch scratch' marks output n p =
    record { unread = λ k e. absurd (not_refused _ k e); unfit = λ _ _ f. four (p.unfit f); asked = λ f. (((p.asked f).0, record { counts = refl; signatures = refl; marks = refl; output = refl }), (p.asked f).1) }
  where
    four : (n ≡ 4) × ((links' ≡ links) × (nodes' ≡ nodes) × (scratch' ≡ scratch)) → (bare n ≡ bare 4) × (lent sigs links' nodes' scratch' marks output ≡ lent sigs links nodes scratch marks output)
    four (e, (a, b, c)) = (ap bare e, rw (a, b, c) refl)

pub search_gives : (sigs links nodes scratch marks output marks' output' : List ℕ) (q : List ℕ) (o : Report) → PackedSearch sigs links nodes q marks output o marks' output'
    → PackedGives (carries (search q)) (lent sigs links nodes scratch marks output) o (lent sigs links nodes scratch marks' output')
search_gives sigs links nodes scratch marks output marks' output' q o p =
    record { unread = λ k e. absurd (not_refused _ k e); unfit = λ _ _ f. four (p.unfit f).1; asked = λ f. ((p.asked f, record { signatures = refl; links = refl; scratch = refl }), stays_same o.answer links nodes) }
  where
    four : (o ≡ bare 4) × (marks' ≡ marks) × (output' ≡ output) → (o ≡ bare 4) × (lent sigs links nodes scratch marks' output' ≡ lent sigs links nodes scratch marks output)
    four (e, a, b) = (e, rw (a, b) refl)

-- the report that is told is that of the call
pub told : (bytes : List ℕ) (M : PackedMemory) (outcome : Result Counts Refusal) (r : answers.Report) (M' : PackedMemory) → numbers_of r ≡ report_of outcome → PackedSlip bytes M (report_of outcome) M' → PackedSlip bytes M (numbers_of r) M'
told bytes M outcome r M' e g = subst (λ (o : Report). PackedSlip bytes M o M') (sym e) g
