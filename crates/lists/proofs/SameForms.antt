-- Ticket 11's theorem. A call of packed tables is a call of the tables that they hold, and a request has one outcome; so both forms go
-- together, call by call. A clear leaves the same tables whatever they were, and from there on they are sound.
-- Assumes nothing.
use Prim.Native.Nat.{ℕ, ◌*◌, ◌≤◌}
use mathlib.Core.Path.{◌≡◌, sym, ◌∙◌, ap, ap₂, subst}
use mathlib.Core.Bool.{true}
use mathlib.Core.List.{List, [], ◌∷◌}
use lib.ListN.{length}
use Rattle.model.specs.Limits.{most_blocks, widest}
use Rattle.model.specs.Wide.{word_count}
use Rattle.model.specs.Tree.{Tree, nothing}
use Rattle.model.specs.Tables.{links_of, blocks_of}
use Rattle.model.specs.Clear.{clear_words, clear_links}
use Rattle.model.specs.Questions.{Work, asks_tables, clear_refusal, clear, Reading, carries}
use Rattle.model.specs.Ledger.{Ledger, empty_ledger, ledger_after, tree_after, Report, bare}
use Rattle.model.specs.Packed.{packed_blocks, unpacked}
use Rattle.model.specs.Lists.{Memory, Gives, GivesReading, lent_slice, slice_after, Step, lent_to, words_after, reading_on, Run}
use Rattle.model.specs.Claim.{Begins, lent_with, reading_by}
use Rattle.model.specs.PackedPromises.{packed_fit}
use Rattle.model.specs.PackedLists.{held, PackedStep, held_step, packed_after, PackedRun}
use Rattle.model.specs.SameForms.{SameRequests, SameAfter, SameAll, SameForms}
use Rattle.model.proofs.Packing.{blocks_told, fit_range, fit_told, fit_lengths}
use Rattle.tables.proofs.Fits.{lengths_fit}
use Rattle.lists.proofs.Readings.{clear_reads}
use Rattle.lists.proofs.Slices.{slice_goes}
use Rattle.lists.proofs.Steps.{begins_cleared}
use Rattle.lists.proofs.Demand.{stepped}
use Rattle.lists.proofs.Starts.{clear_passes}
use Rattle.lists.proofs.Outcomes.{same_report, same_tables}
use Rattle.lists.proofs.Packed.{step_held, step_fits}

-- a step's outcome on what was lent with one of the other form
abbrev answered : Step → PackedStep → Step
answered s u = record { request = u.request; slice = u.slice; lent = u.lent; report = s.report; left = s.left }

-- is the step itself, where the requests are the same
its_own : (s : Step) (u : PackedStep) (ss : List Step) (us : List PackedStep) → SameRequests (s ∷ ss) (u ∷ us) → s ≡ answered s u
its_own s u ss us a = λ i. record { request = a.0 i; slice = a.1 i; lent = a.2 i; report = s.report; left = s.left }

-- the index has the same signature slice afterwards
after_same : (words : List ℕ) (s : Step) (u : PackedStep) → SameAfter s u → packed_after words u ≡ words_after words (answered s u)
after_same words s u k = ap₂ (λ (o : Report) (ws : List ℕ). slice_after words u.slice o.answer ws) k.report k.signatures

-- from the same tables, sound or never cleared
from_same : (words old links nodes : List ℕ) → packed_fit links nodes ≡ true → unpacked links nodes ≡ old → (L : Ledger) (t : Tree) → Begins words old L t
    → (ss : List Step) (us : List PackedStep) → SameRequests ss us → Run words old ss → PackedRun words links nodes us → SameAll ss us
from_same words old links nodes f e L t b [] [] a r q = tt
from_same words old links nodes f e L t b [] (u ∷ us) a r q = absurd a
from_same words old links nodes f e L t b (s ∷ ss) [] a r q = absurd a
from_same words old links nodes f e L t b (s ∷ ss) (u ∷ us) a r q =
    let v : Step = answered s u in
    let r' : Run words old (v ∷ ss) = subst (λ (x : Step). Run words old (x ∷ ss)) (its_own s u ss us a) r in
    let h : GivesReading (reading_on words old v) (lent_to words old v) u.report (held u.left) =
    subst (λ (l : List ℕ). GivesReading (reading_on words l v) (lent_to words l v) u.report (held u.left)) e (step_held words links nodes f u q.0) in
    let k = same_tables words old L t b u.slice u.lent u.report (held u.left) s.report s.left (reading_on words old v) r'.1 h r'.0 in
    let same : SameAfter s u =
    record {
      report = same_report words old L t b u.slice u.lent u.report (held u.left) s.report s.left (reading_on words old v) r'.1 h r'.0;
      signatures = k.signatures;
      tables = k.links;
      marks = k.marks;
      output = k.output;
    } in (
      same,
      from_same (words_after words v) s.left.links u.left.links u.left.nodes (step_fits words links nodes f u q.0) k.links
          (ledger_after L (lent_with words v) u.lent (reading_by L words v)) (tree_after L t (lent_with words v) u.lent (reading_by L words v))
          (stepped words old L t b v r'.0 r'.1).1 ss us a.3 r'.2
          (subst (λ (ws : List ℕ). PackedRun ws u.left.links u.left.nodes us) (after_same words s u same) q.2),
    )

-- what a clear leaves that was not refused, of B blocks
record Cleared (B F : ℕ) (W : Work) (o : Report) (M' : Memory) : Type 0 where
  report : o ≡ bare 0
  signatures : M'.signatures ≡ clear_words B F
  links : M'.links ≡ clear_links B F
  work : M'.work ≡ W

cleared : (B F : ℕ) (M : Memory) (o : Report) (M' : Memory) → blocks_of M.links ≡ B → clear_refusal (asks_tables M.signatures M.links) F ≡ 0 → Gives (clear F) M o M' → Cleared B F M.work o M'
cleared B F M o M' n z g =
    let x = g.0.done z in
    record { report = g.1.counts ∙ ap bare x.0; signatures = rw n at x.1; links = rw n at x.2; work = g.1.work }

-- from tables of as many blocks and any content, where the first call is a clear whose width fits, as does what it is lent
from_clear : (words old words₂ links nodes : List ℕ) → length old ≡ links_of (packed_blocks links) → packed_fit links nodes ≡ true
    → (F : ℕ) → 1 ≤ F → F ≤ widest → (s : Step) (u : PackedStep) → reading_on words old s ≡ carries (clear F)
    → length (lent_slice words s.slice) ≡ packed_blocks links * word_count F → length (lent_slice words₂ u.slice) ≡ packed_blocks links * word_count F
    → (ss : List Step) (us : List PackedStep) → SameRequests (s ∷ ss) (u ∷ us) → Run words old (s ∷ ss) → PackedRun words₂ links nodes (u ∷ us) → SameAll (s ∷ ss) (u ∷ us)
from_clear words old words₂ links nodes long f F f1 f2 s u e n n₂ ss us a r q =
    let B : ℕ = packed_blocks links in
    let U : List ℕ = unpacked links nodes in
    let b1 : 1 ≤ B = (fit_range links nodes f).0 in
    let b2 : B ≤ most_blocks = (fit_range links nodes f).1 in
    let told : blocks_of old ≡ B = blocks_told old B long in
    let told₂ : blocks_of U ≡ B = fit_told links nodes f in
    let v : Step = answered s u in
    let o : s ≡ v = its_own s u ss us a in
    let r' : Run words old (v ∷ ss) = subst (λ (x : Step). Run words old (x ∷ ss)) o r in
    let i : reading_on words old v ≡ carries (clear F) = subst (λ (x : Step). reading_on words old x ≡ carries (clear F)) o e in
    let i₂ : reading_on words₂ U (held_step u) ≡ carries (clear F) =
    clear_reads (asks_tables (lent_slice words u.slice) old) (asks_tables (lent_slice words₂ u.slice) U) u.request F i in
    let lent : length (lent_slice words u.slice) ≡ blocks_of old * word_count F =
    subst (λ (x : Step). length (lent_slice words x.slice) ≡ B * word_count F) o n ∙ ap (λ (k : ℕ). k * word_count F) (sym told) in
    let lent₂ : length (lent_slice words₂ u.slice) ≡ blocks_of U * word_count F = n₂ ∙ ap (λ (k : ℕ). k * word_count F) (sym told₂) in
    let z = clear_passes (asks_tables (lent_slice words u.slice) old) F (lengths_fit (lent_slice words u.slice) old (rw told b1) (rw told b2) (long ∙ ap links_of (sym told))) f1 f2 lent in
    let z₂ = clear_passes (asks_tables (lent_slice words₂ u.slice) U) F (fit_lengths links nodes f (lent_slice words₂ u.slice)) f1 f2 lent₂ in
    let x : Cleared B F u.lent s.report s.left =
    cleared B F (lent_to words old v) s.report s.left told z (subst (λ (y : Reading). GivesReading y (lent_to words old v) s.report s.left) i r'.0) in
    let y : Cleared B F u.lent u.report (held u.left) =
    cleared B F (lent_to words₂ U (held_step u)) u.report (held u.left) told₂ z₂
    (subst (λ (y : Reading). GivesReading y (lent_to words₂ U (held_step u)) u.report (held u.left)) i₂ (step_held words₂ links nodes f u q.0)) in
    let work : u.left.work ≡ s.left.work = y.work ∙ sym x.work in
    let same : SameAfter s u =
    record {
      report = y.report ∙ sym x.report;
      signatures = y.signatures ∙ sym x.signatures;
      tables = y.links ∙ sym x.links;
      marks = ap (λ (w : Work). w.marks) work;
      output = ap (λ (w : Work). w.output) work;
    } in
    let mine : words_after words v ≡ s.left.signatures = slice_goes words u.slice s.report.answer s.left.signatures (ap (λ (p : Report). p.answer) x.report) in
    let its : packed_after words₂ u ≡ u.left.signatures = slice_goes words₂ u.slice u.report.answer u.left.signatures (ap (λ (p : Report). p.answer) y.report) in
    let words' : List ℕ = words_after words v in
    let starts : Begins words' s.left.links (empty_ledger B F) nothing =
    subst (λ (ws : List ℕ). Begins ws s.left.links (empty_ledger B F) nothing) (sym (mine ∙ x.signatures))
    (subst (λ (l : List ℕ). Begins (clear_words B F) l (empty_ledger B F) nothing) (sym x.links) (begins_cleared B F b1 b2 f1 f2)) in (
      same,
      from_same words' s.left.links u.left.links u.left.nodes (step_fits words₂ links nodes f u q.0) same.tables (empty_ledger B F) nothing starts ss us a.3 r'.2
          (subst (λ (ws : List ℕ). PackedRun ws u.left.links u.left.nodes us) (its ∙ same.signatures ∙ sym mine) q.2),
    )

pub same_forms : SameForms
same_forms = record { from_same = from_same; from_clear = from_clear }
