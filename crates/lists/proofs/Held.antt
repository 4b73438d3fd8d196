-- Calls on the first words of a longer slice are a run of calls on packed tables, each on the index's own slice or on another: after each,
-- the index's words stand at the front again. So demand 3 holds of them.
-- Assumes nothing.
use Prim.Native.Nat.{ℕ, ◌-◌, ◌*◌, ◌≤◌}
use native.Mathlib.Decide.{ℕ_discrete}
use native.Mathlib.Omega.{arith}
use mathlib.Core.Path.{◌≡◌, refl, sym, ◌∙◌, ap, ap₂, subst}
use mathlib.Core.Logic.{◌⊎◌, inl, inr, ◌≢◌}
use mathlib.Core.Bool.{Bool, true, false, ◌&&◌}
use mathlib.Core.List.{List, [], ◌∷◌, ◌++◌}
use lib.Dec.{eqb}
use lib.ListN.{length, take, drop, take-append-drop, replicate, get_or-replicate}
use lib.Seq.{take_at}
use borrow.Author.Tests.{eqb-true, eqb-false, eq-eqb, ne_eqb}
use Rattle.model.specs.Limits.{most_blocks, widest}
use Rattle.model.specs.Wide.{word_count}
use Rattle.model.specs.Tree.{Tree, nothing}
use Rattle.model.specs.Tables.{links_of, width_of}
use Rattle.model.specs.Packed.{rows_of, unpacked}
use Rattle.model.specs.Questions.{width_fits, tables_fit, clear_refusal, file_refusal, withdraw_refusal, rebuild_refusal, search_refusal, audit_refusal, Work, Call, clear, file, withdraw, rebuild, search, audit, refusal, Reading, refused, carries}
use Rattle.model.specs.Ledger.{Ledger, empty_ledger, asks_ledger, entered, ledger_after, tree_after, Report, report_by}
use Rattle.model.specs.Lists.{Memory, reading, another, lent_slice, MayLend, Step, lent_to, words_after}
use Rattle.model.specs.Claim.{Begins, sound, zeros, Claim, lent_with, reading_by}
use Rattle.model.specs.PackedPromises.{packed_fit, asks_packed}
use Rattle.model.specs.PackedLists.{held, PackedGives, PackedStep, held_step, held_steps, packed_lent, packed_after, packed_reading, PackedRun}
use Rattle.model.specs.SameQuote.{Ran, packed_run}
use Rattle.model.proofs.Asking.{both, in_range, ask_zero}
use Rattle.model.proofs.Packing.{fit_told, fit_width}
use Rattle.lists.specs.Held.{own_count, own_words, HeldStep, lent_held, held_reading, slice_by, slice_of, held_after, HeldRun, held_end, AtFront, step_of, steps_of}
use Rattle.lists.specs.Stepped.{Stepped}
use Rattle.lists.proofs.Readings.{number_of, reading_number}
use Rattle.lists.proofs.Slices.{slice_stays, slice_goes}
use Rattle.lists.proofs.Steps.{kept_of}
use Rattle.lists.proofs.Demand.{stepped}
use Rattle.lists.proofs.Packed.{step_held, step_stays, step_fits, lends_held, packed_demand, zeros_fit, zeros_begin}

-- ---- what answers 0 leaves a width

module _ (L : Ledger) (n : ℕ) (W : Work) where
  fits_wide : tables_fit (asks_ledger L n) ≡ true → 1 ≤ L.width
  fits_wide e =
      let p = both {t = (asks_ledger L n).lengths && (asks_ledger L n).words} e in
      (in_range L.width widest (both {t = (asks_ledger L n).lengths} p.0).1).0

  entered_wide : (c : Call) → refusal (asks_ledger L n) W c ≡ 0 → 1 ≤ (entered L c).width
  unfolding clear_refusal file_refusal withdraw_refusal rebuild_refusal search_refusal audit_refusal
  entered_wide (clear F) e =
      let p = both {t = (asks_ledger L n).lengths && width_fits F} (ask_zero 3 _ 0 e).0 in
      (in_range F widest (both {t = (asks_ledger L n).lengths} p.0).1).0
  entered_wide (file b s) e = fits_wide (both {t = tables_fit (asks_ledger L n)} (ask_zero 3 _ _ e).0).0
  entered_wide (withdraw b) e = fits_wide (ask_zero 3 _ _ e).0
  entered_wide rebuild e = fits_wide (ask_zero 3 _ _ e).0
  entered_wide (search q) e = fits_wide (both {t = tables_fit (asks_ledger L n)} (ask_zero 3 _ _ e).0).0
  entered_wide audit e = fits_wide (ask_zero 3 _ _ e).0

  width_after : (t : Tree) (r : Reading) (o : Report) → o ≡ report_by L t n W r → 1 ≤ number_of r → o.answer ≡ 0 → 1 ≤ (ledger_after L n W r).width
  width_after t (refused m) o e h z = absurd (omega (arith, ap (λ (x : Report). x.answer) e))
  width_after t (carries c) o e h z = go (ℕ_discrete (refusal (asks_ledger L n) W c) 0)
    where
      go : Dec (refusal (asks_ledger L n) W c ≡ 0) → 1 ≤ (ledger_after L n W (carries c)).width
      go (yes i) = rw (eq-eqb (refusal (asks_ledger L n) W c) 0 i, ledger_after) (entered_wide c i)
      go (no i) =
          let k : o.answer ≡ refusal (asks_ledger L n) W c = rw (ne_eqb (refusal (asks_ledger L n) W c) 0 i, report_by) at (ap (λ (x : Report). x.answer) e) in
          absurd (i (sym k ∙ z))

-- ---- a call on the first words

-- the slice lent is the first words
lent_is : (all links : List ℕ) (s : HeldStep) → lent_slice (own_words all links) (slice_of all links s) ≡ take s.count all
lent_is all links s = go (eqb s.count (own_count links)) refl
  where
    go : (t : Bool) → eqb s.count (own_count links) ≡ t → lent_slice (own_words all links) (slice_by t (take s.count all)) ≡ take s.count all
    go true e = ap (λ (n : ℕ). take n all) (sym (eqb-true s.count (own_count links) e))
    go false e = refl

-- the words of the index may be lent with any request, others with a clear or with what is refused
pub may_lend : (all links : List ℕ) (s : HeldStep) (r : Reading) → (s.count ≢ own_count links → MayLend (another (take s.count all)) r) → MayLend (slice_of all links s) r
may_lend all links s r h = go (eqb s.count (own_count links)) refl
  where
    go : (t : Bool) → eqb s.count (own_count links) ≡ t → MayLend (slice_by t (take s.count all)) r
    go true e = tt
    go false e = h (eqb-false s.count (own_count links) e)

module _ (all links nodes : List ℕ) (f : packed_fit links nodes ≡ true) (L : Ledger) (t : Tree) (b : Begins (own_words all links) (unpacked links nodes) L t) (s : HeldStep)
    (given : PackedGives (held_reading all links nodes s) (lent_held all links nodes s) s.report s.left) (lends : MayLend (slice_of all links s) (held_reading all links nodes s)) where
  abbrev u : PackedStep
  u = step_of all links s

  abbrev v : Step
  v = held_step u

  abbrev words : List ℕ
  words = own_words all links

  abbrev U : List ℕ
  U = unpacked links nodes

  gives : PackedGives (packed_reading words links nodes u) (packed_lent words links nodes u) s.report s.left
  gives =
      subst (λ (l : List ℕ). PackedGives (reading (asks_packed l links nodes) s.request) (record { signatures = l; links = links; nodes = nodes; work = s.lent }) s.report s.left)
      (sym (lent_is all links s)) given

  may : MayLend u.slice (packed_reading words links nodes u)
  may = subst (λ (l : List ℕ). MayLend u.slice (reading (asks_packed l links nodes) s.request)) (sym (lent_is all links s)) lends

  fits : packed_fit s.left.links s.left.nodes ≡ true
  fits = step_fits words links nodes f u gives

  now_right : Stepped L t (reading_by L words v) (lent_to words U v) s.report (held s.left) (words_after words v)
  now_right = stepped words U L t b v (step_held words links nodes f u gives) (lends_held words links nodes f u may)

  -- the index's words afterwards stand at the front
  front : own_words (held_after all s) s.left.links ≡ packed_after words u
  front = go (ℕ_discrete s.report.answer 0)
    where
      go : Dec (s.report.answer ≡ 0) → own_words (held_after all s) s.left.links ≡ packed_after words u
      go (no n) =
          let l : s.left.links ≡ links = ((step_stays words links nodes f u gives).untouched n).0 in
          let w : s.left.signatures ≡ lent_slice words u.slice = ap (λ (M : Memory). M.signatures) (now_right.0.untouched n) in
          let h : held_after all s ≡ all = ap (λ (x : List ℕ). x ++ drop s.count all) (w ∙ lent_is all links s) ∙ take-append-drop s.count all in
          ap₂ own_words h l ∙ sym (slice_stays words u.slice s.report.answer s.left.signatures n w)
      go (yes z) =
          let e = slice_goes words u.slice s.report.answer s.left.signatures z in
          let k = width_after L (lent_with words v) s.lent t (reading_by L words v) s.report now_right.0.report (reading_number (asks_ledger L (lent_with words v)) s.request) z in
          let long : length (packed_after words u) ≡ own_count s.left.links =
          ((kept_of (words_after words v) (unpacked s.left.links s.left.nodes) _ _ now_right.1).sound k).long
          ∙ ap₂ (λ (B F : ℕ). B * word_count F) (fit_told s.left.links s.left.nodes fits) (fit_width s.left.links s.left.nodes fits) in
          take_at s.left.signatures (drop s.count all) (own_count s.left.links) (ap length (sym e) ∙ long) ∙ sym e

  -- with the ledger and the plain tree after the call
  abbrev L' : Ledger
  L' = ledger_after L (lent_with words v) s.lent (reading_by L words v)

  abbrev t' : Tree
  t' = tree_after L t (lent_with words v) s.lent (reading_by L words v)

  goes_on : Begins (own_words (held_after all s) s.left.links) (unpacked s.left.links s.left.nodes) L' t'
  goes_on = subst (λ (w : List ℕ). Begins w (unpacked s.left.links s.left.nodes) L' t') (sym front) now_right.1

-- a run of such calls is a run of calls on packed tables
pub held_run : (all links nodes : List ℕ) → packed_fit links nodes ≡ true → (L : Ledger) (t : Tree) → Begins (own_words all links) (unpacked links nodes) L t
    → (ss : List HeldStep) → HeldRun all links nodes ss → PackedRun (own_words all links) links nodes (steps_of all links ss)
held_run all links nodes f L t b [] r = tt
held_run all links nodes f L t b (s ∷ ss) r =
    let rest = held_run (held_after all s) s.left.links s.left.nodes (fits all links nodes f L t b s r.0 r.1) (L' all links nodes f L t b s r.0 r.1) (t' all links nodes f L t b s r.0 r.1)
    (goes_on all links nodes f L t b s r.0 r.1) ss r.2 in (
      gives all links nodes f L t b s r.0 r.1,
      may all links nodes f L t b s r.0 r.1,
      subst (λ (w : List ℕ). PackedRun w s.left.links s.left.nodes (steps_of (held_after all s) s.left.links ss)) (front all links nodes f L t b s r.0 r.1) rest,
    )

-- where it ends, the index's words stand at the front
pub held_ends : (all links nodes : List ℕ) → packed_fit links nodes ≡ true → (L : Ledger) (t : Tree) → Begins (own_words all links) (unpacked links nodes) L t
    → (ss : List HeldStep) → HeldRun all links nodes ss → AtFront (held_end all links nodes ss).0 (held_end all links nodes ss).1 (held_end all links nodes ss).2
held_ends all links nodes f L t b [] r = record { fits = f; ledger = L; tree = t; begins = b }
held_ends all links nodes f L t b (s ∷ ss) r =
    held_ends (held_after all s) s.left.links s.left.nodes (fits all links nodes f L t b s r.0 r.1) (L' all links nodes f L t b s r.0 r.1) (t' all links nodes f L t b s r.0 r.1)
    (goes_on all links nodes f L t b s r.0 r.1) ss r.2

-- and the width is one that there is, or none was set
pub width_held : (all links nodes : List ℕ) → AtFront all links nodes → (width_of links ≡ 0) ⊎ ((1 ≤ width_of links) × (width_of links ≤ widest))
width_held all links nodes A = subst (λ (F : ℕ). (F ≡ 0) ⊎ ((1 ≤ F) × (F ≤ widest))) (fit_width links nodes A.fits) (go A.ledger A.tree A.begins)
  where
    go : (L : Ledger) (t : Tree) → Begins (own_words all links) (unpacked links nodes) L t
        → (width_of (unpacked links nodes) ≡ 0) ⊎ ((1 ≤ width_of (unpacked links nodes)) × (width_of (unpacked links nodes) ≤ widest))
    go L t (sound S) = inr (S.sound.fits.width_from, S.sound.fits.width_to)
    go L t (zeros B h k e) = inl (ap width_of e ∙ get_or-replicate (links_of B) 0 0 0 (omega arith))

-- and a run goes on where it ended
pub held_on : (all links nodes : List ℕ) (ss us : List HeldStep) → HeldRun all links nodes ss
    → HeldRun (held_end all links nodes ss).0 (held_end all links nodes ss).1 (held_end all links nodes ss).2 us → HeldRun all links nodes (ss ++ us)
held_on all links nodes [] us r k = k
held_on all links nodes (s ∷ ss) us r k = (r.0, r.1, held_on (held_after all s) s.left.links s.left.nodes ss us r.2 k)

-- demand 3 of them
pub held_right : (all links nodes : List ℕ) → packed_fit links nodes ≡ true → (L : Ledger) (t : Tree) → Begins (own_words all links) (unpacked links nodes) L t
    → (ss : List HeldStep) → HeldRun all links nodes ss → Claim L t (own_words all links) (unpacked links nodes) (held_steps (steps_of all links ss))
held_right all links nodes f L t b ss r = packed_demand (own_words all links) links nodes f L t b (steps_of all links ss) (held_run all links nodes f L t b ss r)

-- and equal quotes are said of them
pub held_ran : (all links nodes : List ℕ) → packed_fit links nodes ≡ true → (L : Ledger) (t : Tree) → Begins (own_words all links) (unpacked links nodes) L t
    → (ss : List HeldStep) → HeldRun all links nodes ss → Ran L t (own_words all links) (held_steps (steps_of all links ss))
held_ran all links nodes f L t b ss r = packed_run links nodes f b (steps_of all links ss) (held_run all links nodes f L t b ss r)

-- an index never cleared, with any words
pub held_zeros : (B : ℕ) → 1 ≤ B → B ≤ most_blocks → (all : List ℕ) (ss : List HeldStep) → HeldRun all (replicate (rows_of B) 0) (replicate (B - 1) 0) ss
    → Claim (empty_ledger B 0) nothing (own_words all (replicate (rows_of B) 0)) (unpacked (replicate (rows_of B) 0) (replicate (B - 1) 0)) (held_steps (steps_of all (replicate (rows_of B) 0) ss))
held_zeros B h k all =
    held_right all (replicate (rows_of B) 0) (replicate (B - 1) 0) (zeros_fit B h k) (empty_ledger B 0) nothing (zeros_begin B h k (own_words all (replicate (rows_of B) 0)))

-- sigrun's index of 1,024 blocks
pub sigrun_held : (all : List ℕ) (ss : List HeldStep) → HeldRun all (replicate 2053 0) (replicate 1023 0) ss
    → Claim (empty_ledger 1024 0) nothing (own_words all (replicate 2053 0)) (unpacked (replicate 2053 0) (replicate 1023 0)) (held_steps (steps_of all (replicate 2053 0) ss))
sigrun_held = held_zeros 1024 (omega arith) (omega arith)
