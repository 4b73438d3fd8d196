-- Where lists start: from a freshly cleared index, from a first clear on tables of any content whose lengths fit, and from an index never
-- cleared, all links 0.
-- Assumes nothing.
use Prim.Native.Nat.{ℕ, ◌*◌, ◌≤◌}
use mathlib.Core.Path.{◌≡◌, refl, sym, ◌∙◌, ap, subst}
use mathlib.Core.Bool.{true}
use mathlib.Core.List.{List, ◌∷◌}
use lib.ListN.{length, replicate, length-replicate}
use borrow.Author.Tests.{le-leb, eq-eqb}
use Rattle.model.specs.Limits.{most_blocks, widest}
use Rattle.model.specs.Wide.{word_count}
use Rattle.model.specs.Tree.{nothing}
use Rattle.model.specs.Tables.{links_of, blocks_of}
use Rattle.model.specs.Clear.{clear_words, clear_links}
use Rattle.model.specs.Questions.{Asked, asks_tables, ask, clear_refusal, clear, Reading, carries}
use Rattle.model.specs.Ledger.{Entry, unfiled, empty_ledger, asks_ledger}
use Rattle.model.specs.Lists.{GivesReading, Step, lent_slice, lent_to, words_after, reading_on, Run}
use Rattle.model.specs.Claim.{Claim, lent_with, zeros}
use Rattle.model.proofs.Packing.{blocks_told}
use Rattle.tables.proofs.Fits.{lengths_fit}
use Rattle.lists.specs.Stepped.{Stepped}
use Rattle.lists.proofs.Readings.{clear_reads}
use Rattle.lists.proofs.Slices.{slice_goes}
use Rattle.lists.proofs.Steps.{begins_cleared, clear_step}
use Rattle.lists.proofs.Demand.{demand}

-- a clear whose width fits is not refused where the lengths fit and the slice has its words
pub clear_passes : (A : Asked) (F : ℕ) → A.lengths ≡ true → 1 ≤ F → F ≤ widest → A.lent ≡ A.blocks * word_count F → clear_refusal A F ≡ 0
unfolding clear_refusal ask
clear_passes A F l h k e = rw (l, le-leb 1 F h, le-leb F widest k, eq-eqb A.lent (A.blocks * word_count F) e)

-- a freshly cleared index of B blocks and width F
pub from_cleared : (B F : ℕ) → 1 ≤ B → B ≤ most_blocks → 1 ≤ F → F ≤ widest → (steps : List Step) → Run (clear_words B F) (clear_links B F) steps
    → Claim (empty_ledger B F) nothing (clear_words B F) (clear_links B F) steps
from_cleared B F b1 b2 f1 f2 = demand (clear_words B F) (clear_links B F) (empty_ledger B F) nothing (begins_cleared B F b1 b2 f1 f2)

-- tables of any content whose lengths fit, where the first request is a clear that fits, on the index's own slice or on another; before
-- it the ledger has no pair and no width
pub from_clear : (words links : List ℕ) (B : ℕ) → 1 ≤ B → B ≤ most_blocks → length links ≡ links_of B
    → (F : ℕ) → 1 ≤ F → F ≤ widest → (s : Step) → reading_on words links s ≡ carries (clear F) → lent_with words s ≡ B * word_count F
    → (steps : List Step) → Run words links (s ∷ steps) → Claim (empty_ledger B 0) nothing words links (s ∷ steps)
from_clear words links B b1 b2 l F f1 f2 s e n steps run =
    let told : blocks_of links ≡ B = blocks_told links B l in
    let count : length {A = Entry} (replicate B unfiled) ≡ B = length-replicate {A = Entry} B unfiled in
    let lent : List ℕ = lent_slice words s.slice in
    let g = subst (λ (r : Reading). GivesReading r (lent_to words links s) s.report s.left) e run.0 in
    let p = clear_passes (asks_tables lent links) F (lengths_fit lent links (rw told b1) (rw told b2) (l ∙ ap links_of (sym told))) f1 f2 (n ∙ ap (λ (k : ℕ). k * word_count F) (sym told)) in
    let p' = clear_passes (asks_ledger (empty_ledger B 0) (length lent)) F (rw (count, le-leb 1 B b1, le-leb B most_blocks b2)) f1 f2 (n ∙ ap (λ (k : ℕ). k * word_count F) (sym count)) in
    let x = clear_step (empty_ledger B 0) nothing (lent_to words links s) s.report s.left (words_after words s) F (count ∙ sym told) g p p'
    (slice_goes words s.slice s.report.answer s.left.signatures (g.0.done p).0) in
    let y = subst (λ (r : Reading). Stepped (empty_ledger B 0) nothing r (lent_to words links s) s.report s.left (words_after words s))
    (sym (clear_reads (asks_tables lent links) (asks_ledger (empty_ledger B 0) (length lent)) s.request F e)) x in
    (y.0, demand (words_after words s) s.left.links _ _ y.1 steps run.2)

-- an index never cleared, with any words for signatures: with width 0 nothing reads them
pub from_zeros : (B : ℕ) → 1 ≤ B → B ≤ most_blocks → (words : List ℕ) (steps : List Step) → Run words (replicate (links_of B) 0) steps
    → Claim (empty_ledger B 0) nothing words (replicate (links_of B) 0) steps
from_zeros B b1 b2 words = demand words (replicate (links_of B) 0) (empty_ledger B 0) nothing (zeros B b1 b2 refl)
