-- The four ways in which a rebuild of packed tables ends, by those of the tables that they hold, and what it knows of tables that it reads.
-- Assumes nothing.
use Prim.Native.Nat.{ℕ, ◌+◌, ◌≤◌, ◌<◌}
use mathlib.Core.Path.{◌≡◌, refl, sym, ◌∙◌, ap, subst}
use mathlib.Core.Bool.{Bool, true, false, ◌&&◌}
use mathlib.Core.List.{List, []}
use native.Mathlib.Omega.{arith}
use lib.ListN.{length, drop}
use lib.Seq.{sets}
use Rattle.std.specs.Prelude.{Result, IsErr, IsErrAnd}
use Rattle.answers.specs.declared.refusal.Refusal.{Refusal}
use Rattle.answers.specs.Answers.{number_of, answer_of}
use Rattle.model.specs.Wide.{signatures_in}
use Rattle.model.specs.Tables.{blocks_of, signatures_of, width_of, root_of}
use Rattle.model.specs.Rebuild.{heads_from}
use Rattle.model.proofs.Wide.{signatures_length}
use Rattle.tables.specs.Fits.{LentFit, FitsPacked}
use Rattle.tables.specs.Forms.{packed_held}
use Rattle.tables.specs.Held.{blocks_held, held}
use Rattle.tables.specs.declared.packed.Tables.{Tables}
use Rattle.tables.proofs.Fits.{true_fits}
use Rattle.model.proofs.Packing.{blocks_told}
use Rattle.answers.proofs.Numbers.{number_some, no_four, passed_on}
use Rattle.rebuild.specs.Walkable.{Walkable}
use Rattle.rebuild.proofs.Whole.{Collected, heads_fit, heads_read, gathered, walk_read}
use Rattle.model.specs.Sound.{Sound, SoundLent}
use Rattle.model.specs.Rebuild.{rebuild_links}
use Rattle.model.specs.Questions.{ask, asks_tables, tables_fit}
use Rattle.model.specs.Promises.{RebuildPromise, AuditPromise}
use Rattle.model.specs.Packed.{unpacked, Packs}
use Rattle.model.specs.PackedPromises.{packed_fit, Stays, PackedRebuild}
use Rattle.model.proofs.Asking.{true_false, both, ask_zero}
use Rattle.tables.proofs.Stays.{stays_by}
use Rattle.rebuild.proofs.Answer.{is_sound, answers_unfit, answers_short, answers_unsound, answers_rebuilt}

module _ (words links nodes scratch : List ℕ) where
  abbrev U : List ℕ
  U = unpacked links nodes

  abbrev fit : Bool
  fit = packed_fit links nodes && tables_fit (asks_tables words U)

  stays : {answer : ℕ} → Stays answer links nodes links nodes
  stays = record { rows_long = refl; nodes_long = refl; untouched = λ _. (refl, refl) }

  unfit : fit ≡ false → PackedRebuild words links nodes scratch 4 links nodes scratch
  unfit e = record {
    unfit = λ _. (refl, (refl, refl, refl));
    asked = λ f. (answers_unfit words U scratch (sym (ap (λ (t : Bool). t && tables_fit (asks_tables words U)) f) ∙ e), stays);
  }

  -- question 4's no, as `?` passes it on
  pub unfit_packed : {T : Type 0} (a : Result T Refusal) (r : Refusal) → IsErr a × IsErrAnd a (λ x. x ≡ r)
      → number_of r ≡ ask 4 (packed_fit links nodes && tables_fit (asks_tables words (unpacked links nodes))) 0 → PackedRebuild words links nodes scratch (answer_of a) links nodes scratch
  unfit_packed a r on asked = let q = no_four r _ asked in rw (passed_on a r on ∙ q.1) (unfit q.0)

  module _ (asked : 0 ≡ ask 4 (packed_fit links nodes && tables_fit (asks_tables words (unpacked links nodes))) 0) where
    both_yes : (packed_fit links nodes ≡ true) × (tables_fit (asks_tables words U) ≡ true)
    both_yes = both {t = packed_fit links nodes} (ask_zero 3 fit 0 (sym asked)).0

    whole : {links' nodes' scratch' : List ℕ} {answer : ℕ} → RebuildPromise words U scratch answer (unpacked links' nodes') scratch' → Stays answer links nodes links' nodes' → PackedRebuild words links nodes scratch answer links' nodes' scratch'
    whole R S = record { unfit = λ f. true_false both_yes.0 f; asked = λ _. (R, S) }

    pub short_packed : length scratch < blocks_of (unpacked links nodes) → PackedRebuild words links nodes scratch 9 links nodes scratch
    short_packed h = whole (answers_short words U scratch both_yes.1 h) stays

    module _ (room : blocks_of (unpacked links nodes) ≤ length scratch) where
      -- the audit's no
      pub unsound_packed : {T : Type 0} (a : Result T Refusal) (r : Refusal) → IsErr a × IsErrAnd a (λ x. x ≡ r) → AuditPromise words (unpacked links nodes) (number_of r) → PackedRebuild words links nodes scratch (answer_of a) links nodes scratch
      unsound_packed a r on A =
          let n = number_some r in
          rw (passed_on a r on) (whole (answers_unsound words U scratch both_yes.1 room (number_of r) A (λ z. omega arith)) stays)

      pub rebuilt_packed_is : SoundLent words (unpacked links nodes) → (B : ℕ) → blocks_of (unpacked links nodes) ≡ B → Packs B links nodes → (links' nodes' scratch' : List ℕ)
          → unpacked links' nodes' ≡ rebuild_links (signatures_of words (unpacked links nodes)) (unpacked links nodes)
          → length links' ≡ length links → length nodes' ≡ length nodes → length scratch' ≡ length scratch → drop B scratch' ≡ drop B scratch
          → PackedRebuild words links nodes scratch 0 links' nodes' scratch'
      rebuilt_packed_is S B tell P links' nodes' scratch' e l n k b =
          whole (answers_rebuilt words U scratch both_yes.1 room S (unpacked links' nodes') scratch' e k (subst (λ (m : ℕ). drop m scratch' ≡ drop m scratch) (sym tell) b))
          (stays_by B links nodes links' nodes' P l n 0 (λ h. absurd (h refl)))

-- packed slices stay so while they keep their lengths
pub packs_still : {n : ℕ} {links nodes : List ℕ} → Packs n links nodes → (links' nodes' : List ℕ) → length links' ≡ length links → length nodes' ≡ length nodes → Packs n links' nodes'
packs_still P links' nodes' l n = record { rows_long = l ∙ P.rows_long; nodes_long = ap (λ (k : ℕ). k + 1) n ∙ P.nodes_long }

-- Tables that are read of the slices. Their rows are the signatures' B blocks with W words each.
module _ (t : Tables) {words links nodes : List ℕ} (same : (t.rows.signatures.now ≡ words) × (t.rows.links.now ≡ links) × (t.nodes.now ≡ nodes)) where
  abbrev sigs : List ℕ
  sigs = signatures_in t.rows.words t.rows.blocks words

  read_fits : FitsPacked (signatures_in t.rows.words t.rows.blocks words) words links nodes
  read_fits = rw (← same.0, ← same.1, ← same.2) t.fits

  pub read_count : length (signatures_in t.rows.words t.rows.blocks words) ≡ t.rows.blocks
  read_count = signatures_length t.rows.words t.rows.blocks words

  pub read_packs : Packs (length (signatures_in t.rows.words t.rows.blocks words)) links nodes
  read_packs = read_fits.packs

  read_tell : blocks_of (unpacked links nodes) ≡ length (signatures_in t.rows.words t.rows.blocks words)
  read_tell = blocks_told (unpacked links nodes) (length sigs) read_fits.fits.links_long

  pub read_blocks : blocks_of (unpacked links nodes) ≡ t.rows.blocks
  read_blocks = read_tell ∙ read_count

  pub read_rows : LentFit t.rows.blocks t.rows.words words links
  read_rows = rw (← same.0, ← same.1) t.rows.fit

  pub read_promise : {answer : ℕ} → AuditPromise t.rows.signatures.now (held t) answer → AuditPromise words (unpacked links nodes) answer
  read_promise told = rw (← same.0, ← same.1, ← same.2) told

  -- the links at the end are those that the promise says
  pub read_made : {L : List ℕ} → L ≡ rebuild_links (signatures_in t.rows.words t.rows.blocks words) (unpacked links nodes) → L ≡ rebuild_links (signatures_of words (unpacked links nodes)) (unpacked links nodes)
  read_made e = rw (← read_fits.spelt) e

  -- of which the audit says yes
  module _ (told : AuditPromise t.rows.signatures.now (held t) 0) where
    pub read_lent : SoundLent words (unpacked links nodes)
    read_lent = is_sound words (unpacked links nodes) [] (true_fits words (unpacked links nodes) sigs (packed_held sigs words links nodes read_fits)) 0 (read_promise told) refl

    read_sound : Sound (signatures_in t.rows.words t.rows.blocks words) (unpacked links nodes)
    read_sound = rw read_fits.spelt read_lent.sound

    module _ {w r : ℕ} (width : w ≡ width_of t.rows.links.now) (root : r ≡ root_of t.rows.links.now) where
      -- what the walk asks
      pub read_walk : Walkable (blocks_held t) (held t) w r
      read_walk = rw (width, root, same.0, same.1, same.2) (walk_read sigs links nodes read_packs read_sound)

      pub read_room : (l : List ℕ) → t.rows.blocks ≤ length l → length (heads_from (blocks_held t) (held t) w r) ≤ length l
      read_room l room =
          rw (width, root, same.0, same.1, same.2) (omega (arith, heads_fit sigs (unpacked links nodes) read_sound, read_count, ap length (heads_read sigs links nodes read_packs)))

      -- and leaves
      pub read_heads : (l l1 : List ℕ) (d : ℕ) → t.rows.blocks ≤ length l → d ≡ length (heads_from (blocks_held t) (held t) w r) → l1 ≡ sets l 0 (heads_from (blocks_held t) (held t) w r)
          → Collected (signatures_in t.rows.words t.rows.blocks words) (unpacked links nodes) l l1 d
      read_heads l l1 d room count list =
          let n : d ≡ length (heads_from (length sigs) (unpacked links nodes) (width_of links) (root_of links)) = rw (width, root, same.0, same.1, same.2) at count in
          gathered sigs links nodes read_packs read_sound l l1 d (omega (arith, read_count)) (omega arith) (rw (width, root, same.0, same.1, same.2) at list)
