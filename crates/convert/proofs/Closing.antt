-- What the loop of a packing leaves, and its promise.
-- Assumes nothing.
use Prim.Native.Nat.{ℕ, suc, ◌+◌, ◌-◌, ◌≤◌, ◌<◌}
use native.Mathlib.Decide.{ℕ_discrete}
use native.Mathlib.Omega.{arith}
use mathlib.Core.Path.{◌≡◌, refl, sym, ◌∙◌, ap, ap₂}
use mathlib.Core.Logic.{◌≢◌, ⊎_elim}
use mathlib.Core.Bool.{true}
use mathlib.Core.List.{List, [], ◌++◌, append-nil}
use lib.Dec.{eqb}
use borrow.Author.Tests.{eqb-true}
use lib.ListN.{length, get_or, set, take, drop, drop_of_length-le}
use lib.Seq.{paste, paste-suc, take_all}
use Rattle.model.specs.Wide.{word_count}
use Rattle.model.specs.Tables.{links_of, blocks_of, width_of, signatures_of, position_of, left_of, right_of}
use Rattle.model.specs.Sound.{SoundLent}
use Rattle.model.specs.Questions.{asks_tables, audit_refusal}
use Rattle.model.specs.Promises.{AuditPromise}
use Rattle.model.specs.Packed.{rows_of, node_word, packed_nodes, unpacked}
use Rattle.tables.specs.Fits.{PartsOf}
use Rattle.tables.proofs.Either.{none_held}
use Rattle.model.specs.PackedPromises.{pack_fits, PackPromise}
use Rattle.model.proofs.Asking.{true_false, both}
use Rattle.model.proofs.Packing.{blocks_told}
use Rattle.model.proofs.Wide.{signatures_length}
use Rattle.convert.specs.Fitting.{NodesFit}
use Rattle.convert.proofs.Fitting.{nodes_fit, node_at, nodes_long}

-- the links hold the tables themselves
pub close_parts : {B : ℕ} {L : List ℕ} {i p l r : ℕ} → PartsOf B (unpacked L []) i p l r → PartsOf B L i p l r
close_parts {L = L} h = let e = none_held L [] refl in rw e at h

pub close_stored : {B : ℕ} {L : List ℕ} {i p l r : ℕ} → PartsOf B L i p l r → (k : ℕ) (now after : List ℕ) → after ≡ set now k (node_word p l r) → after ≡ set now k (node_word (position_of B L i) (left_of B L i) (right_of B L i))
close_stored h k now after e = rw (← h.position, ← h.left, ← h.right) e

pub close_turn : (B : ℕ) (old nodes now after : List ℕ) (i : ℕ) → 1 ≤ B → length old ≡ links_of B → length nodes + 1 ≡ B → 1 ≤ i → i < B → now ≡ paste nodes 0 (packed_nodes B old) (i - 1)
    → after ≡ set now (i - 1) (node_word (position_of B old i) (left_of B old i) (right_of B old i)) → after ≡ paste nodes 0 (packed_nodes B old) (i + 1 - 1)
close_turn B old nodes now after i b e n h k en ea =
    let z : 0 + (i - 1) ≡ i - 1 = omega arith in
    let o : i + 1 - 1 ≡ suc (i - 1) = omega arith in
    let l = nodes_long B old b e in
    ea ∙ ap₂ (λ (x : List ℕ) (v : ℕ). set x (i - 1) v) en (sym (node_at B old b e i h k))
    ∙ ap (λ (j : ℕ). set (paste nodes 0 (packed_nodes B old) (i - 1)) j (get_or (packed_nodes B old) (i - 1) 0)) (sym z)
    ∙ paste-suc nodes 0 (packed_nodes B old) (i - 1) 0 (omega arith) (omega arith) ∙ ap (paste nodes 0 (packed_nodes B old)) (sym o)

pub close_end : (B : ℕ) (old nodes now : List ℕ) (i : ℕ) → 1 ≤ B → length old ≡ links_of B → length nodes + 1 ≡ B → i ≡ B → now ≡ paste nodes 0 (packed_nodes B old) (i - 1) → now ≡ packed_nodes B old
close_end B old nodes now i b e n y en =
    let l = nodes_long B old b e in
    let d : drop (0 + (i - 1)) nodes ≡ [] = drop_of_length-le nodes {i = 0 + (i - 1)} (omega arith) in
    en ∙ ap₂ (λ (x z : List ℕ). x ++ z) (take_all (i - 1) (packed_nodes B old) (omega arith)) d ∙ append-nil (packed_nodes B old)

-- what answers 0 is sound
pub audit_yes : (words L : List ℕ) (answer : ℕ) → AuditPromise words L answer → answer ≡ 0 → SoundLent words L
audit_yes words L answer A z = go (ℕ_discrete (audit_refusal (asks_tables words L)) 0)
  where
    go : Dec (audit_refusal (asks_tables words L) ≡ 0) → SoundLent words L
    go (no n) = absurd (n (sym (A.refused n) ∙ z))
    go (yes e) = ⊎_elim (λ x. x.1) (λ x. let y = x.0 in absurd (omega arith)) (A.asked e)

-- its nodes fit a word each
pub sound_nodes : (words L : List ℕ) → AuditPromise words L 0 → NodesFit (blocks_of L) L
sound_nodes words L A =
    let S = audit_yes words L 0 A refl in
    let B = signatures_length (word_count (width_of L)) (blocks_of L) words in
    rw B at (nodes_fit (length (signatures_of words L)) (width_of L) (signatures_of words L) L S.sound)

-- the nodes of the tables that are read of the links
pub packed_is : (B : ℕ) (L old nodes' : List ℕ) → length L ≡ links_of B → L ≡ old → nodes' ≡ packed_nodes B L → nodes' ≡ packed_nodes (blocks_of old) old
packed_is B L old nodes' l same e = e ∙ ap₂ packed_nodes (sym (blocks_told L B l) ∙ ap blocks_of same) same

module _ (words old links nodes : List ℕ) (y : pack_fits old links nodes ≡ true) (answer : ℕ) (A : AuditPromise words old answer) where
  pub pack_tables : answer ≢ 0 → PackPromise words old links nodes answer links nodes
  pack_tables n = record { unfit = λ f. true_false y f; asked = λ _. (A, λ _. (refl, refl)); done = λ z. absurd (n z) }

  pub packs_all : answer ≡ 0 → (links' nodes' : List ℕ) → links' ≡ take (length links) old → nodes' ≡ packed_nodes (blocks_of old) old → PackPromise words old links nodes answer links' nodes'
  packs_all z links' nodes' el en = record {
    unfit = λ f. true_false y f;
    asked = λ _. (A, λ n. absurd (n z));
    done = λ _. (el ∙ ap (λ (n : ℕ). take n old) (eqb-true _ _ (both {t = eqb (length links) (rows_of (blocks_of old))} y).0), en);
  }
