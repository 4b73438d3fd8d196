-- What the loop of an unpacking leaves, and its promise.
-- Assumes nothing.
use Prim.Native.Nat.{ℕ, ◌+◌, ◌*◌, ◌<◌}
use native.Mathlib.Omega.{arith}
use mathlib.Core.Path.{◌≡◌, refl, sym, ◌∙◌, ap, ap₂}
use mathlib.Core.List.{List, [], ◌∷◌, ◌++◌, append_assoc}
use native.Mathlib.Numerals.{add-one}
use lib.ListN.{length, get_or, take, set, length-set}
use lib.Seq.{take-suc}
use Rattle.std.proofs.lemmas.List.{take_more_set}
use mathlib.Core.Logic.{◌≢◌}
use mathlib.Core.Bool.{true, ◌&&◌}
use Rattle.model.specs.Promises.{AuditPromise}
use Rattle.model.specs.Questions.{ask, asks_tables, tables_fit}
use Rattle.model.specs.PackedPromises.{packed_fit, unpack_fits, PackedAudit, UnpackPromise}
use Rattle.model.proofs.Asking.{true_false, both, ask_zero}
use Rattle.model.specs.Packed.{position_in, left_in, right_in, opened, unpacked}

opened_append : (xs ys : List ℕ) → opened (xs ++ ys) ≡ opened xs ++ opened ys
unfolding opened
opened_append [] ys = refl
opened_append (w ∷ xs) ys = ap (λ (l : List ℕ). position_in w ∷ left_in w ∷ right_in w ∷ l) (opened_append xs ys)

-- one node more is written, to three words from its place on
pub open_more : (nodes words : List ℕ) (i : ℕ) → i < length nodes → 3 * i + 2 < length words → take (3 * i) words ≡ opened (take i nodes)
    → take (3 * (i + 1)) (set (set (set words (3 * i) (position_in (get_or nodes i 0))) (3 * i + 1) (left_in (get_or nodes i 0))) (3 * i + 2) (right_in (get_or nodes i 0))) ≡ opened (take (i + 1) nodes)
unfolding opened
open_more nodes words i h room e =
    let p : ℕ = position_in (get_or nodes i 0) in
    let l : ℕ = left_in (get_or nodes i 0) in
    let r : ℕ = right_in (get_or nodes i 0) in
    let one : List ℕ = set words (3 * i) p in
    let two : List ℕ = set one (3 * i + 1) l in
    let long : length one ≡ length words = length-set words (3 * i) p in
    let longer : length two ≡ length one = length-set one (3 * i + 1) l in
    let third : 3 * (i + 1) ≡ 3 * i + 2 + 1 = omega arith in
    let second : 3 * i + 2 ≡ 3 * i + 1 + 1 = omega arith in
    let written : take (3 * (i + 1)) (set two (3 * i + 2) r) ≡ ((take (3 * i) words ++ (p ∷ [])) ++ (l ∷ [])) ++ (r ∷ []) =
    ap (λ (n : ℕ). take n (set two (3 * i + 2) r)) third
    ∙ take_more_set two (3 * i + 2) r (omega (arith, long, longer, room))
    ∙ ap (λ (w : List ℕ). w ++ (r ∷ [])) (ap (λ (n : ℕ). take n two) second ∙ take_more_set one (3 * i + 1) l (omega (arith, long, room)) ∙ ap (λ (w : List ℕ). w ++ (l ∷ [])) (take_more_set words (3 * i) p (omega (arith, room))))
    in
    written
    ∙ append_assoc (take (3 * i) words ++ (p ∷ [])) (l ∷ []) (r ∷ [])
    ∙ append_assoc (take (3 * i) words) (p ∷ []) (l ∷ r ∷ [])
    ∙ ap (λ (w : List ℕ). w ++ (p ∷ l ∷ r ∷ [])) e
    ∙ sym (opened_append (take i nodes) (get_or nodes i 0 ∷ []))
    ∙ rw (add-one, take-suc nodes i 0 h) refl

-- what an audit of tables that are read of the slices promises of these
pub answered_packed : {words links nodes V L N : List ℕ} {answer : ℕ} → (V ≡ words) × (L ≡ links) × (N ≡ nodes)
    → 0 ≡ ask 4 (packed_fit links nodes && tables_fit (asks_tables words (unpacked links nodes))) 0 → AuditPromise V (unpacked L N) answer → PackedAudit words links nodes answer
answered_packed same asked told =
    let yes = (ask_zero 3 _ 0 (sym asked)).0 in
    record { unfit = λ f. true_false (both yes).0 f; asked = λ _. rw (← same.0, ← same.1, ← same.2) told }

-- the promise
module _ (words links nodes old : List ℕ) (y : unpack_fits links nodes old ≡ true) (answer : ℕ) (A : PackedAudit words links nodes answer) where
  told : AuditPromise words (unpacked links nodes) answer
  told = A.asked (both {t = packed_fit links nodes} y).0

  pub refuses_tables : answer ≢ 0 → UnpackPromise words links nodes old answer old
  refuses_tables n = record { unfit = λ f. true_false y f; asked = λ _. (told, λ _. refl); done = λ z. absurd (n z) }

  pub unpacks : answer ≡ 0 → (rows opens : List ℕ) → rows ≡ links → opens ≡ opened nodes → UnpackPromise words links nodes old answer (rows ++ opens)
  unfolding unpacked
  unpacks z rows opens er ew = record {
    unfit = λ f. true_false y f;
    asked = λ _. (told, λ n. absurd (n z));
    done = λ _. ap₂ (λ (x y : List ℕ). x ++ y) er ew;
  }
