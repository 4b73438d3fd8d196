-- The listing of the marked blocks in parts: one block more, a run without a mark, an early end, and parts one after the other; and
-- the invariant of the two loops over blocks.
-- Assumes nothing.
use Prim.Native.Nat.{ℕ, zero, suc, ◌+◌, ◌-◌, ◌≤◌, ◌<◌}
use native.Mathlib.Numerals.{add-one}
use native.Mathlib.Omega.{arith}
use mathlib.Core.Path.{◌≡◌, refl, sym, ◌∙◌, ap, ap₂}
use mathlib.Core.Bool.{true, false}
use mathlib.Core.List.{List, [], ◌∷◌, ◌++◌, append-nil, append_assoc}
use lib.Bits.{bit_or, or_add_and, and_le_l, and_le_r}
use lib.ListN.{length, get_or, set, take, drop, length-drop, length-append, length-set, take-append-drop}
use lib.Seq.{get_or-take, get_or-drop, length-take-le, take-set-le, take-suc-set, drop-set-lt}
use borrow.Author.Tests.{ne_eqb}
use Rattle.std.specs.List.{fold}
use Rattle.model.specs.Basics.{pick}
use Rattle.model.specs.Promises.{output_after}
use Rattle.search.specs.Marks.{is_marked, listed, Lists, ListedPart}
use Rattle.search.proofs.Keeps.{keep_empty, keep_last}

-- an OR of 0 is of zeros
pub or_none : (a b : ℕ) → bit_or a b ≡ 0 → (a ≡ 0) × (b ≡ 0)
or_none a b e = let h = or_add_and a b in let k = and_le_l a b in let l = and_le_r a b in omega arith

module _ (m : List ℕ) where
  pub listed_yes : (b : ℕ) → is_marked m (b + 1) ≡ true → listed (b + 1) m ≡ listed b m ++ ((b + 1) ∷ [])
  listed_yes b e = let d : b + 1 ≡ suc b = add-one b in let e' : is_marked m (suc b) ≡ true = rw d at e in rw d (keep_last (is_marked m) b ∙ rw e')

  pub listed_no : (b : ℕ) → is_marked m (b + 1) ≡ false → listed (b + 1) m ≡ listed b m
  listed_no b e = let d : b + 1 ≡ suc b = add-one b in let e' : is_marked m (suc b) ≡ false = rw d at e in rw d (keep_last (is_marked m) b ∙ rw (e', append-nil))

  -- a run without a mark
  pub listed_run : (b n : ℕ) → ((i : ℕ) → i < n → is_marked m (b + i + 1) ≡ false) → listed (b + n) m ≡ listed b m
  listed_run b zero h = let d : b + 0 ≡ b = omega arith in rw d
  listed_run b (suc n) h =
      let d : b + suc n ≡ b + n + 1 = omega arith in
      rw d (listed_no (b + n) (h n (omega arith)) ∙ listed_run b n (λ i l. h i (omega arith)))

  -- the list of fewer blocks is a front of the list of more
  listed_more : (b n : ℕ) → (rest : List ℕ) × (listed (b + n) m ≡ listed b m ++ rest)
  listed_more b zero = let d : b + 0 ≡ b = omega arith in ([], rw (d, append-nil))
  listed_more b (suc n) =
      let r = listed_more b n in
      let d : b + suc n ≡ suc (b + n) = omega arith in (
        r.0 ++ pick (is_marked m (suc (b + n))) (suc (b + n) ∷ []) [],
        rw d (keep_last (is_marked m) (b + n) ∙ ap (λ (l : List ℕ). l ++ pick (is_marked m (suc (b + n))) (suc (b + n) ∷ []) []) r.1 ∙ append_assoc (listed b m) r.0 _),
      )

  no_more : (xs ys : List ℕ) → length (xs ++ ys) ≤ length xs → xs ++ ys ≡ xs
  no_more xs [] h = append-nil xs
  no_more xs (y ∷ ys) h = absurd (omega (arith, length-append xs (y ∷ ys)))

  -- where all that are marked are listed, no later block is
  pub listed_full : (b t B : ℕ) → b ≤ t → t ≤ B → length (listed B m) ≤ length (listed b m) → listed t m ≡ listed b m
  listed_full b t B h k le =
      let db : b + (t - b) ≡ t = omega arith in
      let dt : t + (B - t) ≡ B = omega arith in
      let r = listed_more b (t - b) in
      let s = listed_more t (B - t) in
      let er : listed t m ≡ listed b m ++ r.0 = rw db at r.1 in
      let es : listed B m ≡ listed t m ++ s.0 = rw dt at s.1 in
      er ∙ no_more (listed b m) r.0 (omega (arith, ap length er, ap length es, length-append (listed t m) s.0))

  pub lists_none : (out : List ℕ) → Lists m 0 0 out
  lists_none out = record { count = sym (ap length (keep_empty (is_marked m))); front = sym (keep_empty (is_marked m)) }

  module _ (found from n₀ : ℕ) (out₀ : List ℕ) where
    pub part_none : ListedPart m found from n₀ out₀ from n₀ out₀
    part_none = record { long = refl; beyond = refl; lists = λ B h e l. l }

    -- one block more, by whether it is marked
    module _ (b n : ℕ) (out : List ℕ) (L : ListedPart m found from n₀ out₀ b n out) (lt : n < found) (len : n < length out) where
      part_yes : is_marked m (b + 1) ≡ true → ListedPart m found from n₀ out₀ (b + 1) (n + 1) (set out n (b + 1))
      part_yes e = record {
        long = length-set out n (b + 1) ∙ L.long;
        beyond = drop-set-lt found out n (b + 1) lt ∙ L.beyond;
        lists = λ B h f l.
            let r = L.lists B (omega arith) f l in
            let d : n + 1 ≡ suc n = add-one n in
            record {
              count = rw (listed_yes b e, length-append) (ap (λ (x : ℕ). x + 1) r.count);
              front = rw (d, take-suc-set out n (b + 1) len, listed_yes b e) (ap (λ (x : List ℕ). x ++ ((b + 1) ∷ [])) r.front);
            };
      }

      part_no : is_marked m (b + 1) ≡ false → ListedPart m found from n₀ out₀ (b + 1) n (set out n (b + 1))
      part_no e = record {
        long = length-set out n (b + 1) ∙ L.long;
        beyond = drop-set-lt found out n (b + 1) lt ∙ L.beyond;
        lists = λ B h f l.
            let r = L.lists B (omega arith) f l in
            record { count = rw (listed_no b e) r.count; front = rw (listed_no b e) (take-set-le n out n (b + 1) (omega arith) ∙ r.front) };
      }

    -- where a loop over the blocks up to `to` stands: the first b blocks are listed, and each block passed added at most one word
    pub record Passed (to b n : ℕ) (out : List ℕ) : Type 0 where
      pub low : from ≤ b
      pub high : b ≤ to
      pub few : n + from ≤ n₀ + b
      pub part : ListedPart m found from n₀ out₀ b n out

    pub passed_none : (to : ℕ) → from ≤ to → Passed to from n₀ out₀
    passed_none to le = record { low = omega arith; high = le; few = omega arith; part = part_none }

    -- the loop's next block, by whether it is marked
    module _ (to b n : ℕ) (out : List ℕ) (P : Passed to b n out) (next : b < to) (lt : n < found) (fit : found ≤ length out₀) (n' : ℕ) where
      word_fits : n < length out
      word_fits = omega arith

      pub pass_yes : is_marked m (b + 1) ≡ true → n' ≡ n + 1 → Passed to (b + 1) n' (set out n (b + 1))
      pass_yes e d = rw d (record { low = omega arith; high = omega arith; few = omega arith; part = part_yes b n out P.part lt word_fits e })

      pub pass_no : is_marked m (b + 1) ≡ false → n' ≡ n → Passed to (b + 1) n' (set out n (b + 1))
      pass_no e d = rw d (record { low = omega arith; high = omega arith; few = omega arith; part = part_no b n out P.part lt word_fits e })

    -- all are listed
    pub part_full : (b to n : ℕ) (out : List ℕ) → ListedPart m found from n₀ out₀ b n out → b ≤ to → found ≤ n → ListedPart m found from n₀ out₀ to n out
    part_full b to n out L le full = record {
      long = L.long;
      beyond = L.beyond;
      lists = λ B h f l.
          let r = L.lists B (omega arith) f l in
          let e = listed_full b to B le h (omega (arith, r.count)) in
          record { count = rw e r.count; front = rw e r.front };
    }

    pub part_run : ((i : ℕ) → i < 64 → is_marked m (from + i + 1) ≡ false) → ListedPart m found from n₀ out₀ (from + 64) n₀ out₀
    part_run h = record {
      long = refl;
      beyond = refl;
      lists = λ B k f l. let e = listed_run from 64 h in record { count = rw e l.count; front = rw e l.front };
    }

    pub part_then : (b n : ℕ) (out : List ℕ) (to r : ℕ) (out' : List ℕ) → b ≤ to → ListedPart m found from n₀ out₀ b n out → ListedPart m found b n out to r out' → ListedPart m found from n₀ out₀ to r out'
    part_then b n out to r out' le K L = record {
      long = L.long ∙ K.long;
      beyond = L.beyond ∙ K.beyond;
      lists = λ B h f l. L.lists B h f (K.lists B (omega arith) f l);
    }

  -- the whole listing
  pub list_whole : (B found : ℕ) (out : List ℕ) (r : ℕ) (out' : List ℕ) → found ≡ length (listed B m) → ListedPart m found 0 0 out B r out' → out' ≡ output_after (listed B m) out
  list_whole B found out r out' f L =
      let l = L.lists B (omega arith) f (lists_none out) in
      let d : r ≡ found = l.count ∙ sym f in
      sym (take-append-drop found out') ∙ ap₂ (λ (x y : List ℕ). x ++ y) (rw d at l.front) (L.beyond ∙ ap (λ (k : ℕ). drop k out) f)

-- where the OR of all is 0, so is each
fold_zero : (xs : List ℕ) (n : ℕ) → fold bit_or n xs ≡ 0 → (n ≡ 0) × ((j : ℕ) → j < length xs → get_or xs j 0 ≡ 0)
fold_zero [] n e = (e, λ j h. absurd (omega arith))
fold_zero (x ∷ xs) n e =
    let r = fold_zero xs (bit_or n x) e in
    let z = or_none n x r.0 in
    (z.0, at z.1 r.1)
  where
    at : x ≡ 0 → ((j : ℕ) → j < length xs → get_or xs j 0 ≡ 0) → (j : ℕ) → j < length (x ∷ xs) → get_or (x ∷ xs) j 0 ≡ 0
    at z r zero h = z
    at z r (suc j) h = r j (omega arith)

-- marks of 0 in a part of the marks
pub run_none : (m : List ℕ) (from n : ℕ) → from + n ≤ length m → fold bit_or 0 (take n (drop from m)) ≡ 0 → (i : ℕ) → i < n → is_marked m (from + i + 1) ≡ false
run_none m from n long z i l =
    let d : from + i + 1 - 1 ≡ from + i = omega arith in
    let whole : n ≤ length (drop from m) = omega (arith, length-drop from m) in
    let part = (fold_zero (take n (drop from m)) 0 z).1 i (omega (arith, length-take-le n (drop from m) whole)) in
    let e : get_or m (from + i) 0 ≡ 0 = sym (get_or-drop from m i 0) ∙ sym (get_or-take n (drop from m) i 0 l) ∙ part in
    rw d (ne_eqb (get_or m (from + i) 0) 1 (omega arith))
