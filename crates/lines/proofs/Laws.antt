-- Decimal digits, and bytes put one after the other.
-- Assumes nothing.
use Prim.Native.Nat.{ℕ, zero, suc, ◌+◌, ◌/◌, ◌%◌, ◌^◌, ◌≤◌, ◌<◌}
use native.Mathlib.Omega.{arith}
use mathlib.Core.Path.{◌≡◌, refl, sym, ◌∙◌, ap, subst}
use mathlib.Core.Bool.{Bool, true, false}
use mathlib.Core.List.{List, [], ◌∷◌, ◌++◌, append_assoc, append-nil}
use lib.Dec.{ltb}
use lib.ListN.{length, length-append, get_or, take}
use lib.Seq.{sets, take-suc}
use native.Mathlib.Numerals.{add-one}
use borrow.Author.Tests.{lt-ltb, le-ltb, ltb-false}
use Rattle.std.proofs.lemmas.Fmt.{AppendsLastDigit, decimal_from_appends, length-decimal-le, length-decimal-le_succ}
use Rattle.std.specs.Fmt as fmt
use Rattle.model.proofs.Stores.{sets_append}
use Rattle.lines.specs.Text.{decimal_within, decimal, spaced, line_text, Puts}

-- more room for digits does not change them
enough : (k j n : ℕ) → n < k → n < j → decimal_within k n ≡ decimal_within j n
unfolding decimal_within
enough zero j n a b = absurd (omega arith)
enough (suc k) zero n a b = absurd (omega arith)
enough (suc k) (suc j) n a b = go (ltb n 10) refl (enough k j (n / 10))
  where
    go : (t : Bool) → ltb n 10 ≡ t → (n / 10 < k → n / 10 < j → decimal_within k (n / 10) ≡ decimal_within j (n / 10)) → decimal_within (suc k) n ≡ decimal_within (suc j) n
    go true e ih = rw (e, decimal_within)
    go false e ih = rw (e, decimal_within) (ap (λ (l : List ℕ). l ++ ((48 + n % 10) ∷ [])) (ih (omega (arith, ltb-false n 10 e)) (omega (arith, ltb-false n 10 e))))

-- one digit, and more
pub decimal_one : (n : ℕ) → n < 10 → decimal n ≡ (48 + n) ∷ []
unfolding decimal_within
decimal_one n h = rw (lt-ltb n 10 h, decimal_within)

pub decimal_more : (n : ℕ) → 10 ≤ n → decimal n ≡ decimal (n / 10) ++ ((48 + n % 10) ∷ [])
unfolding decimal_within
decimal_more n h = rw (le-ltb n 10 h, decimal_within) (ap (λ (l : List ℕ). l ++ ((48 + n % 10) ∷ [])) (enough n (suc (n / 10)) (n / 10) (omega arith) (omega arith)))

-- these are the digits that std prints
last_digit : AppendsLastDigit decimal_within
unfolding decimal_within
last_digit = record { one = λ k n h. rw (lt-ltb n 10 h, decimal_within); more = λ k n h. rw (le-ltb n 10 h, decimal_within) }

decimal_std : (n : ℕ) → n < 2 ^ 32 → decimal n ≡ fmt.decimal n
decimal_std n h = decimal_from_appends decimal_within last_digit (suc n) n (omega arith) (omega (arith, length-decimal-le_succ n (omega arith)))

-- how many digits there are: at most ten of a number of 32 bits, and three of a byte
pub len_one : (n : ℕ) → n < 10 → length (decimal n) ≡ 1
len_one n h = ap length (decimal_one n h)

pub len_more : (n : ℕ) → 10 ≤ n → length (decimal n) ≡ length (decimal (n / 10)) + 1
len_more n h = ap length (decimal_more n h) ∙ length-append (decimal (n / 10)) ((48 + n % 10) ∷ [])

pub decimal_few : (n : ℕ) → n < 2 ^ 32 → length (decimal n) ≤ 10
decimal_few n h = omega (arith, ap length (decimal_std n h), length-decimal-le 10 n (omega arith) (omega arith) (omega arith))

pub decimal_byte : (n : ℕ) → n < 2 ^ 8 → length (decimal n) ≤ 3
decimal_byte n h = omega (arith, ap length (decimal_std n (omega arith)), length-decimal-le 3 n (omega arith) (omega arith) (omega arith))

pub spaced_append : (xs ys : List ℕ) → spaced (xs ++ ys) ≡ spaced xs ++ spaced ys
unfolding spaced
spaced_append [] ys = refl
spaced_append (x ∷ xs) ys = ap (λ (l : List ℕ). 32 ∷ l) (ap (λ (l : List ℕ). decimal x ++ l) (spaced_append xs ys) ∙ sym (append_assoc (decimal x) (spaced xs) (spaced ys)))

-- one run after the other
pub puts_then : (l l' l'' : List ℕ) (at r r' : ℕ) (xs ys : List ℕ) → Puts l at xs r l' → Puts l' r ys r' l'' → Puts l at (xs ++ ys) r' l''
puts_then l l' l'' at r r' xs ys p q =
    let a = p.place in
    let b = q.place in
    record {
      place = omega (arith, length-append xs ys);
      words = q.words ∙ ap (λ (k : List ℕ). sets k r ys) p.words ∙ ap (λ (k : ℕ). sets (sets l at xs) k ys) a ∙ sym (sets_append l at xs ys);
      long = q.long ∙ p.long;
    }

-- the same bytes otherwise written
pub puts_as : (l l' : List ℕ) (at r : ℕ) (xs ys : List ℕ) → xs ≡ ys → Puts l at xs r l' → Puts l at ys r l'
puts_as l l' at r xs ys e p = subst (λ (k : List ℕ). Puts l at k r l') e p

-- one number more, after its space
pub puts_number : (l l₁ l₂ l₃ : List ℕ) (at r₁ r₂ r₃ i : ℕ) (xs : List ℕ) → i < length xs → Puts l at (spaced (take i xs)) r₁ l₁
    → Puts l₁ r₁ (32 ∷ []) r₂ l₂ → Puts l₂ r₂ (decimal (get_or xs i 0)) r₃ l₃ → Puts l at (spaced (take (i + 1) xs)) r₃ l₃
unfolding spaced
puts_number l l₁ l₂ l₃ at r₁ r₂ r₃ i xs h p q w =
    let n = get_or xs i 0 in
    let one : spaced (n ∷ []) ≡ (32 ∷ []) ++ decimal n = ap (λ (k : List ℕ). 32 ∷ k) (append-nil (decimal n)) in
    puts_as l l₃ at r₃ _ _ (ap (λ (k : List ℕ). spaced (take i xs) ++ k) (sym one) ∙ sym (spaced_append (take i xs) (n ∷ [])) ∙ ap spaced (sym (take-suc xs i 0 h) ∙ ap (λ (k : ℕ). take k xs) (sym (add-one i))))
    (puts_then l l₁ l₃ at r₁ r₃ _ _ p (puts_then l₁ l₂ l₃ r₁ r₂ r₃ _ _ q w))

-- the whole line: the kind, the report's numbers, the blocks, the line feed
pub puts_line : (l l₁ l₂ l₃ l₄ : List ℕ) (at r₁ r₂ r₃ r₄ kind : ℕ) (ns bs : List ℕ) → Puts l at (decimal kind) r₁ l₁ → Puts l₁ r₁ (spaced ns) r₂ l₂
    → Puts l₂ r₂ (spaced bs) r₃ l₃ → Puts l₃ r₃ (10 ∷ []) r₄ l₄ → Puts l at (line_text kind (ns ++ bs)) r₄ l₄
puts_line l l₁ l₂ l₃ l₄ at r₁ r₂ r₃ r₄ kind ns bs p q w z =
    puts_as l l₄ at r₄ _ _ (ap (λ (k : List ℕ). (decimal kind ++ k) ++ (10 ∷ [])) (sym (spaced_append ns bs)))
    (puts_then l l₃ l₄ at r₃ r₄ _ _ (puts_then l l₁ l₃ at r₁ r₃ _ _ p (puts_then l₁ l₂ l₃ r₁ r₂ r₃ _ _ q w)) z)
