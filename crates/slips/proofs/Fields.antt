-- The words of a field, one by one: the words so far and the next one are the words, and they are 0 where each is.
-- Assumes nothing.
use Rattle.std.proofs.Common.{◌≡◌, ℕ, zero, suc, ◌+◌, ◌-◌, ◌*◌, ◌<◌, ◌≢◌, false, List, [], ◌∷◌, ◌++◌, get_or, refl, sym, ap, ◌∙◌, arith, add-zero, add-one, add-suc, add_assoc, ne_eqb}
use Rattle.model.specs.Questions.{number_at, words_at, no_field}

-- a number is 0 where its first bytes and its others are
zero_both : (bytes : List ℕ) (at n m : ℕ) → number_at bytes at n ≡ 0 → number_at bytes (at + n) m ≡ 0 → number_at bytes at (n + m) ≡ 0
unfolding number_at
zero_both bytes at n zero e f = rw add-zero e
zero_both bytes at n (suc m) e f =
    let r : number_at bytes at (n + m) ≡ 0 = zero_both bytes at n m e (omega arith) in
    let k : get_or bytes (at + (n + m)) 0 ≡ 0 = rw (← add_assoc) (omega arith) in
    rw add-suc (omega arith)

-- and only there
zero_first : (bytes : List ℕ) (at n m : ℕ) → number_at bytes at (n + m) ≡ 0 → number_at bytes at n ≡ 0
unfolding number_at
zero_first bytes at n zero e = rw add-zero at e
zero_first bytes at n (suc m) e =
    let f = rw add-suc at e in
    zero_first bytes at n m (omega arith)

zero_last : (bytes : List ℕ) (at n m : ℕ) → number_at bytes at (n + m) ≡ 0 → number_at bytes (at + n) m ≡ 0
unfolding number_at
zero_last bytes at n zero e = refl
zero_last bytes at n (suc m) e =
    let f = rw add-suc at e in
    let r : number_at bytes (at + n) m ≡ 0 = zero_last bytes at n m (omega arith) in
    let k : get_or bytes (at + n + m) 0 ≡ 0 = rw add_assoc (omega arith) in
    omega arith

-- no word
pub zero_none : (bytes : List ℕ) → number_at bytes 8 0 ≡ 0
unfolding number_at
zero_none bytes = refl

-- a word more
pub zero_more : (bytes : List ℕ) (i : ℕ) → number_at bytes 8 (8 * i) ≡ 0 → number_at bytes (8 + 8 * i) 8 ≡ 0 → number_at bytes 8 (8 * (i + 1)) ≡ 0
zero_more bytes i e f = let k : 8 * (i + 1) ≡ 8 * i + 8 = omega arith in rw k (zero_both bytes 8 (8 * i) 8 e f)

-- a word that is not 0
pub not_zero : (bytes : List ℕ) (i n : ℕ) → i < n → number_at bytes (8 + 8 * i) 8 ≢ 0 → false ≡ no_field bytes n
not_zero bytes i n h f =
    let k : 8 * n ≡ 8 * i + 8 + (8 * n - 8 * i - 8) = omega arith in
    sym (ne_eqb (number_at bytes 8 (8 * n)) 0 (λ z. f (zero_last bytes 8 (8 * i) 8 (zero_first bytes 8 (8 * i + 8) (8 * n - 8 * i - 8) (rw k at z)))))

-- the words read
pub words_none : (bytes : List ℕ) (at : ℕ) → words_at bytes at 0 ≡ []
unfolding words_at
words_none bytes at = refl

words_suc : (bytes : List ℕ) (at n : ℕ) → words_at bytes at (suc n) ≡ words_at bytes at n ++ (number_at bytes (at + 8 * n) 8 ∷ [])
unfolding words_at
words_suc bytes at zero = ap (λ k. number_at bytes k 8 ∷ []) (omega arith)
words_suc bytes at (suc n) =
    let k : at + 8 + 8 * n ≡ at + 8 * suc n = omega arith in
    ap (λ ws. number_at bytes at 8 ∷ ws) (words_suc bytes (at + 8) n ∙ ap (λ j. words_at bytes (at + 8) n ++ (number_at bytes j 8 ∷ [])) k)

pub words_more : (bytes : List ℕ) (at n : ℕ) → words_at bytes at (n + 1) ≡ words_at bytes at n ++ (number_at bytes (at + 8 * n) 8 ∷ [])
words_more bytes at n = rw add-one (words_suc bytes at n)
