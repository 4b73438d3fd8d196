-- Sums over a list, and what depends on the entries alone and not on their order: by sums, since lists are the same when every sum
-- over them is.
-- Assumes nothing.
use Prim.Native.Nat.{ℕ, zero, suc, ◌+◌, ◌-◌, ◌≤◌, ◌<◌}
use native.Mathlib.Omega.{arith}
use mathlib.Core.Path.{◌≡◌, refl, sym, ◌∙◌, ap}
use mathlib.Core.List.{List, [], ◌∷◌}
use lib.ListN.{length, get_or, set, take, drop, length-set, length-drop, take-append-drop}
use lib.Seq.{get_or-take, get_or-drop, length-take-le}
use Rattle.model.proofs.Members.{total, total_append, Same}
use Rattle.split.specs.Split.{Blocks}

-- a store changes a sum by the one entry
total_set : (f : ℕ → ℕ) (l : List ℕ) (i v : ℕ) → i < length l → total f (set l i v) + f (get_or l i 0) ≡ total f l + f v
total_set f [] i v h = omega arith
total_set f (x ∷ l) zero v h = omega arith
total_set f (x ∷ l) (suc i) v h = omega (arith, total_set f l i v (omega arith))

pub total_split : (f : ℕ → ℕ) (k : ℕ) (l : List ℕ) → total f (take k l) + total f (drop k l) ≡ total f l
total_split f k l = sym (total_append f (take k l) (drop k l)) ∙ ap (total f) (take-append-drop k l)

-- where two functions agree on the entries
pub total_cong : (f g : ℕ → ℕ) (l : List ℕ) → ((i : ℕ) → i < length l → f (get_or l i 0) ≡ g (get_or l i 0)) → total f l ≡ total g l
total_cong f g [] h = refl
total_cong f g (x ∷ l) h = omega (arith, h 0 (omega arith), total_cong f g l (λ i p. h (suc i) (omega arith)))

pub total_zero : (l : List ℕ) → total (λ _. 0) l ≡ 0
total_zero [] = refl
total_zero (x ∷ l) = omega (arith, total_zero l)

total_none : (f : ℕ → ℕ) (l : List ℕ) → total f l ≡ 0 → (i : ℕ) → i < length l → f (get_or l i 0) ≡ 0
total_none f [] h i p = absurd (omega arith)
total_none f (x ∷ l) h zero p = omega arith
total_none f (x ∷ l) h (suc i) p = total_none f l (omega arith) i (omega arith)

-- Lists with the same entries

pub same_refl : (l : List ℕ) → Same l l
same_refl l f = refl

pub same_trans : (a b c : List ℕ) → Same a b → Same b c → Same a c
same_trans a b c p q f = p f ∙ q f

pub same_sym : (a b : List ℕ) → Same a b → Same b a
same_sym a b p f = sym (p f)

put_get : (l : List ℕ) (k e v : ℕ) → get_or l e 0 ≡ v → get_or (set l k v) e 0 ≡ v
put_get [] k e v h = h
put_get (x ∷ l) zero zero v h = refl
put_get (x ∷ l) zero (suc e) v h = h
put_get (x ∷ l) (suc k) zero v h = h
put_get (x ∷ l) (suc k) (suc e) v h = put_get l k e v h

-- two entries change places
pub same_swap : (l : List ℕ) (k e : ℕ) → k < length l → e < length l → Same (set (set l k (get_or l e 0)) e (get_or l k 0)) l
same_swap l k e hk he f =
    let a = total_set f l k (get_or l e 0) hk in
    let b = total_set f (set l k (get_or l e 0)) e (get_or l k 0) (simp length-set he) in
    let g = ap f (put_get l k e (get_or l e 0) refl) in
    omega arith

-- Blocks: no entry is outside 1 to B

outside : ℕ → ℕ → ℕ
outside B x = (1 - x) + (x - B)

pub blocks_same : (B : ℕ) (a b : List ℕ) → Same a b → Blocks B a → Blocks B b
unfolding Blocks outside
blocks_same B a b s h i p =
    let z : total (outside B) a ≡ 0 = total_cong (outside B) (λ _. 0) a (λ j q. omega (arith, h j q)) ∙ total_zero a in
    omega (arith, total_none (outside B) b (sym (s (outside B)) ∙ z) i p)

pub blocks_take : (B k : ℕ) (l : List ℕ) → k ≤ length l → Blocks B l → Blocks B (take k l)
unfolding Blocks
blocks_take B k l le h i p =
    let n = length-take-le k l le in
    let q : i < k = omega arith in
    rw get_or-take (h i (omega arith))

pub blocks_drop : (B k : ℕ) (l : List ℕ) → Blocks B l → Blocks B (drop k l)
unfolding Blocks
blocks_drop B k l h i p =
    let n = length-drop k l in
    rw get_or-drop (h (k + i) (omega arith))
