-- Words that the links spell from an address on, one after the other: how the nodes and the free chain are read off a list of words.
-- Assumes nothing.
use Prim.Native.Nat.{ℕ, zero, suc, ◌+◌, ◌*◌, ◌≤◌, ◌<◌}
use native.Mathlib.Omega.{arith}
use mathlib.Core.Path.{◌≡◌, refl, ◌∙◌, ap, subst}
use mathlib.Core.List.{List, [], ◌∷◌, ◌++◌}
use lib.ListN.{length}
use lib.Seq.{get_or_at}
use borrow.Author.Tests.{lt-ltb, le-ltb}
use Rattle.model.specs.Basics.{up_from}
use Rattle.model.specs.Tables.{word, position_at, position_of, left_of, right_of}
use Rattle.model.specs.Sound.{FreeChain}
use Rattle.model.specs.Clear.{free_from, free_nodes}

-- the words from address a on are these
abbrev pub Spells : List ℕ → ℕ → List ℕ → Type 0
Spells links a [] = Unit {0}
Spells links a (x ∷ xs) = (word links a ≡ x) × Spells links (suc a) xs

-- two runs of words
pub spells_append : (links : List ℕ) (a : ℕ) (xs ys : List ℕ) → Spells links a (xs ++ ys) → Spells links a xs × Spells links (a + length xs) ys
spells_append links a [] ys s = let e : a + 0 ≡ a = omega arith in (tt, rw e s)
spells_append links a (x ∷ xs) ys s =
    let r = spells_append links (suc a) xs ys s.1 in
    let e : a + suc (length xs) ≡ suc a + length xs = omega arith in
    ((s.0, r.0), rw e r.1)

-- a list's end is spelled by the list
pub spells_end : (l xs : List ℕ) (a : ℕ) → length l ≡ a → Spells (l ++ xs) a xs
spells_end l [] a e = tt
spells_end l (x ∷ xs) a e =
    (get_or_at l x xs 0 a e, subst (λ (k : List ℕ). Spells k (suc a) xs) (snoc l) (spells_end (l ++ (x ∷ [])) xs (suc a) (more l ∙ ap suc e)))
  where
    snoc : (l : List ℕ) → (l ++ (x ∷ [])) ++ xs ≡ l ++ x ∷ xs
    snoc [] = refl
    snoc (y ∷ l) = ap (λ (k : List ℕ). y ∷ k) (snoc l)

    more : (l : List ℕ) → length (l ++ (x ∷ [])) ≡ suc (length l)
    more [] = refl
    more (y ∷ l) = ap suc (more l)

-- a node's three words, and what follows
pub node_spelled : (B : ℕ) (links : List ℕ) (i p l r : ℕ) (ws : List ℕ) → Spells links (position_at B i) (p ∷ l ∷ r ∷ ws)
    → (position_of B links i ≡ p) × (left_of B links i ≡ l) × (right_of B links i ≡ r) × Spells links (position_at B (i + 1)) ws
node_spelled B links i p l r ws s =
    let a : 2 * B + 3 * i + 3 ≡ suc (position_at B i) = omega arith in
    let b : 2 * B + 3 * i + 4 ≡ suc (suc (position_at B i)) = omega arith in
    let c : position_at B (i + 1) ≡ suc (suc (suc (position_at B i))) = omega arith in
    (s.0, rw a s.1.0, rw b s.1.1.0, rw c s.1.1.1)

-- the first of the free nodes from i on
pub free_some : (B i : ℕ) → i < B → free_from B i ≡ i
unfolding free_from
free_some B i h = rw (lt-ltb i B h, free_from)

pub free_none : (B i : ℕ) → B ≤ i → free_from B i ≡ 0
unfolding free_from
free_none B i h = rw (le-ltb i B h, free_from)

-- one free node more: its left word leads to the next, where there is one
pub free_step : (B n i : ℕ) → i + suc n ≡ B → free_nodes (suc n) i ≡ 0 ∷ free_from B (suc i) ∷ 0 ∷ free_nodes n (suc i)
unfolding free_nodes
free_step B zero i e = rw (free_none B (suc i) (omega arith)) refl
free_step B (suc n) i e = rw (free_some B (suc i) (omega arith)) refl

pub free_length : (n i : ℕ) → length (free_nodes n i) ≡ 3 * n
unfolding free_nodes
free_length zero i = refl
free_length (suc zero) i = refl
free_length (suc (suc n)) i = omega (arith, free_length (suc n) (suc i))

-- the nodes from i to the last are chained free, ascending
pub free_chain : (B : ℕ) (links : List ℕ) (n i r : ℕ) → 1 ≤ i → i + n ≡ B → Spells links (position_at B i) (free_nodes n i) → r ≡ free_from B i → FreeChain B links r (up_from n i)
unfolding up_from
free_chain B links zero i r a e s q = q ∙ free_none B i (omega arith)
free_chain B links (suc n) i r a e s q =
    let k = node_spelled B links i 0 (free_from B (suc i)) 0 (free_nodes n (suc i)) (rw (free_step B n i e) at s) in
    let o : i + 1 ≡ suc i = omega arith in
    (q ∙ free_some B i (omega arith), a, omega arith, k.0, k.2, free_chain B links n (suc i) (left_of B links i) (omega arith) (omega arith) (rw o at k.3) k.1)
