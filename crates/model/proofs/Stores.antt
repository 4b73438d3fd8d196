-- Reading the links after some stores, and a run of words stored after another.
-- Assumes nothing.
use Prim.Native.Nat.{ℕ, suc, ◌+◌, ◌<◌}
use native.Mathlib.Nat.{add-zero}
use native.Mathlib.Omega.{arith}
use mathlib.Core.Path.{◌≡◌, refl, sym, ◌∙◌, ap}
use mathlib.Core.Logic.{◌≢◌}
use mathlib.Core.List.{List, [], ◌∷◌, ◌++◌}
use lib.ListN.{length, set, length-set}
use lib.Seq.{sets, get_or-set_same, get_or-set_other}
use Rattle.model.specs.Tables.{word}
use Rattle.model.specs.Stores.{Store, ◌↤◌, stores}

-- the address is none of those stored to
abbrev pub Fresh : ℕ → List Store → Type 0
Fresh a [] = Unit {0}
Fresh a ((x ↤ v) ∷ ws) = (a ≢ x) × Fresh a ws

pub length_stores : (l : List ℕ) (ws : List Store) → length (stores l ws) ≡ length l
length_stores l [] = refl
length_stores l ((a ↤ v) ∷ ws) = length_stores (set l a v) ws ∙ length-set l a v

pub stored_same : (l : List ℕ) (ws : List Store) (a : ℕ) → Fresh a ws → word (stores l ws) a ≡ word l a
stored_same l [] a h = refl
stored_same l ((x ↤ v) ∷ ws) a h = stored_same (set l x v) ws a h.1 ∙ get_or-set_other l x a v 0 h.0

pub stored_here : (l : List ℕ) (a v : ℕ) (ws : List Store) → a < length l → Fresh a ws → word (stores (set l a v) ws) a ≡ v
stored_here l a v ws h f = stored_same (set l a v) ws a f ∙ get_or-set_same l a v 0 h

-- the word stored after the stores `front` and before `ws`
pub stored_at : (l : List ℕ) (front : List Store) (a v : ℕ) (ws : List Store) → a < length l → Fresh a ws → word (stores (set (stores l front) a v) ws) a ≡ v
stored_at l front a v ws h f = stored_here (stores l front) a v ws (rw length_stores h) f

-- a second run of words after a first
pub sets_append : (l : List ℕ) (i : ℕ) (xs ys : List ℕ) → sets l i (xs ++ ys) ≡ sets (sets l i xs) (i + length xs) ys
sets_append l i [] ys = ap (λ (k : ℕ). sets l k ys) (sym (add-zero i))
sets_append l i (x ∷ xs) ys = sets_append (set l i x) (suc i) xs ys ∙ ap (λ (k : ℕ). sets (sets (set l i x) (suc i) xs) k ys) (omega arith)
