-- The words of a text are exactly its longest runs, ascending and disjoint, and together all bytes other than separators. The pass
-- finds a run each time one ends, and two longest runs that hold one byte are the same.
-- Assumes nothing.
use mathlib.Core.Path.{◌≡◌, refl, sym, ap, ap₂, ◌∙◌, subst}
use mathlib.Core.Bool.{Bool, true, false, cond}
use mathlib.Core.List.Memᴰ
use mathlib.Core.List.{List, [], ◌∷◌, Memᴰ}
use mathlib.Core.Logic.{◌⊎◌, inl, inr}
use Prim.Native.Nat.{ℕ, zero, suc, ◌+◌, ◌-◌, ◌≤◌, ◌<◌}
use native.Mathlib.Nat.{le_antisymm}
use native.Mathlib.Decide.{dec_lt, ℕ_discrete}
use native.Mathlib.Omega.{arith}
use lib.ListN.{length, drop, get_or}
use lib.Seq.{drop-cons, drop-length}
use Rattle.model.specs.Words.{Part, separator, ended, scan, parts_of}
use Rattle.model.proofs.Asking.{true_false}
use Rattle.words.specs.Runs.{Inner, LongestRun, Held, Apart, AreRuns}

apart_from : (m n : ℕ) (ps : List Part) → m ≤ n → Apart n ps → Apart m ps
apart_from m n [] h a = tt
apart_from m n (p ∷ ps) h a =
    let l : n ≤ p.start = a.0 in
    (omega arith, a.1)

-- some places are what is to be found from byte s on
record Found (text : List ℕ) (s : ℕ) (ps : List Part) : Type 0 where
  runs : (p : Part) → Memᴰ p ps → LongestRun text p
  all : (i : ℕ) → s ≤ i → i < length text → separator (get_or text i 0) ≡ false → Held i ps
  apart : Apart s ps

-- a run of n bytes that starts at s has ended: at the end of the text, or in front of a byte between words
ended_found : (text : List ℕ) (s n : ℕ) (ps : List Part)
    → s + n ≤ length text
    → ((i : ℕ) → s ≤ i → i < s + n → separator (get_or text i 0) ≡ false)
    → (1 ≤ s → separator (get_or text (s - 1) 0) ≡ true)
    → (s + n < length text → separator (get_or text (s + n) 0) ≡ true)
    → Found text (suc (s + n)) ps
    → Found text s (ended s n ps)
unfolding ended
ended_found text s zero ps fits bytes before after f =
    record {
      runs = f.runs;
      all = λ i l h g. other i l h g (ℕ_discrete i s);
      apart = apart_from s (suc (s + 0)) ps (omega arith) f.apart;
    }
  where
    other : (i : ℕ) → s ≤ i → i < length text → separator (get_or text i 0) ≡ false → Dec (i ≡ s) → Held i ps
    other i l h g (yes e) =
        let e' : s + 0 ≡ i = omega arith in
        true_false (ap (λ (k : ℕ). separator (get_or text k 0)) (sym e') ∙ after (omega arith)) g
    other i l h g (no n) = f.all i (omega arith) h g
ended_found text s (suc n) ps fits bytes before after f =
    record {
      runs = one;
      all = λ i l h g. other i l h g (dec_lt i (s + suc n)) (ℕ_discrete i (s + suc n));
      apart = (omega arith, f.apart);
    }
  where
    one : (p : Part) → Memᴰ p (record { start = s; size = suc n } ∷ ps) → LongestRun text p
    one p o = pick (Memᴰ.cases_cons o)
      where
        pick : (p ≡ record { start = s; size = suc n }) ⊎ Memᴰ p ps → LongestRun text p
        pick (inl e) = subst (LongestRun text) (sym e) (record { some = omega arith; inside = fits; bytes = bytes; before = before; after = after })
        pick (inr m) = f.runs p m

    other : (i : ℕ) → s ≤ i → i < length text → separator (get_or text i 0) ≡ false → Dec (i < s + suc n) → Dec (i ≡ s + suc n) → Held i (record { start = s; size = suc n } ∷ ps)
    other i l h g (yes k) d = inl (l, k)
    other i l h g (no k) (yes e) =
        let h' : s + suc n < length text = omega arith in
        true_false (ap (λ (x : ℕ). separator (get_or text x 0)) e ∙ after h') g
    other i l h g (no k) (no n') = inr (f.all i (omega arith) h g)

-- the pass, m bytes before the end
found : (text : List ℕ) (m s n : ℕ)
    → s + n + m ≡ length text
    → ((i : ℕ) → s ≤ i → i < s + n → separator (get_or text i 0) ≡ false)
    → (1 ≤ s → separator (get_or text (s - 1) 0) ≡ true)
    → Found text s (scan s n (drop (s + n) text))
unfolding scan
found text zero s n e bytes before =
    let all : s + n ≡ length text = omega arith in
    let none : drop (s + n) text ≡ [] = ap (λ (k : ℕ). drop k text) all ∙ drop-length text in
    subst (λ (l : List ℕ). Found text s (scan s n l)) (sym none)
    (ended_found text s n [] (omega arith) bytes before (λ h. absurd (omega arith))
    (record { runs = λ p o. absurd (Memᴰ.not-nil o); all = λ i l h g. absurd (omega arith); apart = tt }))
found text (suc m) s n e bytes before =
    subst (λ (l : List ℕ). Found text s (scan s n l)) (sym (drop-cons text (s + n) 0 (omega arith)))
    (go (separator (get_or text (s + n) 0)) refl
    (λ g. found text m (suc (s + n)) 0 (omega arith) (λ i l h. absurd (omega arith)) (λ h. ap (λ (k : ℕ). separator (get_or text k 0)) (omega arith) ∙ g))
    (λ g. found text m s (suc n) (omega arith) (longer g) before))
  where
    longer : separator (get_or text (s + n) 0) ≡ false → (i : ℕ) → s ≤ i → i < s + suc n → separator (get_or text i 0) ≡ false
    longer g i l h = pick (dec_lt i (s + n))
      where
        pick : Dec (i < s + n) → separator (get_or text i 0) ≡ false
        pick (yes k) = bytes i l k
        pick (no k) =
            let e' : i ≡ s + n = omega arith in
            ap (λ (x : ℕ). separator (get_or text x 0)) e' ∙ g

    go : (t : Bool) → separator (get_or text (s + n) 0) ≡ t
        → (separator (get_or text (s + n) 0) ≡ true → Found text (suc (s + n)) (scan (suc (s + n)) 0 (drop (suc (s + n) + 0) text)))
        → (separator (get_or text (s + n) 0) ≡ false → Found text s (scan s (suc n) (drop (s + suc n) text)))
        → Found text s (cond t (ended s n (scan (suc (s + n)) 0 (drop (suc (s + n)) text))) (scan s (suc n) (drop (suc (s + n)) text)))
    go true g next more =
        let z : suc (s + n) + 0 ≡ suc (s + n) = omega arith in
        ended_found text s n (scan (suc (s + n)) 0 (drop (suc (s + n)) text)) (omega arith) bytes before (λ h. g)
        (subst (λ (k : ℕ). Found text (suc (s + n)) (scan (suc (s + n)) 0 (drop k text))) z (next g))
    go false g next more =
        let z : s + suc n ≡ suc (s + n) = omega arith in
        subst (λ (k : ℕ). Found text s (scan s (suc n) (drop k text))) z (more g)

whole : (text : List ℕ) → Found text 0 (parts_of text)
unfolding parts_of
whole text = found text (length text) 0 0 (omega arith) (λ i l h. absurd (omega arith)) (λ h. absurd (omega arith))

abbrev part_at : ℕ → ℕ → Part
part_at a b = record { start = a; size = b }

-- two longest runs that hold one byte are the same
start_le : (text : List ℕ) (i : ℕ) (p q : Part) → LongestRun text p → LongestRun text q → p.start ≤ i → i < q.start + q.size → p.start ≤ q.start
start_le text i p q x y hp hq = go (dec_lt q.start p.start)
  where
    go : Dec (q.start < p.start) → p.start ≤ q.start
    go (no k) = omega arith
    go (yes k) = true_false (x.before (omega arith)) (y.bytes (p.start - 1) (omega arith) (omega arith))

end_le : (text : List ℕ) (i : ℕ) (p q : Part) → LongestRun text p → LongestRun text q → p.start ≤ i → i < q.start + q.size → i < p.start + p.size
    → q.start ≤ i → q.start + q.size ≤ p.start + p.size
end_le text i p q x y hp hq hp' hq' = go (dec_lt (p.start + p.size) (q.start + q.size))
  where
    go : Dec (p.start + p.size < q.start + q.size) → q.start + q.size ≤ p.start + p.size
    go (no k) = omega arith
    go (yes k) = true_false (x.after (omega (arith, y.inside))) (y.bytes (p.start + p.size) (omega arith) k)

pub run_unique : (text : List ℕ) (i : ℕ) (p q : Part) → LongestRun text p → LongestRun text q
    → (p.start ≤ i) × (i < p.start + p.size) → (q.start ≤ i) × (i < q.start + q.size) → p ≡ q
run_unique text i p q x y hp hq =
    let e : p.start ≡ q.start = le_antisymm (start_le text i p q x y hp.0 hq.1) (start_le text i q p y x hq.0 hp.1) in
    let f : q.start + q.size ≡ p.start + p.size = le_antisymm (end_le text i p q x y hp.0 hq.1 hp.1 hq.0) (end_le text i q p y x hq.0 hp.1 hq.1 hp.0) in
    let g : p.size ≡ q.size = omega arith in
    ap₂ part_at e g

-- each longest run is among parts that are longest runs and hold its first byte
run_among : (text : List ℕ) (p : Part) → LongestRun text p → (ps : List Part) → ((q : Part) → Memᴰ q ps → LongestRun text q)
    → Held p.start ps → Memᴰ p ps
run_among text p x [] r h = absurd h
run_among text p x (q ∷ qs) r (inl h) =
    Memᴰ.head (run_unique text p.start p q x (r q (Memᴰ.head refl)) (omega arith, omega (arith, x.some)) h)
run_among text p x (q ∷ qs) r (inr h) = Memᴰ.tail (run_among text p x qs (λ u o. r u (Memᴰ.tail o)) h)

-- a byte that longest runs hold is no separator
held_inner : (text : List ℕ) (i : ℕ) (ps : List Part) → ((q : Part) → Memᴰ q ps → LongestRun text q) → Held i ps → Inner text i
held_inner text i [] r h = absurd h
held_inner text i (p ∷ ps) r (inl h) =
    let x = r p (Memᴰ.head refl) in
    let l = h.1 in
    record { inside = omega (arith, x.inside); other = x.bytes i h.0 h.1 }
held_inner text i (p ∷ ps) r (inr h) = held_inner text i ps (λ q o. r q (Memᴰ.tail o)) h

-- the words of a text are exactly its longest runs
pub words_are_runs : (text : List ℕ) → AreRuns text (parts_of text)
words_are_runs text =
    let w = whole text in
    record {
      runs = λ p. (w.runs p, λ x. run_among text p x (parts_of text) w.runs (w.all p.start (omega arith) (omega (arith, x.some, x.inside)) (x.bytes p.start (omega arith) (omega (arith, x.some)))));
      bytes = λ i. (held_inner text i (parts_of text) w.runs, λ x. w.all i (omega arith) x.inside x.other);
      apart = w.apart;
    }
