-- A search that no question refuses, on any tables: it lists matching blocks within its bounds, or it stops with 11. The walk starts
-- from cleared marks and only marks matching blocks, one block of its budget each.
-- Assumes nothing.
use Prim.Native.Nat.{ℕ, ◌+◌, ◌-◌, ◌≤◌, ◌<◌}
use native.Mathlib.Omega.{arith}
use mathlib.Core.Path.{◌≡◌, refl, sym, ◌∙◌, ap}
use mathlib.Core.Logic.{◌⊎◌, inl, inr, ⊎_elim}
use mathlib.Core.Bool.{Bool, true, false}
use mathlib.Core.List.Memᴰ
use mathlib.Core.List.{List, [], Memᴰ}
use lib.Dec.{eqb}
use lib.ListN.{length, get_or, drop, replicate, length-append, length-replicate, length-drop, get_or-replicate, get_or-append}
use lib.Seq.{ext_get_or, get_or-drop, drop_at}
use borrow.Author.Tests.{eqb-false, ne_eqb}
use Rattle.model.specs.Basics.{pick, up_from}
use Rattle.model.specs.Tables.{width_of, root_of}
use Rattle.model.specs.Ledger.{Report, bare}
use Rattle.model.specs.Promises.{unsound, marks_after, Matches, Listing, GivenUp}
use Rattle.search.specs.Budget.{Budget, lent}
use Rattle.search.specs.Marks.{is_marked, listed, cleared}
use Rattle.search.specs.Search.{walk_twin, list_twin, found_twin}
use Rattle.model.proofs.Keep.{keep_none, up_from_range}
use Rattle.search.proofs.Keeps.{kept_ascends}
use Rattle.search.proofs.Marks.{Grown, grown_none, Went, walk_went}
use Rattle.search.proofs.Listed.{listed_in, marks_are}

pub cleared_at : (B : ℕ) (m : List ℕ) (i : ℕ) → i < B → get_or (cleared B m) i 0 ≡ 0
cleared_at B m i lt =
    let l : i < length (replicate {A = ℕ} B 0) = omega (arith, length-replicate {A = ℕ} B 0) in
    get_or-append (replicate B 0) (drop B m) 0 i l ∙ get_or-replicate B i 0 0 lt

pub cleared_long : (B : ℕ) (m : List ℕ) → B ≤ length m → length (cleared B m) ≡ length m
cleared_long B m le = omega (arith, length-append (replicate B 0) (drop B m), length-replicate {A = ℕ} B 0, length-drop B m)

pub cleared_drop : (B : ℕ) (m : List ℕ) → drop B (cleared B m) ≡ drop B m
cleared_drop B m = drop_at (replicate B 0) (drop B m) B (length-replicate {A = ℕ} B 0)

-- marks of 0 list nothing
pub listed_none : (m : List ℕ) (k : ℕ) → ((i : ℕ) → i < k → get_or m i 0 ≡ 0) → listed k m ≡ []
listed_none m k z = keep_none (is_marked m) (up_from k 1) (λ b n. let h = up_from_range k 1 b n in ne_eqb (get_or m (b - 1) 0) 1 (omega (arith, z (b - 1) (omega arith))))

module _ (sigs links : List ℕ) (q : ℕ) (m out : List ℕ) (le : length sigs ≤ length m) where
  -- marks grown from cleared ones
  module _ (m' : List ℕ) (f : ℕ) (g : Grown sigs links q (cleared (length sigs) m) m' f) where
    pub grown_long : length m' ≡ length m
    grown_long = g.long ∙ cleared_long (length sigs) m le

    pub grown_beyond : drop (length sigs) m' ≡ drop (length sigs) m
    grown_beyond =
        ext_get_or 0 (drop (length sigs) m') (drop (length sigs) (cleared (length sigs) m))
        (length-drop (length sigs) m' ∙ ap (λ (n : ℕ). n - length sigs) g.long ∙ sym (length-drop (length sigs) (cleared (length sigs) m)))
        (λ i l. get_or-drop (length sigs) m' i 0 ∙ ⊎_elim (λ e. e) (λ p. absurd (omega (arith, p.2.to))) (g.each (length sigs + i)) ∙ sym (get_or-drop (length sigs) (cleared (length sigs) m) i 0))
        ∙ cleared_drop (length sigs) m

    pub grown_marks : m' ≡ marks_after (length sigs) (listed (length sigs) m') m
    grown_marks = marks_are (length sigs) m m' (omega (arith, grown_long)) grown_beyond
        (λ i l. ⊎_elim (λ e. inl (e ∙ cleared_at (length sigs) m i l)) (λ p. inr p.1) (g.each i))

    pub grown_matches : (b : ℕ) → Memᴰ b (listed (length sigs) m') → Matches sigs links q b
    grown_matches b n =
        let p = listed_in (length sigs) m' b n in
        let low = p.0 in
        let high = p.1 in
        let d : b - 1 + 1 ≡ b = omega arith in
        ⊎_elim (λ e. absurd (omega (arith, e, p.2, cleared_at (length sigs) m (b - 1) (omega arith)))) (λ r. rw d at r.2) (g.each (b - 1))

    pub grown_found : length (listed (length sigs) m') ≡ f
    grown_found = g.more ∙ ap (λ (l : List ℕ). length l + f) (listed_none (cleared (length sigs) m) (length sigs) (cleared_at (length sigs) m)) ∙ omega arith

  abbrev Either : Report × List ℕ × List ℕ → Type 0
  Either o = Listing sigs links q m out o.0 o.1 o.2 ⊎ GivenUp sigs m out o.0 o.1 o.2

  either : (w : Budget × List ℕ) → Went sigs links q (lent (length sigs)) (cleared (length sigs) m) w → (t u : Bool) → eqb w.0.forks 0 ≡ u
      → Either (pick t (bare 0, cleared (length sigs) m, out) (pick u (bare unsound, w.1, out) (list_twin (length sigs) w out)))
  either w g true u e =
      let z = cleared (length sigs) m in
      let none : listed (length sigs) z ≡ [] = listed_none z (length sigs) (cleared_at (length sigs) m) in
      inl (record {
        zero = refl;
        list = [];
        matches = λ b n. absurd (Memᴰ.not-nil n);
        ascending = tt;
        found = refl;
        few_compares = omega arith;
        few_nodes = omega arith;
        marked = grown_marks z 0 (grown_none sigs links q z) ∙ ap (λ (l : List ℕ). marks_after (length sigs) l m) none;
        written = refl;
      })
  either w g false true e = inr (record {
    eleven = refl;
    long = grown_long w.1 g.many g.grown;
    beyond = grown_beyond w.1 g.many g.grown;
    written = refl;
  })
  either w g false false e =
      let some = eqb-false w.0.forks 0 e in
      inl (record {
        zero = refl;
        list = listed (length sigs) w.1;
        matches = grown_matches w.1 g.many g.grown;
        ascending = kept_ascends (is_marked w.1) (length sigs) 1;
        found = omega (arith, g.spent (omega arith), grown_found w.1 g.many g.grown);
        few_compares = omega arith;
        few_nodes = omega arith;
        marked = grown_marks w.1 g.many g.grown;
        written = refl;
      })

  -- what a walk from cleared marks does
  pub walk_from_cleared : Went sigs links q (lent (length sigs)) (cleared (length sigs) m) (walk_twin (width_of links) sigs links q (root_of links) (lent (length sigs)) (cleared (length sigs) m))
  walk_from_cleared = walk_went sigs links q (width_of links) (root_of links) (lent (length sigs)) (cleared (length sigs) m) (omega (arith, cleared_long (length sigs) m le))

  pub lists_or_stops : Either (found_twin sigs links q m out)
  unfolding found_twin
  lists_or_stops = either _ walk_from_cleared (eqb (root_of links) 0) _ refl
