-- What each return of the code gives, from what its tests and calls said: a law to a return, over the laws of one step.
-- Assumes nothing.
use Prim.Native.Nat.{ℕ, ◌+◌, ◌-◌, ◌≤◌, ◌<◌}
use native.Mathlib.Decide.{dec_lt}
use native.Mathlib.Omega.{arith}
use mathlib.Core.Path.{◌≡◌, refl, sym, ◌∙◌, ap, ap₂, subst}
use mathlib.Core.Bool.{Bool, true, false, not, ◌&&◌}
use mathlib.Core.List.{List, []}
use lib.Dec.{eqb, leb, ltb}
use lib.ListN.{length, length-set}
use borrow.Author.Tests.{eq-eqb, ne_eqb, le-leb, lt-leb, lt-ltb, le-ltb}
use Rattle.model.specs.Basics.{pick}
use Rattle.model.proofs.Picks.{no_bool}
use Rattle.model.specs.Signature.{coversb}
use Rattle.model.specs.Tables.{width_of, root_of, next_of, filed_of, signature_of}
use Rattle.model.specs.Ledger.{Report, bare}
use Rattle.model.specs.Promises.{unsound, output_after}
use Rattle.model.specs.Packed.{unpacked, Packs}
use Rattle.model.proofs.Packing.{front_word}
use Rattle.search.specs.Budget.{Budget, unfit, lent, Forking}
use Rattle.search.specs.Marks.{is_marked, mark, listed, cleared}
use Rattle.search.specs.Search.{may_mark, chain_twin, walk_twin, found_twin}
use Rattle.search.proofs.Steps.{chain_stop, chain_mark, found_empty, found_unfit, found_list}
use Rattle.search.proofs.Marks.{Went, walk_went}
use Rattle.search.proofs.Any.{walk_from_cleared, grown_long, grown_found}

-- tests joined by `and`, of which the last counts where those before it hold
pub and_yes : (v u p t : Bool) → u ≡ true → v ≡ t → u ≡ p → v ≡ (p && t)
and_yes v u p t e f g = f ∙ rw (sym g ∙ e)

pub and_no : (v u p t : Bool) → u ≡ false → v ≡ u → u ≡ p → v ≡ (p && t)
and_no v u p t e f g = f ∙ e ∙ rw (sym g ∙ e)

-- the tests of a block before its signature is read
abbrev pub may_before : List ℕ → List ℕ → ℕ → List ℕ → Bool
may_before sigs links b m = ((not (eqb b 0) && leb b (length sigs)) && not (eqb (filed_of links b) 0)) && not (is_marked m b)

within : (b n : ℕ) → leb b n ≡ not (ltb n b)
within b n = go (dec_lt n b)
  where
    go : Dec (n < b) → leb b n ≡ not (ltb n b)
    go (yes h) = rw (lt-leb b n h, lt-ltb n b h)
    go (no h) = let k : b ≤ n = omega arith in rw (le-leb b n k, le-ltb n b k)

picks_yes : (z t f k v : Bool) → ((not z && not t) && not f) && not k ≡ true → v ≡ pick z false (pick t false (pick f false (pick k false v)))
picks_yes true t f k v e = no_bool e
picks_yes false true f k v e = no_bool e
picks_yes false false true k v e = no_bool e
picks_yes false false false true v e = no_bool e
picks_yes false false false false v e = refl

picks_no : (z t f k v : Bool) → ((not z && not t) && not f) && not k ≡ false → false ≡ pick z false (pick t false (pick f false (pick k false v)))
picks_no true t f k v e = refl
picks_no false true f k v e = refl
picks_no false false true k v e = refl
picks_no false false false true v e = refl
picks_no false false false false v e = no_bool (sym e)

module _ (sigs links : List ℕ) (q b : ℕ) (m : List ℕ) where
  pub may_yes : (r : Bool) → r ≡ coversb (width_of links) (signature_of sigs b) q → may_before sigs links b m ≡ true → r ≡ may_mark sigs links q b m
  unfolding may_mark
  may_yes r d e = d ∙ picks_yes (eqb b 0) (ltb (length sigs) b) (eqb (filed_of links b) 0) (is_marked m b) _ (rw (within b (length sigs)) at e)

  pub may_no : may_before sigs links b m ≡ false → false ≡ may_mark sigs links q b m
  unfolding may_mark
  may_no e = picks_no (eqb b 0) (ltb (length sigs) b) (eqb (filed_of links b) 0) (is_marked m b) _ (rw (within b (length sigs)) at e)

-- marking a block keeps the marks' length
pub marked_long : (m m' : List ℕ) (b : ℕ) → m' ≡ mark m b → length m' ≡ length m
marked_long m m' b e = ap length e ∙ length-set m (b - 1) 1

-- a chain goes on
module _ (sigs links : List ℕ) (q n f k b : ℕ) (m : List ℕ) where
  pub chain_goes : (l' : Budget) → l' ≡ record { nodes = n; forks = f; blocks = k - 1 } → (b' : ℕ) → b' ≡ next_of links b → (m' : List ℕ) → m' ≡ mark m b
      → (b ≡ 0 → ⊥) → 0 < k → may_mark sigs links q b m ≡ true → chain_twin sigs links q n f k b m ≡ chain_twin sigs links q l'.nodes l'.forks l'.blocks b' m'
  chain_goes l' el b' eb m' em ne h may = rw (el, eb, em) (chain_mark sigs links q n f b m k ne h may)

-- a head, b, that is a block of the tables: it may be marked where it is filed, unmarked and covers the query
module _ (sigs links : List ℕ) (q n f k b : ℕ) (m : List ℕ) (from : 1 ≤ b) (to : b ≤ length sigs) where
  head : b ≡ 0 → ⊥
  head = omega arith

  pub head_unfiled : filed_of links b ≡ 0 → chain_twin sigs links q n f k b m ≡ (unfit, m)
  unfolding may_mark
  head_unfiled e = chain_stop sigs links q n f b m k head (simp (ne_eqb b 0 head, le-ltb _ _ to, eq-eqb _ _ e))

  module _ (filed : filed_of links b ≡ 0 → ⊥) where
    pub head_marked : is_marked m b ≡ true → chain_twin sigs links q n f k b m ≡ (unfit, m)
    unfolding may_mark
    head_marked e = chain_stop sigs links q n f b m k head (simp (ne_eqb b 0 head, le-ltb _ _ to, ne_eqb _ _ filed, e))

    pub head_goes : is_marked m b ≡ false → coversb (width_of links) (signature_of sigs b) q ≡ true → 0 < k → (l' : Budget) → l' ≡ record { nodes = n; forks = f; blocks = k - 1 }
        → (b' : ℕ) → b' ≡ next_of links b → (m' : List ℕ) → m' ≡ mark m b → chain_twin sigs links q n f k b m ≡ chain_twin sigs links q l'.nodes l'.forks l'.blocks b' m'
    unfolding may_mark
    head_goes e v h l' el b' eb m' em = chain_goes sigs links q n f k b m l' el b' eb m' em head h (simp (ne_eqb b 0 head, le-ltb _ _ to, ne_eqb _ _ filed, e, v))

-- marks that come back as they were handed on
pub marks_back : (o : Report) (m m' out : List ℕ) (x : Report × List ℕ × List ℕ) → m' ≡ m → (o, m, out) ≡ x → (o, m', out) ≡ x
marks_back o m m' out x e d = rw e d

-- a walk keeps the marks' length
module _ (sigs links nodes : List ℕ) (q u r : ℕ) (l l' : Budget) (m m' : List ℕ) (p : length sigs ≤ length m) (e : ◌≡◌ {A = Budget × List ℕ} (l', m') (walk_twin u sigs (unpacked links nodes) q r l m)) where
  pub still_room : length sigs ≤ length m'
  still_room =
      let as_long : length m' ≡ length m = ap (λ (o : Budget × List ℕ). length o.1) e ∙ (walk_went sigs (unpacked links nodes) q u r l m p).grown.long in
      omega arith

  -- and leaves a fork for every node
  pub still_forking : Forking l → Forking l'
  still_forking h = subst Forking (sym (ap (λ (o : Budget × List ℕ). o.0) e)) ((walk_went sigs (unpacked links nodes) q u r l m p).forking h)

-- the width and the root as the code reads them
pub walked_rows : (sigs links nodes : List ℕ) → Packs (length sigs) links nodes → (q : ℕ) (l : Budget) (z : List ℕ) (o : Budget × List ℕ)
    → o ≡ walk_twin (width_of links) sigs (unpacked links nodes) q (root_of links) l z → o ≡ walk_twin (width_of (unpacked links nodes)) sigs (unpacked links nodes) q (root_of (unpacked links nodes)) l z
walked_rows sigs links nodes P q l z o e =
    e ∙ ap₂ (λ (F r : ℕ). walk_twin F sigs (unpacked links nodes) q r l z) (sym (front_word (length sigs) links nodes P 0 (omega arith))) (sym (front_word (length sigs) links nodes P 2 (omega arith)))

-- a search that no question refuses: z is the cleared marks, l₀ what is lent, w what the walk leaves
module _ (sigs links : List ℕ) (q : ℕ) (m out z : List ℕ) (c : z ≡ cleared (length sigs) m) (o : Report) where
  pub find_empty : o ≡ bare 0 → root_of links ≡ 0 → (o, z, out) ≡ found_twin sigs links q m out
  find_empty e h = rw e (found_empty sigs links q m out z c h)

  module _ (l₀ : Budget) (e₀ : l₀ ≡ lent (length sigs)) (w : Budget) (m₁ : List ℕ)
      (e : ◌≡◌ {A = Budget × List ℕ} (w, m₁) (walk_twin (width_of links) sigs links q (root_of links) l₀ z)) where
    walked : ◌≡◌ {A = Budget × List ℕ} (w, m₁) (walk_twin (width_of links) sigs links q (root_of links) (lent (length sigs)) z)
    walked = rw e₀ at e

    pub find_unfit : o ≡ bare unsound → (root_of links ≡ 0 → ⊥) → w.forks ≡ 0 → (o, m₁, out) ≡ found_twin sigs links q m out
    find_unfit eo h f = rw eo (found_unfit sigs links q m out z c w m₁ h walked f)

    pub find_list : (root_of links ≡ 0 → ⊥) → (w.forks ≡ 0 → ⊥)
        → o ≡ record { answer = 0; found = length sigs - w.blocks; compares = length sigs - w.forks + 1; bits = length sigs - 1 - w.nodes }
        → (out' : List ℕ) → out' ≡ output_after (listed (length sigs) m₁) out → (o, m₁, out') ≡ found_twin sigs links q m out
    find_list h f eo out' e' = rw (eo, e') (found_list sigs links q m out z c w m₁ h walked f)

-- what is lent has a fork for every node
pub lent_forking : (B : ℕ) (l : Budget) → l ≡ lent B → Forking l
lent_forking B l e = rw e (omega arith)

-- what a walk from cleared marks leaves of each, and how many blocks are marked
module _ (sigs links : List ℕ) (q : ℕ) (m z : List ℕ) (c : z ≡ cleared (length sigs) m) (l₀ : Budget) (e₀ : l₀ ≡ lent (length sigs)) (w : Budget) (m₁ : List ℕ)
    (e : ◌≡◌ {A = Budget × List ℕ} (w, m₁) (walk_twin (width_of links) sigs links q (root_of links) l₀ z)) (le : length sigs ≤ length m) where
  went : Went sigs links q (lent (length sigs)) (cleared (length sigs) m) (w, m₁)
  went = rw (e, e₀, c) (walk_from_cleared sigs links q m [] le)

  pub walk_few : (w.nodes ≤ length sigs - 1) × (w.forks ≤ length sigs)
  walk_few = (went.few_nodes, went.few_forks)

  pub walk_found : (w.forks ≡ 0 → ⊥) → (w.blocks ≤ length sigs) × (length sigs ≤ length m₁) × (length sigs - w.blocks ≡ length (listed (length sigs) m₁))
  walk_found f =
      let s = went.spent (omega arith) in
      (omega arith, omega (arith, grown_long sigs links q m [] le m₁ went.many went.grown), rw (grown_found sigs links q m [] le m₁ went.many went.grown) (omega arith))

-- what is used of B where x, read as y, is left
pub used_read : (B x y r : ℕ) → r ≡ B - x → x ≡ y → r ≡ B - y
used_read B x y r e d = rw d at e

pub report_same : (f f' c c' b b' : ℕ) → f ≡ f' → c ≡ c' → b ≡ b' → ◌≡◌ {A = Report} (record { answer = 0; found = f; compares = c; bits = b }) (record { answer = 0; found = f'; compares = c'; bits = b' })
report_same f f' c c' b b' ef ec eb = rw (ef, ec, eb)
