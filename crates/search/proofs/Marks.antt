-- What a walk does to the marks and to its budget, on any tables: each mark stays, or is set at a block that is filed and covers the
-- query, and each set mark is one block of the budget. A step that fails changes no mark, so this holds of every walk by recursion.
-- Assumes nothing.
use Prim.Native.Nat.{ℕ, zero, suc, ◌+◌, ◌-◌, ◌≤◌, ◌<◌}
use native.Mathlib.Decide.{ℕ_discrete}
use native.Mathlib.Omega.{arith}
use mathlib.Core.Path.{◌≡◌, refl, sym, ◌∙◌}
use mathlib.Core.Logic.{◌⊎◌, inl, inr, ⊎_elim, ◌≢◌}
use mathlib.Core.Bool.{Bool, true, false}
use mathlib.Core.List.{List, [], ◌∷◌}
use lib.Dec.{eqb, leb, ltb}
use lib.ListN.{length, get_or, length-set, length-append}
use lib.Seq.{get_or-set_same, get_or-set_other}
use borrow.Author.Tests.{eqb-false, eq-eqb, ltb-false}
use Rattle.model.specs.Basics.{pick}
use Rattle.model.specs.Signature.{coversb}
use Rattle.model.specs.Tables.{width_of, next_of, filed_of, position_of, left_of, right_of, signature_of}
use Rattle.model.specs.Promises.{Matches}
use Rattle.model.proofs.Picks.{pick_false}
use Rattle.search.specs.Budget.{Budget, unfit, node_less, fork_less, Forking}
use Rattle.search.specs.Marks.{is_marked, mark, listed}
use Rattle.search.specs.Search.{may_mark, chain_step, chain_twin, leaf_twin, side_at, right_first, in_turn, node_twin, walk_twin}
use Rattle.search.proofs.Keeps.{keep_empty, keep_last}

-- a block that may be marked is not marked, and matches
pub may_matches : (sigs links : List ℕ) (q b : ℕ) (m : List ℕ) → may_mark sigs links q b m ≡ true → (is_marked m b ≡ false) × Matches sigs links q b
unfolding may_mark
may_matches sigs links q b m e =
    let p = pick_false (eqb b 0) _ e in
    let p2 = pick_false (ltb (length sigs) b) _ p.1 in
    let p3 = pick_false (eqb (filed_of links b) 0) _ p2.1 in
    let p4 = pick_false (is_marked m b) _ p3.1 in
    let ne = eqb-false b 0 p.0 in
    (p4.0, record { from = omega arith; to = ltb-false (length sigs) b p2.0; filed = eqb-false _ _ p3.0; covers = p4.1 })

-- the list after a mark past it, and after one among its blocks
listed_past : (m : List ℕ) (b k : ℕ) → k < b → listed k (mark m b) ≡ listed k m
listed_past m b zero le = keep_empty (is_marked (mark m b)) ∙ sym (keep_empty (is_marked m))
listed_past m b (suc k) le =
    let h : suc k - 1 ≢ b - 1 = omega arith in
    keep_last (is_marked (mark m b)) k
    ∙ (rw (listed_past m b k (omega arith), get_or-set_other m (b - 1) (suc k - 1) 1 0 h))
    ∙ sym (keep_last (is_marked m) k)

pick_length : (t : Bool) (x : ℕ) → length (pick t (x ∷ []) []) ≡ pick t 1 0
pick_length true x = refl
pick_length false x = refl

listed_count : (m : List ℕ) (k : ℕ) → length (listed (suc k) m) ≡ length (listed k m) + pick (is_marked m (suc k)) 1 0
listed_count m k = rw (keep_last (is_marked m) k, length-append, pick_length)

mark_here : (m : List ℕ) (b : ℕ) → b - 1 < length m → is_marked (mark m b) b ≡ true
mark_here m b h = eq-eqb _ _ (get_or-set_same m (b - 1) 1 0 h)

mark_counts : (m : List ℕ) (b k : ℕ) → 1 ≤ b → b ≤ k → b - 1 < length m → is_marked m b ≡ false → length (listed k (mark m b)) ≡ length (listed k m) + 1
mark_counts m b zero h le len e = absurd (omega arith)
mark_counts m b (suc k) h le len e = go (λ l. mark_counts m b k h l len e) (ℕ_discrete b (suc k))
  where
    go : (b ≤ k → length (listed k (mark m b)) ≡ length (listed k m) + 1) → Dec (b ≡ suc k) → length (listed (suc k) (mark m b)) ≡ length (listed (suc k) m) + 1
    go ih (yes d) =
        let y : is_marked (mark m b) (suc k) ≡ true = rw (← d) (mark_here m b len) in
        let n : is_marked m (suc k) ≡ false = rw (← d) e in
        rw (listed_count (mark m b) k, listed_count m k, listed_past m b k (omega arith), y, n) (omega arith)
    go ih (no d) =
        let o : suc k - 1 ≢ b - 1 = omega arith in
        rw (listed_count (mark m b) k, listed_count m k, ih (omega arith), get_or-set_other m (b - 1) (suc k - 1) 1 0 o) (omega arith)

module _ (sigs links : List ℕ) (q : ℕ) where
  -- m' is m with f more blocks marked, each of them matching and none marked before
  pub record Grown (m m' : List ℕ) (f : ℕ) : Type 0 where
    pub long : length m' ≡ length m
    pub each : (i : ℕ) → (get_or m' i 0 ≡ get_or m i 0) ⊎ ((get_or m i 0 ≢ 1) × (get_or m' i 0 ≡ 1) × Matches sigs links q (i + 1))
    pub more : length (listed (length sigs) m') ≡ length (listed (length sigs) m) + f

  pub grown_none : (m : List ℕ) → Grown m m 0
  grown_none m = record { long = refl; each = λ i. inl refl; more = omega arith }

  grown_then : (m m₁ m₂ : List ℕ) (f g : ℕ) → Grown m m₁ f → Grown m₁ m₂ g → Grown m m₂ (f + g)
  grown_then m m₁ m₂ f g a b = record {
    long = b.long ∙ a.long;
    each = λ i. ⊎_elim
        (λ e. ⊎_elim (λ d. inl (e ∙ d)) (λ d. inr (d.0, e ∙ d.1, d.2)) (a.each i))
        (λ e. ⊎_elim (λ d. inr ((λ x. e.0 (d ∙ x)), e.1, e.2)) (λ d. absurd (e.0 d.1)) (a.each i))
        (b.each i);
    more = omega (arith, a.more, b.more);
  }

  grown_mark : (m : List ℕ) (b : ℕ) → length sigs ≤ length m → may_mark sigs links q b m ≡ true → Grown m (mark m b) 1
  grown_mark m b le e =
      let p = may_matches sigs links q b m e in
      let low = p.1.from in
      let high = p.1.to in
      let len : b - 1 < length m = omega arith in
      let d : b - 1 + 1 ≡ b = omega arith in
      record {
        long = length-set m (b - 1) 1;
        each = λ i. go len (eqb-false _ _ p.0) (rw d p.1) i (ℕ_discrete i (b - 1));
        more = mark_counts m b (length sigs) low high len p.0;
      }
    where
      go : b - 1 < length m → get_or m (b - 1) 0 ≢ 1 → Matches sigs links q (b - 1 + 1) → (i : ℕ) → Dec (i ≡ b - 1)
          → (get_or (mark m b) i 0 ≡ get_or m i 0) ⊎ ((get_or m i 0 ≢ 1) × (get_or (mark m b) i 0 ≡ 1) × Matches sigs links q (i + 1))
      go len z fit i (yes h) = rw h (inr (z, get_or-set_same m (b - 1) 1 0 len, fit))
      go len z fit i (no h) = inl (get_or-set_other m (b - 1) i 1 0 h)

  -- what a step that was lent l may leave
  pub record Went (l : Budget) (m : List ℕ) (o : Budget × List ℕ) : Type 0 where
    pub few_nodes : o.0.nodes ≤ l.nodes
    pub few_forks : o.0.forks ≤ l.forks
    pub forking : Forking l → Forking o.0
    pub many : ℕ
    pub grown : Grown m o.1 many
    pub spent : 1 ≤ o.0.forks → many + o.0.blocks ≡ l.blocks

  went_unfit : (l : Budget) (m : List ℕ) → Went l m (unfit, m)
  went_unfit l m = record { few_nodes = omega arith; few_forks = omega arith; forking = λ h. omega arith; many = 0; grown = grown_none m; spent = λ h. absurd (omega arith) }

  went_none : (l : Budget) (m : List ℕ) → Went l m (l, m)
  went_none l m = record { few_nodes = omega arith; few_forks = omega arith; forking = λ h. h; many = 0; grown = grown_none m; spent = λ h. omega arith }

  went_pick : (l : Budget) (m : List ℕ) (t : Bool) (a b : Budget × List ℕ) → Went l m a → Went l m b → Went l m (pick t a b)
  went_pick l m true a b g h = g
  went_pick l m false a b g h = h

  -- a chain
  module _ (n f : ℕ) where
    abbrev Left : ℕ → Budget
    Left k = record { nodes = n; forks = f; blocks = k }

    step_went : (again : ℕ → List ℕ → Budget × List ℕ) (k b next : ℕ) (m : List ℕ) → length sigs ≤ length m
        → ((b : ℕ) (m : List ℕ) → length sigs ≤ length m → Went (Left k) m (again b m))
        → (t u : Bool) → may_mark sigs links q b m ≡ u → Went (Left (suc k)) m (chain_step again t u next (Left (suc k)) b m)
    step_went again k b next m le ih true u e = went_none (Left (suc k)) m
    step_went again k b next m le ih false true e =
        let one = grown_mark m b le e in
        let r = ih next (mark m b) (omega (arith, one.long)) in
        record {
          few_nodes = r.few_nodes;
          few_forks = r.few_forks;
          forking = r.forking;
          many = 1 + r.many;
          grown = grown_then m _ _ 1 r.many one r.grown;
          spent = λ h. omega (arith, r.spent h);
        }
    step_went again k b next m le ih false false e = went_unfit (Left (suc k)) m

    chain_went : (k b : ℕ) (m : List ℕ) → length sigs ≤ length m → Went (Left k) m (chain_twin sigs links q n f k b m)
    unfolding chain_twin
    chain_went zero b m le = went_pick (Left 0) m (eqb b 0) _ _ (went_none (Left 0) m) (went_unfit (Left 0) m)
    chain_went (suc k) b m le = step_went (chain_twin sigs links q n f k) k b (next_of links b) m le (chain_went k) (eqb b 0) (may_mark sigs links q b m) refl

  leaf_went : (r : ℕ) (l : Budget) (m : List ℕ) → length sigs ≤ length m → Went l m (leaf_twin sigs links q r l m)
  unfolding leaf_twin
  leaf_went r l m le =
      went_pick l m (eqb r 0) _ _ (went_unfit l m)
      (went_pick l m (coversb (width_of links) (signature_of sigs r) q) _ _ (chain_went l.nodes l.forks l.blocks r m le) (went_none l m))

  -- from a budget that has a node less, and maybe a fork
  went_less : (l l' : Budget) (m : List ℕ) (o : Budget × List ℕ) → l'.nodes ≤ l.nodes → l'.forks ≤ l.forks → (Forking l → Forking l') → l'.blocks ≡ l.blocks → Went l' m o → Went l m o
  went_less l l' m o hn hf g e w = record {
    few_nodes = omega (arith, w.few_nodes);
    few_forks = omega (arith, w.few_forks);
    forking = λ h. w.forking (g h);
    many = w.many;
    grown = w.grown;
    spent = λ h. w.spent h ∙ e;
  }

  -- a node, where `again` keeps to its budget
  module _ (again : ℕ → Budget → List ℕ → Budget × List ℕ) (ih : (r : ℕ) (l : Budget) (m : List ℕ) → length sigs ≤ length m → Went l m (again r l m)) where
    turn_went : (x y : ℕ) (l : Budget) (m : List ℕ) → length sigs ≤ length m → Went l m (in_turn again x y l m)
    turn_went x y l m le =
        let a = again x l m in
        let g = ih x l m le in
        let h = ih y a.0 a.1 (omega (arith, g.grown.long)) in
        record {
          few_nodes = omega (arith, g.few_nodes, h.few_nodes);
          few_forks = omega (arith, g.few_forks, h.few_forks);
          forking = λ e. h.forking (g.forking e);
          many = g.many + h.many;
          grown = grown_then m a.1 _ g.many h.many g.grown h.grown;
          spent = λ e. omega (arith, h.spent e, g.spent (omega (arith, h.few_forks)));
        }

    node_went : (F B p x y : ℕ) (l : Budget) (m : List ℕ) → length sigs ≤ length m → Went l m (node_twin again F B q p x y l m)
    node_went F B p x y l m le =
        went_pick l m (eqb l.nodes 0) _ _ (went_unfit l m)
        (went_pick l m (eqb (side_at F q p) 1) _ _
        (went_less l (node_less l) m _ (omega arith) (omega arith) (λ h. omega arith) refl (ih y (node_less l) m le))
        (went_less l (fork_less l) m _ (omega arith) (omega arith) (λ h. omega arith) refl
        (went_pick (fork_less l) m (right_first B x y) _ _ (turn_went y x (fork_less l) m le) (turn_went x y (fork_less l) m le))))

  pub walk_went : (u r : ℕ) (l : Budget) (m : List ℕ) → length sigs ≤ length m → Went l m (walk_twin u sigs links q r l m)
  unfolding walk_twin
  walk_went zero r l m le = went_pick l m (leb r (length sigs)) _ _ (leaf_went r l m le) (went_unfit l m)
  walk_went (suc u) r l m le =
      went_pick l m (leb r (length sigs)) _ _ (leaf_went r l m le)
      (went_pick l m (leb (length sigs) (r - length sigs)) _ _ (went_unfit l m) (node_went (walk_twin u sigs links q) (walk_went u) (width_of links) (length sigs) (position_of (length sigs) links (r - length sigs)) (left_of (length sigs) links (r - length sigs)) (right_of (length sigs) links (r - length sigs)) l m le))
