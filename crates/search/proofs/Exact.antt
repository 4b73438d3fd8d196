-- A search of sound tables: 0, the ledger's matching blocks, and the compares and nodes of the plain tree. The walk of the tables'
-- shape stays within what it is lent, and marks the chains' blocks that cover the query; every filed block is on a chain.
-- Assumes nothing.
use Prim.Native.Nat.{ℕ, ◌+◌, ◌-◌, ◌≤◌, ◌<◌}
use native.Mathlib.Decide.{ℕ_discrete}
use native.Mathlib.Omega.{arith}
use mathlib.Core.Path.{◌≡◌, refl, sym, ◌∙◌, ap, subst}
use mathlib.Core.Logic.{◌⊎◌, inl, inr, ⊎_elim, ◌≢◌}
use mathlib.Core.Bool.{Bool, true, false, not, ◌&&◌}
use mathlib.Core.List.{List, [], ◌∷◌, Memᴰ}
use lib.Dec.{eqb}
use lib.ListN.{length, get_or, length-set}
use lib.Seq.{get_or-set_same, get_or-set_other}
use borrow.Author.Tests.{eqb-true, eqb-false, eq-eqb, ne_eqb}
use Rattle.model.specs.Basics.{up_from}
use Rattle.model.specs.Signature.{coversb}
use Rattle.model.specs.Tree.{Tree, nothing, compared, nodes_read}
use Rattle.model.specs.Tables.{width_of, root_of, filed_of, signature_of, tree_of}
use Rattle.model.specs.Sound.{Shape, tip, fork, Rooted, none, some, HoldsRoot, PlacedRoot, Holds, Placed, blocks, blocks_in, Sound}
use Rattle.model.specs.Ledger.{Report, ledger_of, matching}
use Rattle.model.specs.Promises.{marks_after, output_after, search_report}
use Rattle.model.proofs.Keep.{keep_cong, up_from_range}
use Rattle.model.proofs.Pigeon.{Distinct}
use Rattle.tables.proofs.Shapes.{blocks_range, blocks_placed}
use Rattle.tables.proofs.Trees.{shape_tree, tree_rooted, tree_of_sound, depth_root}
use Rattle.search.specs.Budget.{Budget, lent}
use Rattle.search.specs.Marks.{is_marked, mark, listed, cleared}
use Rattle.search.specs.Search.{walk_twin, found_twin}
use Rattle.search.proofs.Steps.{found_empty, found_list}
use Rattle.search.proofs.Marks.{Went}
use Rattle.search.proofs.Listed.{marks_are, tested, matching_kept}
use Rattle.search.proofs.Any.{cleared_at, cleared_long, cleared_drop, listed_none, grown_marks, grown_found, walk_from_cleared}
use Rattle.search.proofs.Returns.{report_same}
use Rattle.search.proofs.Shaped.{mark_all, Unmarked, hits, reads, compares, forks, compares_forks, walk_marks}
use Rattle.search.proofs.Hits.{hits_blocks, reads_few, forks_few, few_heads, hits_distinct, few_hits, hits_cover, cover_hits}

-- two tests that imply each other
bool_same : (a b : Bool) → (a ≡ true → b ≡ true) → (b ≡ true → a ≡ true) → a ≡ b
bool_same true b f g = sym (f refl)
bool_same false true f g = g refl
bool_same false false f g = refl

-- what is used where the rest of it is left
used_of : (n x : ℕ) → x ≤ n → n - (n - x) ≡ x
used_of n x h = omega arith

one_more : (n x : ℕ) → x ≡ 1 + n → n + 1 ≡ x
one_more n x e = omega arith

-- distinct blocks of which none is marked can be marked in turn
unmarked_all : (bs m : List ℕ) → Distinct bs → ((b : ℕ) → Memᴰ b bs → (1 ≤ b) × (is_marked m b ≡ false)) → Unmarked m bs
unmarked_all [] m d h = tt
unmarked_all (x ∷ bs) m d h = (
  (h x (mathlib.Core.List.Memᴰ.head refl)).1,
  unmarked_all bs (mark m x) d.1 (λ b n.
      let s = h b (mathlib.Core.List.Memᴰ.tail n) in
      let r = h x (mathlib.Core.List.Memᴰ.head refl) in
      let lb = s.0 in
      let lx = r.0 in
      let ne : b - 1 ≢ x - 1 = λ e. let z : x ≡ b = omega arith in d.0 (subst (λ (y : ℕ). Memᴰ y bs) (sym z) n) in
      (s.0, ap (λ (v : ℕ). eqb v 1) (get_or-set_other m (x - 1) (b - 1) 1 0 ne) ∙ s.1)),
)

-- after marking, a block is marked where it was or where it is one of them
marked_cases : (bs m : List ℕ) (b : ℕ) → 1 ≤ b → ((x : ℕ) → Memᴰ x bs → 1 ≤ x) → is_marked (mark_all m bs) b ≡ true → (is_marked m b ≡ true) ⊎ Memᴰ b bs
marked_cases [] m b low r h = inl h
marked_cases (x ∷ bs) m b low r h =
    ⊎_elim (λ e. go e (ℕ_discrete (b - 1) (x - 1))) (λ n. inr (mathlib.Core.List.Memᴰ.tail n)) (marked_cases bs (mark m x) b low (λ y n. r y (mathlib.Core.List.Memᴰ.tail n)) h)
  where
    go : is_marked (mark m x) b ≡ true → Dec (b - 1 ≡ x - 1) → (is_marked m b ≡ true) ⊎ Memᴰ b (x ∷ bs)
    go e (yes d) = let same : b ≡ x = omega (arith, r x (mathlib.Core.List.Memᴰ.head refl)) in inr (mathlib.Core.List.Memᴰ.head same)
    go e (no d) = inl (ap (λ (v : ℕ). eqb v 1) (sym (get_or-set_other m (x - 1) (b - 1) 1 0 d)) ∙ e)

marked_stays : (bs m : List ℕ) (i : ℕ) → i < length m → get_or m i 0 ≡ 1 → get_or (mark_all m bs) i 0 ≡ 1
marked_stays [] m i l h = h
marked_stays (b ∷ bs) m i l h = marked_stays bs (mark m b) i (rw length-set l) (go (ℕ_discrete i (b - 1)))
  where
    go : Dec (i ≡ b - 1) → get_or (mark m b) i 0 ≡ 1
    go (yes d) = rw (← d) (get_or-set_same m i 1 0 l)
    go (no d) = get_or-set_other m (b - 1) i 1 0 d ∙ h

marked_in : (bs m : List ℕ) (b : ℕ) → Memᴰ b bs → b - 1 < length m → get_or (mark_all m bs) (b - 1) 0 ≡ 1
marked_in [] m b n l = elim n [ ]
marked_in (x ∷ bs) m b (mathlib.Core.List.Memᴰ.head e) l = rw (← e) (marked_stays bs (mark m b) (b - 1) (rw length-set l) (get_or-set_same m (b - 1) 1 0 l))
marked_in (x ∷ bs) m b (mathlib.Core.List.Memᴰ.tail n) l = marked_in bs (mark m x) b n (rw length-set l)

module _ (sigs links : List ℕ) (q : ℕ) (m out : List ℕ) (S : Sound sigs links) (le : length sigs ≤ length m) where
  abbrev B : ℕ
  B = length sigs

  abbrev F : ℕ
  F = width_of links

  abbrev z : List ℕ
  z = cleared (length sigs) m

  -- a test of a block is what it says
  tested_yes : (b : ℕ) → tested sigs links q b ≡ true → (filed_of links b ≢ 0) × (coversb F (signature_of sigs b) q ≡ true)
  tested_yes b e = go (eqb (filed_of links b) 0) refl e
    where
      go : (t : Bool) → eqb (filed_of links b) 0 ≡ t → (not t && coversb F (signature_of sigs b) q) ≡ true → (filed_of links b ≢ 0) × (coversb F (signature_of sigs b) q ≡ true)
      go true d h = absurd (let y : ◌≡◌ {A = ℕ} 0 1 = cc in omega arith)
      go false d h = (eqb-false _ _ d, h)

  yes_tested : (b : ℕ) → filed_of links b ≢ 0 → coversb F (signature_of sigs b) q ≡ true → tested sigs links q b ≡ true
  yes_tested b n c = rw (ne_eqb (filed_of links b) 0 n) c

  filed_one : (b : ℕ) → 1 ≤ b → b ≤ B → filed_of links b ≢ 0 → filed_of links b ≡ 1
  filed_one b h k n = omega (arith, S.filed_bit b h k)

  -- marks whose test is the ledger's
  list_is : (m' : List ℕ) → ((b : ℕ) → 1 ≤ b → b ≤ B → is_marked m' b ≡ tested sigs links q b) → listed B m' ≡ matching q (ledger_of sigs links)
  list_is m' h =
      keep_cong (is_marked m') (tested sigs links q) (up_from B 1) (λ b n. let r = up_from_range B 1 b n in h b r.0 (omega arith))
      ∙ sym (matching_kept sigs links q)

  -- what a search of sound tables gives
  abbrev pub Exact : Report × List ℕ × List ℕ → Type 0
  Exact o = (o.0 ≡ search_report sigs links q) × (o.1 ≡ marks_after (length sigs) (matching q (ledger_of sigs links)) m) × (o.2 ≡ output_after (matching q (ledger_of sigs links)) out)

  nothing_filed : S.tree ≡ none → matching q (ledger_of sigs links) ≡ []
  nothing_filed e = sym (list_is z (λ b h k. ap (λ (v : ℕ). eqb v 1) (cleared_at B m (b - 1) (omega arith)) ∙ sym (no b h k))) ∙ listed_none z B (cleared_at B m)
    where
      no : (b : ℕ) → 1 ≤ b → b ≤ B → tested sigs links q b ≡ false
      no b h k = bool_same (tested sigs links q b) false
          (λ y. absurd (mathlib.Core.List.Memᴰ.not-nil (subst (λ (u : Rooted). Memᴰ b (blocks_in u)) e (S.on_chain b h k (filed_one b h k (tested_yes b y).0)))))
          (λ y. absurd (let w : ◌≡◌ {A = ℕ} 0 1 = cc in omega arith))

  on_none : S.tree ≡ none → Exact (found_twin sigs links q m out)
  unfolding compared nodes_read
  on_none e =
      let root : root_of links ≡ 0 = subst (HoldsRoot B links (root_of links)) e S.holds in
      let tree : tree_of sigs links ≡ nothing = tree_of_sound S ∙ ap (tree_rooted sigs) e in
      let list = nothing_filed e in
      let marks = marks_are B m z (omega (arith, cleared_long B m le)) (cleared_drop B m) (λ i l. inl (cleared_at B m i l)) in
      subst Exact (found_empty sigs links q m out z refl root) (
        report_same _ _ _ _ _ _ (sym (ap length list)) (sym (ap (λ (u : Tree). length (compared F q u)) tree)) (sym (ap (nodes_read F q) tree)),
        marks ∙ ap (λ (l : List ℕ). marks_after B l m) (listed_none z B (cleared_at B m) ∙ sym list),
        sym (ap (λ (l : List ℕ). output_after l out) list),
      )

  module _ (t : Shape) (is : S.tree ≡ some t) where
    abbrev hs : List ℕ
    hs = hits sigs F q t

    held : Holds B links (root_of links) t
    held = subst (HoldsRoot B links (root_of links)) is S.holds

    placed : Placed F sigs links [] t
    placed = subst (PlacedRoot F sigs links) is S.placed

    in_range : (b : ℕ) → Memᴰ b hs → (1 ≤ b) × (b ≤ B)
    in_range b n = blocks_range B links t (root_of links) held b (hits_blocks sigs F q t b n)

    -- the marks stand at the ledger's matching blocks
    marks_tested : (b : ℕ) → 1 ≤ b → b ≤ B → is_marked (mark_all z hs) b ≡ tested sigs links q b
    marks_tested b low high = bool_same (is_marked (mark_all z hs) b) (tested sigs links q b) to from
      where
        to : is_marked (mark_all z hs) b ≡ true → tested sigs links q b ≡ true
        to e = ⊎_elim
            (λ h. absurd (omega (arith, eqb-true (get_or z (b - 1) 0) 1 h, cleared_at B m (b - 1) (omega arith))))
            (λ n. yes_tested b (omega (arith, (blocks_placed B links F sigs [] t placed b (hits_blocks sigs F q t b n)).0)) (hits_cover B F sigs links q [] t placed b n))
            (marked_cases hs z b low (λ x n. (in_range x n).0) e)

        from : tested sigs links q b ≡ true → is_marked (mark_all z hs) b ≡ true
        from e =
            let y = tested_yes b e in
            let on : Memᴰ b (blocks t) = subst (λ (u : Rooted). Memᴰ b (blocks_in u)) is (S.on_chain b low high (filed_one b low high y.0)) in
            eq-eqb _ _ (marked_in hs z b (cover_hits B F sigs links q [] t placed b on y.1) (omega (arith, cleared_long B m le)))

    -- what the walk leaves
    abbrev w : Budget × List ℕ
    w = (record { nodes = B - 1 - reads sigs F q t; forks = B - forks sigs F q t; blocks = B - length hs }, mark_all z hs)

    enough : (reads sigs F q t ≤ B - 1) × (forks sigs F q t < B) × (length hs ≤ B)
    enough =
        let a = few_heads B F sigs links [] t (root_of links) held placed in
        let r = reads_few sigs F q t in
        let f = forks_few sigs F q t in
        (omega arith, omega arith, few_hits B F sigs links q [] t (root_of links) held placed)

    walked : w ≡ walk_twin F sigs links q (root_of links) (lent B) z
    walked =
        let e0 = enough.0 in
        let e1 = enough.1 in
        let e2 = enough.2 in
        let a : reads sigs F q t + (B - 1 - reads sigs F q t) ≡ B - 1 = omega arith in
        let b : forks sigs F q t + (B - forks sigs F q t) ≡ B = omega arith in
        let c : length hs + (B - length hs) ≡ B = omega arith in
        let free : Unmarked z hs = unmarked_all hs z (hits_distinct B F sigs links q [] t (root_of links) held placed)
        (λ x n. let r = in_range x n in let low = r.0 in let high = r.1 in (low, ne_eqb (get_or z (x - 1) 0) 1 (omega (arith, cleared_at B m (x - 1) (omega arith))))) in
        sym (rw (a, b, c) at (walk_marks sigs links q S.fits.width_to [] t F (root_of links) (B - 1 - reads sigs F q t) (B - forks sigs F q t) (B - length hs) z held placed (depth_root F sigs links t placed) free))

    on_some : Exact (found_twin sigs links q m out)
    on_some =
        let some : B - forks sigs F q t ≡ 0 → ⊥ = let h = enough.1 in omega arith in
        let root : root_of links ≡ 0 → ⊥ = rootless t held in
        let tree : tree_of sigs links ≡ shape_tree sigs t = tree_of_sound S ∙ ap (tree_rooted sigs) is in
        let g : Went sigs links q (lent B) z w = subst (Went sigs links q (lent B) z) (sym walked) (walk_from_cleared sigs links q m out le) in
        let list = list_is (mark_all z hs) marks_tested in
        let f : B - (B - length hs) ≡ length (matching q (ledger_of sigs links)) = omega (arith, g.spent (omega arith), grown_found sigs links q m out le (mark_all z hs) g.many g.grown, ap length list) in
        let b : B - 1 - (B - 1 - reads sigs F q t) ≡ reads sigs F q t = used_of (B - 1) (reads sigs F q t) enough.0 in
        let c : B - (B - forks sigs F q t) + 1 ≡ compares sigs F q t = ap (λ (n : ℕ). n + 1) (used_of B (forks sigs F q t) (let h = enough.1 in omega arith)) ∙ one_more (forks sigs F q t) (compares sigs F q t) (compares_forks sigs F q t) in
        subst Exact (found_list sigs links q m out z refl w.0 w.1 root walked some) (
          report_same _ _ _ _ _ _ f (c ∙ sym (ap (λ (u : Tree). length (compared F q u)) tree)) (b ∙ sym (ap (nodes_read F q) tree)),
          grown_marks sigs links q m out le (mark_all z hs) g.many g.grown ∙ ap (λ (l : List ℕ). marks_after B l m) list,
          ap (λ (l : List ℕ). output_after l out) list,
        )
      where
        rootless : (u : Shape) → Holds B links (root_of links) u → root_of links ≡ 0 → ⊥
        rootless (tip g cs) o x = let a = o.0 in let b = o.1 in omega arith
        rootless (fork i p l k) o x = let a = o.0 in let b = o.1 in omega arith

  -- THE SEARCH OF SOUND TABLES
  pub search_exact : Exact (found_twin sigs links q m out)
  search_exact = go S.tree refl
    where
      go : (u : Rooted) → S.tree ≡ u → Exact (found_twin sigs links q m out)
      go none e = on_none e
      go (some t) e = on_some t e
