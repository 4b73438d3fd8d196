-- Another shape in the place of the part that a way leads to: the links spell it, it is placed, and what it holds. The words outside the
-- part stay, and no node and no block stands twice, so the sides that the way does not take are as before.
-- Assumes nothing.
use Prim.Native.Nat.{ℕ, ◌-◌, ◌≤◌}
use native.Mathlib.Omega.{arith}
use mathlib.Core.Path.{◌≡◌, refl, sym, ◌∙◌, subst}
use mathlib.Core.Logic.{◌⊎◌, inl, inr, ◌≢◌}
use mathlib.Core.List.Memᴰ
use mathlib.Core.List.{List, ◌∷◌, ◌++◌, Memᴰ}
use Rattle.model.specs.Tree.{Edge, edge}
use Rattle.model.specs.Tables.{word, side_at, next_of, filed_of, position_of, side_of, signature_of}
use Rattle.model.specs.Sound.{Shape, Holds, nodes, blocks, Placed}
use Rattle.tables.proofs.Shapes.{holds_same, placed_same}
use Rattle.tables.proofs.Sides.{pick, edge_small, on_side, off_side, which_side, sides_held, hold_sides, not_on_sides, sides_placed, place_sides, sides_blocks, sides_nodes}
use Rattle.tables.proofs.Ways.{Way, here, down, spot, replace, path_to, part_blocks, part_nodes}
use Rattle.tables.proofs.Links.{NoSide, no_side, link_other, link_else, spot_link}

-- a node's words are the same, but for a side word at address sp
abbrev pub SameNode : ℕ → List ℕ → List ℕ → ℕ → ℕ → Type 0
SameNode B L L' sp j = (position_of B L' j ≡ position_of B L j) × ((e : ℕ) → e ≤ 1 → side_at B j e ≢ sp → side_of B L' j e ≡ side_of B L j e)

-- membership where side e becomes another shape's, or else C
module _ {j : ℕ} {C : Type 0} where
  kept_side : (of : Shape → List ℕ) (x x' o : Shape) (e : ℕ) → (Memᴰ j (of x) → Memᴰ j (of x') ⊎ C)
      → Memᴰ j (of (pick e x o) ++ of (pick e o x)) → Memᴰ j (of (pick e x' o) ++ of (pick e o x')) ⊎ C
  kept_side of x x' o e f m = go (which_side of x o e m)
    where
      late : Memᴰ j (of x') ⊎ C → Memᴰ j (of (pick e x' o) ++ of (pick e o x')) ⊎ C
      late (inl n) = inl (on_side of x' o e n)
      late (inr c) = inr c

      go : Memᴰ j (of x) ⊎ Memᴰ j (of o) → Memᴰ j (of (pick e x' o) ++ of (pick e o x')) ⊎ C
      go (inl n) = late (f n)
      go (inr n) = inl (off_side of x' o e n)

  -- with the node in front
  kept_cons : {i : ℕ} {a b : List ℕ} → (Memᴰ j a → Memᴰ j b ⊎ C) → Memᴰ j (i ∷ a) → Memᴰ j (i ∷ b) ⊎ C
  kept_cons {i} {a} {b} f m = go (Memᴰ.cases_cons m)
    where
      late : Memᴰ j b ⊎ C → Memᴰ j (i ∷ b) ⊎ C
      late (inl n) = inl (Memᴰ.tail n)
      late (inr c) = inr c

      go : (j ≡ i) ⊎ Memᴰ j a → Memᴰ j (i ∷ b) ⊎ C
      go (inl e) = inl (Memᴰ.head e)
      go (inr n) = late (f n)

module _ {F s : ℕ} {v : Shape} where
  module _ (B : ℕ) (sigs L L' : List ℕ) where
    -- the links spell the new shape, where they spell u at the spot and the words outside the part are the same
    pub graft : (path : List Edge) (at : ℕ) {t : Shape} (w : Way F s v t) (u : Shape)
        → Holds B L (word L at) t → Placed F sigs L path t
        → NoSide B t at
        → (at ≢ spot B at w → word L' at ≡ word L at)
        → ((c : ℕ) → Memᴰ c (blocks t) → (Memᴰ c (blocks v) → ⊥) → next_of L' c ≡ next_of L c)
        → ((j : ℕ) → Memᴰ j (nodes t) → (Memᴰ j (nodes v) → ⊥) → SameNode B L L' (spot B at w) j)
        → Holds B L' (word L' (spot B at w)) u
        → Holds B L' (word L' at) (replace w u)
    graft path at (here e) u q pl out rt nx nd h = h
    graft path at (down {i = i} {p = p} {x = x} e o z w) u q pl out rt nx nd h =
        let e1 = edge_small F s p z in
        let off : 1 - e ≤ 1 = omega arith in
        let sp = spot B (side_at B i e) w in
        let link = spot_link B (side_at B i e) w in
        let held = sides_held B L e i p x o (word L at) e1 q in
        let apart = sides_nodes B L F sigs path e i p x o (word L at) q pl in
        let below = not_on_sides B L e i p x o (word L at) q in
        let own = nd i (Memᴰ.head refl) (λ m. below.0 (part_nodes w i m)) in
        let other : (j : ℕ) → Memᴰ j (nodes o) → (d : ℕ) → d ≤ 1 → side_at B j d ≢ sp = λ j m d y g. link_other B (side_at B i e) x sp link j (λ n. apart j n m) (no_side B i o below.1 e e1 j m) d y (sym g) in
        hold_sides B L' e i p (replace w u) o (word L' at) e1
        (rt (link_else B (side_at B i e) x sp link at (out i (Memᴰ.head refl) e e1) (λ j m. out j (Memᴰ.tail (on_side nodes x o e m)))) ∙ q.0)
        q.1 q.2 (own.0 ∙ q.3)
        (graft (edge p e ∷ path) (side_at B i e) w u held.0 (sides_placed B L F sigs path e i p x o e1 pl).0 (no_side B i x below.0 e e1) (own.1 e e1)
        (λ c m. nx c (on_side blocks x o e m)) (λ j m. nd j (Memᴰ.tail (on_side nodes x o e m))) h)
        (holds_same B L L' o (side_of B L i (1 - e)) (side_of B L' i (1 - e))
        (own.1 (1 - e) off (link_else B (side_at B i e) x sp link (side_at B i (1 - e)) (omega arith) (no_side B i x below.0 (1 - e) off)))
        (λ c m. nx c (off_side blocks x o e m) (λ y. sides_blocks B L F sigs path e i p x o pl c (part_blocks w c y) m))
        (λ j m. let same = nd j (Memᴰ.tail (off_side nodes x o e m)) (λ y. apart j (part_nodes w j y) m) in
        (same.0, same.1 0 (omega arith) (other j m 0 (omega arith)), same.1 1 (omega arith) (other j m 1 (omega arith))))
        held.1)

    -- it is placed; blocks outside the part are as before
    pub graft_placed : (sigs' : List ℕ) (path : List Edge) {t : Shape} (w : Way F s v t) (u : Shape)
        → ((c : ℕ) → Memᴰ c (blocks t) → (Memᴰ c (blocks v) → ⊥) → (filed_of L' c ≡ filed_of L c) × (signature_of sigs' c ≡ signature_of sigs c))
        → Placed F sigs L path t → Placed F sigs' L' (path_to path w) u → Placed F sigs' L' path (replace w u)
    graft_placed sigs' path (here e) u same q h = h
    graft_placed sigs' path (down {i = i} {p = p} {x = x} e o z w) u same q h =
        let e1 = edge_small F s p z in
        let both = sides_placed B L F sigs path e i p x o e1 q in
        place_sides B L' F sigs' path e i p (replace w u) o e1 q.0 q.1 q.2
        (graft_placed sigs' (edge p e ∷ path) w u (λ c m. same c (on_side blocks x o e m)) both.0 h)
        (placed_same F sigs sigs' L L' (edge p (1 - e) ∷ path) o (λ c m. same c (off_side blocks x o e m) (λ y. sides_blocks B L F sigs path e i p x o q c (part_blocks w c y) m)) both.1)

  -- its blocks and nodes: those of u, and the old ones outside the part
  pub graft_blocks_new : {t : Shape} (w : Way F s v t) (u : Shape) (c : ℕ) → Memᴰ c (blocks u) → Memᴰ c (blocks (replace w u))
  graft_blocks_new (here e) u c m = m
  graft_blocks_new (down e o z w) u c m = on_side blocks (replace w u) o e (graft_blocks_new w u c m)

  pub graft_blocks_old : {t : Shape} (w : Way F s v t) (u : Shape) (c : ℕ) → Memᴰ c (blocks t) → Memᴰ c (blocks (replace w u)) ⊎ Memᴰ c (blocks v)
  graft_blocks_old (here e) u c m = inr (subst (λ (x : Shape). Memᴰ c (blocks x)) e m)
  graft_blocks_old (down {x = x} e o z w) u c m = kept_side blocks x (replace w u) o e (λ n. graft_blocks_old w u c n) m

  pub graft_blocks_cases : {t : Shape} (w : Way F s v t) (u : Shape) (c : ℕ) → Memᴰ c (blocks (replace w u)) → Memᴰ c (blocks t) ⊎ Memᴰ c (blocks u)
  graft_blocks_cases (here e) u c m = inr m
  graft_blocks_cases (down {x = x} e o z w) u c m = kept_side blocks (replace w u) x o e (λ n. graft_blocks_cases w u c n) m

  pub graft_nodes_new : {t : Shape} (w : Way F s v t) (u : Shape) (j : ℕ) → Memᴰ j (nodes u) → Memᴰ j (nodes (replace w u))
  graft_nodes_new (here e) u j m = m
  graft_nodes_new (down e o z w) u j m = Memᴰ.tail (on_side nodes (replace w u) o e (graft_nodes_new w u j m))

  pub graft_nodes_old : {t : Shape} (w : Way F s v t) (u : Shape) (j : ℕ) → Memᴰ j (nodes t) → Memᴰ j (nodes (replace w u)) ⊎ Memᴰ j (nodes v)
  graft_nodes_old (here e) u j m = inr (subst (λ (x : Shape). Memᴰ j (nodes x)) e m)
  graft_nodes_old (down {x = x} e o z w) u j m = kept_cons (kept_side nodes x (replace w u) o e (λ n. graft_nodes_old w u j n)) m

  pub graft_nodes_cases : {t : Shape} (w : Way F s v t) (u : Shape) (j : ℕ) → Memᴰ j (nodes (replace w u)) → Memᴰ j (nodes t) ⊎ Memᴰ j (nodes u)
  graft_nodes_cases (here e) u j m = inr m
  graft_nodes_cases (down {x = x} e o z w) u j m = kept_cons (kept_side nodes (replace w u) x o e (λ n. graft_nodes_cases w u j n)) m

  -- the spot is no side word of the part's nodes
  pub spot_above : (B : ℕ) (L : List ℕ) (at : ℕ) {t : Shape} (w : Way F s v t) → Holds B L (word L at) t → NoSide B t at → NoSide B v (spot B at w)
  spot_above B L at (here e) q out j m = out j (subst (λ (x : Shape). Memᴰ j (nodes x)) (sym e) m)
  spot_above B L at (down {i = i} {p = p} {x = x} e o z w) q out j m =
      let e1 = edge_small F s p z in
      spot_above B L (side_at B i e) w (sides_held B L e i p x o (word L at) e1 q).0 (no_side B i x (not_on_sides B L e i p x o (word L at) q).0 e e1) j m

  -- a node of the part stands nowhere else
  pub part_gone : (B : ℕ) (sigs L : List ℕ) (path : List Edge) (r : ℕ) {t : Shape} (w : Way F s v t) (u : Shape) → Holds B L r t → Placed F sigs L path t
      → (j : ℕ) → Memᴰ j (nodes v) → (Memᴰ j (nodes u) → ⊥) → Memᴰ j (nodes (replace w u)) → ⊥
  part_gone B sigs L path r (here e) u q pl j m n y = n y
  part_gone B sigs L path r (down {i = i} {p = p} {x = x} e o z w) u q pl j m n y =
      let e1 = edge_small F s p z in
      go (Memᴰ.cases_cons {l = nodes (pick e (replace w u) o) ++ nodes (pick e o (replace w u))} y) (λ k. part_gone B sigs L (edge p e ∷ path) (side_of B L i e) w u (sides_held B L e i p x o r e1 q).0 (sides_placed B L F sigs path e i p x o e1 pl).0 j m n k)
    where
      late : Memᴰ j (nodes (replace w u)) ⊎ Memᴰ j (nodes o) → (Memᴰ j (nodes (replace w u)) → ⊥) → ⊥
      late (inl k) ih = ih k
      late (inr k) ih = sides_nodes B L F sigs path e i p x o r q pl j (part_nodes w j m) k

      go : (j ≡ i) ⊎ Memᴰ j (nodes (pick e (replace w u) o) ++ nodes (pick e o (replace w u))) → (Memᴰ j (nodes (replace w u)) → ⊥) → ⊥
      go (inl k) ih = (not_on_sides B L e i p x o r q).0 (Memᴰ.cast (sym k) (part_nodes w j m))
      go (inr k) ih = late (which_side nodes (replace w u) o e k) ih
