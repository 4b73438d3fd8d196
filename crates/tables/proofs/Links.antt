-- The addresses of a shape's references: that of the shape itself, and the side words of its nodes. No two nodes share a side word,
-- and no side word is a word of the front, of a row or of a position: addresses are sums that omega tells apart.
-- Assumes nothing.
use Prim.Native.Nat.{ℕ, ◌≤◌, ◌<◌}
use native.Mathlib.Omega.{arith}
use mathlib.Core.Path.{◌≡◌, refl, sym, ◌∙◌}
use mathlib.Core.Logic.{◌⊎◌, inl, inr, ◌≢◌}
use mathlib.Core.List.Memᴰ
use mathlib.Core.List.{List, Memᴰ}
use Rattle.model.specs.Tables.{word, root_at, free_at, count_at, next_at, filed_at, position_at, side_at, links_of}
use Rattle.model.specs.Sound.{Shape, Holds, nodes}
use Rattle.tables.proofs.Shapes.{nodes_range}
use Rattle.tables.proofs.Sides.{forked, edge_small, on_side}
use Rattle.tables.proofs.Ways.{Way, here, down, spot}

-- an address that holds a reference of the shape whose own reference stands at address at
abbrev pub IsLink : (B at : ℕ) → Shape → ℕ → Type 0
IsLink B at t a = (a ≡ at) ⊎ ((j : ℕ) × (e : ℕ) × Memᴰ j (nodes t) × (e ≤ 1) × (a ≡ side_at B j e))

-- an address that is no side word of the shape's nodes
abbrev pub NoSide : ℕ → Shape → ℕ → Type 0
NoSide B t a = (j : ℕ) → Memᴰ j (nodes t) → (e : ℕ) → e ≤ 1 → a ≢ side_at B j e

sides_differ : (B i j d e : ℕ) → d ≤ 1 → e ≤ 1 → i ≢ j → side_at B i d ≢ side_at B j e
sides_differ B i j d e h h' n = omega arith

-- the side words of a node are none of a shape without it
pub no_side : (B i : ℕ) (t : Shape) → (Memᴰ i (nodes t) → ⊥) → (d : ℕ) → d ≤ 1 → NoSide B t (side_at B i d)
no_side B i t n d h j m e h' = sides_differ B i j d e h h' (λ x. n (Memᴰ.cast x m))

-- no reference of the shape stands in a node j outside it, if the first does not
pub link_other : (B at : ℕ) (t : Shape) (a : ℕ) → IsLink B at t a → (j : ℕ) → (Memᴰ j (nodes t) → ⊥) → ((e : ℕ) → e ≤ 1 → at ≢ side_at B j e) → (e : ℕ) → e ≤ 1 → a ≢ side_at B j e
link_other B at t a (inl x) j n o e h y = o e h (sym x ∙ y)
link_other B at t a (inr x) j n o e h y = no_side B j t n e h x.0 x.2 x.1 x.3 (sym y ∙ x.4)

-- an address that is none of the shape's
pub link_else : (B at : ℕ) (t : Shape) (a : ℕ) → IsLink B at t a → (x : ℕ) → x ≢ at → NoSide B t x → x ≢ a
link_else B at t a (inl y) x h o z = h (z ∙ y)
link_else B at t a (inr y) x h o z = o y.0 y.2 y.1 y.3 (z ∙ y.4)

-- a reference of a side is one of the node
into_side : (B at e i p : ℕ) (u o : Shape) (a : ℕ) → e ≤ 1 → IsLink B (side_at B i e) u a → IsLink B at (forked e i p u o) a
into_side B at e i p u o a h (inl x) = inr (i, e, Memᴰ.head refl, h, x)
into_side B at e i p u o a h (inr x) = inr (x.0, x.1, Memᴰ.tail (on_side nodes u o e x.2), x.3, x.4)

-- a way ends at a reference of the shape
pub spot_link : {F s : ℕ} {v : Shape} (B at : ℕ) {t : Shape} (w : Way F s v t) → IsLink B at t (spot B at w)
spot_link B at (here e) = inl refl
spot_link {F} {s} B at (down {i = i} {p = p} {x = x} e o z w) = into_side B at e i p x o (spot B (side_at B i e) w) (edge_small F s p z) (spot_link B (side_at B i e) w)

-- an address of a reference is none of the other words
pub record Apart (B a : ℕ) : Type 0 where
  pub width : a ≢ 0
  pub told : a ≢ 1
  pub first : a ≢ free_at
  pub count : a ≢ count_at
  pub inside : a < links_of B
  pub row : (c : ℕ) → 1 ≤ c → c ≤ B → (a ≢ next_at c) × (a ≢ filed_at c)
  pub position : (j : ℕ) → 1 ≤ j → a ≢ position_at B j

pub link_apart : (B : ℕ) (L : List ℕ) (t : Shape) → 1 ≤ B → Holds B L (word L root_at) t → (a : ℕ) → IsLink B root_at t a → Apart B a
link_apart B L t h q a (inl e) = omega arith
link_apart B L t h q a (inr x) =
    let r = nodes_range B L t (word L root_at) q x.0 x.2 in
    let d = x.3 in
    let e = x.4 in
    omega arith
