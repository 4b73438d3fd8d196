-- Stores to lent tables, by the links of document 01 that they hold: one in front or in a row, and one to a node.
-- Assumes nothing.
use Prim.Native.Nat.{ℕ, ◌+◌, ◌-◌, ◌^◌, ◌≤◌, ◌<◌}
use native.Mathlib.Omega.{arith}
use mathlib.Core.Path.{◌≡◌, refl, sym, ◌∙◌, ap}
use mathlib.Core.List.{List}
use lib.ListN.{length, get_or, set, length-set}
use borrow.Rule.Slice.Mut.{set_vals}
use Rattle.model.specs.Tables.{word, side_at}
use Rattle.model.specs.Stores.{stores}
use Rattle.model.specs.Packed.{with_part, rows_of, unpacked}
use Rattle.model.proofs.Packing.{row_word, row_store, part_store}
use Rattle.tables.specs.declared.lent.TablesMut.{TablesMut}
use Rattle.tables.specs.declared.side.Side.{Side}
use Rattle.tables.specs.declared.side.Side.TheVariants.{Left, Right}
use Rattle.tables.specs.Changed.{links_in, blocks_in, node_stores, PacksIn, Becomes}
use Rattle.tables.specs.Nodes.{sides_word}
use Rattle.tables.specs.Sides.{side_number}
use Rattle.tables.proofs.Stays.{sides_store}

pub side_small : (side : Side) → side_number side ≤ 1
side_small Left = omega arith
side_small Right = omega arith

module _ (t : TablesMut) (P : PacksIn t) where
  -- a word in front or in a row
  pub row_read : (a : ℕ) → a < rows_of (blocks_in t) → get_or t.links.now a 0 ≡ word (links_in t) a
  row_read a h = sym (row_word t.links.now t.nodes.now a (omega (arith, P.0.rows_long)))

  pub row_stored : (a v : ℕ) (l : List ℕ) → a < rows_of (blocks_in t) → l ≡ set t.links.now a v → Becomes t (record { signatures = t.signatures; links = set_vals l t.links; nodes = t.nodes }) (set (links_in t) a v)
  row_stored a v l h e = record {
    words = ap (λ (x : List ℕ). unpacked x t.nodes.now) e ∙ sym (row_store t.links.now t.nodes.now a v (omega (arith, P.0.rows_long)));
    links_long = ap length e ∙ length-set t.links.now a v;
    nodes_long = refl;
    signatures = refl;
    loans = record { signatures = refl; links = refl; nodes = refl };
  }

  module _ (i : ℕ) (from : 1 ≤ i) (to : i < blocks_in t) where
    -- a node's word, which holds these links then
    pub word_stored : (w : ℕ) (ns links' : List ℕ) → ns ≡ set t.nodes.now (i - 1) w → links' ≡ unpacked t.links.now (set t.nodes.now (i - 1) w)
        → Becomes t (record { signatures = t.signatures; links = t.links; nodes = set_vals ns t.nodes }) links'
    word_stored w ns links' n e = record {
      words = ap (unpacked t.links.now) n ∙ sym e;
      links_long = refl;
      nodes_long = ap length n ∙ length-set t.nodes.now (i - 1) w;
      signatures = refl;
      loans = record { signatures = refl; links = refl; nodes = refl };
    }

    -- one side of it
    pub side_stored : (side : Side) (w v : ℕ) → v < 2 ^ 17 → w ≡ with_part (get_or t.nodes.now (i - 1) 0) (1 + side_number side) v
        → Becomes t (record { signatures = t.signatures; links = t.links; nodes = set_vals (set t.nodes.now (i - 1) w) t.nodes }) (set (links_in t) (side_at (blocks_in t) i (side_number side)) v)
    side_stored side w v h e =
        let k = side_small side in
        word_stored w _ _ refl
        (ap (λ (a : ℕ). set (links_in t) a v) (omega arith)
        ∙ part_store (blocks_in t) t.links.now t.nodes.now P.0 (i - 1) (1 + side_number side) v (omega arith) (omega arith) h
        ∙ ap (λ (x : ℕ). unpacked t.links.now (set t.nodes.now (i - 1) x)) (sym e))

    -- all of it
    pub node_stored : (side : Side) (w p x y : ℕ) (ns : List ℕ) → x < 2 ^ 17 → y < 2 ^ 17 → w ≡ sides_word p (side_number side) x y → ns ≡ set t.nodes.now (i - 1) w
        → Becomes t (record { signatures = t.signatures; links = t.links; nodes = set_vals ns t.nodes }) (stores (links_in t) (node_stores (blocks_in t) i p (side_number side) x y))
    node_stored side w p x y ns h k e n =
        word_stored w ns _ n
        (sides_store (blocks_in t) t.links.now t.nodes.now P.0 i p (side_number side) x y from to (side_small side) h k
        ∙ ap (λ (v : ℕ). unpacked t.links.now (set t.nodes.now (i - 1) v)) (sym e))
