-- `search::walk::Query::may_mark` meets its contract: its tests are those of `may_mark`, one after the other.
-- Assumes nothing.
use mathlib.Core.Path.{◌≡◌, sym, ◌∙◌, ap}
use mathlib.Core.Bool.{not, ◌&&◌}
use Prim.Native.Nat.{ℕ}
use lib.Dec.{eqb, leb}
use lib.ListN.{length}
use borrow.Author.Tests.{eq-eqb, ne_eqb}
use Rattle.model.specs.Tables.{filed_of}
use Rattle.tables.specs.Held.{signatures_held}
use Rattle.search.proofs.Returns.{and_yes, and_no, may_before, may_yes, may_no}
use Rattle.search.proofs.walk.Query.may_mark.Goals as goal
use Rattle.search.proofs.walk.Query.may_mark.Goals.{then-block-ne0, else-block-ne0, then-block-blocks, else-block-blocks, then-filed_of-ne0, else-filed_of-ne0}

pub returns-then-not-is_marked : goal.returns-then-not-is_marked
returns-then-not-is_marked g c =
    let a = c.args in
    let b = a.block in
    let block : c.if-block-ne0.value ≡ (not (eqb b 0) && leb b (length (signatures_held a.self.now.tables))) = elim c.if-block-ne0.branch [
      | then-block-ne0 w ↦ w.value-is ∙ rw (ne_eqb _ _ w.if-block-ne0.true, w.blocks-then-block-ne0.ensures)
      | else-block-ne0 w ↦ w.value-is ∙ rw (eq-eqb _ _ w.if-block-ne0.false)
    ] in
    let filed : c.if-block-blocks.value ≡ ((not (eqb b 0) && leb b (length (signatures_held a.self.now.tables))) && not (eqb (filed_of a.self.now.tables.rows.links.now b) 0)) = elim c.if-block-blocks.branch [
      | then-block-blocks w ↦ and_yes _ _ _ _ w.if-block-blocks.true (w.value-is ∙ ap (λ (n : ℕ). not (eqb n 0)) w.filed_of.ensures) block
      | else-block-blocks w ↦ and_no _ _ _ _ w.if-block-blocks.false w.value-is block
    ] in
    let before : c.if-filed_of-ne0.value ≡ may_before (signatures_held a.self.now.tables) a.self.now.tables.rows.links.now b a.marks.now.bytes.now = elim c.if-filed_of-ne0.branch [
      | then-filed_of-ne0 w ↦ and_yes _ _ _ _ w.if-filed_of-ne0.true (w.value-is ∙ ap not w.is_marked.ensures) filed
      | else-filed_of-ne0 w ↦ and_no _ _ _ _ w.if-filed_of-ne0.false w.value-is filed
    ] in
    may_yes _ _ _ _ _ _ c.is_covered.ensures (sym before ∙ c.if-not-is_marked.true)

pub returns-else-not-is_marked : goal.returns-else-not-is_marked
returns-else-not-is_marked g c =
    let a = c.args in
    let b = a.block in
    let block : c.if-block-ne0.value ≡ (not (eqb b 0) && leb b (length (signatures_held a.self.now.tables))) = elim c.if-block-ne0.branch [
      | then-block-ne0 w ↦ w.value-is ∙ rw (ne_eqb _ _ w.if-block-ne0.true, w.blocks-then-block-ne0.ensures)
      | else-block-ne0 w ↦ w.value-is ∙ rw (eq-eqb _ _ w.if-block-ne0.false)
    ] in
    let filed : c.if-block-blocks.value ≡ ((not (eqb b 0) && leb b (length (signatures_held a.self.now.tables))) && not (eqb (filed_of a.self.now.tables.rows.links.now b) 0)) = elim c.if-block-blocks.branch [
      | then-block-blocks w ↦ and_yes _ _ _ _ w.if-block-blocks.true (w.value-is ∙ ap (λ (n : ℕ). not (eqb n 0)) w.filed_of.ensures) block
      | else-block-blocks w ↦ and_no _ _ _ _ w.if-block-blocks.false w.value-is block
    ] in
    let before : c.if-filed_of-ne0.value ≡ may_before (signatures_held a.self.now.tables) a.self.now.tables.rows.links.now b a.marks.now.bytes.now = elim c.if-filed_of-ne0.branch [
      | then-filed_of-ne0 w ↦ and_yes _ _ _ _ w.if-filed_of-ne0.true (w.value-is ∙ ap not w.is_marked.ensures) filed
      | else-filed_of-ne0 w ↦ and_no _ _ _ _ w.if-filed_of-ne0.false w.value-is filed
    ] in
    c.if-not-is_marked.false ∙ may_no _ _ _ _ _ (sym before ∙ c.if-not-is_marked.false)
