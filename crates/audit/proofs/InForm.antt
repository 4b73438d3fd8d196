-- What the code's tests say of the tables held, by the rows that it reads of a form.
-- Assumes nothing.
use Prim.Native.Nat.{ℕ, ◌-◌, ◌≤◌, ◌<◌}
use native.Mathlib.Decide.{dec_lt, ℕ_discrete}
use native.Mathlib.Omega.{arith}
use mathlib.Core.Path.{◌≡◌, sym, ◌∙◌, ap, ap₂}
use mathlib.Core.Logic.{◌⊎◌, inl, inr, ◌≢◌}
use mathlib.Core.Bool.{Bool, true, false}
use mathlib.Core.List.{List}
use lib.Dec.{eqb}
use lib.ListN.{length}
use borrow.Author.Tests.{eq-eqb, ne_eqb}
use Rattle.std.specs.Prelude.{Option, None, Some}
use Rattle.model.specs.Signature.{bit_at}
use Rattle.model.specs.Tables.{word, width_of, root_of, free_of, count_of}
use Rattle.model.specs.Sound.{filed_up_to}
use Rattle.model.specs.Packed.{unpacked}
use Rattle.signature.specs.declared.position.Position.{Position}
use Rattle.tables.specs.Fits.{Fits, PartsOf}
use Rattle.audit.specs.declared.walk.Lent.{Lent}
use Rattle.audit.specs.declared.walk.Path.{Path}
use Rattle.audit.specs.Audit.{Tested, tested_in, Weighed, weighed, rows_ok, rows_twin, leaf_twin, look_twin, passed_by, node_less, walk_twin, untested_all, tree_twin, free_twin, rest_ok, soundb}
use Rattle.audit.proofs.RowLaws.{rows_none, rows_some}
use Rattle.audit.proofs.WalkLaws.{look_far, look_none, look_wide, look_again, look_new, walk_leaf, walk_out, walk_done, walk_unfit, walk_stop, walk_both}
use Rattle.audit.proofs.AnswerLaws.{sound_rows, sound_count, sound_rest}
use Rattle.audit.proofs.Either.{front, filed_all, rows_all, leaf_row}

module _ {sigs links nodes : List ℕ} (fits : Fits sigs links nodes) {S L : List ℕ} (rows : (S ≡ sigs) × (L ≡ links)) where
  abbrev U : List ℕ
  U = unpacked links nodes

  -- a word in front
  pub front_read : (a : ℕ) → a < 5 → word L a ≡ word (unpacked links nodes) a
  front_read a h = ap (λ (l : List ℕ). word l a) rows.1 ∙ sym (front sigs links nodes fits.rows a h)

  module _ {B : ℕ} (blocks : B ≡ length S) where
    blocks_read : B ≡ length sigs
    blocks_read = blocks ∙ ap length rows.0

    -- a node: far, or with a position
    pub node_far : (m i : ℕ) → B ≤ i → None ≡ look_twin (unpacked links nodes) (length sigs) m i
    node_far m i h = sym (look_far _ _ _ _ (omega (arith, blocks_read)))

    module _ {i p l r F : ℕ} (h : i < B) (parts : PartsOf (length sigs) (unpacked links nodes) i p l r) (width : F ≡ width_of L) where
      inside : i < length sigs
      inside = omega (arith, blocks_read)

      width_read : F ≡ width_of U
      width_read = width ∙ front_read 0 (omega arith)

      -- it tests no position of the width
      pub node_none : (m : ℕ) → ((1 ≤ p) × (p ≤ F) → ⊥) → None ≡ look_twin (unpacked links nodes) (length sigs) m i
      node_none m n = go (ℕ_discrete p 0)
        where
          far : p ≢ 0 → Dec (F < p) → F < p
          far nz (yes w) = w
          far nz (no g) = absurd (n (omega arith, omega arith))

          go : Dec (p ≡ 0) → None ≡ look_twin U (length sigs) m i
          go (yes z) = sym (look_none _ _ _ _ inside parts.position z)
          go (no nz) = sym (look_wide _ _ _ _ inside parts.position nz (rw (← width_read) (far nz (dec_lt F p))))

      -- it tests a position
      module _ (q : Position) (is : (q.width ≡ F) × (q.number ≡ p)) where
        some : p ≢ 0
        some = let a = q.inside.0 in omega (arith, is.1)

        low : p ≤ width_of U
        low = rw (← width_read) (let a = q.inside.1 in omega (arith, is.0, is.1))

        test : (m : ℕ) → eqb (bit_at q.width m q.number) 1 ≡ eqb (bit_at (width_of U) m p) 1
        test m = ap₂ (λ (f n : ℕ). eqb (bit_at f m n) 1) (is.0 ∙ width_read) is.1

        -- one that was tested above it, or a new one
        pub node_tested : (m : ℕ) → eqb (bit_at q.width m q.number) 1 ≡ true → None ≡ look_twin (unpacked links nodes) (length sigs) m i
        node_tested m o = sym (look_again _ _ _ _ inside parts.position some low (sym (test m) ∙ o))

        pub node_made : (m : ℕ) → eqb (bit_at q.width m q.number) 1 ≡ false
            → weighed (Some (record { position = q; left = l; right = r })) ≡ look_twin (unpacked links nodes) (length sigs) m i
        node_made m o =
            rw (is.0 ∙ width_read, is.1) (look_new _ _ _ _ inside parts.position some low (sym (test m) ∙ o) _ _ parts.left parts.right)

    -- a leaf
    pub leaf_read : (path : Path) (r u : ℕ) (lent : Lent) {w : Option Lent} → w ≡ leaf_twin S L (tested_in L path) r lent → r ≤ B → w ≡ walk_twin u sigs (unpacked links nodes) (tested_in links path) r lent
    leaf_read path r u lent e h =
        e ∙ ap₂ (λ (s l : List ℕ). leaf_twin s l (tested_in l path) r lent) rows.0 rows.1 ∙ sym (leaf_row sigs links nodes fits.rows (tested_in links path) r lent)
        ∙ sym (walk_leaf sigs U (tested_in links path) r u lent (omega (arith, blocks_read)))

    -- a subtree
    module _ (t : Tested) (r u : ℕ) (lent : Lent) where
      module _ (h : B < r) where
        above : length sigs < r
        above = omega (arith, blocks_read)

        pub ends_read : (u ≡ 0) ⊎ ((u ≢ 0) × (lent.nodes ≡ 0)) → None ≡ walk_twin u sigs (unpacked links nodes) t r lent
        ends_read (inl z) = sym (walk_out sigs U t r u lent above z)
        ends_read (inr z) = sym (walk_done sigs U t r u lent above z.1)

        module _ (nu : u ≢ 0) (nn : lent.nodes ≢ 0) {look : Option Weighed} (looked : look ≡ look_twin (unpacked links nodes) (length sigs) t.mask (r - B)) where
          node_read : look ≡ look_twin U (length sigs) t.mask (r - length sigs)
          node_read = looked ∙ ap (λ (n : ℕ). look_twin U (length sigs) t.mask (r - n)) blocks_read

          pub unfit_read : look ≡ None → None ≡ walk_twin u sigs (unpacked links nodes) t r lent
          unfit_read n = sym (walk_unfit sigs U t r u lent above nu (sym node_read ∙ n))

          module _ {d : Weighed} (is : look ≡ Some d) {left : Tested} (l : left ≡ passed_by t d.weight 0)
              {first : Option Lent} (f : first ≡ walk_twin (u - 1) sigs (unpacked links nodes) left d.left (node_less lent)) where
            left_read : walk_twin (u - 1) sigs U (passed_by t d.weight 0) d.left (node_less lent) ≡ first
            left_read = ap (λ (y : Tested). walk_twin (u - 1) sigs U y d.left (node_less lent)) (sym l) ∙ sym f

            pub stop_read : first ≡ None → None ≡ walk_twin u sigs (unpacked links nodes) t r lent
            stop_read n = sym (walk_stop sigs U t r u lent above nu nn d (sym node_read ∙ is) (left_read ∙ n))

            pub both_read : {rest : Lent} → first ≡ Some rest → {right : Tested} → right ≡ passed_by t d.weight d.weight
                → {w : Option Lent} → w ≡ walk_twin (u - 1) sigs (unpacked links nodes) right d.right rest → w ≡ walk_twin u sigs (unpacked links nodes) t r lent
            both_read {rest = rest} s k e =
                e ∙ ap (λ (y : Tested). walk_twin (u - 1) sigs U y d.right rest) k ∙ sym (walk_both sigs U t r u lent above nu nn d (sym node_read ∙ is) rest (left_read ∙ s))

  -- the verdict
  all_read : rows_twin S L ≡ rows_twin sigs U
  all_read = ap₂ rows_twin rows.0 rows.1 ∙ rw (rows_all sigs links nodes fits.rows, filed_all sigs links nodes fits.rows)

  pub rows_read : None ≡ rows_twin S L → false ≡ soundb sigs (unpacked links nodes)
  rows_read e = sym (sound_rows sigs U (rows_none sigs U (e ∙ all_read)))

  module _ {c : ℕ} (e : Some c ≡ rows_twin S L) {told : ℕ} (count : told ≡ count_of L) where
    filed : (rows_ok sigs U (length sigs) ≡ true) × (c ≡ filed_up_to U (length sigs))
    filed = rows_some sigs U c (e ∙ all_read)

    pub count_read : c ≢ told → false ≡ soundb sigs (unpacked links nodes)
    count_read n = sym (sound_count sigs U filed.0 c filed.1 (λ z. n (z ∙ sym (count ∙ front_read 4 (omega arith)))))

    -- the tree, and what it leaves
    module _ (h : c ≡ told) {B : ℕ} (blocks : B ≡ length S) where
      rest_read : {tree : Option Lent} → tree ≡ tree_twin sigs U (record { nodes = B - 1; blocks = c }) → soundb sigs U ≡ rest_ok U (length sigs) tree
      rest_read q =
          sound_rest sigs U filed.0 c filed.1 (h ∙ count ∙ front_read 4 (omega arith)) _
          (q ∙ ap (λ (n : ℕ). tree_twin sigs U (record { nodes = n - 1; blocks = c })) (blocks_read blocks))

      pub unfit_tree : None ≡ tree_twin sigs (unpacked links nodes) (record { nodes = B - 1; blocks = c }) → false ≡ soundb sigs (unpacked links nodes)
      unfit_tree q = sym (rest_read q)

      module _ {left : Lent} (q : Some left ≡ tree_twin sigs (unpacked links nodes) (record { nodes = B - 1; blocks = c })) where
        pub blocks_left : left.blocks ≢ 0 → eqb left.blocks 0 ≡ soundb sigs (unpacked links nodes)
        blocks_left n = let z = ne_eqb _ _ n in rw (rest_read q, z)

        pub free_left : left.blocks ≡ 0 → {t : Bool} → t ≡ free_twin left.nodes (unpacked links nodes) (length sigs) (free_of (unpacked links nodes)) → t ≡ soundb sigs (unpacked links nodes)
        free_left z e = rw (rest_read q, eq-eqb _ _ z) e

  -- the tree from the root
  module _ {r : ℕ} (root : r ≡ root_of L) where
    root_read : r ≡ root_of U
    root_read = root ∙ front_read 2 (omega arith)

    pub none_read : (lent : Lent) → r ≡ 0 → Some lent ≡ tree_twin sigs (unpacked links nodes) lent
    unfolding tree_twin
    none_read lent z = simp (eq-eqb _ _ (sym root_read ∙ z))

    pub tree_read : (lent : Lent) → r ≢ 0 → {F : ℕ} → F ≡ width_of L → {t : Tested} → t ≡ untested_all → {w : Option Lent} → w ≡ walk_twin F sigs (unpacked links nodes) t r lent → w ≡ tree_twin sigs (unpacked links nodes) lent
    unfolding tree_twin
    tree_read lent n f h e =
        let ne : root_of U ≢ 0 = λ z. n (root_read ∙ z) in
        rw (ne_eqb _ _ ne, tree_twin) (rw h at e ∙ ap₂ (λ (F r : ℕ). walk_twin F sigs U untested_all r lent) (f ∙ front_read 0 (omega arith)) root_read)
