-- The words of a node as a run; and a turn of the loop that frees the rest: a free node's three words come first, then those of the nodes
-- after it.
-- Assumes nothing.
use Prim.Native.Nat.{ℕ, suc, ◌+◌, ◌-◌, ◌^◌, ◌≤◌, ◌<◌}
use native.Mathlib.Omega.{arith}
use mathlib.Core.Path.{◌≡◌, refl, sym, ◌∙◌, ap}
use mathlib.Core.List.{List, [], ◌∷◌, ◌++◌}
use lib.ListN.{set}
use lib.Seq.{sets}
use Rattle.model.specs.Tables.{position_at, left_at, right_at}
use Rattle.model.specs.Stores.{◌↤◌, stores}
use Rattle.model.specs.Clear.{free_from, free_nodes}
use Rattle.model.specs.Packed.{node_word, unpacked, Packs}
use Rattle.model.proofs.Stores.{sets_append}
use Rattle.model.proofs.Packing.{node_store}
use Rattle.tables.proofs.Spelled.{free_step}

-- a node's three stores, one after the other
pub node_stores : (B : ℕ) (l : List ℕ) (i p x y : ℕ) → stores l ((position_at B i ↤ p) ∷ (left_at B i ↤ x) ∷ (right_at B i ↤ y) ∷ []) ≡ sets l (position_at B i) (p ∷ x ∷ y ∷ [])
node_stores B l i p x y =
    let e : left_at B i ≡ suc (position_at B i) = omega arith in
    let f : right_at B i ≡ suc (suc (position_at B i)) = omega arith in
    rw (e, f) refl

pub free_turn : (B i x : ℕ) (links after whole : List ℕ) → i < B → x ≡ free_from B (i + 1)
    → after ≡ stores links ((position_at B i ↤ 0) ∷ (left_at B i ↤ x) ∷ (right_at B i ↤ 0) ∷ [])
    → sets links (position_at B i) (free_nodes (B - i) i) ≡ whole → sets after (position_at B (i + 1)) (free_nodes (B - (i + 1)) (i + 1)) ≡ whole
free_turn B i x links after whole h ex ea e =
    let n : B - i ≡ suc (B - (i + 1)) = omega arith in
    let o : i + 1 ≡ suc i = omega arith in
    let a : position_at B (i + 1) ≡ position_at B i + 3 = omega arith in
    let three : List ℕ = 0 ∷ free_from B (i + 1) ∷ 0 ∷ [] in
    let rest : List ℕ = free_nodes (B - (i + 1)) (i + 1) in
    let w : free_nodes (B - i) i ≡ three ++ rest =
    ap (λ (m : ℕ). free_nodes m i) n ∙ free_step B (B - (i + 1)) i (omega arith) ∙ ap (λ (k : ℕ). 0 ∷ free_from B k ∷ 0 ∷ free_nodes (B - (i + 1)) k) (sym o) in
    let z : after ≡ sets links (position_at B i) three = ea ∙ node_stores B links i 0 x 0 ∙ ap (λ (y : ℕ). sets links (position_at B i) (0 ∷ y ∷ 0 ∷ [])) ex in
    ap (λ (l : List ℕ). sets l (position_at B (i + 1)) rest) z
    ∙ ap (λ (k : ℕ). sets (sets links (position_at B i) three) k rest) a
    ∙ sym (sets_append links (position_at B i) three rest)
    ∙ ap (sets links (position_at B i)) (sym w)
    ∙ e

-- the same of the node's word, beside any links
module _ (B i x : ℕ) (links nodes nodes' whole : List ℕ) (P : Packs B links nodes) (h : 1 ≤ i) (k : i < B) (small : x < 2 ^ 17) (ex : x ≡ free_from B (i + 1))
    (stored : nodes' ≡ set nodes (i - 1) (node_word 0 x 0)) where
  pub freed : sets (unpacked links nodes) (position_at B i) (free_nodes (B - i) i) ≡ whole → sets (unpacked links nodes') (position_at B (i + 1)) (free_nodes (B - (i + 1)) (i + 1)) ≡ whole
  freed = free_turn B i x (unpacked links nodes) (unpacked links nodes') whole k ex (ap (unpacked links) stored ∙ sym (node_store B links nodes P i 0 x 0 h k small (omega arith)))

pub free_end : (B i : ℕ) (links whole : List ℕ) → i ≡ B → sets links (position_at B i) (free_nodes (B - i) i) ≡ whole → links ≡ whole
unfolding free_nodes
free_end B i links whole h e = let n : B - i ≡ 0 = omega arith in rw n at e
