-- The chain of a filed block of sound tables: the walk by the block's own signature reaches it, since on the other side of each node
-- that it passes the bit is another.
-- Assumes nothing.
use Prim.Native.Nat.{ℕ, ◌≤◌}
use mathlib.Core.Path.{◌≡◌, refl, ◌∙◌, ap, subst}
use mathlib.Core.List.Memᴰ
use mathlib.Core.List.{List, [], ◌∷◌, Memᴰ}
use Rattle.model.specs.Tables.{word, root_at, filed_of, signature_of}
use Rattle.model.specs.Sound.{Shape, Rooted, none, some, Chain, blocks_in, SoundAt}
use Rattle.model.specs.File.{spot_of}
use Rattle.tables.proofs.Trees.{depth_root}
use Rattle.tables.proofs.Ways.{reach, part_holds, found, spot_from_spot}
use Rattle.tables.proofs.After.{old}

-- the chain at the end of the walk by b's signature, with b on it
pub record Found (B F : ℕ) (sigs L : List ℕ) (b : ℕ) : Type 0 where
  pub head : ℕ
  pub others : List ℕ
  pub reference : word L (spot_of B F L (signature_of sigs b)) ≡ head
  pub from : 1 ≤ head
  pub to : head ≤ B
  pub chain : Chain B L head others
  pub meets : Memᴰ b (head ∷ others)

module _ {B F : ℕ} {sigs L : List ℕ} (S : SoundAt B F sigs L) (b : ℕ) (b1 : 1 ≤ b) (bB : b ≤ B) (filed : filed_of L b ≡ 1) where
  in_tree : (t : Shape) → S.tree ≡ some t → Found B F sigs L b
  in_tree t e =
      let O = old S t e in
      let R = reach F (signature_of sigs b) t in
      let q = part_holds B L root_at R.to O.holds in
      let at = spot_from_spot B L R.to F root_at O.holds (depth_root F sigs L t O.placed) in
      record {
        head = R.head;
        others = R.others;
        reference = ap (word L) at ∙ q.0;
        from = q.1;
        to = q.2;
        chain = q.3;
        meets = found sigs L [] R.to O.placed b (O.chained b b1 bB filed) refl;
      }

  pub found_chain : Found B F sigs L b
  found_chain = go S.tree refl
    where
      go : (t : Rooted) → S.tree ≡ t → Found B F sigs L b
      go none e = absurd (Memᴰ.not-nil (subst (λ (x : Rooted). Memᴰ b (blocks_in x)) e (S.on_chain b b1 bB filed)))
      go (some t) e = in_tree t e
