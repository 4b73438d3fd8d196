-- What a filing of sound tables has to give, whichever of its three ways it takes: the rows kept, sound tables, and the plain tree with the
-- signature put in. Its ways stand in First, Joins and Splits.
-- Assumes nothing.
use Prim.Native.Nat.{ℕ, ◌^◌, ◌≤◌, ◌<◌}
use native.Mathlib.Omega.{arith}
use mathlib.Core.Path.{◌≡◌, sym, ◌∙◌, ap}
use mathlib.Core.Logic.{◌≢◌}
use mathlib.Core.List.{List, [], Memᴰ}
use Rattle.model.specs.Tree.{insert}
use Rattle.model.specs.Tables.{root_of, filed_of, signature_of, tree_from}
use Rattle.model.specs.Sound.{Shape, Rooted, some, blocks, SoundAt}
use Rattle.model.specs.File.{file_signatures}
use Rattle.tables.proofs.Trees.{shape_tree, tree_rooted, tree_of_sound}
use Rattle.tables.proofs.Steps.{insert_noded}
use Rattle.tables.proofs.Ways.{Way, replace, replace_tree}
use Rattle.tables.proofs.After.{signature_other, signature_own, old, Kept, Made}

-- a block and a signature that no question refuses, of sound tables
pub record Fileable {B F : ℕ} {sigs L : List ℕ} (S : SoundAt B F sigs L) (b s : ℕ) : Type 0 where
  pub from : 1 ≤ b
  pub to : b ≤ B
  pub unfiled : filed_of L b ≡ 0
  pub small : s < 2 ^ F

pub not_zero : (s : ℕ) → ◌≡◌ {A = ℕ} 1 0 → s ≡ 0
not_zero s e = absurd (omega arith)

pub one : 1 ≤ 1
one = omega arith

module _ {B F : ℕ} {sigs L : List ℕ} {S : SoundAt B F sigs L} {b s : ℕ} (Q : Fileable S b s) where
  -- the rows, sound tables with a tree, and the plain tree
  abbrev pub Rows : List ℕ → Type 0
  Rows = Kept S b Q.from Q.to 1

  abbrev pub With : (L' : List ℕ) → Rows L' → Rooted → Type 0
  With L' K = Made S b Q.from Q.to 1 s one Q.small (not_zero s) L' K

  pub record Good (L' : List ℕ) : Type 0 where
    pub rows : Rows L'
    pub sound : SoundAt B F (file_signatures sigs b s) L'
    pub tree : tree_from B (file_signatures sigs b s) L' F (root_of L') ≡ insert F s (tree_from B sigs L F (root_of L))

  pub good : (L' : List ℕ) (K : Rows L') (t' : Rooted) → With L' K t' → tree_rooted (file_signatures sigs b s) t' ≡ insert F s (tree_rooted sigs S.tree) → Good L'
  good L' K t' M e = record {
    rows = K;
    sound = M.0;
    tree = tree_of_sound M.0 ∙ ap (tree_rooted (file_signatures sigs b s)) M.1 ∙ e ∙ sym (ap (insert F s) (tree_of_sound S));
  }

  pub own_signature : signature_of (file_signatures sigs b s) b ≡ s
  own_signature = signature_own sigs b s Q.from (omega (arith, S.fits.sigs_long, Q.to))

  module _ (t : Shape) (is_t : S.tree ≡ some t) where
    -- every block of the tree is filed, hence another, and keeps its signature
    pub another : (c : ℕ) → Memᴰ c (blocks t) → c ≢ b
    another c m e = let f = (old S t is_t).filed c m in let x = ap (filed_of L) e in omega (arith, Q.unfiled)

    pub same_signature : (c : ℕ) → Memᴰ c (blocks t) → signature_of (file_signatures sigs b s) c ≡ signature_of sigs c
    same_signature c m = signature_other sigs b s Q.from c ((old S t is_t).filed c m).0 (another c m)

    -- the plain tree of the tree with u in the part's place
    pub grown : {part : Shape} (w : Way F s part t) (u : Shape) → shape_tree (file_signatures sigs b s) u ≡ insert F s (shape_tree sigs part)
        → tree_rooted (file_signatures sigs b s) (some (replace w u)) ≡ insert F s (tree_rooted sigs S.tree)
    grown w u e =
        replace_tree (insert F s) sigs (file_signatures sigs b s) L (λ d p x y a z q. insert_noded F s d p a (shape_tree (file_signatures sigs b s) y) z) [] w u (old S t is_t).placed (λ c m n. same_signature c m) e
        ∙ sym (ap (λ (x : Rooted). insert F s (tree_rooted sigs x)) is_t)
