-- What `build` knows once it has split its group, and what follows for the reference of each half, for its two calls of itself and
-- for the words that it leaves.
-- Assumes nothing.
use Prim.Native.Nat.{ℕ, zero, suc, ◌+◌, ◌-◌, ◌^◌, ◌≤◌, ◌<◌}
use native.Mathlib.Omega.{arith}
use mathlib.Core.Path.{◌≡◌, refl, sym, ◌∙◌, ap}
use mathlib.Core.List.{List, [], ◌∷◌, ◌++◌}
use lib.ListN.{length, get_or, take, drop, length-append, length-drop}
use lib.Seq.{sets, length-take-le, drop_at, take_all, get_or-take, get_or-drop}
use Rattle.model.specs.Limits.{most_blocks}
use Rattle.model.specs.Build.{best_position}
use Rattle.model.specs.Tables.{position_at, left_at, right_at, signature_of}
use Rattle.model.specs.Stores.{◌↤◌, stores}
use Rattle.model.specs.Rebuild.{group_reference, group_nodes}
use Rattle.model.proofs.Stores.{sets_append}
use Rattle.model.proofs.Members.{Same, same_length}
use Rattle.split.specs.Split.{Blocks, Group, Parted, Halved, reference_to}
use Rattle.split.proofs.Sums.{same_sym, blocks_same, blocks_take, blocks_drop}
use Rattle.split.proofs.Sides.{parted_left, parted_right}
use Rattle.split.proofs.Best.{apart_same}
use Rattle.model.proofs.Best.{best_position_is}
use Rattle.tables.proofs.Freeing.{node_stores}
use Rattle.split.proofs.Nodes.{reference_by, reference_same, half, Sizes, sizes, apart_half, nodes_step, nodes_length, nodes_same, nodes_few}

-- a list parted at its best position
pub halve : (F : ℕ) (of : ℕ → ℕ) (before after : List ℕ) (p k : ℕ) → p ≡ best_position F of before → Parted F of p before after k → Halved F of before after p k
halve F of before after p k e h =
    record {
      best = e;
      same = h.same;
      fits = h.fits;
      left = parted_left F of p before after k h;
      right = parted_right F of p before after k h;
    }

-- the cases of a reference
pub none_to : (n head node : ℕ) → n ≡ 0 → 0 ≡ reference_to n head node
unfolding reference_to
none_to n head node e = rw e refl

pub one_to : (n head node : ℕ) → n ≡ 1 → head ≡ reference_to n head node
unfolding reference_to
one_to n head node e = rw e refl

pub more_to : (n head node : ℕ) → 2 ≤ n → node ≡ reference_to n head node
unfolding reference_to
more_to zero head node h = absurd (omega arith)
more_to (suc zero) head node h = absurd (omega arith)
more_to (suc (suc n)) head node h = refl

-- the arguments of a call, and the group after its split, of k blocks with bit 0
pub record Known (F : ℕ) (sigs g after nodes : List ℕ) (p k i t : ℕ) : Type 0 where
  pub measure : length g ≡ t
  pub group : Group F sigs g
  pub small : length sigs ≤ most_blocks
  pub room : length nodes + 1 ≡ length sigs
  pub node : (1 ≤ i) × (i + length g ≤ length sigs + 1)
  pub halved : Halved F (signature_of sigs) g after p k
  pub many : 2 ≤ length g

pub known : {F : ℕ} {sigs g after nodes : List ℕ} {p k i t : ℕ} → length g ≡ t → Group F sigs g → length sigs ≤ most_blocks → length nodes + 1 ≡ length sigs → (1 ≤ i) × (i + length g ≤ length sigs + 1)
    → Halved F (signature_of sigs) g after p k → 2 ≤ length g → Known F sigs g after nodes p k i t
known e g s r n h m = record { measure = e; group = g; small = s; room = r; node = n; halved = h; many = m }

-- the numbers in it: B blocks, a group of n blocks, after blocks after the split, k of them in the left half, and node i
pub record Bounds (B n after k i : ℕ) : Type 0 where
  pub same : after ≡ n
  pub low : 1 ≤ k
  pub high : k < n
  pub small : B ≤ most_blocks
  pub from : 1 ≤ i
  pub to : i + n ≤ B + 1

module _ {F : ℕ} {sigs g after nodes : List ℕ} {p k i t : ℕ} (h : Known F sigs g after nodes p k i t) where
  abbrev B : ℕ
  B = length sigs

  abbrev low : List ℕ
  low = take k after

  abbrev high : List ℕ
  high = drop k after

  after_length : length after ≡ length g
  after_length = same_length after g h.halved.same

  low_length : length (take k after) ≡ k
  low_length = length-take-le k after h.halved.fits

  high_length : length high ≡ length g - k
  high_length = length-drop k after ∙ ap (λ (n : ℕ). n - k) after_length

  after_blocks : Blocks B after
  after_blocks = blocks_same B g after (same_sym after g h.halved.same) h.group.blocks

  both : Sizes F sigs g
  both = sizes F sigs h.group.below g h.group.apart h.many

  same_low : Same low (half F sigs 0 g)
  same_low = rw (← h.halved.best) h.halved.left

  same_high : Same high (half F sigs 1 g)
  same_high = rw (← h.halved.best) h.halved.right

  -- both halves have some
  some : (1 ≤ k) × (k < length g)
  some =
      let l = both.left in
      let r = both.right in
      let n = same_length low (half F sigs 0 g) same_low in
      let m = same_length high (half F sigs 1 g) same_high in
      omega (arith, low_length, high_length)

  pub bounds : Bounds (length sigs) (length g) (length after) k i
  bounds = let q = some in record { same = after_length; low = q.0; high = q.1; small = h.small; from = h.node.0; to = h.node.1 }

  -- and are groups
  half_group : (e : ℕ) (l : List ℕ) → e ≤ 1 → Same l (half F sigs e g) → Blocks B l → Group F sigs l
  half_group e l q s b =
      let a = apart_same sigs (half F sigs e g) l (same_sym l (half F sigs e g) s) (apart_half F sigs e g q h.group.apart) in
      record { from = h.group.from; to = h.group.to; blocks = b; below = h.group.below; apart = a }

  low_group : Group F sigs low
  low_group = half_group 0 low (omega arith) same_low (blocks_take B k after h.halved.fits after_blocks)

  high_group : Group F sigs high
  high_group = half_group 1 high (omega arith) same_high (blocks_drop B k after after_blocks)

  -- the references of the halves
  pub left_reference : reference_to k (get_or after 0 0) (B + i + 1) ≡ group_reference B low (i + 1)
  left_reference =
      let q = some in
      let e : get_or low 0 0 ≡ get_or after 0 0 = get_or-take k after 0 0 (omega arith) in
      let n = low_length in
      let a : B + i + 1 ≡ B + (i + 1) = omega arith in
      let r = reference_by B low (i + 1) in
      cc

  pub right_reference : reference_to (length g - k) (get_or after k 0) (B + i + k) ≡ group_reference B high (i + k)
  right_reference =
      let e : get_or high 0 0 ≡ get_or after (k + 0) 0 = get_or-drop k after 0 0 in
      let z : k + 0 ≡ k = omega arith in
      let n = high_length in
      let a : B + i + k ≡ B + (i + k) = omega arith in
      let r = reference_by B high (i + k) in
      cc

  -- what is stored fits a node
  small_reference : (n head node : ℕ) → head ≤ 131070 → node ≤ 131070 → reference_to n head node < 2 ^ 17
  unfolding reference_to
  small_reference zero head node a b = omega arith
  small_reference (suc zero) head node a b = omega arith
  small_reference (suc (suc n)) head node a b = omega arith

  block_at : (j : ℕ) → j < length after → get_or after j 0 ≤ length sigs
  unfolding Blocks
  block_at j l = (after_blocks j l).1

  pub node_fits : (left right : ℕ) → left ≡ reference_to k (get_or after 0 0) (length sigs + i + 1) → right ≡ reference_to (length g - k) (get_or after k 0) (length sigs + i + k) → (p < 2 ^ 30) × (left < 2 ^ 17) × (right < 2 ^ 17)
  node_fits left right el er =
      let q = some in
      let s = h.small in
      let n = after_length in
      let m = h.node in
      let w = h.group.to in
      let b = (best_position_is F (signature_of sigs) g h.group.from).to in (
        omega (arith, h.halved.best),
        rw el (small_reference k (get_or after 0 0) (length sigs + i + 1) (omega (arith, block_at 0 (omega arith))) (omega arith)),
        rw er (small_reference (length g - k) (get_or after k 0) (length sigs + i + k) (omega (arith, block_at k (omega arith))) (omega arith)),
      )

  -- what the call for the left half asks
  pub left_asks : (l : List ℕ) → length l ≡ length nodes → (length low < t) × (Group F sigs low × ((length l + 1 ≡ B) × ((1 ≤ i + 1) × (i + 1 + length low ≤ B + 1))))
  left_asks l e =
      let n = low_length in
      let q = some in
      (omega (arith, h.measure), (low_group, (ap (λ (m : ℕ). m + 1) e ∙ h.room, omega (arith, h.node))))

  -- the group after the call for the left half, from k on
  module _ (ys : List ℕ) (same : length ys ≡ length (take k after)) where
    ys_length : length ys ≡ k
    ys_length = same ∙ low_length

    whole_length : length (ys ++ drop k after) ≡ length g
    whole_length = let q = some in simp length-append (omega (arith, ys_length, high_length))

    pub rest : take (length (ys ++ drop k after) - k) (drop k (ys ++ drop k after)) ≡ drop k after
    rest =
        let n = whole_length in
        let m = high_length in
        rw (drop_at ys (drop k after) k ys_length) (take_all (length (ys ++ drop k after) - k) (drop k after) (omega arith))

    -- what the call for the right half asks
    pub right_asks : (l : List ℕ) → length l ≡ length nodes
        → (length (take (length (ys ++ drop k after) - k) (drop k (ys ++ drop k after))) < t)
        × (Group F sigs (take (length (ys ++ drop k after) - k) (drop k (ys ++ drop k after)))
        × ((length l + 1 ≡ B)
        × ((1 ≤ i + k) × (i + k + length (take (length (ys ++ drop k after) - k) (drop k (ys ++ drop k after))) ≤ B + 1))))
    right_asks l e =
        let n = high_length in
        let q = some in
        rw rest (omega (arith, h.measure), (high_group, (ap (λ (m : ℕ). m + 1) e ∙ h.room, omega (arith, h.node))))

  -- the words at the end
  pub finish : (links : List ℕ) (left right : ℕ) (l0 l1 l2 : List ℕ)
      → left ≡ reference_to k (get_or after 0 0) (B + i + 1) → right ≡ reference_to (length g - k) (get_or after k 0) (B + i + k)
      → l0 ≡ stores links ((position_at B i ↤ p) ∷ (left_at B i ↤ left) ∷ (right_at B i ↤ right) ∷ [])
      → l1 ≡ sets l0 (position_at B (i + 1)) (group_nodes (length low) F sigs low (i + 1))
      → l2 ≡ sets l1 (position_at B (i + k)) (group_nodes (length high) F sigs high (i + k))
      → l2 ≡ sets links (position_at B i) (group_nodes (length g) F sigs g i)
  finish links left right l0 l1 l2 er es e0 e1 e2 =
      let b = h.group.below in
      let q = some in
      let n : length g ≡ suc (length g - 1) = omega (arith, h.many) in
      let hl : List ℕ = half F sigs 0 g in
      let hr : List ℕ = half F sigs 1 g in
      let nl : length hl ≡ k = sym (same_length low hl same_low) ∙ low_length in
      let nr : length hr ≡ length g - k = sym (same_length high hr same_high) ∙ high_length in
      let al = apart_half F sigs 0 g (omega arith) h.group.apart in
      let ar = apart_half F sigs 1 g (omega arith) h.group.apart in
      let wl : group_nodes (length low) F sigs low (i + 1) ≡ group_nodes (length g - 1) F sigs hl (i + 1) = nodes_same F sigs b (length low) (length g - 1) low hl (i + 1) low_group.apart al same_low (omega arith) (omega arith) in
      let wr : group_nodes (length high) F sigs high (i + k) ≡ group_nodes (length g - 1) F sigs hr (i + k) = nodes_same F sigs b (length high) (length g - 1) high hr (i + k) high_group.apart ar same_high (omega arith) (omega arith) in
      let rl : left ≡ group_reference B hl (i + 1) = er ∙ left_reference ∙ reference_same B low hl (i + 1) same_low in
      let rr : right ≡ group_reference B hr (i + k) = es ∙ right_reference ∙ reference_same B high hr (i + k) same_high in
      let best = h.halved.best in
      let three : List ℕ = p ∷ left ∷ right ∷ [] in
      let w1 : List ℕ = group_nodes (length low) F sigs low (i + 1) in
      let w2 : List ℕ = group_nodes (length high) F sigs high (i + k) in
      let c1 = nodes_length F sigs b (length low) low (i + 1) low_group.apart (omega arith) in
      let a1 : position_at B (i + 1) ≡ position_at B i + length three = omega arith in
      let a2 : position_at B (i + k) ≡ position_at B i + length three + length w1 = omega (arith, low_length) in
      let z0 : l0 ≡ sets links (position_at B i) three = e0 ∙ node_stores B links i p left right in
      let step : group_nodes (length g) F sigs g i ≡ three ++ w1 ++ w2 = ap (λ (m : ℕ). group_nodes m F sigs g i) n ∙ nodes_step F sigs (length g - 1) g i h.many ∙ (cc) in
      let s1 = sets_append links (position_at B i) three (w1 ++ w2) in
      let s2 = sets_append (sets links (position_at B i) three) (position_at B i + length three) w1 w2 in
      cc

-- a group of no or one block leaves the links
pub few : (F : ℕ) (sigs g : List ℕ) (i : ℕ) (links : List ℕ) → length g < 2 → links ≡ sets links (position_at (length sigs) i) (group_nodes (length g) F sigs g i)
few F sigs g i links h = ap (sets links (position_at (length sigs) i)) (sym (nodes_few F sigs (length g) g i (omega arith)))
