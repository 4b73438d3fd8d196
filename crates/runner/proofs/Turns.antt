-- Slips in turn: one more, two runs joined, the bytes of the input in two parts, and what is left of them.
-- Assumes nothing.
use Prim.Native.Nat.{ℕ, ◌+◌, ◌-◌, ◌≤◌, ◌<◌}
use native.Mathlib.Omega.{arith}
use mathlib.Core.Path.{◌≡◌, sym, ◌∙◌, ap, subst}
use mathlib.Core.Logic.{◌≢◌}
use mathlib.Core.List.{List, [], ◌∷◌, ◌++◌, append-nil, append_assoc}
use lib.ListN.{length, get_or, take, drop, length-append, length-take, length-drop}
use lib.Seq.{sets-eq, take_all, take_at, take-add, length-take-le, get_or-take}
use Rattle.model.specs.Ledger.{Report}
use Rattle.model.specs.PackedLists.{PackedMemory, PackedSlip}
use Rattle.model.proofs.Packing.{fit_stays}
use Rattle.lines.specs.Text.{Puts}
use Rattle.sigtree.specs.Face.{lent}
use Rattle.runner.specs.Served.{slip_size, lent_count, IsSlip, NoSlip, Serves, Served, InTurn, none, after, line_of, Batched, Ended, nothing, short, HoldsIndex}
use Rattle.runner.proofs.Lengths.{size_some}

-- what is put into a text stands after what it held
put_after : (text line : List ℕ) (at next : ℕ) (text' : List ℕ) → Puts text at line next text' → next ≤ length text → take next text' ≡ take at text ++ line
put_after text line at next text' p fits =
    let front : length (take at text ++ line) ≡ next = omega (arith, length-append (take at text) line, length-take-le at text (omega (arith, p.place)), p.place) in
    ap (take next) (p.words ∙ sets-eq line text at (omega (arith, p.place))) ∙ take_at (take at text ++ line) (drop (at + length line) text) next front

-- a slip that was lent the first n words held
pub serves_by : (words links nodes scratch marks output slip : List ℕ) (o : Report) (words' links' nodes' scratch' marks' output' : List ℕ) (n : ℕ)
    → n ≡ lent_count links slip → n ≤ length words → length words' ≡ length (take n words)
    → PackedSlip slip (lent (take n words) links nodes scratch marks output) o (lent words' links' nodes' scratch' marks' output')
    → Serves (lent words links nodes scratch marks output) slip o (lent (words' ++ drop n words) links' nodes' scratch' marks' output')
serves_by words links nodes scratch marks output slip o words' links' nodes' scratch' marks' output' n e enough long g = record {
  enough = omega arith;
  left = lent words' links' nodes' scratch' marks' output';
  gives = subst (λ (k : ℕ). PackedSlip slip (lent (take k words) links nodes scratch marks output) o (lent words' links' nodes' scratch' marks' output')) e g;
  long = long ∙ length-take-le n words enough ∙ e;
  back = ap (λ (k : ℕ). lent (words' ++ drop k words) links' nodes' scratch' marks' output') e;
}

-- one slip more
one_more : (M M₁ M₂ : PackedMemory) (bytes slip text : List ℕ) (used next : ℕ) (text' : List ℕ)
    → InTurn M bytes (take used text) M₁ → Served slip M₁ M₂ text used next text' → length slip ≡ slip_size M₁.links (get_or slip 0 0) → next ≤ length text
    → InTurn M (bytes ++ slip) (take next text') M₂
one_more M M₁ M₂ bytes slip text used next text' r s whole fits =
    subst (λ (t : List ℕ). InTurn M (bytes ++ slip) t M₂) (sym (put_after text _ used next text' s.puts fits))
    (after bytes (take used text) M₁ r slip s.report M₂ whole s.serves)

-- slips after slips
pub joined : (M M₁ M₂ : PackedMemory) (bytes bytes' text text' : List ℕ) → InTurn M bytes text M₁ → InTurn M₁ bytes' text' M₂ → InTurn M (bytes ++ bytes') (text ++ text') M₂
joined M M₁ M₂ bytes _ text _ a none = rw (append-nil bytes, append-nil text) a
joined M M₁ M₂ bytes _ text _ a (after bytes' text' M₃ r slip o _ whole g) =
    rw (← append_assoc bytes bytes' slip, ← append_assoc text text' (line_of slip o M₂.work.output))
    (after (bytes ++ bytes') (text ++ text') M₃ (joined M M₁ M₃ bytes bytes' text text' a r) slip o M₂ whole g)

-- a slip at the front of the bytes is not empty, is inside them, and is as long as its own first byte says
pub slip_some : (links bytes slip : List ℕ) → IsSlip links bytes slip → 0 < length slip
slip_some links bytes slip s = omega (arith, s.long, size_some links (get_or bytes 0 0))

pub slip_inside : (links bytes slip : List ℕ) → IsSlip links bytes slip → length slip ≤ length bytes
slip_inside links bytes slip s = omega (arith, ap length s.front, length-take (length slip) bytes)

slip_whole : (links bytes slip : List ℕ) → IsSlip links bytes slip → length slip ≡ slip_size links (get_or slip 0 0)
slip_whole links bytes slip s =
    s.long ∙ ap (slip_size links) (sym (ap (λ (l : List ℕ). get_or l 0 0) s.front ∙ get_or-take (length slip) bytes 0 0 (slip_some links bytes slip s)))

-- the bytes from place `at` on, as the code cuts them
the_rest : (bytes : List ℕ) (at : ℕ) → take (length bytes - at) (drop at bytes) ≡ drop at bytes
the_rest bytes at = take_all (length bytes - at) (drop at bytes) (omega (arith, length-drop at bytes))

-- a batch of no slip, and of one more
pub batch_none : (bytes : List ℕ) (M : PackedMemory) (text : List ℕ) → Batched bytes M M 0 0 text
batch_none bytes M text = record { inside = omega arith; turns = none; room = omega arith }

pub batch_more : (bytes : List ℕ) (M M₁ M₂ : PackedMemory) (at used : ℕ) (text : List ℕ) (next : ℕ) (text' slip : List ℕ)
    → Batched bytes M M₁ at used text → Served slip M₁ M₂ text used next text' → IsSlip M₁.links (take (length bytes - at) (drop at bytes)) slip → next ≤ length text
    → Batched bytes M M₂ (at + length slip) next text'
batch_more bytes M M₁ M₂ at used text next text' slip b s i⁺ fits =
    let i = subst (λ (l : List ℕ). IsSlip M₁.links l slip) (the_rest bytes at) i⁺ in
    record {
      inside = omega (arith, b.inside, slip_inside M₁.links (drop at bytes) slip i, length-drop at bytes);
      turns = subst (λ (l : List ℕ). InTurn M l (take next text') M₂) (sym (take-add at (length slip) bytes ∙ ap (λ (l : List ℕ). take at bytes ++ l) (sym i.front)))
          (one_more M M₁ M₂ (take at bytes) slip text used next text' b.turns s (slip_whole M₁.links (drop at bytes) slip i) fits);
      room = omega (arith, s.puts.long);
    }

-- the batches so far: the slips of the bytes up to byte `at`
pub record Going (bytes : List ℕ) (M M' : PackedMemory) (at : ℕ) : Type 0 where
  pub inside : at ≤ length bytes
  pub text : List ℕ
  pub turns : InTurn M (take at bytes) text M'

pub going_none : (bytes : List ℕ) (M : PackedMemory) → Going bytes M M 0
going_none bytes M = record { inside = omega arith; text = []; turns = none }

pub going_more : (bytes : List ℕ) (M M₁ M₂ : PackedMemory) (at more used : ℕ) (text : List ℕ) → Going bytes M M₁ at → Batched (take (length bytes - at) (drop at bytes)) M₁ M₂ more used text → Going bytes M M₂ (at + more)
going_more bytes M M₁ M₂ at more used text g b⁺ =
    let b = subst (λ (l : List ℕ). Batched l M₁ M₂ more used text) (the_rest bytes at) b⁺ in
    record {
      inside = omega (arith, g.inside, b.inside, length-drop at bytes);
      text = g.text ++ take used text;
      turns = rw (take-add at more bytes) (joined M M₁ M₂ (take at bytes) (take more (drop at bytes)) g.text (take used text) g.turns b.turns);
    }

-- the bytes that are left at the end: none, or one slip
pub ended_none : (left : List ℕ) (M : PackedMemory) → length left ≡ 0 → Ended M left M
ended_none [] M e = nothing
ended_none (b ∷ bs) M e = absurd (omega (arith, e))

pub ended_one : (left : List ℕ) (M M' : PackedMemory) (text : List ℕ) (next : ℕ) (text' : List ℕ) → length left ≢ 0 → NoSlip M.links left → Served left M M' text 0 next text' → Ended M left M'
ended_one left M M' text next text' some few s = short left s.report M' (omega (arith, some)) few s.serves

-- What is held stays an index, with words for any width: no slip changes the length of what it is lent.
holds_more : (M M' : PackedMemory) (slip : List ℕ) (o : Report) → HoldsIndex M.signatures M.links M.nodes → Serves M slip o M' → HoldsIndex M'.signatures M'.links M'.nodes
holds_more M M' slip o h s =
    let n : ℕ = lent_count M.links slip in
    let stays = (s.gives.asked h.fits).1 in
    let long : length (s.left.signatures ++ drop n M.signatures) ≡ length M.signatures = omega (arith, length-append s.left.signatures (drop n M.signatures), length-drop n M.signatures, s.long, s.enough) in
    subst (λ (x : PackedMemory). HoldsIndex x.signatures x.links x.nodes) (sym s.back) (record {
      fits = fit_stays M.links M.nodes s.left.links s.left.nodes stays.rows_long stays.nodes_long h.fits;
      enough = rw (stays.rows_long, long) h.enough;
    })

pub holds_on : (M M' : PackedMemory) (bytes text : List ℕ) → HoldsIndex M.signatures M.links M.nodes → InTurn M bytes text M' → HoldsIndex M'.signatures M'.links M'.nodes
holds_on M M' _ _ h none = h
holds_on M M' _ _ h (after bytes text M₁ r slip o _ whole s) = holds_more M₁ M' slip o (holds_on M M₁ bytes text h r) s
