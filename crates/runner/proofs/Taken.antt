-- The slips that a reader gives: what reads take of its known bytes, and the whole slips of the bytes so far.
-- Assumes nothing.
use Prim.Native.Nat.{ℕ, ◌+◌, ◌≤◌}
use native.Mathlib.Omega.{arith}
use mathlib.Core.Path.{◌≡◌, refl, sym, ◌∙◌, ap, subst}
use mathlib.Core.List.{List, [], ◌++◌, append_assoc, append-nil}
use lib.ListN.{length, take, drop, take-append-drop}
use lib.Seq.{length-take-le}
use Rattle.std.specs.Prelude.{Option, None, Some, Result, Ok, Err}
use Rattle.std.specs.Io.KnownBytes.{Keeps, Consumes, ReadConsumes}
use Rattle.std.specs.Result.{result_unwrap_or}
use Rattle.std.proofs.Math.Seq.{take-append-add}
use Rattle.std.proofs.lemmas.List.{take-append-le}
use Rattle.std.proofs.lemmas.Slice.{take-put_mid_below}
use borrow.Rule.Slice.PartMut.{put_mid}
use Rattle.model.specs.PackedLists.{PackedMemory}
use Rattle.runner.specs.Served.{NoSlip, none, nothing, Drained, Ended, Whole, Took}
use Rattle.runner.proofs.Lengths.{size_some}
use Rattle.runner.proofs.Turns.{joined}

-- no byte, and bytes after bytes
pub consumes_none : (b : Option (List ℕ)) → Consumes b b []
consumes_none None = tt
consumes_none (Some xs) = refl

consumes_more : (a b c : Option (List ℕ)) (xs ys : List ℕ) → Consumes a b xs → Consumes b c ys → Consumes a c (xs ++ ys)
consumes_more None b c xs ys p q = tt
consumes_more (Some l) None c xs ys p q = absurd p
consumes_more (Some l) (Some m) None xs ys p q = absurd q
consumes_more (Some l) (Some m) (Some n) xs ys p q = p ∙ ap (λ (k : List ℕ). xs ++ k) q ∙ sym (append_assoc xs ys n)

keeps : (a b : Option (List ℕ)) → Keeps a b → Consumes a b []
keeps None b p = tt
keeps (Some xs) None p = absurd p
keeps (Some xs) (Some ys) p = sym p

-- a read that fails takes no byte
pub consumes_read : {E : Type 0} (a b : Option (List ℕ)) (r : Result ℕ E) (room : List ℕ) (n : ℕ) → n ≡ result_unwrap_or r 0 → ReadConsumes a b r room → Consumes a b (take n room)
consumes_read a b (Ok m) room n e p = rw e (p.0)
consumes_read a b (Err x) room n e p = rw e (keeps a b p)

-- nothing is read at the start
pub whole_none : (b : Option (List ℕ)) (M : PackedMemory) → Whole b b M M []
whole_none b M = record { bytes = []; taken = consumes_none b; text = []; turns = none; all = size_some M.links 0 }

-- what stands in front once bytes are read behind those that are kept
read_behind : (bytes room : List ℕ) (kept k n : ℕ) → kept ≤ length bytes → n ≤ length room → take (kept + n) (put_mid kept k bytes room) ≡ take kept bytes ++ take n room
read_behind bytes room kept k n h l =
    let front : length (take kept bytes) ≡ kept = length-take-le kept bytes h in
    ap (λ (i : ℕ). take (i + n) (take kept bytes ++ (room ++ drop k (drop kept bytes)))) (sym front)
    ∙ take-append-add (take kept bytes) (room ++ drop k (drop kept bytes)) n
    ∙ ap (λ (l : List ℕ). take kept bytes ++ l) (take-append-le n room (drop k (drop kept bytes)) l)

-- bytes are read after those that are left, and the whole slips of both are served
whole_more : (b b₁ b₂ : Option (List ℕ)) (M M₁ M₂ : PackedMemory) (left got all : List ℕ) (r : ℕ) (left' : List ℕ)
    → Whole b b₁ M M₁ left → Consumes b₁ b₂ got → all ≡ left ++ got → Drained all M₁ M₂ r → left' ≡ drop r all → Whole b b₂ M M₂ left'
whole_more b b₁ b₂ M M₁ M₂ left got all r left' w t a d e =
    let front = take r all in
    let read : (w.bytes ++ left) ++ got ≡ (w.bytes ++ front) ++ left' =
    append_assoc w.bytes left got
    ∙ ap (λ (l : List ℕ). w.bytes ++ l) (sym a ∙ sym (take-append-drop r all))
    ∙ sym (append_assoc w.bytes front (drop r all))
    ∙ ap (λ (l : List ℕ). (w.bytes ++ front) ++ l) (sym e)
    in
    record {
      bytes = w.bytes ++ front;
      taken = subst (λ (l : List ℕ). Consumes b b₂ l) read (consumes_more b b₁ b₂ (w.bytes ++ left) got w.taken t);
      text = w.text ++ d.text;
      turns = joined M M₁ M₂ w.bytes front w.text d.text w.turns d.turns;
      all = subst (λ (l : List ℕ). NoSlip M₂.links l) (sym e) d.all;
    }

-- a read behind the bytes that are kept, after which what no whole slip took is moved to the front
pub read_more : (b b₁ b₂ : Option (List ℕ)) (M M₁ M₂ : PackedMemory) (bytes room moved : List ℕ) (kept k n r m : ℕ) → kept ≤ length bytes → n ≤ length room → m ≤ length moved
    → Whole b b₁ M M₁ (take kept bytes) → Consumes b₁ b₂ (take n room) → Drained (take (kept + n) (put_mid kept k bytes room)) M₁ M₂ r
    → take m moved ≡ drop r (take (kept + n) (put_mid kept k bytes room)) → Whole b b₂ M M₂ (take m (moved ++ drop (kept + n) (put_mid kept k bytes room)))
read_more b b₁ b₂ M M₁ M₂ bytes room moved kept k n r m h l i w t d e =
    let held = put_mid kept k bytes room in
    whole_more b b₁ b₂ M M₁ M₂ (take kept bytes) (take n room) (take (kept + n) held) r (take m (moved ++ drop (kept + n) held)) w t (read_behind bytes room kept k n h l) d
    (take-append-le m moved (drop (kept + n) held) i ∙ e)

-- a read of no byte, which keeps the bytes before it
pub read_none : (b b₁ b₂ : Option (List ℕ)) (M M₁ : PackedMemory) (bytes room : List ℕ) (kept k n : ℕ) → kept ≤ length bytes
    → Whole b b₁ M M₁ (take kept bytes) → Consumes b₁ b₂ (take n room) → n ≡ 0 → Whole b b₂ M M₁ (take kept (put_mid kept k bytes room))
read_none b b₁ b₂ M M₁ bytes room kept k n h w t z =
    let t₀ : Consumes b₁ b₂ [] = subst (λ (i : ℕ). Consumes b₁ b₂ (take i room)) z t in
    rw (take-put_mid_below kept k bytes room kept (omega arith) h) (record {
      bytes = w.bytes;
      taken = subst (λ (l : List ℕ). Consumes b b₂ l) (append-nil (w.bytes ++ take kept bytes)) (consumes_more b b₁ b₂ (w.bytes ++ take kept bytes) [] w.taken t₀);
      text = w.text;
      turns = w.turns;
      all = w.all;
    })

-- at the end what is left
pub took_all : (b b₁ : Option (List ℕ)) (M M₁ M₂ : PackedMemory) (left : List ℕ) → Whole b b₁ M M₁ left → Ended M₁ left M₂ → Took b b₁ M M₂
took_all b b₁ M M₁ M₂ left w e =
    record { ran = record { bytes = w.bytes; text = w.text; middle = M₁; turns = w.turns; left = left; ended = e }; taken = w.taken }

-- a reader of which nothing is asked
pub took_none : (b : Option (List ℕ)) (M : PackedMemory) → Took b b M M
took_none b M = record { ran = record { bytes = []; text = []; middle = M; turns = none; left = []; ended = nothing }; taken = consumes_none b }
