-- Demand 3 of what is served: slips in turn are a run of calls, a clear of another width on another slice, so every report, list and count,
-- and the tables after each slip, are what the ledger and the plain tree say, and after a rebuild the counts of a search are those of any
-- other index with the same set.
-- Assumes nothing.
use Prim.Native.Nat.{ℕ, ◌*◌, ◌≤◌}
use native.Mathlib.Omega.{arith}
use mathlib.Core.Path.{◌≡◌, refl, sym, ◌∙◌, ap, subst}
use mathlib.Core.Logic.{◌⊎◌, inl, inr}
use mathlib.Core.Bool.{Bool, true, false, cond}
use mathlib.Core.List.{List, [], ◌∷◌, ◌++◌, append-nil}
use lib.ListN.{take, replicate}
use borrow.Author.Tests.{le-leb}
use Rattle.std.specs.Prelude.{Option}
use Rattle.model.specs.Limits.{widest}
use Rattle.model.specs.Wide.{word_count}
use Rattle.model.specs.Tree.{Tree, nothing}
use Rattle.model.specs.Tables.{width_of}
use Rattle.model.specs.Packed.{packed_blocks, unpacked}
use Rattle.model.specs.Questions.{block_in, Reading}
use Rattle.model.specs.Ledger.{Ledger, empty_ledger, Report}
use Rattle.model.specs.Lists.{slip, reading, another, MayLend}
use Rattle.model.specs.PackedPromises.{packed_fit, asks_packed}
use Rattle.model.specs.PackedLists.{PackedMemory, held_steps}
use Rattle.model.specs.Claim.{Begins, Claim}
use Rattle.model.specs.SameQuote as quotes
use Rattle.lists.specs.Held.{own_count, own_words, HeldStep, HeldRun, held_after, held_end, AtFront, slice_of}
use Rattle.lists.proofs.Readings.{kind_lends}
use Rattle.lists.proofs.Held.{may_lend, held_ends, held_on, width_held, held_right, held_ran}
use Rattle.lists.proofs.Packed.{zeros_fit, zeros_begin}
use Rattle.sigtree.specs.Face.{lent}
use Rattle.runner.specs.declared.program.Index.{Index}
use Rattle.runner.specs.Indexed.{memory_of, zeros}
use Rattle.runner.specs.Served.{words_by, clears, lent_count, Serves, InTurn, none, after, Ended, nothing, short, Ran, Took}
use Rattle.runner.specs.Steps.{step_of, turns_of, ends_of, steps_of}
use Rattle.runner.proofs.Lengths.{clears_asks}

-- the memory M holds an index whose words stand at the front
abbrev Front : PackedMemory → Type 0
Front M = AtFront M.signatures M.links M.nodes

-- the words that a slip which is no clear is lent are the index's
own_lent : (M : PackedMemory) → Front M → words_by (packed_blocks M.links) (width_of M.links) ≡ own_count M.links
unfolding words_by
own_lent M A = go (width_of M.links) (width_held M.signatures M.links M.nodes A)
  where
    go : (F : ℕ) → (F ≡ 0) ⊎ ((1 ≤ F) × (F ≤ widest)) → words_by (packed_blocks M.links) F ≡ packed_blocks M.links * word_count F
    go F (inl e) = rw e (omega arith)
    go F (inr r) = rw (le-leb 1 F r.0, le-leb F widest r.1)

-- so every slip is lent words that it may be lent, and is a call
module _ (M : PackedMemory) (bytes : List ℕ) (o : Report) (M' : PackedMemory) (s : Serves M bytes o M') (A : Front M) where
  abbrev words : List ℕ
  words = take (lent_count M.links bytes) M.signatures

  abbrev read : Reading
  read = reading (asks_packed words M.links M.nodes) (slip bytes)

  may : MayLend (slice_of M.signatures M.links (step_of s)) read
  may = may_lend M.signatures M.links (step_of s) read (λ n. go (clears bytes) refl n)
    where
      go : (t : Bool) → clears bytes ≡ t → (words_by (packed_blocks M.links) (cond t (block_in bytes) (width_of M.links)) ≡ own_count M.links → ⊥) → MayLend (another words) read
      go true e n = kind_lends words (asks_packed words M.links M.nodes) bytes (clears_asks bytes e).1
      go false e n = absurd (n (own_lent M A))

  call : HeldRun M.signatures M.links M.nodes (step_of s ∷ [])
  unfolding reading
  call = (s.gives, may, tt)

-- where a list ends that has one call more
end_more : (all links nodes : List ℕ) (ss : List HeldStep) (s : HeldStep)
    → held_end all links nodes (ss ++ (s ∷ [])) ≡ held_end (held_end all links nodes ss).0 (held_end all links nodes ss).1 (held_end all links nodes ss).2 (s ∷ [])
end_more all links nodes [] s = refl
end_more all links nodes (x ∷ ss) s = end_more (held_after all x) x.left.links x.left.nodes ss s

-- the calls are a run from M, and leave M'
record Runs (M : PackedMemory) (ss : List HeldStep) (M' : PackedMemory) : Type 0 where
  run : HeldRun M.signatures M.links M.nodes ss
  ends : held_end M.signatures M.links M.nodes ss ≡ (M'.signatures, M'.links, M'.nodes)

module _ (M : PackedMemory) (f : packed_fit M.links M.nodes ≡ true) (L : Ledger) (t : Tree) (b : Begins (own_words M.signatures M.links) (unpacked M.links M.nodes) L t) where
  runs_more : (M₁ M₂ : PackedMemory) (ss : List HeldStep) (bytes : List ℕ) (o : Report) (s : Serves M₁ bytes o M₂) → Runs M ss M₁ → Runs M (ss ++ (step_of s ∷ [])) M₂
  runs_more M₁ M₂ ss bytes o s r =
      let front : Front M₁ = subst (λ (e : List ℕ × List ℕ × List ℕ). AtFront e.0 e.1 e.2) r.ends (held_ends M.signatures M.links M.nodes f L t b ss r.run) in
      record {
        run = held_on M.signatures M.links M.nodes ss (step_of s ∷ []) r.run (subst (λ (e : List ℕ × List ℕ × List ℕ). HeldRun e.0 e.1 e.2 (step_of s ∷ [])) (sym r.ends) (call M₁ bytes o M₂ s front));
        ends = end_more M.signatures M.links M.nodes ss (step_of s) ∙ ap (λ (e : List ℕ × List ℕ × List ℕ). held_end e.0 e.1 e.2 (step_of s ∷ [])) r.ends ∙ ap (λ (x : PackedMemory). (x.signatures, x.links, x.nodes)) (sym s.back);
      }

  runs_turns : (M' : PackedMemory) (bytes text : List ℕ) (r : InTurn M bytes text M') → Runs M (turns_of r) M'
  runs_turns M' _ _ none = record { run = tt; ends = refl }
  runs_turns M' _ _ (after bytes text M₁ r one o _ whole s) = runs_more M₁ M' (turns_of r) one o s (runs_turns M₁ bytes text r)

  runs_ended : (M₁ M' : PackedMemory) (ss : List HeldStep) (left : List ℕ) → Runs M ss M₁ → (e : Ended M₁ left M') → Runs M (ss ++ ends_of e) M'
  runs_ended M₁ M' ss _ r nothing = subst (λ (l : List HeldStep). Runs M l M₁) (sym (append-nil ss)) r
  runs_ended M₁ M' ss left r (short _ o _ some few s) = runs_more M₁ M' ss left o s r

  runs_of : (M' : PackedMemory) (r : Ran M M') → Runs M (turns_of r.turns ++ ends_of r.ended) M'
  runs_of M' r = runs_ended r.middle M' (turns_of r.turns) r.left (runs_turns r.middle r.bytes r.text r.turns) r.ended

  -- what all slips report is right
  pub served_right : (M' : PackedMemory) (r : Ran M M') → Claim L t (own_words M.signatures M.links) (unpacked M.links M.nodes) (held_steps (steps_of r))
  served_right M' r = held_right M.signatures M.links M.nodes f L t b _ (runs_of M' r).run

  -- and they are a list that equal quotes are said of
  pub served_ran : (M' : PackedMemory) (r : Ran M M') → quotes.Ran L t (own_words M.signatures M.links) (held_steps (steps_of r))
  served_ran M' r = held_ran M.signatures M.links M.nodes f L t b _ (runs_of M' r).run

-- on the index of sigrun: words for 1,024 blocks of any width, and all words 0
pub sigrun_right : (scratch marks output : List ℕ) (M' : PackedMemory) (r : Ran (lent (replicate 8192 0) (replicate 2053 0) (replicate 1023 0) scratch marks output) M')
    → Claim (empty_ledger 1024 0) nothing [] (unpacked (replicate 2053 0) (replicate 1023 0)) (held_steps (steps_of r))
sigrun_right scratch marks output M' r =
    served_right (lent (replicate 8192 0) (replicate 2053 0) (replicate 1023 0) scratch marks output) (zeros_fit 1024 (omega arith) (omega arith)) (empty_ledger 1024 0) nothing
    (zeros_begin 1024 (omega arith) (omega arith) (own_words (replicate 8192 0) (replicate 2053 0))) M' r

-- and of the program, whatever its reader gave
pub program_right : (b b₁ : Option (List ℕ)) (index : Index) (t : Took b b₁ zeros (memory_of index))
    → Claim (empty_ledger 1024 0) nothing [] (unpacked (replicate 2053 0) (replicate 1023 0)) (held_steps (steps_of t.ran))
program_right b b₁ index t = sigrun_right (replicate 1024 0) (replicate 1024 0) (replicate 1024 0) (memory_of index) t.ran
