-- No call changes the length of the signature slice that it is lent.
-- Assumes nothing.
use Prim.Native.Nat.{ℕ, ◌*◌}
use native.Mathlib.Decide.{ℕ_discrete}
use mathlib.Core.Path.{◌≡◌, sym, ◌∙◌, ap}
use mathlib.Core.Logic.{⊎_elim}
use mathlib.Core.Bool.{◌&&◌}
use mathlib.Core.List.{List}
use lib.ListN.{length, length-replicate}
use borrow.Author.Tests.{eqb-true}
use Rattle.model.specs.Wide.{word_count}
use Rattle.model.specs.Tables.{blocks_of}
use Rattle.model.specs.Questions.{asks_tables, width_fits, clear_refusal, Call, clear, file, withdraw, rebuild, search, audit, Reading, refused, carries}
use Rattle.model.specs.Ledger.{Report}
use Rattle.model.specs.Promises.{Changes}
use Rattle.model.specs.Lists.{Memory, Gives, GivesReading}
use Rattle.model.proofs.Asking.{both, ask_zero}
use Rattle.lists.specs.Moves.{refusal_in}

-- a clear that is not refused is lent the words that it leaves
clear_lends : (words links : List ℕ) (F : ℕ) → clear_refusal (asks_tables words links) F ≡ 0 → length words ≡ blocks_of links * word_count F
unfolding clear_refusal
clear_lends words links F e =
    let r = ask_zero 3 _ 0 e in
    eqb-true (length words) (blocks_of links * word_count F) (both {t = (asks_tables words links).lengths && width_fits F} r.0).1

changes_length : (n : ℕ) (words links words⁺ links⁺ : List ℕ) (answer : ℕ) (words' links' : List ℕ) → Changes n words links words⁺ links⁺ answer words' links' → length words' ≡ length words
changes_length n words links words⁺ links⁺ answer words' links' g = go (ℕ_discrete n 0)
  where
    go : Dec (n ≡ 0) → length words' ≡ length words
    go (yes e) = ⊎_elim (λ x. x.1) (λ x. ap length x.1) (g.anyway e)
    go (no h) = ap length (g.refused h).1

pub gives_length : (c : Call) (M : Memory) (o : Report) (M' : Memory) → Gives c M o M' → length M'.signatures ≡ length M.signatures
gives_length (clear F) M o M' g = go (ℕ_discrete (refusal_in M (clear F)) 0)
  where
    go : Dec (refusal_in M (clear F) ≡ 0) → length M'.signatures ≡ length M.signatures
    go (yes e) = ap length (g.0.done e).1 ∙ length-replicate (blocks_of M.links * word_count F) 0 ∙ sym (clear_lends M.signatures M.links F e)
    go (no h) = ap length (g.0.refused h).1
gives_length (file b s) M o M' g = changes_length _ M.signatures M.links _ _ o.answer M'.signatures M'.links g.0
gives_length (withdraw b) M o M' g = changes_length _ M.signatures M.links _ _ o.answer M'.signatures M'.links g.0
gives_length rebuild M o M' g = ap length g.1.signatures
gives_length (search q) M o M' g = ap length g.1.signatures
gives_length audit M o M' g = ap (λ (x : Memory). length x.signatures) g.2

pub reading_length : (r : Reading) (M : Memory) (o : Report) (M' : Memory) → GivesReading r M o M' → length M'.signatures ≡ length M.signatures
reading_length (refused n) M o M' g = ap (λ (x : Memory). length x.signatures) g.1
reading_length (carries c) M o M' g = gives_length c M o M' g
