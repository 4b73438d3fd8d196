-- `end_of_run` meets its contract: the first separator ahead ends the run, and where there is none, the text's end does.
-- Assumes nothing.
use mathlib.Core.Path.{◌≡◌, ap, ◌∙◌}
use mathlib.Core.Bool.{cond, not}
use mathlib.Core.List.{List}
use Prim.Native.Nat.{ℕ, ◌+◌, ◌-◌, ◌≤◌, ◌<◌}
use native.Mathlib.Decide.{dec_lt}
use native.Mathlib.Omega.{arith}
use borrow.Author.Rules.{rules}
use borrow.Author.Tests.{lt-ltb, le-ltb}
use lib.Dec.{ltb}
use lib.ListN.{length, drop, take, length-drop}
use lib.Seq.{take_all}
use Rattle.std.specs.Prelude.{Option, Some, None}
use Rattle.std.specs.List.{position_or_len}
use Rattle.std.specs.Option.{unwrap_or}
use Rattle.std.proofs.lemmas.Iterator.{YieldsList-from_slice}
use Rattle.std.proofs.lemmas.Iterator.Search.{position_from_yields_List}
use Rattle.std.proofs.lemmas.List.Sums.{prefix_len-le-length}
use Rattle.model.specs.Words.{separator}
use Rattle.words.proofs.splitter.end_of_run.Goals as goal

-- where none is found, the length stands for it
found_or_all : (l : List ℕ) → unwrap_or (cond (ltb (position_or_len separator l) (length l)) (Some (position_or_len separator l)) None) (length l) ≡ position_or_len separator l
found_or_all l = go (dec_lt (position_or_len separator l) (length l)) (prefix_len-le-length (λ b. not (separator b)) l)
  where
    go : Dec (position_or_len separator l < length l) → position_or_len separator l ≤ length l
        → unwrap_or (cond (ltb (position_or_len separator l) (length l)) (Some (position_or_len separator l)) None) (length l) ≡ position_or_len separator l
    go (yes h) m = rw (lt-ltb (position_or_len separator l) (length l) h)
    go (no h) m = rw (le-ltb (position_or_len separator l) (length l) (omega arith)) (omega arith)

pub returns-clause-run : goal.returns-clause-run
returns-clause-run c =
    let ahead : List ℕ = take (length c.args.text.now - c.args.start) (drop c.args.start c.args.text.now) in
    let found = position_from_yields_List separator _ _ c.position.result c.position.ensures.ran (YieldsList-from_slice _ c.iter.ensures.rest) (λ x b q k. search rules) in
    let all : ahead ≡ drop c.args.start c.args.text.now = take_all _ _ (omega (arith, length-drop c.args.start c.args.text.now)) in
    ap (λ (n : ℕ). c.args.start + n)
    (c.unwrap_or.ensures ∙ ap (λ (o : Option ℕ). unwrap_or o (length ahead)) found ∙ found_or_all ahead ∙ ap (position_or_len separator) all)
