-- `locate` meets its contract: at each byte the word that is looked for is found in what is left, and each branch keeps that.
-- Assumes nothing.
use Prim.Native.Nat.{◌+◌, ◌-◌}
use mathlib.Core.Path.{◌≡◌, ◌∙◌, sym, ap}
use mathlib.Core.Logic.{◌≢◌, inl}
use native.Mathlib.Nat.{le_antisymm}
use native.Mathlib.Omega.{arith}
use Rattle.model.specs.Words.{end_of}
use Rattle.words.specs.Parts.{part_of}
use Rattle.words.proofs.Splitting.{rest, begins, goes_on, between, passed, is_found, ends_between, ends_short, ends_found}
use Rattle.words.proofs.Asked.{empty_part}
use Rattle.words.proofs.Numbered.{no_word}
use Rattle.words.proofs.splitter.locate.Goals as goal
use Rattle.words.proofs.splitter.locate.Goals.{then-is_separator, then-start-i+else-seen-n, else-start-i, else-is_separator, else-start-end-via-then-start-end+else-seen-n-2, else-start-end-via-else-start-end}

pub returns-then-n-eq0-clause-word : goal.returns-then-n-eq0-clause-word
returns-then-n-eq0-clause-word c = empty_part c.args.text.now ∙ sym (no_word c.args.text.now c.args.n (inl c.if-n-eq0.true))

pub loop-i-init : goal.loop-i-init
loop-i-init c =
    let z : c.args.n - 0 ≡ c.args.n = omega arith in
    (omega arith, omega arith, ap (λ m. rest c.args.text.now m 0 0) z ∙ begins _ _)

pub returns-then-seen-n-clause-word : goal.returns-then-seen-n-clause-word
returns-then-seen-n-clause-word c =
    let inv = c.loop-i.invariant in
    sym (is_found _ _ _ _ inv.0 c.loop-i-test.true (sym c.is_separator.ensures ∙ c.if-is_separator.true) c.if-start-i.true (omega (arith, c.if-seen-n.true))) ∙ inv.2

pub loop-i-preserved : goal.loop-i-preserved
loop-i-preserved c =
    let inv = c.loop-i.invariant in
    let below = c.loop-i-test.true in
    elim c.if-is_separator.branch [
      | then-is_separator w ↦
          let here = sym c.is_separator.ensures ∙ w.if-is_separator.true in
          elim w.if-start-i.branch [
            | then-start-i+else-seen-n v ↦
                let other : c.args.n - c.loop-i.seen ≢ 1 = λ e. v.if-seen-n.false (omega (arith, e)) in
                let less : c.args.n - (c.loop-i.seen + 1) ≡ c.args.n - c.loop-i.seen - 1 = omega arith in
                (omega arith, omega arith, cc (less, passed _ _ _ _ inv.0 below here v.if-start-i.true other))
            | else-start-i v ↦ (omega arith, omega arith, cc (between _ (c.args.n - c.loop-i.seen) _ _ inv.0 below here v.if-start-i.false))
          ]
      | else-is_separator w ↦ (omega arith, omega arith, cc (goes_on _ (c.args.n - c.loop-i.seen) _ _ inv.0 below (sym c.is_separator.ensures ∙ w.if-is_separator.false)))
    ]

pub returns-then-seen-n-2-clause-word : goal.returns-then-seen-n-2-clause-word
returns-then-seen-n-2-clause-word c =
    let inv = c.loop-i.invariant in
    let all = le_antisymm c.loop-i.auto.i-end c.loop-i-test.false in
    ap (part_of c.loop-i.start) (sym all) ∙ sym (ends_found _ _ _ _ inv.0 all (omega (arith, all)) (omega (arith, c.if-seen-n-2.true))) ∙ inv.2

pub returns-else-start-end-clause-word : goal.returns-else-start-end-clause-word
returns-else-start-end-clause-word c =
    let inv = c.loop-i.invariant in
    let all = le_antisymm c.loop-i.auto.i-end c.loop-i-test.false in
    let none : rest c.args.text.now (c.args.n - c.loop-i.seen) c.loop-i.start c.loop-i.i ≡ end_of c.args.text.now =
    elim c.else-start-end.branch [
      | else-start-end-via-then-start-end+else-seen-n-2 w ↦ ends_short _ _ _ _ inv.0 all (omega (arith, all)) (λ e. w.if-seen-n-2.false (omega (arith, e)))
      | else-start-end-via-else-start-end w ↦ ends_between _ _ _ _ inv.0 all (omega (arith, all))
    ]
    in
    empty_part c.args.text.now ∙ sym none ∙ inv.2
