-- `begin_word` meets its contract: no place's entry is the new word's number.
-- Assumes nothing.
use native.Mathlib.Omega.{arith}
use Rattle.words.proofs.Stamping.{stamped_none, zeros_numbered}
use Rattle.words.proofs.draft.ManyWordsDraft.begin_word.Goals as goal
use Rattle.words.proofs.draft.ManyWordsDraft.begin_word.Goals.{then-self, else-self}

pub invariant_of-self : goal.invariant_of-self
invariant_of-self c =
    elim c.if-self.branch [
      | then-self w ↦ rw w.self-is (record { numbered = zeros_numbered 512 _ })
      | else-self w ↦ rw w.self-is (record { numbered = λ i. omega (arith, c.args.self.now.numbered i) })
    ]

pub returns-clause-own : goal.returns-clause-own
returns-clause-own c =
    elim c.if-self.branch [
      | then-self w ↦ rw w.self-is (stamped_none _ _ (λ i. omega (arith, zeros_numbered 512 0 i)))
      | else-self w ↦ rw w.self-is (stamped_none _ _ (λ i. omega (arith, c.args.self.now.numbered i)))
    ]
