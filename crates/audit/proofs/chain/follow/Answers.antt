-- `audit::chain::follow` meets its contract. The invariant: the rest of the chain gives what the whole chain gives.
-- Assumes nothing.
use native.Mathlib.Omega.{arith}
use mathlib.Core.Path.{sym, ◌∙◌, ap}
use Rattle.audit.specs.Audit.{chain_twin}
use Rattle.audit.proofs.ChainLaws.{block_yes, chain_end, chain_none, chain_stop, chain_go}
use Rattle.audit.proofs.chain.follow.Goals as goal
use Rattle.audit.proofs.chain.follow.Goals.{then-left-eq0-via-then-left-eq0, then-left-eq0-via-else-left-eq0+then-not-on_chain}

pub returns-then-left-eq0 : goal.returns-then-left-eq0
returns-then-left-eq0 c =
    sym (c.loop-block.invariant ∙ elim c.then-left-eq0.branch [
      | then-left-eq0-via-then-left-eq0 w ↦ chain_none _ _ _ _ _ w.if-left-eq0.true c.loop-block-test.true
      | then-left-eq0-via-else-left-eq0+then-not-on_chain w ↦ chain_stop _ _ _ _ _ c.loop-block-test.true (sym w.on_chain.ensures ∙ w.if-not-on_chain.true)
    ])

pub next_of-block-requires : goal.next_of-block-requires
next_of-block-requires c =
    let t = c.loop-block-test.true in (omega arith, (block_yes _ _ _ _ (sym c.on_chain.ensures ∙ c.if-not-on_chain.false)).to)

pub loop-block-preserved : goal.loop-block-preserved
loop-block-preserved c =
    c.loop-block.invariant ∙ chain_go _ _ _ _ _ c.if-left-eq0.false c.loop-block-test.true (sym c.on_chain.ensures ∙ c.if-not-on_chain.false) ∙ ap (chain_twin _ _ _ _) (sym c.next_of-block.ensures)

pub returns : goal.returns
returns c = sym (c.loop-block.invariant ∙ chain_end _ _ _ _ _ c.loop-block-test.false)
