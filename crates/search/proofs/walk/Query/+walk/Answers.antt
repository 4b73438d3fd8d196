-- `search::walk::Query::walk` meets its contract: it calls itself on each side that is a node, and the measure is the number of untested
-- positions. The tests before the sides are visited make `AtNode`; from there each return is the sides in their order.
-- Assumes nothing.
use native.Mathlib.Omega.{arith}
use mathlib.Core.Path.{sym, ◌∙◌}
use Rattle.search.proofs.Nodes.{fit_node, word_out, word_spent, right_alone, left_leaf, no_leaves, right_leaf, leaf_gives, node_gives, room_after, forking_after, fork_below}
use Rattle.search.proofs.walk.Query.+walk.Goals as goal
use Rattle.search.proofs.walk.Query.+walk.Goals.{then-untested-eq0-via-then-untested-eq0, then-untested-eq0-via-else-untested-eq0+then-nodes-eq0}

pub returns-then-untested-eq0-clause-gives : goal.returns-then-untested-eq0-clause-gives
returns-then-untested-eq0-clause-gives g t c = rw c.unfit.ensures (elim c.then-untested-eq0.branch [
  | then-untested-eq0-via-then-untested-eq0 w ↦ word_out _ _ _ _ _ _ _ w.if-untested-eq0.true
  | then-untested-eq0-via-else-untested-eq0+then-nodes-eq0 w ↦ word_spent _ _ _ _ _ _ _ (sym w.nodes.ensures ∙ w.if-nodes-eq0.true)
])

pub returns-then-is_leaf-clause-gives : goal.returns-then-is_leaf-clause-gives
returns-then-is_leaf-clause-gives g t c =
    let A = fit_node c.args.self.now.tables.fits c.requires.room c.if-untested-eq0.false (λ z. c.if-nodes-eq0.false (c.nodes.ensures ∙ z)) c.requires.forking c.left_in-first.ensures c.right_in-second.ensures in
    let side = sym c.goes_right.ensures ∙ c.if-goes_right.true in
    right_alone A side _ c.take_node-rest.ensures _ (c.leaf.ensures.gives ∙ leaf_gives A _ (sym c.is_leaf.ensures ∙ c.if-is_leaf.true) _)

pub returns-then-goes_right-clause-gives : goal.returns-then-goes_right-clause-gives
returns-then-goes_right-clause-gives g t c =
    let A = fit_node c.args.self.now.tables.fits c.requires.room c.if-untested-eq0.false (λ z. c.if-nodes-eq0.false (c.nodes.ensures ∙ z)) c.requires.forking c.left_in-first.ensures c.right_in-second.ensures in
    let side = sym c.goes_right.ensures ∙ c.if-goes_right.true in
    right_alone A side _ c.take_node-rest.ensures _ (c.walk.ensures.gives ∙ node_gives A _ _ (sym c.is_leaf.ensures ∙ c.if-is_leaf.false) c.word_at-side.ensures _)

pub leaf-requires-then-is_leaf-3-clause-room : goal.leaf-requires-then-is_leaf-3-clause-room
leaf-requires-then-is_leaf-3-clause-room g t c =
    let A = fit_node {l = c.args.left} c.args.self.now.tables.fits c.requires.room c.if-untested-eq0.false (λ z. c.if-nodes-eq0.false (c.nodes.ensures ∙ z)) c.requires.forking c.left_in-first.ensures c.right_in-second.ensures in
    let first = c.leaf-rest.ensures.gives ∙ leaf_gives A _ (sym c.is_leaf-2.ensures ∙ c.if-is_leaf-2.true) _ in
    room_after A _ _ _ _ first

pub returns-then-is_leaf-3-clause-gives : goal.returns-then-is_leaf-3-clause-gives
returns-then-is_leaf-3-clause-gives g t c =
    let A = fit_node c.args.self.now.tables.fits c.requires.room c.if-untested-eq0.false (λ z. c.if-nodes-eq0.false (c.nodes.ensures ∙ z)) c.requires.forking c.left_in-first.ensures c.right_in-second.ensures in
    let side = sym c.goes_right.ensures ∙ c.if-goes_right.false in
    let first = c.leaf-rest.ensures.gives ∙ leaf_gives A _ (sym c.is_leaf-2.ensures ∙ c.if-is_leaf-2.true) _ in
    left_leaf A side _ c.take_fork-below.ensures _ _ (sym c.is_leaf-2.ensures ∙ c.if-is_leaf-2.true) first (c.leaf-then-is_leaf-3.ensures.gives ∙ leaf_gives A _ (sym c.is_leaf-then-is_leaf-2.ensures ∙ c.if-is_leaf-3.true) _)

pub walk-requires-then-is_leaf-2 : goal.walk-requires-then-is_leaf-2
walk-requires-then-is_leaf-2 g t c =
    let A = fit_node c.args.self.now.tables.fits c.requires.room c.if-untested-eq0.false (λ z. c.if-nodes-eq0.false (c.nodes.ensures ∙ z)) c.requires.forking c.left_in-first.ensures c.right_in-second.ensures in
    let first = c.leaf-rest.ensures.gives ∙ leaf_gives A _ (sym c.is_leaf-2.ensures ∙ c.if-is_leaf-2.true) _ in
    λ κs q. (omega (arith, c.decreases, c.if-untested-eq0.false), (q, (room_after A _ _ _ _ first, forking_after A _ _ _ _ (fork_below A _ c.take_fork-below.ensures) first)))

pub returns-then-is_leaf-2-clause-gives : goal.returns-then-is_leaf-2-clause-gives
returns-then-is_leaf-2-clause-gives g t c =
    let A = fit_node c.args.self.now.tables.fits c.requires.room c.if-untested-eq0.false (λ z. c.if-nodes-eq0.false (c.nodes.ensures ∙ z)) c.requires.forking c.left_in-first.ensures c.right_in-second.ensures in
    let side = sym c.goes_right.ensures ∙ c.if-goes_right.false in
    let first = c.leaf-rest.ensures.gives ∙ leaf_gives A _ (sym c.is_leaf-2.ensures ∙ c.if-is_leaf-2.true) _ in
    left_leaf A side _ c.take_fork-below.ensures _ _ (sym c.is_leaf-2.ensures ∙ c.if-is_leaf-2.true) first (c.walk-then-is_leaf-2.ensures.gives ∙ node_gives A _ _ (sym c.is_leaf-then-is_leaf-2.ensures ∙ c.if-is_leaf-3.false) c.word_at-side-then-is_leaf-2.ensures _)

pub walk-requires-then-is_leaf-4 : goal.walk-requires-then-is_leaf-4
walk-requires-then-is_leaf-4 g t c =
    let A = fit_node c.args.self.now.tables.fits c.requires.room c.if-untested-eq0.false (λ z. c.if-nodes-eq0.false (c.nodes.ensures ∙ z)) c.requires.forking c.left_in-first.ensures c.right_in-second.ensures in
    let second = c.leaf-rest-then-is_leaf-4.ensures.gives ∙ leaf_gives A _ (sym c.is_leaf-3.ensures ∙ c.if-is_leaf-4.true) _ in
    λ κs q. (omega (arith, c.decreases, c.if-untested-eq0.false), (q, (room_after A _ _ _ _ second, forking_after A _ _ _ _ (fork_below A _ c.take_fork-below.ensures) second)))

pub returns-then-is_leaf-4-clause-gives : goal.returns-then-is_leaf-4-clause-gives
returns-then-is_leaf-4-clause-gives g t c =
    let A = fit_node c.args.self.now.tables.fits c.requires.room c.if-untested-eq0.false (λ z. c.if-nodes-eq0.false (c.nodes.ensures ∙ z)) c.requires.forking c.left_in-first.ensures c.right_in-second.ensures in
    let side = sym c.goes_right.ensures ∙ c.if-goes_right.false in
    let second = c.leaf-rest-then-is_leaf-4.ensures.gives ∙ leaf_gives A _ (sym c.is_leaf-3.ensures ∙ c.if-is_leaf-4.true) _ in
    right_leaf A side _ c.take_fork-below.ensures _ _ (sym c.is_leaf-2.ensures ∙ c.if-is_leaf-2.false) (sym c.is_leaf-3.ensures ∙ c.if-is_leaf-4.true) second (c.walk-then-is_leaf-4.ensures.gives ∙ node_gives A _ _ (sym c.is_leaf-2.ensures ∙ c.if-is_leaf-2.false) c.word_at-side-2.ensures _)

pub walk-requires-2 : goal.walk-requires-2
walk-requires-2 g t c =
    let A = fit_node c.args.self.now.tables.fits c.requires.room c.if-untested-eq0.false (λ z. c.if-nodes-eq0.false (c.nodes.ensures ∙ z)) c.requires.forking c.left_in-first.ensures c.right_in-second.ensures in
    let first = c.walk-rest.ensures.gives ∙ node_gives A _ _ (sym c.is_leaf-2.ensures ∙ c.if-is_leaf-2.false) c.word_at-side-2.ensures _ in
    λ κs q. (omega (arith, c.decreases, c.if-untested-eq0.false), (q, (room_after A _ _ _ _ first, forking_after A _ _ _ _ (fork_below A _ c.take_fork-below.ensures) first)))

pub returns-clause-gives : goal.returns-clause-gives
returns-clause-gives g t c =
    let A = fit_node c.args.self.now.tables.fits c.requires.room c.if-untested-eq0.false (λ z. c.if-nodes-eq0.false (c.nodes.ensures ∙ z)) c.requires.forking c.left_in-first.ensures c.right_in-second.ensures in
    let side = sym c.goes_right.ensures ∙ c.if-goes_right.false in
    let first = c.walk-rest.ensures.gives ∙ node_gives A _ _ (sym c.is_leaf-2.ensures ∙ c.if-is_leaf-2.false) c.word_at-side-2.ensures _ in
    no_leaves A side _ c.take_fork-below.ensures _ _ (sym c.is_leaf-2.ensures ∙ c.if-is_leaf-2.false) (sym c.is_leaf-3.ensures ∙ c.if-is_leaf-4.false) first (c.walk-2.ensures.gives ∙ node_gives A _ _ (sym c.is_leaf-3.ensures ∙ c.if-is_leaf-4.false) c.word_at-other.ensures _)
