use Rattle.exports.specs.Orders.{none}
use Rattle.exports.proofs.Ordering.{one_more}
use Rattle.exports.proofs.obeying.obey_on.Goals as goal

pub loop-word-init : goal.loop-word-init
loop-word-init g c = none

pub loop-word-preserved : goal.loop-word-preserved
loop-word-preserved g c = one_more _ _ _ _ c.loop-word.word-index _ _ _ _ c.loop-word-test.true c.loop-word.invariant c.order-sum.ensures
