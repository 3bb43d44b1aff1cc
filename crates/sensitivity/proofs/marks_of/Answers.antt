use Rattle.sensitivity.proofs.Chains.{none_right, exact_marks}
use Rattle.sensitivity.proofs.marks_of.Goals as goal

pub loop-init : goal.loop-init
loop-init c = none_right _ _ 64

pub returns : goal.returns
returns c = exact_marks _ _ c.round.new.marks c.loop.marks _ c.loop.invariant c.round.ensures c.loop-test.false
