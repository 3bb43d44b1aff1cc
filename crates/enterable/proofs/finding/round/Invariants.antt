use Rattle.module.specs.Modules.{said}
use Rattle.enterable.specs.inside.Rounds.{ClosedBelow, Grown}
use Rattle.enterable.proofs.finding.round.Given as goal

abbrev pub invariant-loop-f : goal.invariant-loop-f
invariant-loop-f l = Grown (said l.program) (ClosedBelow (said l.program) l.f) l.initial.found l.found l.changed
