use Rattle.module.specs.Modules.{said}
use Rattle.enterable.specs.inside.Rounds.{ClosedUpto, Grown}
use Rattle.enterable.proofs.finding.add_from.Given as goal

abbrev pub invariant-loop-place : goal.invariant-loop-place
invariant-loop-place l = Grown (said l.program) (ClosedUpto (said l.program) l.f l.place) l.initial.found l.found l.changed
