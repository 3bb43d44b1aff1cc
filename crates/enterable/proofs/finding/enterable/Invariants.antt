use Rattle.module.specs.Modules.{said}
use Rattle.enterable.specs.inside.Rounds.{Rightful, empty}
use Rattle.enterable.proofs.finding.enterable.Given as goal

abbrev pub invariant-loop : goal.invariant-loop
invariant-loop l = Rightful (said l.program) l.found

abbrev pub decreases-loop : goal.decreases-loop
decreases-loop l = empty l.found
