use Rattle.sensitivity.specs.inside.Rounds.{Round}
use Rattle.sensitivity.proofs.round.Given as goal

abbrev pub invariant-loop-i : goal.invariant-loop-i
invariant-loop-i l = Round l.types l.fields l.initial.marks l.i l.marks l.changed
