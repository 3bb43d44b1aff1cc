use Rattle.sensitivity.specs.inside.Rounds.{AllChained, unmarked}
use Rattle.sensitivity.proofs.marks_of.Given as goal

abbrev pub invariant-loop : goal.invariant-loop
invariant-loop l = AllChained l.types l.fields l.marks

abbrev pub decreases-loop : goal.decreases-loop
decreases-loop l = unmarked l.marks
