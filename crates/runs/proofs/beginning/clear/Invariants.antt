use Rattle.runs.specs.Clearing.{Cleared}
use Rattle.runs.proofs.beginning.clear.Given as goal

abbrev pub invariant-loop-a : goal.invariant-loop-a
invariant-loop-a g l =
    let s = g.S.Store in
    Cleared l.a (s.entry l.initial.store) (s.taken l.initial.store) (s.entry l.store) (s.taken l.store) × s.kept l.initial.store l.store
