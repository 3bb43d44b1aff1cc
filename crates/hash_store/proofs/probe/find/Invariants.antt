use Rattle.std.proofs.Common.{◌-◌}
use Rattle.hash_store.proofs.Searches.{Passed}
use Rattle.hash_store.proofs.probe.find.Given as goal

abbrev pub invariant-loop-d : goal.invariant-loop-d
invariant-loop-d g l = Passed l.places.n l.slots l.a l.d l.i

abbrev pub decreases-loop-d : goal.decreases-loop-d
decreases-loop-d g l = l.places.n - l.d
