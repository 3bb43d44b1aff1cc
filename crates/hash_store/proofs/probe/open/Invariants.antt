use Rattle.std.proofs.Common.{length}
use Rattle.hash_store.specs.inside.Probing.{away}
use Rattle.hash_store.proofs.Opens.{Pushing}
use Rattle.hash_store.proofs.Tables.{vacancy}
use Rattle.hash_store.proofs.probe.open.Given as goal

abbrev pub invariant-loop-slots : goal.invariant-loop-slots
invariant-loop-slots g l = Pushing l.initial.slots l.slots l.a l.fn.v (vacancy l.initial.slots) l.i l.entry.0 l.entry.1

abbrev pub decreases-loop-slots : goal.decreases-loop-slots
decreases-loop-slots g l = away l.i (vacancy l.initial.slots) (length l.initial.slots)
