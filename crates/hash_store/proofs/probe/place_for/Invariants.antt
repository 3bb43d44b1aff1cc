use Rattle.std.proofs.Common.{◌-◌}
use Rattle.hash_store.proofs.Places.{Farther}
use Rattle.hash_store.proofs.Tables.{vacancy}
use Rattle.hash_store.proofs.probe.place_for.Given as goal

abbrev pub invariant-loop-places : goal.invariant-loop-places
invariant-loop-places g l = Farther l.places.n l.slots l.a (vacancy l.slots) l.d l.i

abbrev pub decreases-loop-places : goal.decreases-loop-places
decreases-loop-places g l = l.places.n - l.d
