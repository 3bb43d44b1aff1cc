use Rattle.std.proofs.Common.{length, set, None}
use Rattle.hash_store.proofs.Closes.{Shifting, afar}
use Rattle.hash_store.proofs.probe.close.Given as goal

abbrev pub invariant-loop-slots : goal.invariant-loop-slots
invariant-loop-slots g l = Shifting l.initial.slots l.slots l.i l.hole

abbrev pub decreases-loop-slots : goal.decreases-loop-slots
decreases-loop-slots g l = afar (length l.initial.slots) 0 (set l.slots l.hole None)
