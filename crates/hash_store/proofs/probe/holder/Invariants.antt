use Rattle.hash_store.proofs.Searches.{Seen}
use Rattle.hash_store.proofs.probe.holder.Given as goal

abbrev pub invariant-loop-i : goal.invariant-loop-i
invariant-loop-i g l = Seen l.slots l.a l.i l.at
