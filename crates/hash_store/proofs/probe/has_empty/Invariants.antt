use Rattle.std.proofs.Common.{◌≡◌, ℕ, ◌<◌, false}
use Rattle.hash_store.specs.Holding.{is_empty}
use Rattle.hash_store.specs.inside.Probing.{slot_at}
use Rattle.hash_store.proofs.probe.has_empty.Given as goal

abbrev pub invariant-loop-slot : goal.invariant-loop-slot
invariant-loop-slot g l = (i : ℕ) → i < l.slot-index → is_empty (slot_at l.slots i) ≡ false
