use Rattle.std.proofs.Common.{sym, refl}
use Rattle.std.proofs.lemmas.Bool.{lt-ltb}
use Rattle.hash_store.proofs.Orders.{read}
use Rattle.hash_store.proofs.Tables.{count_lt}
use Rattle.hash_store.proofs.probe.has_empty.Goals as goal

pub returns-then-is_none : goal.returns-then-is_none
returns-then-is_none g c = sym (lt-ltb _ _ (count_lt c.args.slots.now c.loop-slot.slot-index c.loop-slot-test.true (rw (read c.args.slots.now c.loop-slot.slot-index _ _ c.loop-slot-test.true (sym c.slot-item.is), c.if-is_none.ensures) refl)))
