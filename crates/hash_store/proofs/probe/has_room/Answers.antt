use Rattle.std.proofs.Common.{sym, ◌∙◌, arith}
use Rattle.hash_store.proofs.Tables.{room_before, room_from}
use Rattle.hash_store.proofs.probe.has_room.Goals as goal

pub returns-then-has_empty : goal.returns-then-has_empty
returns-then-has_empty g c = c.if-has_empty.true ∙ sym (room_from c.args.slots.now c.home-h.result (omega (arith, c.home-h.ensures.1)) (sym c.has_empty.ensures ∙ c.if-has_empty.true))

pub returns-else-has_empty : goal.returns-else-has_empty
returns-else-has_empty g c = c.has_empty-else-has_empty.ensures ∙ room_before c.args.slots.now c.home-h.result (omega (arith, c.home-h.ensures.1)) (sym c.has_empty.ensures ∙ c.if-has_empty.false)
