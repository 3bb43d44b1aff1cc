use Rattle.std.proofs.Common.{◌≡◌, Some, length, sym, ap, ◌∙◌, subst, arith}
use Rattle.stores.specs.Slots.{counted}
use Rattle.hash_store.specs.inside.Probing.{slot_at}
use Rattle.hash_store.proofs.Orders.{read}
use Rattle.hash_store.proofs.Tables.{value_at}
use Rattle.hash_store.proofs.HashStore.value_in.Goals as goal

pub returns : goal.returns
returns g c =
    let s = c.args.self.now in
    let entry = c.in_ok-v in
    let at = read c.ring.result.now c.args.i _ (Some (entry.field-0-0, entry.v)) (omega (arith, ap length c.ring.ensures.now, c.requires.0)) (sym c.index-ring-i.is ∙ entry.was) in
    value_at (counted s.slots.items) c.args.a c.args.i entry.field-0-0 entry.v s.sound.single c.requires.1 (subst (λ l. slot_at l c.args.i ≡ Some (entry.field-0-0, entry.v)) c.ring.ensures.now at)
