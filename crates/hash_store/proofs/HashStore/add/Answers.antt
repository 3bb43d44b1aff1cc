use Rattle.std.proofs.Common.{◌<◌, ◌≤◌, length, sym, ap, subst, arith, rules}
use Rattle.stores.specs.Meaning.{Put}
use Rattle.stores.specs.Slots.{counted}
use Rattle.stores.proofs.Counted.{counted_length}
use Rattle.hash_store.specs.inside.Probing.{Absent, Opened, Sound, count, lookup, room}
use Rattle.hash_store.proofs.Lent.{given, part}
use Rattle.hash_store.proofs.Opens.{opened_put, opened_sound}
use Rattle.hash_store.proofs.HashStore.add.Goals as goal

pub slice_bounds-open-end : goal.slice_bounds-open-end
slice_bounds-open-end g c =
    let le : length c.ring-n.result.now ≤ length c.deref_mut.result.now = omega (arith, ap length c.ring-n.ensures.now, ap length c.deref_mut.ensures.value, counted_length c.args.self.now.slots.items) in
    search rules

pub open-requires : goal.open-requires
open-requires g c =
    let s = c.args.self.now in
    let lent = sym (part s.slots.items _ _ c.deref_mut.ensures.value (ap length c.ring-n.ensures.now)) in
    record {
      small = subst (λ l. length l ≤ 65536) lent (omega (arith, counted_length s.slots.items));
      sound = subst Sound lent s.sound;
      room = subst (λ l. count l < length l) lent c.requires.room;
      absent = subst (λ l. Absent l c.args.a) lent c.requires.absent;
    }

pub invariant_of-self : goal.invariant_of-self
invariant_of-self g c =
    let s = c.args.self.now in
    let xs = s.slots.items in
    let k = given xs _ _ c.deref_mut.ensures.value (ap length c.ring-n.ensures.now) c.open.new.slots _ _ s.slots.ok.0 c.open.ensures.long in
    let o = subst (λ l. Opened l c.open.new.slots c.args.a c.args.v) (part xs _ _ c.deref_mut.ensures.value (ap length c.ring-n.ensures.now)) c.open.ensures.opened in
    record { sound = subst Sound (sym k.counts) (opened_sound (counted xs) c.open.new.slots c.args.a c.args.v (omega arith) c.requires.absent s.sound o) }

pub returns : goal.returns
returns g c =
    let s = c.args.self.now in
    let xs = s.slots.items in
    let k = given xs _ _ c.deref_mut.ensures.value (ap length c.ring-n.ensures.now) c.open.new.slots _ _ s.slots.ok.0 c.open.ensures.long in
    let o = subst (λ l. Opened l c.open.new.slots c.args.a c.args.v) (part xs _ _ c.deref_mut.ensures.value (ap length c.ring-n.ensures.now)) c.open.ensures.opened in
    record {
      put = subst (λ l. Put (lookup (counted xs)) (lookup l) (room (counted xs)) (room l) c.args.a c.args.v) (sym k.counts) (opened_put (counted xs) c.open.new.slots c.args.a c.args.v (omega arith) c.requires.absent s.sound o);
      kept = k.kept;
    }
