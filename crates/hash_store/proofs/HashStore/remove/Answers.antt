use Rattle.std.proofs.Common.{◌<◌, ◌≤◌, length, sym, ap, ◌∙◌, subst, arith, rules}
use Rattle.stores.specs.Meaning.{Dropped as Gone}
use Rattle.stores.specs.Slots.{counted}
use Rattle.stores.proofs.Counted.{counted_length}
use Rattle.hash_store.specs.inside.Probing.{Closed, Sound, lookup, room}
use Rattle.hash_store.proofs.Closes.{closed_drop, closed_sound}
use Rattle.hash_store.proofs.Lent.{given, part}
use Rattle.hash_store.proofs.HashStore.remove.Goals as goal

pub slice_bounds-close-end : goal.slice_bounds-close-end
slice_bounds-close-end g c =
    let le : length c.ring-n.result.now ≤ length c.deref_mut.result.now = omega (arith, ap length c.ring-n.ensures.now, ap length c.deref_mut.ensures.value, counted_length c.args.self.now.slots.items) in
    search rules

pub close-requires : goal.close-requires
close-requires g c =
    let s = c.args.self.now in
    let lent = sym (part s.slots.items _ _ c.deref_mut.ensures.value (ap length c.ring-n.ensures.now)) in
    record {
      small = subst (λ l. length l ≤ 65536) lent (omega (arith, counted_length s.slots.items));
      sound = subst Sound lent s.sound;
      inside = subst (λ l. c.args.i < length l) lent c.requires.0;
    }

pub invariant_of-self : goal.invariant_of-self
invariant_of-self g c =
    let s = c.args.self.now in
    let xs = s.slots.items in
    let was = part xs _ _ c.deref_mut.ensures.value (ap length c.ring-n.ensures.now) in
    let k = given xs _ _ c.deref_mut.ensures.value (ap length c.ring-n.ensures.now) c.close.new.slots _ _ s.slots.ok.0 c.close.ensures.long in
    record { sound = subst Sound (sym k.counts) (closed_sound (counted xs) c.close.new.slots c.args.i c.args.a c.requires (c.close.ensures.long ∙ ap length was) (omega arith) s.sound (subst (λ l. Closed l c.close.new.slots c.args.i) was c.close.ensures.closed)) }

pub returns : goal.returns
returns g c =
    let s = c.args.self.now in
    let xs = s.slots.items in
    let was = part xs _ _ c.deref_mut.ensures.value (ap length c.ring-n.ensures.now) in
    let k = given xs _ _ c.deref_mut.ensures.value (ap length c.ring-n.ensures.now) c.close.new.slots _ _ s.slots.ok.0 c.close.ensures.long in
    record {
      dropped = subst (λ l. Gone (lookup (counted xs)) (lookup l) (room (counted xs)) (room l) c.args.a) (sym k.counts) (closed_drop (counted xs) c.close.new.slots c.args.i c.args.a c.requires (c.close.ensures.long ∙ ap length was) (omega arith) s.sound (subst (λ l. Closed l c.close.new.slots c.args.i) was c.close.ensures.closed));
      kept = k.kept;
    }
