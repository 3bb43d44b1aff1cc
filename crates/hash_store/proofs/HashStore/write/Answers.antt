use Rattle.std.proofs.Common.{vec_items, sym, subst, arith}
use Rattle.stores.specs.Meaning.{Put}
use Rattle.stores.specs.Slots.{counted}
use Rattle.stores.proofs.Counted.{counted_length, counted_set, kept_set}
use Rattle.hash_store.specs.inside.Probing.{Sound, lookup, room}
use Rattle.hash_store.proofs.Writes.{over_put, over_sound}
use Rattle.hash_store.proofs.HashStore.write.Goals as goal

pub index_mut-requires : goal.index_mut-requires
index_mut-requires g c =
    let v = c.args.self.now.slots in
    omega (arith, c.requires.0, counted_length (vec_items v), v.ok.0)

pub invariant_of-self : goal.invariant_of-self
invariant_of-self g c =
    let s = c.args.self.now in
    let xs = vec_items s.slots in
    record { sound = subst Sound (sym (counted_set xs c.args.i _)) (over_sound (counted xs) c.args.i c.args.a c.args.v c.requires.0 c.requires.1 s.sound (omega arith)) }

pub returns : goal.returns
returns g c =
    let s = c.args.self.now in
    let xs = vec_items s.slots in
    record {
      put = subst (λ l. Put (lookup (counted xs)) (lookup l) (room (counted xs)) (room l) c.args.a c.args.v) (sym (counted_set xs c.args.i _)) (over_put (counted xs) c.args.i c.args.a c.args.v c.requires.0 c.requires.1 s.sound.single (omega arith));
      kept = kept_set xs c.args.i _ c.requires.0;
    }
