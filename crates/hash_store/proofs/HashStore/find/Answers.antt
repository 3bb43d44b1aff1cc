use Rattle.std.proofs.Common.{vec_items, subst}
use Rattle.stores.specs.Slots.{counted}
use Rattle.hash_store.specs.inside.Probing.{Found}
use Rattle.hash_store.proofs.Tables.{found_tells}
use Rattle.hash_store.proofs.HashStore.find.Goals as goal

pub returns-clause-tells : goal.returns-clause-tells
returns-clause-tells g c =
    let s = c.args.self.now in
    found_tells (counted (vec_items s.slots)) c.args.a c.find.result s.sound.single (subst (λ l. Found l c.args.a c.find.result) c.ring.ensures.now c.find.ensures)
