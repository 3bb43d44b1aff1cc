use Rattle.std.proofs.Common.{sym, ◌∙◌}
use borrow.Author.Tests.{ltb-false, ltb-true}
use Rattle.hash_store.proofs.Orders.{read}
use Rattle.hash_store.proofs.Places.{farther_on, fitting}
use Rattle.hash_store.proofs.Tables.{vacancy_is}
use Rattle.hash_store.proofs.probe.place_for.Goals as goal

pub loop-places-preserved : goal.loop-places-preserved
loop-places-preserved g c =
    let f = c.loop-places.invariant in
    let v = vacancy_is c.args.slots.now c.requires.room in
    farther_on _ _ _ _ _ _ f v.0 v.1 (rw (read c.args.slots.now c.loop-places.i _ _ f.inside (sym c.index-slots-i.is)) (ltb-false _ _ (sym c.is_nearer.ensures ∙ c.loop-places-test.true))) _ c.next-i.ensures

pub returns : goal.returns
returns g c =
    let f = c.loop-places.invariant in
    let v = vacancy_is c.args.slots.now c.requires.room in
    fitting _ _ _ _ _ _ f v.0 v.1 (rw (read c.args.slots.now c.loop-places.i _ _ f.inside (sym c.index-slots-i.is)) (ltb-true _ _ (sym c.is_nearer.ensures ∙ c.loop-places-test.false)))
