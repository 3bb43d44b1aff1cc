use Rattle.std.proofs.Common.{sym, refl, ◌∙◌, arith}
use borrow.Author.Tests.{ltb-true}
use Rattle.hash_store.proofs.Orders.{read}
use Rattle.hash_store.proofs.Searches.{part_single, passed_all, passed_near, passed_on}
use Rattle.hash_store.proofs.probe.find.Goals as goal

pub holder-requires-in-loop-d : goal.holder-requires-in-loop-d
holder-requires-in-loop-d g c = record { single = part_single c.args.slots.now c.min-start.result _ c.requires.sound.single }

pub returns-then-is_nearer : goal.returns-then-is_nearer
returns-then-is_nearer g c =
    let p = c.loop-d.invariant in
    passed_near _ _ c.requires.sound.ordered _ _ _ c.min-start.result _ p refl c.loop-d-test.true (omega arith) (omega arith) (omega arith) c.in_default.ensures (rw (read c.args.slots.now _ _ _ (omega arith) (sym c.index-slots-end.is)) (ltb-true _ _ (sym c.is_nearer.ensures ∙ c.if-is_nearer.true)))

pub loop-d-preserved : goal.loop-d-preserved
loop-d-preserved g c =
    let p = c.loop-d.invariant in
    passed_on _ _ c.requires.sound.ordered _ _ _ c.min-start.result _ p refl c.loop-d-test.true (omega arith) (omega arith) (omega arith) c.in_default.ensures _ c.round-i.ensures

pub returns : goal.returns
returns g c = passed_all _ _ c.requires.sound.ordered _ _ _ c.loop-d.invariant refl (omega arith)
