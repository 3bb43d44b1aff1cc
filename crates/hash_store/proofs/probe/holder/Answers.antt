use Rattle.std.proofs.Common.{sym, ◌∙◌, arith}
use Rattle.hash_store.proofs.Orders.{read}
use Rattle.hash_store.proofs.Searches.{seen_first, seen_none, seen_on, seen_past, seen_some}
use Rattle.hash_store.proofs.probe.holder.Goals as goal
use Rattle.hash_store.proofs.probe.holder.Goals.{else-holds, then-holds}

pub overflow_add-at-then-holds : goal.overflow_add-at-then-holds
overflow_add-at-then-holds g c =
    let none = seen_first c.args.slots.now c.args.a c.loop-i.i c.loop-i.at c.requires.single c.loop-i.invariant (rw (read c.args.slots.now c.loop-i.i _ _ c.loop-i-test.true (sym c.index-slots-i.is)) (sym c.if-holds.ensures)) in
    omega arith

pub loop-i-preserved : goal.loop-i-preserved
loop-i-preserved g c =
    let at = read c.args.slots.now c.loop-i.i _ _ c.loop-i-test.true (sym c.index-slots-i.is) in
    elim c.if-holds.branch [
      | then-holds w ↦ rw w.at-is (seen_on c.args.slots.now c.args.a c.loop-i.i c.loop-i.at c.requires.single c.loop-i.invariant (rw at (sym c.holds.ensures ∙ w.if-holds.true)))
      | else-holds w ↦ rw w.at-is (seen_past c.args.slots.now c.args.a c.loop-i.i c.loop-i.at c.loop-i.invariant (rw at (sym c.holds.ensures ∙ w.if-holds.false)))
    ]

pub returns-then-at-eq0 : goal.returns-then-at-eq0
returns-then-at-eq0 g c = seen_none c.args.slots.now c.args.a c.loop-i.i c.loop-i.at c.loop-i.invariant c.loop-i-test.false c.if-at-eq0.true

pub returns-else-at-eq0 : goal.returns-else-at-eq0
returns-else-at-eq0 g c = seen_some c.args.slots.now c.args.a c.loop-i.i c.loop-i.at c.loop-i.invariant c.loop-i.auto.i-end c.if-at-eq0.false
