use Rattle.std.proofs.Common.{arith}
use Rattle.hash_store.proofs.Opens.{begun, placed, pushed, pushes}
use Rattle.hash_store.proofs.Orders.{read}
use Rattle.hash_store.proofs.Tables.{vacancy_is}
use Rattle.hash_store.proofs.probe.open.Goals as goal

pub loop-slots-init : goal.loop-slots-init
loop-slots-init g c =
    let v = vacancy_is c.args.slots.now c.requires.room in
    begun _ _ _ _ _ c.place_for-i.ensures c.requires.sound c.requires.absent v.0 v.1

pub loop-slots-smaller : goal.loop-slots-smaller
loop-slots-smaller g c =
    let s = c.loop-slots.invariant in
    pushes _ _ _ _ _ _ _ _ s _ _ (read c.loop-slots.slots c.loop-slots.i _ _ (omega (arith, s.long, s.fits.inside)) c.in-Some.is) _ c.next-i.ensures.0

pub loop-slots-preserved : goal.loop-slots-preserved
loop-slots-preserved g c =
    let s = c.loop-slots.invariant in
    rw c.next-i.ensures.0 (pushed _ _ _ _ _ _ _ _ s _ _ (read c.loop-slots.slots c.loop-slots.i _ _ (omega (arith, s.long, s.fits.inside)) c.in-Some.is))

pub returns-clause-opened : goal.returns-clause-opened
returns-clause-opened g c =
    let s = c.loop-slots.invariant in
    placed _ _ _ _ _ _ _ _ s (read c.loop-slots.slots c.loop-slots.i _ _ (omega (arith, s.long, s.fits.inside)) c.in_default.is)
