use Rattle.std.proofs.Common.{sym, ◌∙◌}
use Rattle.hash_store.proofs.Closes.{read_moved, read_nearer, shut_empty, shut_home, start}
use Rattle.hash_store.proofs.probe.close.Goals as goal
use Rattle.hash_store.proofs.probe.close.Goals.{in_default, in-Some+then-is_home}

pub loop-slots-init : goal.loop-slots-init
loop-slots-init g c = start _ _ c.requires.inside c.requires.sound

pub loop-slots-smaller : goal.loop-slots-smaller
loop-slots-smaller g c = read_nearer _ _ _ _ c.loop-slots.invariant _ c.next-next.ensures _ _ _ c.in-Some.is (sym c.is_home.ensures ∙ c.if-is_home.false)

pub loop-slots-preserved : goal.loop-slots-preserved
loop-slots-preserved g c = read_moved _ _ _ _ c.loop-slots.invariant _ c.next-next.ensures _ _ _ c.in-Some.is (sym c.is_home.ensures ∙ c.if-is_home.false)

pub returns-clause-closed : goal.returns-clause-closed
returns-clause-closed g c =
    let s = c.loop-slots.invariant in
    elim c.match-slots-next.branch [
      | in_default w ↦ shut_empty _ _ _ _ s _ c.next-next.ensures _ w.in_default.is
      | in-Some+then-is_home w ↦ shut_home _ _ _ _ s _ c.next-next.ensures _ _ _ w.in-Some.is (sym w.is_home.ensures ∙ w.if-is_home.true)
    ]
