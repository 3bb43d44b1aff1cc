use Rattle.std.proofs.Common.{arith}
use Rattle.std.proofs.lemmas.Option.{slice_get-get_or}
use Rattle.content.specs.declared.kind.Kind.TheVariants as kind
use Rattle.sensitivity.proofs.Chains.{more_set, more_same, differ}
use Rattle.sensitivity.proofs.round.Goals as goal
use Rattle.sensitivity.proofs.round.Goals.{then-not-marks-i+then-due, else-not-marks-i, else-not-marks-i-via-then-not-marks-i+else-due, else-not-marks-i-via-else-not-marks-i}

pub loop-i-preserved : goal.loop-i-preserved
loop-i-preserved c =
    elim c.if-not-marks-i.branch [
      | then-not-marks-i+then-due w ↦
          rw (w.marks-is, w.changed-is)
          (more_set c.args.types.now c.args.fields.now _ c.loop-i.i _ c.loop-i.changed (omega arith) w.if-not-marks-i.true (rw (slice_get-get_or _ _ kind.Number c.loop-i-test.true) (w.due.ensures.0 w.if-due.true)) c.loop-i.invariant)
      | else-not-marks-i w ↦
          rw (w.marks-is, w.changed-is)
          (more_same c.args.types.now c.args.fields.now _ c.loop-i.i _ c.loop-i.changed
          (elim w.else-not-marks-i.branch [
            | else-not-marks-i-via-then-not-marks-i+else-due v ↦ λ d. absurd (differ v.if-due.false (v.due.ensures.1 (rw (slice_get-get_or _ _ kind.Number c.loop-i-test.true) at d)))
            | else-not-marks-i-via-else-not-marks-i v ↦ λ _. v.if-not-marks-i.false
          ])
          c.loop-i.invariant)
    ]
