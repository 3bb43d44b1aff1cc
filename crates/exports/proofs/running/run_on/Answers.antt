use Rattle.std.proofs.Common.{[], ◌*◌, length, ap, sym, subst, ◌∙◌}
use Rattle.module.specs.Modules.{said}
use Rattle.module.specs.declared.module.Module.{Module}
use Rattle.machine.specs.Goes.{over}
use Rattle.machine.specs.Machine.{State}
use Rattle.runs.specs.Seen.{seen}
use Rattle.exports.specs.Runs.{Ran}
use Rattle.exports.proofs.running.run_on.Goals as goal

pub go_on-requires-clause-ready : goal.go_on-requires-clause-ready
go_on-requires-clause-ready g c =
    let is = c.begin-run.ensures in
    (ap (λ (s : State). over s) (is.state []), c.requires.sized ∙ sym (ap (λ (m : Module). (said m).memory) is.«module»))

pub returns : goal.returns
returns g c =
    let is = c.begin-run.ensures in
    let see = seen g.S.Store.entry g.S.Store.taken in
    let memory = c.args.memory.now in
    let first = c.begin-run.result in (
      first,
      c.go_on.new.run,
      record { state = is.state memory; clear = is.cleared.gone },
      is.kept,
      subst (λ (m : Module). Ran m (see first memory) (c.args.slices * length c.args.events.now) c.go_on.result (see c.go_on.new.run c.go_on.new.memory)) is.«module» c.go_on.ensures,
    )
