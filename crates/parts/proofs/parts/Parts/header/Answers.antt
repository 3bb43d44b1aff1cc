use Rattle.std.proofs.Common.{refl, arith}
use Rattle.std.proofs.lemmas.List.{length-take-le}
use Rattle.parts.proofs.parts.Parts.header.Goals as goal

pub returns-clause-counted : goal.returns-clause-counted
returns-clause-counted c =
    let p = c.args.self.now in
    let n = p.header.counts in
    let few = p.header.few in
    rw (
      length-take-le n.types p.types (omega arith),
      length-take-le n.fields p.fields (omega arith),
      length-take-le n.globals p.globals (omega arith),
      length-take-le n.locals p.locals (omega arith),
      length-take-le n.functions p.functions (omega arith),
      length-take-le n.code p.code (omega arith),
    ) refl
