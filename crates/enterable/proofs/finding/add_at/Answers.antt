use Rattle.std.proofs.Common.{◌≡◌, ◌<◌, length, Some, sym, arith}
use Rattle.content.specs.declared.instruction.Instruction.TheVariants as op
use Rattle.module.specs.Modules.{said, instruction_at}
use Rattle.enterable.proofs.Named.{called_few, taken_few}
use Rattle.enterable.proofs.Growing.{called_grown, taken_grown}
use Rattle.enterable.proofs.finding.add_at.Goals as goal

pub add_called-requires : goal.add_called-requires
add_called-requires c =
    let w = c.in-Some-Call in
    let is : instruction_at (said c.args.program.now) c.args.f c.args.place ≡ Some (op.Call w.function) = sym (rw w.field-0-is at w.ensures) in
    called_few c.args.program.now _ _ _ is

pub add_taken-requires : goal.add_taken-requires
add_taken-requires c =
    let w = c.in-Some-Function in
    let is : instruction_at (said c.args.program.now) c.args.f c.args.place ≡ Some (op.Function w.field-0-0 w.function) = sym (rw w.field-0-is at w.ensures) in
    taken_few c.args.program.now _ _ _ _ is

pub returns-in-Some-Call : goal.returns-in-Some-Call
returns-in-Some-Call c =
    let w = c.in-Some-Call in
    let is : instruction_at (said c.args.program.now) c.args.f c.args.place ≡ Some (op.Call w.function) = sym (rw w.field-0-is at w.ensures) in
    let few = called_few c.args.program.now _ _ _ is in
    let long : w.function < length c.args.found.now.all = omega arith in
    rw (c.add_called.ensures.sets, c.add_called.ensures.new) (called_grown (said c.args.program.now) c.args.f c.args.place w.function c.args.found.now long c.requires is)

pub returns-in-Some-Function : goal.returns-in-Some-Function
returns-in-Some-Function c =
    let w = c.in-Some-Function in
    let is : instruction_at (said c.args.program.now) c.args.f c.args.place ≡ Some (op.Function w.field-0-0 w.function) = sym (rw w.field-0-is at w.ensures) in
    let few = taken_few c.args.program.now _ _ _ _ is in
    let long : w.function < length c.args.found.now.all = omega arith in
    let long' : w.function < length c.args.found.now.through = omega arith in
    rw (c.add_taken.ensures.sets, c.add_taken.ensures.new) (taken_grown (said c.args.program.now) c.args.f c.args.place _ w.function c.args.found.now long long' c.requires is)
