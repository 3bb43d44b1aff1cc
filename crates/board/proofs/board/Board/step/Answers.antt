use Rattle.std.proofs.Common.{◌≡◌, ap, length, Ok, arith}
use Rattle.board.proofs.Standing.{moves}
use Rattle.board.proofs.board.Board.step.Goals as goal

pub returns-in-Some : goal.returns-in-Some
returns-in-Some g c =
    let long : length c.step_on.new.memory ≡ c.args.self.now.memory.len = omega arith in
    let made = c.step_on.ensures in
    rw c.in-Some.is (made.0, ap Ok made.1, moves _ _ _ c.args.self.now (Ok c.step_on.result) _ c.in-Some.run' c.step_on.new.run _ _ c.as_mut_slice.ensures.value long made.2)
