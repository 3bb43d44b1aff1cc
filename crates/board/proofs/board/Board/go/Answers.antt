use Rattle.std.proofs.Common.{◌≡◌, length, Ok, arith}
use Rattle.board.proofs.Standing.{gone, moves}
use Rattle.board.proofs.board.Board.go.Goals as goal

pub returns-in_ok-room-in-Some : goal.returns-in_ok-room-in-Some
returns-in_ok-room-in-Some g c =
    let long : length c.go_on.new.memory ≡ c.args.self.now.memory.len = omega arith in
    let made = c.go_on.ensures in
    let moved = gone _ _ _ c.args.self.now (Ok c.go_on.result) _ _ made.0 made.1 _ _ _ _ c.in_ok-room-in-Some.ensures made.3 in
    rw c.in-Some.is (made.0, made.1, made.2, moves _ _ _ c.args.self.now (Ok c.go_on.result) _ c.in-Some.run' c.go_on.new.run _ _ c.as_mut_slice.ensures.value long moved)
