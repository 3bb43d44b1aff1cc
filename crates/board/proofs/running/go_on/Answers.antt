use Rattle.std.proofs.Common.{◌≡◌, length, arith, refl}
use Rattle.std.specs.Vec.{with_items}
use Rattle.board.proofs.Going.{went_made, went_none}
use Rattle.board.proofs.running.go_on.Goals as goal

pub returns-in-Ok : goal.returns-in-Ok
returns-in-Ok g c =
    let long : length c.go.new.events ≡ c.args.room.len = omega arith in
    went_made _ _ _ c.args.run.now c.go.new.self _ _ c.args.room c.truncate.new.self _ c.go.new.events c.as_mut_slice.ensures.value c.in-Ok.ensures.«module» c.in-Ok.ensures.kept c.in-Ok.gone long c.truncate.ensures.items c.in-Ok.ensures.go

pub returns-in-Err : goal.returns-in-Err
returns-in-Err g c =
    let long : length c.go.new.events ≡ c.args.room.len = omega arith in
    went_none _ _ _ c.args.run.now c.go.new.self _ _ c.args.room (with_items c.args.room c.go.new.events) _ c.go.new.events c.as_mut_slice.ensures.value c.in-Err.ensures.«module» c.in-Err.ensures.kept c.in-Err.why long refl c.in-Err.ensures.go
