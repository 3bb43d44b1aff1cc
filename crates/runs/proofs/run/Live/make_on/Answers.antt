use Rattle.std.proofs.Common.{rules}
use Rattle.runs.proofs.Turns.{followed, still_stands}
use Rattle.runs.proofs.run.Live.make_on.Goals as goal

pub returns-else-leaves-clause-newest : goal.returns-else-leaves-clause-newest
returns-else-leaves-clause-newest g c =
    let t = c.make.new in
    followed g.S.Store.entry g.S.Store.taken c.args.on.now c.args.self.now c.args.place.now c.args.memory.now _ t.self t.place t.memory c.in_ok-event.ensures.step c.requires.newest (search rules)

pub returns-else-leaves-clause-stands : goal.returns-else-leaves-clause-stands
returns-else-leaves-clause-stands g c = λ q.
    let t = c.make.new in
    still_stands g.S.Store.entry g.S.Store.taken c.args.on.now.module.now c.args.self.now c.args.place.now c.args.memory.now _ t.self t.place t.memory c.in_ok-event.ensures.step q
