use Rattle.runs.proofs.Locals.{locals_below}
use Rattle.runs.proofs.run.Live.turn.Goals as goal

pub perform-requires-clause-below : goal.perform-requires-clause-below
perform-requires-clause-below g c = locals_below c.args.on.now c.args.self.now c.args.place.now c.in-Some.instruction c.requires.newest c.in-Some.ensures
