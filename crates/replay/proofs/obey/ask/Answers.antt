use Rattle.std.proofs.Common.{refl}
use Rattle.replay.proofs.obey.ask.Goals as goal

pub returns-in-Some : goal.returns-in-Some
returns-in-Some c = rw c.in-Some.is (c.ask.result, c.ask.new.store, refl, refl, c.ask.ensures.asked, c.ask.ensures.kept)
