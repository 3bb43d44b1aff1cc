use Rattle.std.proofs.Common.{inr}
use Rattle.exports.proofs.Undoing.{not_run}
use Rattle.exports.proofs.k4_run.Goals as goal

pub returns-in-Err : goal.returns-in-Err
returns-in-Err c = inr (not_run c.args.image.now c.args.memory.now c.run.new.memory c.args.kind c.in-Err.undone c.answer.result c.in-Err.ensures c.answer.ensures)
