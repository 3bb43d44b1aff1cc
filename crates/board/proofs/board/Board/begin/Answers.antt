use Rattle.std.proofs.Common.{Ok, sym}
use Rattle.board.specs.declared.report.Report.TheVariants as tells
use Rattle.board.proofs.Standing.{begins}
use Rattle.board.proofs.board.Board.begin.Goals as goal

pub returns-in-Some : goal.returns-in-Some
returns-in-Some g c = begins _ _ _ c.args.self.now (Ok tells.Begun) c.args.self.now.loose c.take.new.self c.in-Some.store c.begun.result (sym c.in-Some.ensures.value) c.in-Some.ensures.after c.begun.ensures
