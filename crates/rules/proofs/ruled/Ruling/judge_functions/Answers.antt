use Rattle.std.proofs.Common.{sym, ◌∙◌, refl, Some, None}
use Rattle.rules.proofs.Turns.{next_broken}
use Rattle.rules.proofs.ruled.Ruling.judge_functions.Goals as goal

pub returns-in-Some : goal.returns-in-Some
returns-in-Some c = (refl, c.loop-row.invariant ∙ next_broken _ _ c.args.self.now.image.now.functions.now c.loop-row.row-index _ c.read_or.result (Some c.in-Some.record) c.loop-row-test.true c.read_or.ensures (sym c.in-Some.is ∙ c.broken_code.ensures))

pub loop-row-preserved : goal.loop-row-preserved
loop-row-preserved c = c.loop-row.invariant ∙ next_broken _ _ c.args.self.now.image.now.functions.now c.loop-row.row-index _ c.read_or.result None c.loop-row-test.true c.read_or.ensures (sym c.in_default.is ∙ c.broken_code.ensures)
