use Rattle.std.proofs.Common.{refl, sym, ◌∙◌}
use Rattle.records.proofs.Chunks.{one_fails}
use Rattle.records.proofs.rows.check.Goals as goal

pub returns-in-Some : goal.returns-in-Some
returns-in-Some g c = (refl, one_fails g.R.Record.meant c.args.rows.now c.in-Some.record (sym c.first_meaningless.ensures ∙ c.in-Some.is))
