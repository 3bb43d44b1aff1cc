use Rattle.std.proofs.Common.{sym, ◌∙◌, refl}
use Rattle.parts.specs.Content.{shown}
use Rattle.rules.proofs.Firsts.{first_read}
use Rattle.rules.proofs.ruled.Ruling.judge_list.Goals as goal

pub returns-in-Some : goal.returns-in-Some
returns-in-Some g c = (refl, sym (first_read (g.R.Ruled.keeps c.args.self.now.rule (shown c.args.self.now.image.now)) g.R.Record.meant c.args.blank c.args.rows.now) ∙ sym c.broken_in.ensures ∙ c.in-Some.is)

pub returns-in-None : goal.returns-in-None
returns-in-None g c = sym (first_read (g.R.Ruled.keeps c.args.self.now.rule (shown c.args.self.now.image.now)) g.R.Record.meant c.args.blank c.args.rows.now) ∙ sym c.broken_in.ensures ∙ c.in-None.is
