use Rattle.std.proofs.Common.{true, false, length, drop, ⊎_elim, refl, sym, ap, ◌∙◌, arith}
use Rattle.std.proofs.lemmas.Bool.{cases_lt}
use Rattle.std.proofs.lemmas.List.{length-take}
use borrow.Author.Count.{below_more}
use Rattle.parts.specs.Content.{shown}
use Rattle.rules.proofs.Firsts.{first_fails, none_fails}
use Rattle.rules.proofs.Own.{keeps_there, keeps_gone}
use Rattle.rules.proofs.place.Scope.broken_at.Goals as goal

pub returns-then-not-passes : goal.returns-then-not-passes
returns-then-not-passes c =
    let f = c.args.self.now.function.now in
    let rs = c.args.self.now.image.now.code.now in
    first_fails _ f.count c.loop-i.i (omega (arith, c.loop-i-test.true, ap length c.rows-rows.ensures, length-take f.count (drop f.first rs))) c.loop-i.invariant (keeps_there c.args.rule (shown c.args.self.now.image.now) rs f c.loop-i.i c.rows-rows.result.now _ c.read_or.result false refl c.rows-rows.ensures c.loop-i-test.true c.read_or.ensures (sym c.if-not-passes.true ∙ c.passes.ensures))

pub loop-i-preserved : goal.loop-i-preserved
loop-i-preserved c =
    let f = c.args.self.now.function.now in
    let rs = c.args.self.now.image.now.code.now in
    below_more _ c.loop-i.i c.loop-i.invariant (keeps_there c.args.rule (shown c.args.self.now.image.now) rs f c.loop-i.i c.rows-rows.result.now _ c.read_or.result true refl c.rows-rows.ensures c.loop-i-test.true c.read_or.ensures (sym c.if-not-passes.false ∙ c.passes.ensures))

pub returns : goal.returns
returns c =
    let f = c.args.self.now.function.now in
    let rs = c.args.self.now.image.now.code.now in
    none_fails _ f.count (λ k l. ⊎_elim (λ h. c.loop-i.invariant k (omega (arith, h, c.loop-i-test.false))) (λ h. keeps_gone c.args.rule (shown c.args.self.now.image.now) rs f k c.rows-rows.result.now refl c.rows-rows.ensures l h) (cases_lt k (length c.rows-rows.result.now)))
