use Rattle.std.proofs.Common.{arith, length, refl, sym, ◌∙◌}
use Rattle.exports.proofs.Slices.{at_start, goes_on, one_more, ran_short}
use Rattle.exports.proofs.running.go_on.Goals as goal

pub loop-k-init : goal.loop-k-init
loop-k-init g c = (refl, c.requires.ready, refl, at_start _ _ _)

pub returns-in_default : goal.returns-in_default
returns-in_default g c =
    let i = c.loop-k.invariant in
    ran_short c.in-Ok.gone c.args.slices c.loop-k.k (length c.args.events.now) i.0 c.in_default.not-Full c.loop-k-test.true (sym i.2) i.3 c.in-Ok.ensures.go

pub loop-k-preserved : goal.loop-k-preserved
loop-k-preserved g c =
    let i = c.loop-k.invariant in (
      c.go.ensures.«module» ∙ i.0,
      (goes_on c.in-Ok.gone c.in-Full.is c.in-Ok.ensures.go, omega (arith, i.1.1)),
      omega (arith, i.2),
      one_more c.in-Ok.gone c.loop-k.k (length c.args.events.now) i.0 c.in-Full.is (sym i.2) i.3 c.in-Ok.ensures.go,
    )
