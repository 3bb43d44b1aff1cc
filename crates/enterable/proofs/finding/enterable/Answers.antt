use Rattle.std.proofs.Common.{true}
use mathlib.Core.Bool.{Bool-set}
use Rattle.module.specs.Modules.{said}
use Rattle.enterable.proofs.Named.{there, enterable_few}
use Rattle.enterable.proofs.Growing.{first_right, whole, whole_through}
use Rattle.enterable.proofs.finding.enterable.Goals as goal

pub loop-init : goal.loop-init
loop-init c = rw c.first-found.ensures (first_right (said c.args.program.now))

pub returns-clause-all : goal.returns-clause-all
returns-clause-all c =
    let m = said c.args.program.now in
    let r = c.round.ensures.right c.loop.invariant in
    let few = enterable_few c.args.program.now in
    λ k. (λ e. ∣ r.all k e ∣₁, λ t. ∥∥₁_rec (Bool-set _ true) (whole m c.round.new.found few r (c.round.ensures.done c.loop-test.false)) t)

pub returns-clause-there : goal.returns-clause-there
returns-clause-there c = λ k e. there c.args.program.now k ((c.round.ensures.right c.loop.invariant).all k e)

pub returns-clause-through : goal.returns-clause-through
returns-clause-through c =
    let m = said c.args.program.now in
    let r = c.round.ensures.right c.loop.invariant in
    let few = enterable_few c.args.program.now in
    λ k. (λ e. ∣ r.through k e ∣₁, λ t. ∥∥₁_rec (Bool-set _ true) (whole_through m c.round.new.found few r (c.round.ensures.done c.loop-test.false) k) t)
