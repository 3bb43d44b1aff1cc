use Rattle.std.proofs.Common.{◌≡◌, sym, refl, subst}
use Rattle.parts.specs.Content.{content}
use Rattle.tables.specs.Tables.{AllPlaced, LaidOut}
use Rattle.writing.specs.Image.{image_of}
use Rattle.writing.proofs.Images.{held_image}
use Rattle.module.specs.Follows.{Follows}
use Rattle.module.proofs.Exact.{not_refused}
use Rattle.module.proofs.Again.{not_again, same_again}
use Rattle.module.proofs.module.Module.read.Goals as goal

pub returns-in_err-image-clause-exact : goal.returns-in_err-image-clause-exact
returns-in_err-image-clause-exact c d y = absurd (not_refused _ d y c.in_err-image.field-0.0 c.in_err-image.ensures)

pub returns-in_err-image-clause-again : goal.returns-in_err-image-clause-again
returns-in_err-image-clause-again c m e = absurd (not_again _ m c.in_err-image.field-0.0 c.in_err-image.ensures e)

pub invariant_of-self : goal.invariant_of-self
invariant_of-self c =
    let p = c.read.new.self in
    let e = sym c.read.ensures.lists in
    let f = c.in_ok-image.ensures in
    let y = subst (Follows c.args.image.now) e f.0 in
    let i : c.args.image.now ≡ image_of (content p) = held_image c.args.image.now (content p) (λ i. (c.type_inv.image i).fits) y.holds in
    record {
      follows = ∣ subst (λ s. Follows s (content p)) i y ∣₁;
      right = c.sensitive_types-self.ensures;
      laid_out = ∣ subst (λ d. LaidOut d c.sensitive_types-self.result c.layouts-self.result) e c.layouts-self.ensures ∣₁;
      placed = ∣ subst (λ d. AllPlaced d c.in_ok-image.field-0.places) e f.1 ∣₁;
    }

pub returns-clause-answer : goal.returns-clause-answer
returns-clause-answer c =
    let f = subst (Follows c.args.image.now) (sym c.read.ensures.lists) c.in_ok-image.ensures.0 in
    (f, held_image c.args.image.now (content c.read.new.self) (λ i. (c.type_inv.image i).fits) f.holds)

pub returns-clause-again : goal.returns-clause-again
returns-clause-again c m e =
    let f = subst (Follows c.args.image.now) (sym c.read.ensures.lists) c.in_ok-image.ensures.0 in
    (refl, same_again _ _ m f e)
