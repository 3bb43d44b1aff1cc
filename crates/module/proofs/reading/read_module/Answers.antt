use Rattle.std.proofs.Common.{◌≡◌, sym, subst}
use Rattle.std.proofs.lemmas.Result.{err_from_is_err_and}
use Rattle.parts.specs.Content.{content}
use Rattle.tables.specs.Tables.{AllPlaced, LaidOut}
use Rattle.writing.specs.Image.{image_of}
use Rattle.writing.proofs.Images.{held_image}
use Rattle.module.specs.Follows.{Follows}
use Rattle.module.proofs.Exact.{same_content, not_refused}
use Rattle.module.proofs.reading.read_module.Goals as goal

pub invariant_of-result : goal.invariant_of-result
invariant_of-result c =
    let p = c.of-parts.result in
    let e = sym c.of-parts.ensures.lists in
    let f = c.in_ok-image.ensures in
    let y = subst (Follows c.args.bytes.now) e f.0 in
    let i : c.args.bytes.now ≡ image_of (content p) = held_image c.args.bytes.now (content p) (λ i. (c.type_inv.bytes i).fits) y.holds in
    record {
      follows = ∣ subst (λ s. Follows s (content p)) i y ∣₁;
      right = c.sensitive_types-sensitive.ensures;
      laid_out = ∣ subst (λ d. LaidOut d c.sensitive_types-sensitive.result c.layouts-layouts.result) e c.layouts-layouts.ensures ∣₁;
      placed = ∣ subst (λ d. AllPlaced d c.in_ok-image.field-0.places) e f.1 ∣₁;
    }

pub returns-in_err-image : goal.returns-in_err-image
returns-in_err-image c =
    let p = err_from_is_err_and c.from_residual.result c.from_residual.ensures.1 in
    rw p.1 (λ d y. not_refused _ d y c.in_err-image.field-0.0 c.in_err-image.ensures)

pub returns : goal.returns
returns c =
    let f = subst (Follows c.args.bytes.now) (sym c.of-parts.ensures.lists) c.in_ok-image.ensures.0 in
    λ d y. same_content _ _ d f.holds y.holds
