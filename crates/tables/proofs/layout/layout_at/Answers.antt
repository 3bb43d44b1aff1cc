use Rattle.std.proofs.Common.{ap, sym, ◌∙◌, replicate}
use Rattle.std.specs.Option.{option_map_or}
use Rattle.parts.specs.Content.{shown}
use Rattle.tables.specs.Tables.{layout_of, plain}
use Rattle.tables.proofs.layout.layout_at.Goals as goal

pub returns-in-Some : goal.returns-in-Some
returns-in-Some c =
    let d = shown c.args.image.now in
    let marks = c.args.marks.now in
    c.layout_of.ensures
    ∙ ap (λ i. layout_of (shown i) marks c.of.result.function.now) c.of.ensures.image
    ∙ ap (layout_of d marks) c.of.ensures.function
    ∙ ap (λ o. option_map_or (layout_of d marks) o (replicate 8 plain)) (sym c.in-Some.is ∙ c.function_at.ensures)
