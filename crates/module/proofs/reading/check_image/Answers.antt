use Rattle.std.proofs.Common.{Option, MatchOption, subst}
use Rattle.parts.specs.Content.{shown}
use Rattle.tables.specs.declared.places.Places.{Places}
use Rattle.tables.specs.Tables.{Over, AllPlaced}
use Rattle.module.proofs.Following.{followed}
use Rattle.module.proofs.reading.check_image.Goals as goal

pub returns : goal.returns
returns c =
    let p = shown c.in_ok-image.image in
    let placed = subst (λ (o : Option Places). MatchOption o (Over p) (λ s. AllPlaced p s)) c.in_ok-places.ensures.ok_part c.places_of.ensures in
    let front = c.in_ok-front.ensures in
    (followed _ _ _ c.in_ok-image.image _ front.0 front.1 c.in_ok-image.ensures placed, placed)
