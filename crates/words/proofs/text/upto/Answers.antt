use Rattle.std.proofs.Common.{rules, tests, ◌==◌, ap, length, ◌∙◌}
use Rattle.std.specs.Option.{unwrap_or}
use Rattle.std.proofs.lemmas.Iterator.{YieldsList-from_slice}
use Rattle.std.proofs.lemmas.Iterator.Search.{position_from_yields_List}
use Rattle.words.proofs.Splits.{or_length}
use Rattle.words.proofs.text.upto.Goals as goal

pub returns : goal.returns
returns c =
    let xs = c.args.text.now in
    let is = position_from_yields_List (λ b. b == c.args.stop) _ _ c.position.result c.position.ensures.ran (YieldsList-from_slice xs cc) (λ x b q k. search (rules, tests)) in
    c.unwrap_or.ensures ∙ ap (λ r. unwrap_or r (length xs)) is ∙ or_length (λ b. b == c.args.stop) xs
