-- Functions judged one after the other, as they stand in an image.
use Rattle.std.proofs.Common.{◌≡◌, ℕ, ◌+◌, ◌<◌, List, length, get_or, drop, unwrap_or, Option, sym, ap, ◌∙◌, arith}
use Rattle.std.specs.Option.{option_or}
use Rattle.std.proofs.lemmas.List.{drop_more, length-map}
use Rattle.std.proofs.Math.ListN.{get_or-map}
use Rattle.content.specs.declared.function.Function.{Function}
use Rattle.content.specs.Records.{function_from}
use Rattle.records.specs.Rows.{words_in}
use Rattle.parts.specs.Content.{Content, functions}
use Rattle.rules.specs.declared.rule.Rule.{Rule}
use Rattle.rules.specs.Judging.{broken_by, broken_by_any}

-- the function whose turn it is, in front of those behind it
pub next_broken : (r : Rule) (c : Content) (rs : List (List (List ℕ))) (k : ℕ) (d : List (List ℕ)) (f : Function) (o : Option ℕ) → k < length rs → f ≡ unwrap_or (function_from (words_in (get_or rs k d))) (record { first = 0; count = 1; first_local = 0; locals = 0 }) → o ≡ broken_by r c f → broken_by_any r c (drop k (functions rs)) ≡ option_or o (broken_by_any r c (drop (k + 1) (functions rs)))
next_broken r c rs k d f o l e b =
    let read : List (List ℕ) → Function = λ row. unwrap_or (function_from (words_in row)) (record { first = 0; count = 1; first_local = 0; locals = 0 }) in
    let here : get_or (functions rs) k (read d) ≡ f = get_or-map read rs k d ∙ sym e in
    ap (broken_by_any r c) (drop_more (functions rs) k (read d) (omega (arith, length-map rs read, l)))
    ∙ ap (λ g. option_or (broken_by r c g) (broken_by_any r c (drop (k + 1) (functions rs)))) here
    ∙ ap (λ x. option_or x (broken_by_any r c (drop (k + 1) (functions rs)))) (sym b)
