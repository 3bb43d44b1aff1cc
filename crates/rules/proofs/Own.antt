-- The instructions of a function, as they stand in the list of code.
use Rattle.std.proofs.Common.{◌≡◌, ℕ, ◌+◌, ◌<◌, ◌≤◌, Bool, true, List, length, get_or, take, drop, unwrap_or, Some, None, sym, ap, ◌∙◌, subst, arith}
use Rattle.std.specs.List.{slice_get}
use Rattle.std.specs.Option.{option_map_or}
use Rattle.std.proofs.lemmas.List.{length-map, length-take, length-drop, get_or-take, get_or-drop}
use Rattle.std.proofs.lemmas.Option.{slice_get-get_or, slice_get_past}
use Rattle.std.proofs.Math.ListN.{get_or-map}
use Rattle.content.specs.declared.function.Function.{Function}
use Rattle.content.specs.declared.instruction.Instruction.{Instruction}
use Rattle.content.specs.declared.instruction.Instruction.TheVariants.{Return}
use Rattle.content.specs.Records.{instruction_from}
use Rattle.records.specs.Rows.{words_in}
use Rattle.parts.specs.Content.{Content, code}
use Rattle.rules.specs.declared.rule.Rule.{Rule}
use Rattle.rules.specs.Keeping.{instruction_keeps}
use Rattle.rules.specs.Judging.{place_keeps}

abbrev read : List (List ℕ) → Instruction
read row = unwrap_or (instruction_from (words_in row)) Return

long : (rs : List (List (List ℕ))) → length (code rs) ≡ length rs
long rs = length-map rs read

module _ (rs : List (List (List ℕ))) (a n k : ℕ) where
  -- the one at place k
  there : (d : List (List ℕ)) → k < length (take n (drop a rs)) → slice_get (code rs) (a + k) ≡ Some (unwrap_or (instruction_from (words_in (get_or (take n (drop a rs)) k d))) Return)
  there d l =
      let short : k < n = omega (arith, l, length-take n (drop a rs)) in
      let inside : a + k < length rs = omega (arith, l, length-take n (drop a rs), length-drop a rs) in
      slice_get-get_or (code rs) (a + k) (read d) (omega (arith, long rs, inside))
      ∙ ap Some (get_or-map read rs (a + k) d ∙ ap read (sym (get_or-take n (drop a rs) k d short ∙ get_or-drop a rs k d)))

  -- behind the last of them none is there
  gone : k < n → length (take n (drop a rs)) ≤ k → slice_get (code rs) (a + k) ≡ None
  gone l h = slice_get_past (code rs) (a + k) (omega (arith, l, h, long rs, length-take n (drop a rs), length-drop a rs))

module _ (r : Rule) (c : Content) (rs : List (List (List ℕ))) (f : Function) (k : ℕ) where
  -- what is asked of the one at place k
  pub keeps_there : (rows : List (List (List ℕ))) (d : List (List ℕ)) (o : Instruction) (b : Bool) → c.code ≡ code rs → rows ≡ take f.count (drop f.first rs) → k < length rows → o ≡ unwrap_or (instruction_from (words_in (get_or rows k d))) Return → b ≡ instruction_keeps r c f k o → place_keeps r c f k ≡ b
  keeps_there rows d o b q e l read_as asked =
      let at : slice_get (code rs) (f.first + k) ≡ Some o = there rs f.first f.count k d (subst (λ x. k < length x) e l) ∙ ap Some (sym (read_as ∙ ap (λ x. read (get_or x k d)) e)) in
      ap (λ x. option_map_or (instruction_keeps r c f k) x true) (ap (λ x. slice_get x (f.first + k)) q ∙ at) ∙ sym asked

  -- and what isn't there breaks nothing
  pub keeps_gone : (rows : List (List (List ℕ))) → c.code ≡ code rs → rows ≡ take f.count (drop f.first rs) → k < f.count → length rows ≤ k → place_keeps r c f k ≡ true
  keeps_gone rows q e l h = ap (λ x. option_map_or (instruction_keeps r c f k) x true) (ap (λ x. slice_get x (f.first + k)) q ∙ gone rs f.first f.count k l (subst (λ x. length x ≤ k) e h))
