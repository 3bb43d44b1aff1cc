use Rattle.std.proofs.Common.{◌≡◌, drop}
use Rattle.parts.specs.Content.{shown}
use Rattle.rules.specs.Judging.{broken_by_any}
use Rattle.rules.proofs.ruled.Ruling.judge_functions.Given as goal

abbrev pub invariant-loop-row : goal.invariant-loop-row
invariant-loop-row l =
    let c = shown l.self.image.now in
    broken_by_any l.self.rule c c.functions ≡ broken_by_any l.self.rule c (drop l.row-index c.functions)
