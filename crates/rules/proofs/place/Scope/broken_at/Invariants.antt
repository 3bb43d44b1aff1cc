use Rattle.std.proofs.Common.{◌≡◌, ℕ, ◌<◌, true}
use Rattle.parts.specs.Content.{shown}
use Rattle.rules.specs.Judging.{place_keeps}
use Rattle.rules.proofs.place.Scope.broken_at.Given as goal

abbrev pub invariant-loop-i : goal.invariant-loop-i
invariant-loop-i l = (k : ℕ) → k < l.i → place_keeps l.rule (shown l.self.image.now) l.self.function.now k ≡ true
