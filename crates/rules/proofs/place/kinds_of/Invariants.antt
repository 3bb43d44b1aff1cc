use Rattle.std.proofs.Common.{◌≡◌, ℕ, ◌<◌, None, get_or, length}
use Rattle.parts.specs.Content.{shown}
use Rattle.rules.specs.Keeping.{kind_of}
use Rattle.rules.proofs.place.kinds_of.Given as goal

abbrev pub invariant-loop-x : goal.invariant-loop-x
invariant-loop-x l = record {
  long : length l.kind-items ≡ 8;
  each : (j : ℕ) → j < l.x → get_or l.kind-items j None ≡ kind_of (shown l.image) l.function j;
}
