use Rattle.std.proofs.Common.{ℕ, ◌<◌}
use Rattle.module.specs.Modules.{said}
use Rattle.enterable.specs.Enterable.{Enterable}
use Rattle.enterable.specs.First.{Leads}
use Rattle.enterable.proofs.leading.first_site.Given as goal

-- no function so far leads to g
abbrev pub invariant-loop-f : goal.invariant-loop-f
invariant-loop-f l = (f : ℕ) → f < l.f → (i : ℕ) → Enterable (said l.program) f → Leads (said l.program) l.way f i l.g → ⊥
