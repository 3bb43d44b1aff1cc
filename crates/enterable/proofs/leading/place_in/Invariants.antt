use Rattle.std.proofs.Common.{ℕ, ◌<◌}
use Rattle.module.specs.Modules.{said}
use Rattle.enterable.specs.First.{Leads}
use Rattle.enterable.proofs.leading.place_in.Given as goal

-- no place so far leads to g
abbrev pub invariant-loop-place : goal.invariant-loop-place
invariant-loop-place l = (i : ℕ) → i < l.place → Leads (said l.program) l.way l.f i l.g → ⊥
