-- Which functions a run of a module can enter.
use Rattle.std.specs.Prelude.{◌≡◌, ℕ, Some}
use Rattle.content.specs.declared.instruction.Instruction.TheVariants as op
use Rattle.parts.specs.Content.{Content}
use Rattle.module.specs.Modules.{instruction_at}

-- function g can be entered: it is function 0, or the instruction at a place i of a function f that can be entered calls it or takes its address
pub data Enterable (c : Content) : ℕ → Type 0 where
  first : Enterable c 0
  called : (f i g : ℕ) → Enterable c f → instruction_at c f i ≡ Some (op.Call g) → Enterable c g
  taken : (f i x g : ℕ) → Enterable c f → instruction_at c f i ≡ Some (op.Function x g) → Enterable c g

-- function g can be entered through a pointer: a function that can be entered takes its address
abbrev pub EnterableThrough : Content → ℕ → Type 0
EnterableThrough c g = (f i x : ℕ) × Enterable c f × (instruction_at c f i ≡ Some (op.Function x g))
