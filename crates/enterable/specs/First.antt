-- Why a function can be entered.
use Rattle.std.specs.Prelude.{◌≡◌, ℕ, ◌<◌, ◌⊎◌, Some}
use Rattle.content.specs.declared.instruction.Instruction.TheVariants as op
use Rattle.parts.specs.Content.{Content}
use Rattle.module.specs.Modules.{instruction_at}
use Rattle.enterable.specs.declared.way.Way.{Way}
use Rattle.enterable.specs.declared.way.Way.TheVariants.{Call, Address}
use Rattle.enterable.specs.declared.way.Site.{Site}
use Rattle.enterable.specs.Enterable.{Enterable}

-- the instruction at place i of function f leads to function g: it calls it, or takes its address
abbrev pub Leads : Content → Way → ℕ → ℕ → ℕ → Type 0
Leads c Call f i g = instruction_at c f i ≡ Some (op.Call g)
Leads c Address f i g = (x : ℕ) × (instruction_at c f i ≡ Some (op.Function x g))

-- no instruction of a function that can be entered leads to g
abbrev pub NoneLeads : Content → Way → ℕ → Type 0
NoneLeads c way g = (f i : ℕ) → Enterable c f → Leads c way f i g → ⊥

-- an instruction of a function that can be entered leads to g, and none does in a function of a lower number or before it in its own
pub record FirstLeads (c : Content) (way : Way) (g : ℕ) (s : Site) : Type 0 where
  pub enterable : ∥ Enterable c s.function ∥₁
  pub leads : Leads c way s.function s.place g
  pub first : (f i : ℕ) → (f < s.function) ⊎ ((f ≡ s.function) × (i < s.place)) → Enterable c f → Leads c way f i g → ⊥
