-- What the judge answers.
use Rattle.std.specs.Prelude.{ℕ, ◌≡◌, ◌⊎◌, List}
use Rattle.module.specs.declared.fault.ModuleFault.{ModuleFault}
use Rattle.module.specs.Follows.{Accepted}
use Rattle.module.specs.Refusals.{Refused, refusal_of}

-- the image s is refused, and n is the number of its first fault
pub record RefusedBy (s : List ℕ) (n : ℕ) : Type 0 where
  pub fault : ModuleFault
  pub refused : Refused s fault
  pub number_is : n ≡ (refusal_of fault).number

-- n is 0 for an image that follows every rule, and otherwise the number of its first fault
abbrev pub Judged : List ℕ → ℕ → Type 0
Judged s n = ((n ≡ 0) × Accepted s) ⊎ RefusedBy s n
