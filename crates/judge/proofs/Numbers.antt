-- What the number of a fault says of the image that has it.
use Rattle.std.proofs.Common.{◌≡◌, ℕ, List}
use mathlib.Core.Logic.{inr}
use Rattle.parts.specs.Content.{Content}
use Rattle.module.specs.declared.fault.ModuleFault.{ModuleFault}
use Rattle.module.specs.Follows.{Follows}
use Rattle.module.specs.Refusals.{Refused, refusal_of}
use Rattle.module.proofs.Exact.{not_refused}
use Rattle.judge.specs.Judged.{Judged}

pub told : (s : List ℕ) (f : ModuleFault) (n : ℕ) → Refused s f → n ≡ (refusal_of f).number → Judged s n
told s f n r e = inr (record { fault = f; refused = r; number_is = e })

pub not_told : (s : List ℕ) (f : ModuleFault) (n : ℕ) → Refused s f → (d : Content) → Follows s d → n ≡ 0
not_told s f n r d y = absurd (not_refused s d y f r)
