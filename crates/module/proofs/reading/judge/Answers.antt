use Rattle.std.proofs.Common.{◌≡◌, List, ℕ, true, is_ok, Ok, Err, Result, MatchResult, refl, ◌∙◌}
use Rattle.parts.specs.Content.{Content}
use Rattle.module.specs.declared.fault.ModuleFault.{ModuleFault}
use Rattle.module.specs.Follows.{Follows}
use Rattle.module.specs.Refusals.{Refused}
use Rattle.module.proofs.Exact.{not_refused}
use Rattle.module.proofs.reading.judge.Goals as goal

-- what follows the rules is accepted
accepted : {K : Type 0} (s : List ℕ) (P : K → Type 0) (r : Result K ModuleFault) → MatchResult r P (λ f. Refused s f) → (d : Content) → Follows s d → is_ok r ≡ true
accepted s P (Ok k) h d y = refl
accepted s P (Err f) h d y = absurd (not_refused s d y f h)

pub returns-clause-exact : goal.returns-clause-exact
returns-clause-exact c d y = c.map.ensures.variant ∙ accepted _ _ c.check_image.result c.check_image.ensures d y
