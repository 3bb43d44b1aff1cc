-- A module's own image is read again as the same module.
use Rattle.std.proofs.Common.{◌≡◌, ℕ, List, sym, subst}
use mathlib.Core.HLevel.{⊥_prop}
use Rattle.parts.specs.Content.{Content}
use Rattle.module.specs.declared.fault.ModuleFault.{ModuleFault}
use Rattle.module.specs.declared.module.Module.{Module}
use Rattle.module.specs.Follows.{Follows}
use Rattle.module.specs.Refusals.{Refused}
use Rattle.module.specs.Modules.{said, image}
use Rattle.module.proofs.Exact.{same_content, not_refused}

-- the image of a module follows the rules
follows_again : (s : List ℕ) (m : Module) → s ≡ image m → Follows (image m) (said m) → Follows s (said m)
follows_again s m e f = subst (λ t. Follows t (said m)) (sym e) f

-- a module's image is not refused
pub not_again : (s : List ℕ) (m : Module) (f : ModuleFault) → Refused s f → s ≡ image m → ⊥
not_again s m f r e = ∥∥₁_rec ⊥_prop (λ y. not_refused s (said m) (follows_again s m e y) f r) m.follows

-- and gives the same module
pub same_again : (s : List ℕ) (c : Content) (m : Module) → Follows s c → s ≡ image m → ∥ c ≡ said m ∥₁
same_again s c m f e = ∥∥₁_rec squash₁ (λ y. ∣ same_content s c (said m) f.holds (follows_again s m e y).holds ∣₁) m.follows
