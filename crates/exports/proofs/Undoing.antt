-- Why a call isn't done, told by its number.
use Rattle.std.specs.Prelude.{◌≡◌, ℕ, ◌-◌, ◌^◌, List, refl}
use Rattle.std.proofs.Common.{inl, inr}
use Rattle.module.specs.Refusals.{Refused}
use Rattle.exports.specs.Stores.{NoKind, NoStore}
use Rattle.exports.specs.Runs.{NotBegun, NotRun}
use Rattle.exports.specs.inside.Undoing.{number_of, Why, OtherSize}
use Rattle.exports.specs.declared.undone.Undone.{Undone}
use Rattle.exports.specs.declared.undone.Undone.TheVariants.{Image, Kind, Memory, Room}

told : (image memory : List ℕ) (kind : ℕ) (u : Undone) → Why (Refused image) (NoKind kind) (OtherSize image memory) u → NotRun image kind memory (number_of u)
told image memory kind (Image f) w = inl (inl (f, w, refl))
told image memory kind Kind w = inl (inr (inl (w, refl)))
told image memory kind Memory w = inr (w.0, w.1, w.2, refl)
told image memory kind Room w = inl (inr (inr refl))

-- and the memory stays
pub not_run : (image memory new : List ℕ) (kind : ℕ) (u : Undone) (n : ℕ) → Why (Refused image) (NoKind kind) (OtherSize image memory) u × (new ≡ memory) → n ≡ 2 ^ 64 - 1 - number_of u
    → (k : ℕ) × (NotRun image kind memory k × (new ≡ memory)) × (n ≡ 2 ^ 64 - 1 - k)
not_run image memory new kind u n w e = (number_of u, (told image memory kind u w.0, w.1), e)

pub not_begun : (image : List ℕ) (kind : ℕ) (u : Undone) → Why (Refused image) (NoKind kind) ⊥ u → NotBegun image kind (number_of u)
not_begun image kind (Image f) w = inl (f, w, refl)
not_begun image kind Kind w = inr (inl (w, refl))
not_begun image kind Memory w = absurd w
not_begun image kind Room w = inr (inr refl)

pub no_store : (kind : ℕ) (u : Undone) → Why (λ f. ⊥) (NoKind kind) ⊥ u → NoStore kind (number_of u)
no_store kind (Image f) w = absurd w
no_store kind Kind w = inl (w, refl)
no_store kind Memory w = absurd w
no_store kind Room w = inr refl
