-- What a store that is one of two means: what the one means that it is.
use Rattle.replay.specs.declared.either.Either.{Either}
use Rattle.replay.specs.declared.either.Either.TheVariants.{First, Second}

module _ {X Y : Type 0} where
  abbrev pub either : {A : Type 0} → (X → A) → (Y → A) → Either X Y → A
  either f s (First x) = f x
  either f s (Second y) = s y

  -- It stays the one that it is, and that keeps what it keeps.
  abbrev pub EitherKept : (X → X → Type 0) → (Y → Y → Type 0) → Either X Y → Either X Y → Type 0
  EitherKept k k' (First x) (First z) = k x z
  EitherKept k k' (Second y) (Second z) = k' y z
  EitherKept k k' _ _ = ⊥
