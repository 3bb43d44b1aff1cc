-- What the rounds over the types keep.
use Rattle.std.specs.Prelude.{◌≡◌, ℕ, ◌<◌, ◌≤◌, Bool, true, false, not, ◌⊎◌, List, Option, count_by}
use Rattle.std.specs.List.{slice_get}
use Rattle.content.specs.declared.kind.Kind.{Kind}
use Rattle.content.specs.declared.typed.Typed.{Typed}
use Rattle.sensitivity.specs.Sensitive.{EndsChain, ChainFrom, IsMarked, ToMark}

-- the type o ends a chain, or a link from it leads to a marked type
abbrev pub Due : List Typed → List Bool → Option Kind → Type 0
Due fields marks o = EndsChain o ⊎ ((j : ℕ) × ToMark fields marks o j)

-- a chain leads from every marked type
abbrev pub AllChained : List Kind → List Typed → List Bool → Type 0
AllChained types fields marks = (k : ℕ) → IsMarked marks k → ChainFrom types fields k

-- how many places are not marked
abbrev pub unmarked : List Bool → ℕ
unmarked marks = count_by not marks

-- a round over the first i types, from the marks old to the marks new
pub record Round (types : List Kind) (fields : List Typed) (old : List Bool) (i : ℕ) (new : List Bool) (changed : Bool) : Type 0 where
  pub right : AllChained types fields old → AllChained types fields new
  pub least : unmarked new ≤ unmarked old
  pub falls : changed ≡ true → unmarked new < unmarked old
  pub closed : changed ≡ false → (k : ℕ) → k < i → Due fields new (slice_get types k) → IsMarked new k
