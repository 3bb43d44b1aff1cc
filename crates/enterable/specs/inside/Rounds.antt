-- What the rounds over the functions keep, and what they have done once nothing changes.
use Rattle.std.specs.Prelude.{◌≡◌, ℕ, ◌+◌, ◌<◌, Bool, true, false, not, count_by, slice_index_or}
use Rattle.parts.specs.Content.{Content}
use Rattle.enterable.specs.declared.functions.EnterableFunctions.{EnterableFunctions}
use Rattle.enterable.specs.declared.way.Way.{Way}
use Rattle.enterable.specs.declared.way.Way.TheVariants.{Call, Address}
use Rattle.enterable.specs.Enterable.{Enterable, EnterableThrough}
use Rattle.enterable.specs.First.{Leads}

-- whether function k is in the first set, of all that can be entered
abbrev pub enters : EnterableFunctions → ℕ → Bool
enters s k = slice_index_or s.all k false

-- whether it is in the second, of those that can be entered through a pointer
abbrev pub enters_through : EnterableFunctions → ℕ → Bool
enters_through s k = slice_index_or s.through k false

-- function g is where a way to it puts it: a call into the first set, an address taken into both
abbrev pub Has : EnterableFunctions → Way → ℕ → Type 0
Has s Call g = enters s g ≡ true
Has s Address g = (enters s g ≡ true) × (enters_through s g ≡ true)

-- function 0 is in the first set, and all that is in the sets is rightly there
pub record Rightful (c : Content) (s : EnterableFunctions) : Type 0 where
  pub zero : enters s 0 ≡ true
  pub all : (k : ℕ) → enters s k ≡ true → Enterable c k
  pub through : (k : ℕ) → enters_through s k ≡ true → EnterableThrough c k

-- what the instruction at place i of function f leads to is in the sets
abbrev pub ClosedAt : Content → ℕ → ℕ → EnterableFunctions → Type 0
ClosedAt c f i s = (way : Way) (g : ℕ) → Leads c way f i g → Has s way g

-- so it is with the first n places of function f
abbrev pub ClosedUpto : Content → ℕ → ℕ → EnterableFunctions → Type 0
ClosedUpto c f n s = (i : ℕ) → i < n → ClosedAt c f i s

-- and with all of them
abbrev pub ClosedOver : Content → ℕ → EnterableFunctions → Type 0
ClosedOver c f s = (i : ℕ) → ClosedAt c f i s

-- so it is with all functions below n that are in the first set
abbrev pub ClosedBelow : Content → ℕ → EnterableFunctions → Type 0
ClosedBelow c n s = (f : ℕ) → f < n → enters s f ≡ true → ClosedOver c f s

-- how many places of the two sets are empty
abbrev pub empty : EnterableFunctions → ℕ
empty s = count_by not s.all + count_by not s.through

-- from the sets old to the sets new: what was right stays right, and either nothing changed and Done holds, or there are fewer empty places
pub record Grown (c : Content) (Done : EnterableFunctions → Type 0) (old new : EnterableFunctions) (changed : Bool) : Type 0 where
  pub right : Rightful c old → Rightful c new
  pub kept : (k : ℕ) → enters old k ≡ true → enters new k ≡ true
  pub fewer : changed ≡ true → empty new < empty old
  pub same : changed ≡ false → new ≡ old
  pub done : changed ≡ false → Done new
