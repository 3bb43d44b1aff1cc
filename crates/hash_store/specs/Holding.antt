-- What one slot of a hash store holds.
use Rattle.std.specs.Prelude.{ℕ, Bool, false, cond, is_some, not, Some, None, Option, ◌==◌}

-- a `Slot`, since antt has no name for an alias: an address with its value, or none
abbrev pub SlotOf : Type 0 → Type 0
SlotOf V = Option (ℕ × V)

module _ {V : Type 0} where
  -- the value that the slot holds for the address a
  abbrev pub holding : SlotOf V → ℕ → Option V
  holding None a = None
  holding (Some (k, v)) a = cond (k == a) (Some v) None

  -- whether it holds one for a
  abbrev pub has : SlotOf V → ℕ → Bool
  has None a = false
  has (Some (k, v)) a = k == a

  abbrev pub is_empty : SlotOf V → Bool
  is_empty x = not (is_some x)
