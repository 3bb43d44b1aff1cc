-- What a hash store means: what its slots hold, and room for as many addresses as there are slots that count.
use Rattle.std.specs.Prelude.{ℕ, Bool, cond, ◌||◌, List, [], ◌∷◌, length, is_some, nat_lt, None, Option}
use Rattle.stores.specs.Slots.{counted}
use Rattle.hash_store.specs.Holding.{SlotOf, has, holding}
use Rattle.hash_store.specs.Counting.{held_count}

module _ {V : Type 0} where
  -- what stands at the address a: the value of the first slot that holds one
  abbrev pub lookup : List (SlotOf V) → ℕ → Option V
  lookup [] a = None
  lookup (x ∷ xs) a = cond (has x a) (holding x a) (lookup xs a)

  -- An address is taken if it is held or fewer are held than there are slots.
  abbrev pub room : List (SlotOf V) → ℕ → Bool
  room xs a = is_some (lookup xs a) || nat_lt (held_count (lookup xs)) (length xs)

  abbrev pub hash_entry : List (SlotOf V) → ℕ → Option V
  hash_entry slots = lookup (counted slots)

  abbrev pub hash_taken : List (SlotOf V) → ℕ → Bool
  hash_taken slots = room (counted slots)
