-- What an array store means: the address a stands in the slot a.
use Rattle.std.specs.Prelude.{ℕ, Bool, length, None, vec_items, Option, nat_lt, slice_index_or}
use Rattle.array_store.specs.declared.ArrayStore.{ArrayStore}
use Rattle.stores.specs.Slots.{SlotsKept, counted}

module _ {V : Type 0} where
  -- what is held at a
  abbrev pub array_entry : ArrayStore V → ℕ → Option V
  array_entry s a = slice_index_or (counted (vec_items s.slots)) a None

  -- whether a is taken: it is the place of a slot that counts
  abbrev pub array_taken : ArrayStore V → ℕ → Bool
  array_taken s a = nat_lt a (length (counted (vec_items s.slots)))

  -- what an array store keeps over a call
  abbrev pub array_kept : ArrayStore V → ArrayStore V → Type 0
  array_kept s t = SlotsKept (vec_items s.slots) (vec_items t.slots)
