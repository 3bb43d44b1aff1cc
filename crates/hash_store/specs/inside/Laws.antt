-- That held addresses are taken, and what a put and a drop change.
use Rattle.std.specs.Prelude.{ℕ, List, refl}
use Rattle.stores.specs.Meaning.{Dropped, HeldTaken, Put}
use Rattle.stores.specs.Slots.{counted}
use Rattle.hash_store.specs.Holding.{SlotOf}
use Rattle.hash_store.specs.Hash.{hash_entry, hash_taken, lookup, room}

module _ {V : Type 0} where
  pub held_room : (xs : List (SlotOf V)) → HeldTaken (lookup xs) (room xs)
  held_room xs a h = rw h refl

  pub hash_held : (slots : List (SlotOf V)) → HeldTaken (hash_entry slots) (hash_taken slots)
  hash_held slots = held_room (counted slots)

  -- what a put and a drop that aren't refused change
  abbrev pub HashPut : List (SlotOf V) → List (SlotOf V) → ℕ → V → Type 0
  HashPut xs ys = Put (hash_entry xs) (hash_entry ys) (hash_taken xs) (hash_taken ys)

  abbrev pub HashDropped : List (SlotOf V) → List (SlotOf V) → ℕ → Type 0
  HashDropped xs ys = Dropped (hash_entry xs) (hash_entry ys) (hash_taken xs) (hash_taken ys)
