-- What n empty slots hold, of which those that count make a hash store.
use Rattle.std.proofs.Common.{◌≡◌, ℕ, min, ltb, List, length, replicate, None, ap, ◌∙◌, ⊎_elim}
use Rattle.std.proofs.lemmas.List.{get_or_past, get_or-replicate, length-replicate}
use Rattle.std.proofs.lemmas.Bool.{cases_lt}
use Rattle.stores.specs.Slots.{counted}
use Rattle.stores.proofs.Counted.{counted_length, counted_replicate}
use Rattle.hash_store.specs.Holding.{SlotOf}
use Rattle.hash_store.specs.inside.Probing.{Sound, lookup, room, slot_at}
use Rattle.hash_store.proofs.Tables.{clear_held, clear_lookup, clear_sound}

module _ {V : Type 0} where
  blank : (m i : ℕ) → slot_at {V = V} (replicate m None) i ≡ None
  blank m i = ⊎_elim (λ lt. get_or-replicate m i None None lt) (λ le. get_or_past (replicate m None) i None (rw length-replicate le)) (cases_lt i m)

  module _ (xs : List (SlotOf V)) (n : ℕ) (empty : xs ≡ replicate n None) where
    all_empty : (i : ℕ) → slot_at (counted xs) i ≡ None
    all_empty i = ap (λ l. slot_at (counted l) i) empty ∙ ap (λ l. slot_at l i) (counted_replicate n None) ∙ blank (min 65536 n) i

    pub fresh_sound : Sound (counted xs)
    fresh_sound = clear_sound (counted xs) all_empty

    pub fresh_lookup : (a : ℕ) → lookup (counted xs) a ≡ None
    fresh_lookup = clear_lookup (counted xs) all_empty

    -- Nothing is held, so that any slot that counts makes room.
    pub fresh_room : (a : ℕ) → room (counted xs) a ≡ ltb 0 (min 65536 n)
    fresh_room a = rw (fresh_lookup a, clear_held (counted xs) all_empty) (ap (ltb 0) (counted_length xs ∙ ap (λ l. min 65536 (length l)) empty ∙ ap (min 65536) (length-replicate n None)))
