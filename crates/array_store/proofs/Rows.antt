-- What empty slots in a row hold.
use Rattle.std.proofs.Common.{◌≡◌, ℕ, min, ltb, List, replicate, None, Option, refl, ap, ◌∙◌, ⊎_elim}
use Rattle.std.proofs.lemmas.List.{get_or_past, get_or-replicate, length-replicate}
use Rattle.std.proofs.lemmas.Bool.{cases_lt}
use Rattle.array_store.specs.inside.Rows.{row_entry, row_taken}
use Rattle.stores.specs.Slots.{counted}
use Rattle.stores.proofs.Counted.{counted_length, counted_replicate}

-- n empty slots, of which those that count make an array store
module _ {V : Type 0} (xs : List (Option V)) (n a : ℕ) (empty : xs ≡ replicate n None) where
  none_at : (m : ℕ) → row_entry {V = V} (replicate m None) a ≡ None
  none_at m = ⊎_elim (λ lt. get_or-replicate m a None None lt) (λ le. get_or_past (replicate m None) a None (rw length-replicate le)) (cases_lt a m)

  pub empty_entry : row_entry (counted xs) a ≡ None
  empty_entry = rw (empty, counted_replicate) (none_at (min 65536 n))

  pub empty_taken : row_taken (counted xs) a ≡ ltb a (min 65536 n)
  empty_taken = ap (ltb a) (counted_length xs ∙ rw (empty, length-replicate) refl)
