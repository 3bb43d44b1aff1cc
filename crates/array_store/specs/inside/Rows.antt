-- Slots in a row, what a write to one does, and the laws of an array store.
use Rattle.std.specs.Prelude.{◌≡◌, ℕ, ◌≤◌, Bool, true, false, List, length, get_or, is_some, None, Option, nat_lt, slice_index_or, refl}
use Rattle.std.proofs.Common.{◌∙◌, arith, ltb-false}
use Rattle.std.proofs.Math.ListN.{get_or-eq_default}
use Rattle.array_store.specs.declared.ArrayStore.{ArrayStore}
use Rattle.stores.specs.Meaning.{HeldTaken, Lasting, OthersStay, StillTaken}
use Rattle.stores.specs.Slots.{slots_chained, slots_same}
use Rattle.array_store.specs.Array.{array_entry, array_taken, array_kept}

module _ {V : Type 0} where
  -- what is held at a in slots in a row
  abbrev pub row_entry : List (Option V) → ℕ → Option V
  row_entry xs a = slice_index_or xs a None

  abbrev pub row_taken : List (Option V) → ℕ → Bool
  row_taken xs a = nat_lt a (length xs)

  -- x was written to the slot of a, or a has none.
  pub record SlotWritten (s t : ArrayStore V) (a : ℕ) (x : Option V) : Type 0 where
    pub empty : x ≡ None → array_entry t a ≡ None
    pub others : OthersStay (array_entry s) (array_entry t) a
    pub still : StillTaken (array_taken s) (array_taken t) a
    pub free : is_some (array_entry s a) ≡ true → array_taken t a ≡ true

  row_held : (xs : List (Option V)) → HeldTaken (row_entry xs) (row_taken xs)
  row_held xs a e = at (nat_lt a (length xs)) refl
    where
      at : (b : Bool) → nat_lt a (length xs) ≡ b → nat_lt a (length xs) ≡ true
      at true t = t
      at false f =
          let past : length xs ≤ a = omega (arith, ltb-false) in
          let none : get_or xs a None ≡ None = get_or-eq_default xs None past in
          let clash : false ≡ true = rw none at e in
          f ∙ clash

  pub array_held : (s : ArrayStore V) → HeldTaken (array_entry s) (array_taken s)
  array_held s = row_held _

  pub array_lasting : Lasting (array_kept {V = V})
  array_lasting = record { same = λ s. slots_same _; chained = λ s t u. slots_chained _ _ _ }
