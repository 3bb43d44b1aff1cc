-- What a write to a slot that counts does.
use Rattle.std.proofs.Common.{◌≡◌, ◌≢◌, ℕ, ◌<◌, true, List, length, set, vec_items, Option, None, refl, ◌∙◌}
use Rattle.std.proofs.lemmas.List.{get_or-set_other, get_or-set_same, length-set}
use Rattle.std.proofs.lemmas.Bool.{ltb-true}
use Rattle.array_store.specs.inside.Rows.{SlotWritten, row_entry, row_taken}
use Rattle.array_store.specs.declared.ArrayStore.{ArrayStore}
use Rattle.stores.specs.Slots.{SlotsKept, counted}
use Rattle.stores.proofs.Counted.{counted_set, kept_set}

module _ {V : Type 0} where
  module _ (xs : List (Option V)) (a : ℕ) (x : Option V) (counts : row_taken (counted xs) a ≡ true) where
    within : a < length (counted xs)
    within = ltb-true _ _ counts

    pub write_here : row_entry (counted (set xs a x)) a ≡ x
    write_here = rw counted_set (get_or-set_same (counted xs) a x None within)

    pub write_elsewhere : (b : ℕ) → b ≢ a → row_entry (counted (set xs a x)) b ≡ row_entry (counted xs) b
    write_elsewhere b ne = rw counted_set (get_or-set_other (counted xs) a b x None ne)

    pub write_taken : (b : ℕ) → row_taken (counted (set xs a x)) b ≡ row_taken (counted xs) b
    write_taken b = rw (counted_set, length-set) refl

    pub write_kept : SlotsKept xs (set xs a x)
    write_kept = kept_set xs a x within

  pub written : (s t : ArrayStore V) (a : ℕ) (x : Option V) → row_taken (counted (vec_items s.slots)) a ≡ true → vec_items t.slots ≡ set (vec_items s.slots) a x → SlotWritten s t a x
  written s t a x counts e =
      let xs = vec_items s.slots in
      record {
        empty = λ none. rw e (write_here xs a x counts ∙ none);
        others = λ b ne. rw e (write_elsewhere xs a x counts b ne);
        still = λ b ne taken. rw e (write_taken xs a x counts b ∙ taken);
        free = λ held. rw e (write_taken xs a x counts a ∙ counts);
      }
