-- What a write to one slot changes.
use Rattle.std.proofs.Common.{◌≡◌, ℕ, ◌+◌, ◌^◌, ◌<◌, ◌≤◌, true, false, ◌⊎◌, List, length, set, is_some, Some, None, sym, refl, ◌∙◌, subst, inl, inr, ⊎_elim, arith, length-set, get_or-set_other, get_or-set_same}
use Rattle.std.proofs.lemmas.Bool.{cases_eq, cases_Bool, both_ways, eqb-true, eq-eqb, ne_eqb}
use Rattle.hash_store.specs.Holding.{SlotOf, has, is_empty}
use Rattle.hash_store.specs.Counting.{held_count}
use Rattle.stores.specs.Meaning.{Put}
use Rattle.hash_store.specs.inside.Probing.{slot_at, lookup, count, home_of, away, reach, room, Absent, Single, Ordered, Sound}
use Rattle.hash_store.proofs.Counts.{count_change}
use Rattle.hash_store.proofs.Orders.{has_reach, ordered_set}
use Rattle.hash_store.proofs.Tables.{has_holds, has_filled, has_one, empty_has, lookup_at, lookup_none, lookup_set_other, count_set, single_fewer, room_same}

module _ {V : Type 0} where
  -- An entry for a is written into the slot i.
  module _ (xs : List (SlotOf V)) (i a : ℕ) (v : V) (lt : i < length xs) where
    abbrev written : List (SlotOf V)
    written = set xs i (Some (a, v))

    at_set : (j b : ℕ) → has (slot_at written j) b ≡ true → ((j ≡ i) × (a ≡ b)) ⊎ (has (slot_at xs j) b ≡ true)
    at_set j b h = ⊎_elim there elsewhere (cases_eq j i)
      where
        there : j ≡ i → ((j ≡ i) × (a ≡ b)) ⊎ (has (slot_at xs j) b ≡ true)
        there e =
            let x : slot_at written j ≡ Some (a, v) = rw e (get_or-set_same xs i (Some (a, v)) None lt) in
            inl (e, eqb-true a b (rw x at h))

        elsewhere : (j ≡ i → ⊥) → ((j ≡ i) × (a ≡ b)) ⊎ (has (slot_at xs j) b ≡ true)
        elsewhere ne = inr (rw (get_or-set_other xs i j (Some (a, v)) None ne) at h)

    pub set_others : (b : ℕ) → has (slot_at xs i) b ≡ false → (b ≡ a → ⊥) → lookup written b ≡ lookup xs b
    set_others b old ne = lookup_set_other xs i (Some (a, v)) b old (ne_eqb a b (λ e. ne (sym e)))

    pub holds_written : Single written → lookup written a ≡ Some v
    holds_written single =
        let has_it : has (slot_at written i) a ≡ true = rw (get_or-set_same xs i (Some (a, v)) None lt) (eq-eqb a a refl) in
        lookup_at written a i single has_it ∙ rw (get_or-set_same xs i (Some (a, v)) None lt) (rw (eq-eqb a a refl) refl)

    -- over the entry of a
    module _ (was : has (slot_at xs i) a ≡ true) where
      over_fewer : (j b : ℕ) → has (slot_at written j) b ≡ true → has (slot_at xs j) b ≡ true
      over_fewer j b h = ⊎_elim (λ e. rw (e.0, sym e.1) was) (λ k. k) (at_set j b h)

      over_single : Single xs → Single written
      over_single = single_fewer xs written over_fewer

      over_ordered : Ordered (length xs) xs → Ordered (length written) written
      over_ordered ordered = rw (length-set xs i (Some (a, v))) (ordered_set (length xs) xs ordered i (Some (a, v)) refl lt
          (λ q qn e. omega (arith, same, subst (λ p. reach (length xs) p (slot_at xs p) ≤ reach (length xs) q (slot_at xs q) + 1) e (ordered q qn)))
          (omega (arith, same, ordered i lt)))
        where
          same : reach (length xs) i (slot_at xs i) ≡ away (home_of a (length xs)) i (length xs) + 1
          same = has_reach (length xs) i (slot_at xs i) a was

      over_count : count written ≡ count xs
      over_count = let c = rw (has_filled (slot_at xs i) a was) at (count_set xs i (Some (a, v)) lt) in omega arith

      over_others : (b : ℕ) → (b ≡ a → ⊥) → lookup written b ≡ lookup xs b
      over_others b ne = set_others b (has_one (slot_at xs i) a b was ne) ne

      over_held : Single xs → a < 2 ^ 32 → held_count (lookup written) ≡ held_count (lookup xs)
      over_held single fits =
          let before : is_some (lookup xs a) ≡ true = rw (lookup_at xs a i single was) (has_holds (slot_at xs i) a was) in
          let after : is_some (lookup written a) ≡ true = rw (holds_written (over_single single)) refl in
          let c = rw (before, after) at (count_change (lookup xs) (lookup written) a over_others fits) in
          omega arith

      pub over_sound : Sound xs → a < 2 ^ 32 → Sound written
      over_sound s fits = record { counts = over_held s.single fits ∙ s.counts ∙ sym over_count; single = over_single s.single; ordered = over_ordered s.ordered }

      pub over_put : Single xs → a < 2 ^ 32 → Put (lookup xs) (lookup written) (room xs) (room written) a v
      over_put single fits = record {
        holds = holds_written (over_single single);
        others = over_others;
        still = λ held b ne. room_same xs written b (over_others b ne) (over_held single fits) (length-set xs i (Some (a, v)));
      }

    -- as a new entry
    module _ (none : Absent xs a) where
      pub single_new : Single xs → Single written
      single_new single t = ⊎_elim one_there one_else (at_set t.i t.a t.one)
        where
          clash : (j : ℕ) → a ≡ t.a → has (slot_at xs j) t.a ≡ true → t.i ≡ t.j
          clash j e h = absurd (both_ways _ (none j) (rw e h))

          one_there : (t.i ≡ i) × (a ≡ t.a) → t.i ≡ t.j
          one_there e = ⊎_elim (λ f. e.0 ∙ sym f.0) (clash t.j e.1) (at_set t.j t.a t.other)

          one_else : has (slot_at xs t.i) t.a ≡ true → t.i ≡ t.j
          one_else h = ⊎_elim (λ f. clash t.i f.1 h) (λ k. single (record { a = t.a; i = t.i; j = t.j; one = h; other = k })) (at_set t.j t.a t.other)

      module _ (empty : is_empty (slot_at xs i) ≡ true) where
        pub new_count : count written ≡ count xs + 1
        new_count = let c = rw empty at (count_set xs i (Some (a, v)) lt) in omega arith

        pub new_others : (b : ℕ) → (b ≡ a → ⊥) → lookup written b ≡ lookup xs b
        new_others b ne = set_others b (empty_has (slot_at xs i) b empty) ne

  -- What a slot holds where the slot i is emptied, it held before.
  pub cleared_fewer : (xs : List (SlotOf V)) (i : ℕ) → i < length xs → (j b : ℕ) → has (slot_at (set xs i None) j) b ≡ true → has (slot_at xs j) b ≡ true
  cleared_fewer xs i lt j b h = ⊎_elim there (λ ne. rw (get_or-set_other xs i j None None ne) at h) (cases_eq j i)
    where
      there : j ≡ i → has (slot_at xs j) b ≡ true
      there e = absurd (both_ways _ refl (rw (e, get_or-set_same xs i None None lt) at h))

  -- The slot i, which holds the entry of a, is emptied.
  module _ (xs : List (SlotOf V)) (i a : ℕ) (lt : i < length xs) (was : has (slot_at xs i) a ≡ true) where
    abbrev cleared : List (SlotOf V)
    cleared = set xs i None

    pub drop_single : Single xs → Single cleared
    drop_single = single_fewer xs cleared (cleared_fewer xs i lt)

    pub drop_count : count cleared + 1 ≡ count xs
    drop_count = let c = rw (has_filled (slot_at xs i) a was) at (count_set xs i None lt) in omega arith

    pub drop_none : Single xs → (j : ℕ) → has (slot_at cleared j) a ≡ false
    drop_none single j = ⊎_elim there elsewhere (cases_eq j i)
      where
        there : j ≡ i → has (slot_at cleared j) a ≡ false
        there e = rw (e, get_or-set_same xs i None None lt) refl

        elsewhere : (j ≡ i → ⊥) → has (slot_at cleared j) a ≡ false
        elsewhere ne = ⊎_elim (λ h. absurd (ne (single (record { a = a; i = j; j = i; one = rw (get_or-set_other xs i j None None ne) at h; other = was })))) (λ f. f) (cases_Bool (has (slot_at cleared j) a))

    pub drop_others : (b : ℕ) → (b ≡ a → ⊥) → lookup cleared b ≡ lookup xs b
    drop_others b ne = lookup_set_other xs i None b (has_one (slot_at xs i) a b was ne) refl

    pub drop_held : Single xs → a < 2 ^ 32 → held_count (lookup cleared) + 1 ≡ held_count (lookup xs)
    drop_held single fits =
        let before : is_some (lookup xs a) ≡ true = rw (lookup_at xs a i single was) (has_holds (slot_at xs i) a was) in
        let after : is_some (lookup cleared a) ≡ false = rw (lookup_none cleared a (drop_none single)) refl in
        let c = rw (before, after) at (count_change (lookup xs) (lookup cleared) a drop_others fits) in
        omega arith
