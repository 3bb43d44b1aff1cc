-- What slots hold, slot by slot.
use Rattle.std.proofs.Common.{◌≡◌, ℕ, zero, suc, ◌+◌, ◌-◌, ◌<◌, ◌≤◌, Bool, true, false, cond, List, [], ◌∷◌, length, take, drop, set, nat_lt, is_some, Some, None, Option, sym, refl, ap, ◌∙◌, ⊎_elim, arith}
use Rattle.std.proofs.lemmas.List.{length-drop, length-take, take_all}
use Rattle.std.proofs.lemmas.Bool.Decides.{nat_tests}
use borrow.Author.Tests.{ltb-true}
use Rattle.std.proofs.lemmas.Bool.{cases_Bool, both_ways, eqb-true, ne_eqb, lt-ltb, or_right}
use Rattle.hash_store.specs.Holding.{SlotOf, holding, has, is_empty}
use Rattle.hash_store.specs.Counting.{held_count}
use Rattle.hash_store.proofs.Counts.{count_none}
use Rattle.hash_store.specs.inside.Probing.{slot_at, lookup, count, ring, room, Found, Single, Sound}

one_le : (b : Bool) → cond b 0 1 ≤ 1
one_le true = omega arith
one_le false = omega arith

module _ {V : Type 0} where
  pub empty_has : (x : SlotOf V) (a : ℕ) → is_empty x ≡ true → has x a ≡ false
  empty_has None a e = refl
  empty_has (Some (k, v)) a e = absurd (both_ways false refl e)

  -- what a slot that has a holds for it
  pub has_holds : (x : SlotOf V) (a : ℕ) → has x a ≡ true → is_some (holding x a) ≡ true
  has_holds None a h = h
  has_holds (Some (k, v)) a h = rw h refl

  pub has_filled : (x : SlotOf V) (a : ℕ) → has x a ≡ true → is_empty x ≡ false
  has_filled None a h = sym h
  has_filled (Some (k, v)) a h = refl

  pub has_one : (x : SlotOf V) (a b : ℕ) → has x a ≡ true → (b ≡ a → ⊥) → has x b ≡ false
  has_one None a b h ne = refl
  has_one (Some (k, v)) a b h ne = let e : k ≡ a = eqb-true k a h in ne_eqb k b (λ f. ne (sym f ∙ e))

  -- the lookup, slot by slot
  pub lookup_none : (xs : List (SlotOf V)) (a : ℕ) → ((i : ℕ) → has (slot_at xs i) a ≡ false) → lookup xs a ≡ None
  lookup_none [] a each = refl
  lookup_none (x ∷ xs) a each = rw (each 0) (lookup_none xs a (λ i. each (suc i)))

  tail_single : (x : SlotOf V) (xs : List (SlotOf V)) → Single (x ∷ xs) → Single xs
  tail_single x xs single t =
      let e : suc t.i ≡ suc t.j = single (record { a = t.a; i = suc t.i; j = suc t.j; one = t.one; other = t.other }) in
      omega arith

  pub lookup_at : (xs : List (SlotOf V)) (a i : ℕ) → Single xs → has (slot_at xs i) a ≡ true → lookup xs a ≡ holding (slot_at xs i) a
  lookup_at [] a i single h = absurd (both_ways _ refl h)
  lookup_at (x ∷ xs) a zero single h = rw h refl
  lookup_at (x ∷ xs) a (suc i) single h = ⊎_elim first (λ f. rw f (lookup_at xs a i (tail_single x xs single) h)) (cases_Bool (has x a))
    where
      first : has x a ≡ true → lookup (x ∷ xs) a ≡ holding (slot_at xs i) a
      first t =
          let e : 0 ≡ suc i = single (record { a = a; i = 0; j = suc i; one = t; other = h }) in
          absurd (omega arith)

  pub lookup_set_other : (xs : List (SlotOf V)) (i : ℕ) (y : SlotOf V) (b : ℕ) → has (slot_at xs i) b ≡ false → has y b ≡ false → lookup (set xs i y) b ≡ lookup xs b
  lookup_set_other [] i y b old new = refl
  lookup_set_other (x ∷ xs) zero y b old new = rw (old, new) refl
  lookup_set_other (x ∷ xs) (suc i) y b old new = ap (cond (has x b) (holding x b)) (lookup_set_other xs i y b old new)

  -- how many are held
  pub count_set : (xs : List (SlotOf V)) (i : ℕ) (y : SlotOf V) → i < length xs → count (set xs i y) + cond (is_empty (slot_at xs i)) 0 1 ≡ count xs + cond (is_empty y) 0 1
  count_set [] i y lt = absurd (omega arith)
  count_set (x ∷ xs) zero y lt = omega arith
  count_set (x ∷ xs) (suc i) y lt = omega (arith, count_set xs i y (omega arith))

  pub count_all : (xs : List (SlotOf V)) → ((i : ℕ) → i < length xs → is_empty (slot_at xs i) ≡ false) → count xs ≡ length xs
  count_all [] each = refl
  count_all (x ∷ xs) each = rw (each 0 (omega arith)) (omega (arith, count_all xs (λ i lt. each (suc i) (omega arith))))

  pub count_le : (xs : List (SlotOf V)) → count xs ≤ length xs
  count_le [] = omega arith
  count_le (x ∷ xs) = omega (arith, count_le xs, one_le (is_empty x))

  -- Where a slot is empty, not all are filled.
  pub count_lt : (xs : List (SlotOf V)) (i : ℕ) → i < length xs → is_empty (slot_at xs i) ≡ true → count xs < length xs
  count_lt [] i lt e = absurd (omega arith)
  count_lt (x ∷ xs) zero lt e = rw e (omega (arith, count_le xs))
  count_lt (x ∷ xs) (suc i) lt e = omega (arith, one_le (is_empty x), count_lt xs i (omega arith) e)

  count_split : (h : ℕ) (xs : List (SlotOf V)) → count (take h xs) + count (drop h xs) ≡ count xs
  count_split zero xs = omega arith
  count_split (suc h) [] = refl
  count_split (suc h) (x ∷ xs) = omega (arith, count_split h xs)

  -- the slots from h on, and those before it
  module _ (xs : List (SlotOf V)) (h : ℕ) (le : h ≤ length xs) where
    abbrev from : List (SlotOf V)
    from = take (length xs - h) (drop h xs)

    all_from : from ≡ drop h xs
    all_from = take_all (length xs - h) (drop h xs) (omega (arith, length-drop h xs))

    parts : (count (take h xs) + count from ≡ count xs) × (length (take h xs) + length from ≡ length xs)
    parts = rw all_from (count_split h xs, omega (arith, length-take h xs, length-drop h xs))

    pub room_from : nat_lt (count from) (length from) ≡ true → nat_lt (count xs) (length xs) ≡ true
    room_from t = lt-ltb _ _ (omega (arith, ltb-true _ _ t, count_le (take h xs), parts.0, parts.1))

    pub room_before : nat_lt (count from) (length from) ≡ false → nat_lt (count (take h xs)) (length (take h xs)) ≡ nat_lt (count xs) (length xs)
    room_before f = grind (arith, nat_tests, count_le from, count_le (take h xs), parts.0, parts.1)

  -- the first empty slot
  abbrev pub vacancy : List (SlotOf V) → ℕ
  vacancy [] = 0
  vacancy (x ∷ xs) = cond (is_empty x) 0 (suc (vacancy xs))

  pub vacancy_is : (xs : List (SlotOf V)) → count xs < length xs → (vacancy xs < length xs) × (slot_at xs (vacancy xs) ≡ None)
  vacancy_is [] lt = absurd (omega arith)
  vacancy_is (None ∷ xs) lt = (omega arith, refl)
  vacancy_is (Some e ∷ xs) lt = let ih = vacancy_is xs (omega arith) in (omega (arith, ih.0), ih.1)

  -- what a search finds, by the entries
  pub found_tells : (xs : List (SlotOf V)) (a : ℕ) (r : Option ℕ) → Single xs → Found xs a r → is_some r ≡ is_some (lookup xs a)
  found_tells xs a (Some i) single f = sym (rw (lookup_at xs a i single f.1) (has_holds (slot_at xs i) a f.1))
  found_tells xs a None single f = rw (lookup_none xs a f) refl

  pub value_at : (xs : List (SlotOf V)) (a i k : ℕ) (v : V) → Single xs → has (slot_at xs i) a ≡ true → slot_at xs i ≡ Some (k, v) → Some v ≡ lookup xs a
  value_at xs a i k v single h is = let e = rw is at h in sym (lookup_at xs a i single h ∙ rw (is, e) refl)

  pub single_fewer : (xs ys : List (SlotOf V)) → ((i a : ℕ) → has (slot_at ys i) a ≡ true → has (slot_at xs i) a ≡ true) → Single xs → Single ys
  single_fewer xs ys fewer single t = single (record { a = t.a; i = t.i; j = t.j; one = fewer t.i t.a t.one; other = fewer t.j t.a t.other })

  pub room_same : (xs ys : List (SlotOf V)) (b : ℕ) → lookup ys b ≡ lookup xs b → held_count (lookup ys) ≡ held_count (lookup xs) → length ys ≡ length xs → room xs b ≡ true → room ys b ≡ true
  room_same xs ys b e c l h = rw (e, c, l) h

  pub room_any : (xs : List (SlotOf V)) (b : ℕ) → held_count (lookup xs) < length xs → room xs b ≡ true
  room_any xs b lt = or_right _ _ (lt-ltb _ _ lt)

  -- slots that are all empty
  clear_count : (xs : List (SlotOf V)) → ((i : ℕ) → slot_at xs i ≡ None) → count xs ≡ 0
  clear_count [] clear = refl
  clear_count (x ∷ xs) clear = let e : x ≡ None = clear 0 in rw e (omega (arith, clear_count xs (λ i. clear (suc i))))

  module _ (xs : List (SlotOf V)) (clear : (i : ℕ) → slot_at xs i ≡ None) where
    none_has : (i a : ℕ) → has (slot_at xs i) a ≡ false
    none_has i a = rw (clear i) refl

    pub clear_lookup : (a : ℕ) → lookup xs a ≡ None
    clear_lookup a = lookup_none xs a (λ i. none_has i a)

    pub clear_held : held_count (lookup xs) ≡ 0
    clear_held = count_none (lookup xs) clear_lookup

    pub clear_sound : Sound xs
    clear_sound = record {
      counts = clear_held ∙ sym (clear_count xs clear);
      single = λ t. absurd (both_ways _ (none_has t.i t.a) t.one);
      ordered = λ p lt. rw (clear (ring p 1 (length xs))) (omega arith);
    }
