-- How a slot is emptied: each entry behind it moves back by one, up to an empty slot or an entry at its home.
use Rattle.std.proofs.Common.{◌≡◌, ℕ, zero, suc, ◌+◌, ◌^◌, ◌<◌, ◌≤◌, ◌==◌, true, false, List, [], ◌∷◌, length, get_or, set, Some, None, sym, refl, ap, ◌∙◌, subst, ⊎_elim, add-zero, zero-add, arith, length-set, get_or-set_other, get_or-set_same, set-set}
use mathlib.Core.Path.{fun_ext}
use lib.Seq.{set_comm}
use Rattle.std.proofs.lemmas.Bool.{both_ways, cases_eq, eq-eqb, eqb-true}
use Rattle.hash_store.specs.Holding.{SlotOf, has, is_empty}
use Rattle.hash_store.specs.Counting.{held_count}
use Rattle.stores.specs.Meaning.{Dropped as Gone}
use Rattle.hash_store.specs.inside.Probing.{slot_at, lookup, count, home_of, ring, away, reach, room, Closed, Found, Ordered, Single, Sound}
use Rattle.hash_store.proofs.Orders.{ordered_set, read}
use Rattle.hash_store.proofs.Rings.{away_back, away_none, away_some, home_inside, next_lt}
use Rattle.hash_store.proofs.Tables.{count_le, lookup_at, lookup_none, room_any, single_fewer}
use Rattle.hash_store.proofs.Writes.{cleared_fewer, drop_count, drop_held, drop_none, drop_others, drop_single, holds_written, new_count, new_others, single_new}

module _ {V : Type 0} where
  -- how far entries are from their homes, altogether, in a ring of n, of the slots from the place p on
  abbrev pub afar : ℕ → ℕ → List (SlotOf V) → ℕ
  afar n p [] = 0
  afar n p (x ∷ xs) = reach n p x + afar n (suc p) xs

  afar_set : (n p : ℕ) (xs : List (SlotOf V)) (i : ℕ) (y : SlotOf V) → i < length xs → afar n p (set xs i y) + reach n (p + i) (slot_at xs i) ≡ afar n p xs + reach n (p + i) y
  afar_set n p [] i y lt = absurd (omega arith)
  afar_set n p (x ∷ xs) zero y lt = rw add-zero (omega arith)
  afar_set n p (x ∷ xs) (suc i) y lt =
      let e : suc p + i ≡ p + suc i = omega arith in
      let ih = rw e at (afar_set n (suc p) xs i y (omega arith)) in
      omega arith

  -- On the way, in a ring of n: the hole still holds an entry that is gone or was moved.
  pub record Shifting (was xs : List (SlotOf V)) (i hole : ℕ) : Type 0 where
    pub long : length xs ≡ length was
    pub inside : hole < length was
    pub ordered : Ordered (length was) xs
    pub single : Single (set xs hole None)
    pub counts : count (set xs hole None) ≡ count (set was i None)
    pub same : (b : ℕ) → lookup (set xs hole None) b ≡ lookup (set was i None) b

  pub start : (xs : List (SlotOf V)) (i : ℕ) → i < length xs → Sound xs → Shifting xs xs i i
  start xs i lt s = record {
    long = refl;
    inside = lt;
    ordered = s.ordered;
    single = single_fewer xs (set xs i None) (cleared_fewer xs i lt) s.single;
    counts = refl;
    same = λ b. refl;
  }

  module _ (was xs : List (SlotOf V)) (i hole : ℕ) (s : Shifting was xs i hole) where
    abbrev n : ℕ
    n = length was

    abbrev j : ℕ
    j = ring hole 1 n

    -- The hole is emptied at the end, before an empty slot or an entry at its home.
    pub shut : reach n j (slot_at xs j) ≤ 1 → Closed was (set xs hole None) i
    shut ends = record {
      single = s.single;
      ordered = rw (length-set xs hole None, s.long) (ordered_set n xs s.ordered hole None s.long s.inside (λ q qn e. omega arith) (omega (arith, ends)));
      counts = s.counts;
      same = s.same;
    }

    -- The next slot holds an entry that isn't at its home, and moves into the hole.
    module _ (k : ℕ) (v : V) (at : slot_at xs j ≡ Some (k, v)) (gone : home_of k n ≡ j → ⊥) where
      abbrev ys : List (SlotOf V)
      ys = set xs hole None

      jn : ring hole 1 n < n
      jn = next_lt hole n s.inside

      hn : home_of k n < n
      hn = home_inside k n (omega (arith, s.inside))

      nearer_home : away (home_of k n) (ring hole 1 n) n ≡ away (home_of k n) hole n + 1
      nearer_home = away_back (home_of k n) hole n hn s.inside (away_some (home_of k n) j n hn jn gone)

      apart : hole ≡ j → ⊥
      apart e = let same = ap (λ m. away (home_of k n) m n) e in omega (arith, same, nearer_home)

      in_ys : slot_at ys j ≡ Some (k, v)
      in_ys = get_or-set_other xs hole j None None (λ e. apart (sym e)) ∙ at

      has_ys : has (slot_at ys j) k ≡ true
      has_ys = rw in_ys (eq-eqb k k refl)

      j_ys : j < length ys
      j_ys = rw (length-set xs hole None, s.long) jn

      hole_zs : hole < length (set ys j None)
      hole_zs = rw (length-set ys j None, length-set xs hole None, s.long) s.inside

      empty_zs : slot_at (set ys j None) hole ≡ None
      empty_zs = get_or-set_other ys j hole None None apart ∙ get_or-set_same xs hole None None (rw s.long s.inside)

      -- as a drop of the entry and a put in the hole
      two : set (set xs hole (Some (k, v))) j None ≡ set (set ys j None) hole (Some (k, v))
      two = set_comm xs hole j (Some (k, v)) None apart ∙ sym (set-set (set xs j None) hole None (Some (k, v))) ∙ ap (λ l. set l hole (Some (k, v))) (sym (set_comm xs hole j None None apart))

      none : (m : ℕ) → has (slot_at (set ys j None) m) k ≡ false
      none = drop_none ys j k j_ys has_ys s.single

      empty : is_empty (slot_at (set ys j None) hole) ≡ true
      empty = rw empty_zs refl

      single_two : Single (set (set ys j None) hole (Some (k, v)))
      single_two = single_new (set ys j None) hole k v hole_zs none (drop_single ys j k j_ys has_ys s.single)

      same_two : (b : ℕ) → lookup (set (set ys j None) hole (Some (k, v))) b ≡ lookup ys b
      same_two b = ⊎_elim (λ e. rw e at_k) (λ ne. new_others (set ys j None) hole k v hole_zs none empty b ne ∙ drop_others ys j k j_ys has_ys b ne) (cases_eq b k)
        where
          at_k : lookup (set (set ys j None) hole (Some (k, v))) k ≡ lookup ys k
          at_k = holds_written (set ys j None) hole k v hole_zs single_two ∙ sym (lookup_at ys k j s.single has_ys ∙ rw in_ys (rw (eq-eqb k k refl) refl))

      far : reach n j (slot_at xs j) ≡ away (home_of k n) j n + 1
      far = rw at refl

      pub moved : Shifting was (set xs hole (Some (k, v))) i j
      moved = record {
        long = length-set xs hole (Some (k, v)) ∙ s.long;
        inside = jn;
        ordered = ordered_set n xs s.ordered hole (Some (k, v)) s.long s.inside (λ q qn e. omega (arith, far, nearer_home, s.ordered hole s.inside, subst (λ p. reach n p (slot_at xs p) ≤ reach n q (slot_at xs q) + 1) e (s.ordered q qn))) (omega (arith, far, nearer_home));
        single = rw two single_two;
        counts = rw two (omega (arith, new_count (set ys j None) hole k v hole_zs none empty, drop_count ys j k j_ys has_ys, s.counts));
        same = λ b. rw two (same_two b ∙ s.same b);
      }

      -- It is nearer to its home.
      pub nearer : afar n 0 (set (set xs hole (Some (k, v))) j None) < afar n 0 (set xs hole None)
      nearer = rw two (
          let a = rw (zero-add j, in_ys) at (afar_set n 0 ys j None j_ys) in
          let b = rw (zero-add hole, empty_zs) at (afar_set n 0 (set ys j None) hole (Some (k, v)) hole_zs) in
          omega (arith, nearer_home))

  -- The slot j behind the hole was read.
  module _ (was xs : List (SlotOf V)) (i hole : ℕ) (s : Shifting was xs i hole) (j : ℕ) (on : (j ≡ ring hole 1 (length was)) × (j < length was)) (x : SlotOf V) where
    there : (y : SlotOf V) → get_or xs j x ≡ y → slot_at xs (ring hole 1 (length was)) ≡ y
    there y is = subst (λ q. slot_at xs q ≡ y) on.0 (read xs j x y (omega (arith, s.long, on.1)) is)

    pub shut_empty : get_or xs j x ≡ None → Closed was (set xs hole None) i
    shut_empty is = shut was xs i hole s (rw (there None is) (omega arith))

    module _ (k : ℕ) (v : V) (is : get_or xs j x ≡ Some (k, v)) where
      pub shut_home : (home_of k (length was) == j) ≡ true → Closed was (set xs hole None) i
      shut_home at = shut was xs i hole s (rw (there (Some (k, v)) is) (omega (arith, away_none (home_of k (length was)) (ring hole 1 (length was)) (length was) (eqb-true _ _ at ∙ on.0))))

      module _ (gone : (home_of k (length was) == j) ≡ false) where
        away_from : home_of k (length was) ≡ ring hole 1 (length was) → ⊥
        away_from e = both_ways _ gone (eq-eqb _ _ (e ∙ sym on.0))

        pub read_moved : Shifting was (set xs hole (Some (k, v))) i j
        read_moved = rw on.0 (moved was xs i hole s k v (there (Some (k, v)) is) away_from)

        pub read_nearer : afar (length was) 0 (set (set xs hole (Some (k, v))) j None) < afar (length was) 0 (set xs hole None)
        read_nearer = rw on.0 (nearer was xs i hole s k v (there (Some (k, v)) is) away_from)

  -- An entry is dropped so.
  module _ (xs ys : List (SlotOf V)) (i a : ℕ) (held : Found xs a (Some i)) (long : length ys ≡ length xs) (fits : a < 2 ^ 32) (s : Sound xs) (c : Closed xs ys i) where
    one_fewer : held_count (lookup ys) + 1 ≡ held_count (lookup xs)
    one_fewer = rw (ap held_count (fun_ext c.same)) (drop_held xs i a held.0 held.1 s.single fits)

    pub closed_sound : Sound ys
    closed_sound = record { counts = omega (arith, one_fewer, s.counts, c.counts, drop_count xs i a held.0 held.1); single = c.single; ordered = c.ordered }

    pub closed_drop : Gone (lookup xs) (lookup ys) (room xs) (room ys) a
    closed_drop = record {
      gone = c.same a ∙ lookup_none (set xs i None) a (drop_none xs i a held.0 held.1 s.single);
      others = λ b ne. c.same b ∙ drop_others xs i a held.0 held.1 b ne;
      free = λ h. room_any ys a fewer;
      still = λ b ne h. room_any ys b fewer;
    }
      where
        fewer : held_count (lookup ys) < length ys
        fewer = omega (arith, one_fewer, s.counts, count_le xs)
