-- How far a search has come.
use Rattle.std.proofs.Common.{◌≡◌, ℕ, zero, suc, ◌+◌, ◌-◌, ◌<◌, ◌≤◌, true, false, List, length, take, drop, cond, nat_lt, sym, Some, None, refl, ap, ◌∙◌, subst, ⊎_elim, arith, below_more}
use Rattle.std.proofs.lemmas.List.{get_or-drop, get_or-take, get_or_past, length-take}
use Rattle.std.proofs.lemmas.Bool.Decides.{nat_tests}
use Rattle.std.proofs.lemmas.Bool.{cases_lt, both_ways}
use Rattle.hash_store.specs.Holding.{SlotOf, has}
use Rattle.hash_store.specs.inside.Probing.{slot_at, home_of, ring, away, reach, Absent, Found, Ordered, Single}
use Rattle.hash_store.proofs.Rings.{away_lt, ring_away, ring_ring, ring_ahead, ring_end, home_inside}
use Rattle.hash_store.proofs.Orders.{missing}

module _ {V : Type 0} where
  -- Of the slots before i, the one that at tells, counted from one, holds a, or none does.
  abbrev pub Seen : List (SlotOf V) → ℕ → ℕ → ℕ → Type 0
  Seen xs a i zero = (j : ℕ) → j < i → has (slot_at xs j) a ≡ false
  Seen xs a i (suc j) = (j < i) × (has (slot_at xs j) a ≡ true)

  pub seen_first : (xs : List (SlotOf V)) (a i at : ℕ) → Single xs → Seen xs a i at → has (slot_at xs i) a ≡ true → at ≡ 0
  seen_first xs a i zero single s held = refl
  seen_first xs a i (suc j) single s held =
      let e : i ≡ j = single (record { a = a; i = i; j = j; one = held; other = s.1 }) in
      absurd (omega (arith, s.0))

  pub seen_on : (xs : List (SlotOf V)) (a i at : ℕ) → Single xs → Seen xs a i at → has (slot_at xs i) a ≡ true → Seen xs a (i + 1) (at + (i + 1))
  seen_on xs a i at single s held =
      let e : at + (i + 1) ≡ suc i = omega (arith, seen_first xs a i at single s held) in
      rw e (omega arith, held)

  pub seen_past : (xs : List (SlotOf V)) (a i at : ℕ) → Seen xs a i at → has (slot_at xs i) a ≡ false → Seen xs a (i + 1) at
  seen_past xs a i zero s another = below_more _ _ s another
  seen_past xs a i (suc j) s another = (omega (arith, s.0), s.1)

  pub seen_none : (xs : List (SlotOf V)) (a i at : ℕ) → Seen xs a i at → length xs ≤ i → at ≡ 0 → Absent xs a
  seen_none xs a i zero s all e j = ⊎_elim (s j) (λ le. rw (get_or_past xs j None (omega arith)) refl) (cases_lt j i)
  seen_none xs a i (suc k) s all e j = absurd (omega arith)

  pub seen_some : (xs : List (SlotOf V)) (a i at : ℕ) → Seen xs a i at → i ≤ length xs → (at ≡ 0 → ⊥) → Found xs a (Some (at - 1))
  seen_some xs a i zero s most ne = absurd (ne refl)
  seen_some xs a i (suc k) s most ne =
      let e : suc k - 1 ≡ k = omega arith in
      rw e (omega (arith, s.0), s.1)

  -- A part of slots holds an address in one slot at most, as they do.
  pub part_single : (xs : List (SlotOf V)) (i m : ℕ) → Single xs → Single (take m (drop i xs))
  part_single xs i m single t =
      let e : i + t.i ≡ i + t.j = single (record { a = t.a; i = i + t.i; j = i + t.j; one = held t.i t.one; other = held t.j t.other }) in
      omega arith
    where
      held : (j : ℕ) → has (slot_at (take m (drop i xs)) j) t.a ≡ true → has (slot_at xs (i + j)) t.a ≡ true
      held j h = ⊎_elim
          (λ lt. ap (λ x. has x t.a) (sym (get_or-take m (drop i xs) j None lt ∙ get_or-drop i xs j None)) ∙ h)
          (λ le. absurd (both_ways _ (rw (get_or_past (take m (drop i xs)) j None (omega (arith, length-take m (drop i xs)))) refl) h))
          (cases_lt j m)

  -- A search for a has come d places on from its home, to i, and none of them holds a.
  pub record Passed (n : ℕ) (xs : List (SlotOf V)) (a d i : ℕ) : Type 0 where
    pub inside : i < n
    pub at : d < n → i ≡ ring (home_of a n) d n
    pub others : (s : ℕ) → s < n → s < d → has (slot_at xs (ring (home_of a n) s n)) a ≡ false

  module _ (n : ℕ) (xs : List (SlotOf V)) (ordered : Ordered n xs) where
    pub passed_all : (a d i : ℕ) → Passed n xs a d i → length xs ≡ n → n ≤ d → Absent xs a
    passed_all a d i p long all j = ⊎_elim
        (λ lt.
        let hn : home_of a n < n = home_inside a n (omega arith) in
        let an : away (home_of a n) j n < n = away_lt (home_of a n) j n hn lt in
        subst (λ q. has (slot_at xs q) a ≡ false) (ring_away (home_of a n) j n hn lt) (p.others (away (home_of a n) j n) an (omega arith)))
        (λ le. rw (get_or_past xs j None (omega arith)) refl)
        (cases_lt j n)

    -- The slots from the place from, at or before i, up to the end were looked at.
    module _ (a d i from end : ℕ) (p : Passed n xs a d i) (long : length xs ≡ n) (dn : d < n) (back : from ≤ i) (on : i < end) (inside : end ≤ n) where
      hn : home_of a n < n
      hn = home_inside a n (omega arith)

      goes : (e : ℕ) → i + e < end → d + e < n → ring (home_of a n) (d + e) n ≡ i + e
      goes e lt le = sym (ring_ring (home_of a n) d e n hn le) ∙ ap (λ q. ring q e n) (sym (p.at dn)) ∙ ring_ahead i e n (omega arith)

      abbrev span : List (SlotOf V)
      span = take (end - from) (drop from xs)

      span_at : (e : ℕ) → from + e < end → slot_at span e ≡ slot_at xs (from + e)
      span_at e lt = get_or-take (end - from) (drop from xs) e None (omega arith) ∙ get_or-drop from xs e None

      passed_by : Found span a None → (s : ℕ) → s < n → s < d + (end - i) → has (slot_at xs (ring (home_of a n) s n)) a ≡ false
      passed_by none s sn lt = ⊎_elim (p.others s sn) here (cases_lt s d)
        where
          here : d ≤ s → has (slot_at xs (ring (home_of a n) s n)) a ≡ false
          here le =
              let same : ring (home_of a n) s n ≡ from + (i + (s - d) - from) = ap (λ q. ring (home_of a n) q n) (omega arith) ∙ goes (s - d) (omega arith) (omega arith) ∙ omega arith in
              ap (λ q. has (slot_at xs q) a) same ∙ ap (λ x. has x a) (sym (span_at (i + (s - d) - from) (omega arith))) ∙ none (i + (s - d) - from)

      pub passed_on : Found span a None → (j : ℕ) → (j ≡ cond (nat_lt end n) end 0) × (j < n) → Passed n xs a (d + (end - i)) j
      passed_on none j is = record {
        inside = is.1;
        at = λ lt. is.0 ∙ ring_end i (end - i) end n (omega arith) inside ∙ ap (λ q. ring q (end - i) n) (p.at dn) ∙ ring_ring (home_of a n) d (end - i) n hn lt;
        others = passed_by none;
      }

      -- The last of them is nearer to its home.
      pub passed_near : Found span a None → reach n (end - 1) (slot_at xs (end - 1)) < d + (end - i) → Absent xs a
      passed_near none near = ⊎_elim short (passed_all a (d + (end - i)) (cond (nat_lt end n) end 0) (passed_on none _ (refl, grind (arith, nat_tests))) long) (cases_lt (d + (end - i)) n)
        where
          short : d + (end - i) < n → Absent xs a
          short lt = missing n xs ordered a (d + (end - i) - 1) long (omega arith) (subst (λ q. reach n q (slot_at xs q) ≤ d + (end - i) - 1) (sym last) (omega arith)) (λ s less. passed_by none s (omega arith) (omega arith))
            where
              last : ring (home_of a n) (d + (end - i) - 1) n ≡ end - 1
              last = ap (λ q. ring (home_of a n) q n) (omega arith) ∙ goes (end - i - 1) (omega arith) (omega arith) ∙ omega arith
