-- What the order of a ring's entries tells, and what keeps it.
use Rattle.std.proofs.Common.{◌≡◌, ℕ, zero, suc, ◌+◌, ◌-◌, ◌<◌, ◌≤◌, true, false, List, length, get_or, set, sym, Some, None, refl, ap, ◌∙◌, subst, ⊎_elim, arith, add-zero, get_or-set_other, get_or-set_same}
use Rattle.std.proofs.lemmas.List.{get_or_default, get_or_past}
use Rattle.std.proofs.lemmas.Bool.Decides.{nat_tests}
use Rattle.std.proofs.lemmas.Bool.{cases_eq, cases_lt, cases_Bool, both_ways, eqb-true}
use Rattle.hash_store.specs.Holding.{SlotOf, has}
use Rattle.hash_store.specs.inside.Probing.{slot_at, home_of, ring, away, reach, Absent, Ordered}
use Rattle.hash_store.proofs.Rings.{ring_lt, away_lt, ring_away, ring_ring, home_inside}

module _ {V : Type 0} where
  -- the slot read at i
  pub read : (xs : List (SlotOf V)) (i : ℕ) (x y : SlotOf V) → i < length xs → get_or xs i x ≡ y → slot_at xs i ≡ y
  read xs i x y lt is = get_or_default xs i None x lt ∙ is

  -- A slot that holds a is as far as a is.
  pub has_reach : (n p : ℕ) (x : SlotOf V) (a : ℕ) → has x a ≡ true → reach n p x ≡ away (home_of a n) p n + 1
  has_reach n p None a h = absurd (both_ways _ refl h)
  has_reach n p (Some (k, v)) a h = let e : k ≡ a = eqb-true k a h in rw e refl

  module _ (n : ℕ) (xs : List (SlotOf V)) (ordered : Ordered n xs) where
    -- Some places on, it is as many more at most.
    pub grows : (p m : ℕ) → p < n → m < n → reach n (ring p m n) (slot_at xs (ring p m n)) ≤ reach n p (slot_at xs p) + m
    grows p zero pn mn =
        let e : ring p 0 n ≡ p = grind (arith, nat_tests) in
        rw (e, add-zero) (omega arith)
    grows p (suc m) pn mn =
        let e : ring (ring p m n) 1 n ≡ ring p (suc m) n = grind (arith, nat_tests) in
        let one = subst (λ q. reach n q (slot_at xs q) ≤ reach n (ring p m n) (slot_at xs (ring p m n)) + 1) e (ordered (ring p m n) (ring_lt p m n pn (omega arith))) in
        omega (arith, one, grows p m pn (omega arith))

    -- A search for a ends at an empty slot, or at one that is nearer to its home than the search has come: a isn't behind it.
    pub missing : (a d : ℕ) → length xs ≡ n → d < n → reach n (ring (home_of a n) d n) (slot_at xs (ring (home_of a n) d n)) ≤ d → ((s : ℕ) → s < d → has (slot_at xs (ring (home_of a n) s n)) a ≡ false) → Absent xs a
    missing a d long dn near passed i = ⊎_elim inside (λ le. rw (get_or_past xs i None (omega arith)) refl) (cases_lt i n)
      where
        h : ℕ
        h = home_of a n

        hn : home_of a n < n
        hn = home_inside a n (omega arith)

        inside : i < n → has (slot_at xs i) a ≡ false
        inside lt = ⊎_elim (λ less. subst (λ j. has (slot_at xs j) a ≡ false) (ring_away (home_of a n) i n hn lt) (passed (away (home_of a n) i n) less)) behind (cases_lt (away (home_of a n) i n) d)
          where
            behind : d ≤ away (home_of a n) i n → has (slot_at xs i) a ≡ false
            behind le = ⊎_elim (λ held. absurd (far held)) (λ f. f) (cases_Bool (has (slot_at xs i) a))
              where
                far : has (slot_at xs i) a ≡ true → ⊥
                far held =
                    let an : away (home_of a n) i n < n = away_lt (home_of a n) i n hn lt in
                    let there : ring (ring (home_of a n) d n) (away (home_of a n) i n - d) n ≡ i = ring_ring (home_of a n) d (away (home_of a n) i n - d) n hn (omega arith) ∙ ap (λ e. ring (home_of a n) e n) (omega arith) ∙ ring_away (home_of a n) i n hn lt in
                    let most = subst (λ q. reach n q (slot_at xs q) ≤ reach n (ring (home_of a n) d n) (slot_at xs (ring (home_of a n) d n)) + (away (home_of a n) i n - d)) there (grows (ring (home_of a n) d n) (away (home_of a n) i n - d) (ring_lt (home_of a n) d n hn dn) (omega arith)) in
                    omega (arith, most, near, has_reach n i (slot_at xs i) a held)

    -- An entry is written where it is no farther than one behind the entry before, and the next no farther than one behind it.
    pub ordered_set : (i : ℕ) (y : SlotOf V) → length xs ≡ n → i < n → ((q : ℕ) → q < n → ring q 1 n ≡ i → reach n i y ≤ reach n q (slot_at xs q) + 1) → reach n (ring i 1 n) (slot_at xs (ring i 1 n)) ≤ reach n i y + 1 → Ordered n (set xs i y)
    ordered_set i y long lt before after p pn = ⊎_elim here (λ ne. ⊎_elim (ahead ne) (elsewhere ne) (cases_eq (ring p 1 n) i)) (cases_eq p i)
      where
        at_i : slot_at (set xs i y) i ≡ y
        at_i = get_or-set_same xs i y None (omega arith)

        here : p ≡ i → reach n (ring p 1 n) (slot_at (set xs i y) (ring p 1 n)) ≤ reach n p (slot_at (set xs i y) p) + 1
        here e = rw (e, at_i) (⊎_elim (λ f. subst (λ q. reach n q (slot_at (set xs i y) q) ≤ reach n i y + 1) (sym f) (rw at_i (omega arith))) (λ f. rw (get_or-set_other xs i (ring i 1 n) y None f) after) (cases_eq (ring i 1 n) i))

        ahead : (p ≡ i → ⊥) → ring p 1 n ≡ i → reach n (ring p 1 n) (slot_at (set xs i y) (ring p 1 n)) ≤ reach n p (slot_at (set xs i y) p) + 1
        ahead ne e = rw (get_or-set_other xs i p y None ne, e, at_i) (before p pn e)

        elsewhere : (p ≡ i → ⊥) → (ring p 1 n ≡ i → ⊥) → reach n (ring p 1 n) (slot_at (set xs i y) (ring p 1 n)) ≤ reach n p (slot_at (set xs i y) p) + 1
        elsewhere ne ne' = rw (get_or-set_other xs i p y None ne, get_or-set_other xs i (ring p 1 n) y None ne') (ordered p pn)
