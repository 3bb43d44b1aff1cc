-- How the place of an entry is found.
use Rattle.std.proofs.Common.{◌≡◌, ℕ, ◌+◌, ◌<◌, ◌≤◌, List, None, refl, ap, ◌∙◌, ⊎_elim, arith}
use Rattle.std.proofs.lemmas.Bool.{cases_lt}
use Rattle.hash_store.specs.Holding.{SlotOf}
use Rattle.hash_store.specs.inside.Probing.{slot_at, home_of, ring, away, reach, Fits}
use Rattle.hash_store.proofs.Rings.{next_same, away_lt, ring_away, away_ring, ring_next, home_inside}

module _ {V : Type 0} where
  -- The place for a is d places on from its home at least, at i, and the empty slot e not before that.
  pub record Farther (n : ℕ) (xs : List (SlotOf V)) (a e d i : ℕ) : Type 0 where
    pub inside : i < n
    pub most : d ≤ away (home_of a n) e n
    pub at : i ≡ ring (home_of a n) d n
    pub before : (q : ℕ) → q < n → ring q 1 n ≡ i → d ≤ reach n q (slot_at xs q)

  module _ (n : ℕ) (xs : List (SlotOf V)) where
    module _ (a e d i : ℕ) (f : Farther n xs a e d i) (last : e < n) (empty : slot_at xs e ≡ None) where
      h_lt : home_of a n < n
      h_lt = home_inside a n (omega arith)

      d_lt : d < n
      d_lt = omega (arith, f.most, away_lt (home_of a n) e n h_lt last)

      -- What stands here isn't nearer, and so isn't the empty slot.
      pub farther_on : d + 1 ≤ reach n i (slot_at xs i) → (j : ℕ) → (j ≡ ring i 1 n) × (j < n) → Farther n xs a e (d + 1) j
      farther_on far j on = record {
        inside = on.1;
        most = ⊎_elim (λ lt. omega arith) (λ le. absurd (at_end (omega (arith, f.most)))) (cases_lt d (away (home_of a n) e n));
        at = on.0 ∙ ap (λ q. ring q 1 n) f.at ∙ ring_next (home_of a n) d n h_lt d_lt;
        before = λ q qn to. rw (next_same q i n qn f.inside (to ∙ on.0)) (omega arith);
      }
        where
          at_end : d ≡ away (home_of a n) e n → ⊥
          at_end is =
              let here : i ≡ e = f.at ∙ ap (λ m. ring (home_of a n) m n) is ∙ ring_away (home_of a n) e n h_lt last in
              let none : reach n i (slot_at xs i) ≡ 0 = rw (here, empty) refl in
              omega (arith, far, none)

      pub fitting : reach n i (slot_at xs i) < d + 1 → Fits n xs a i
      fitting near = record {
        inside = f.inside;
        before = λ q qn on. omega (arith, come, f.before q qn on);
        after = omega (arith, come, near);
      }
        where
          come : away (home_of a n) i n ≡ d
          come = ap (λ q. away (home_of a n) q n) f.at ∙ away_ring (home_of a n) d n h_lt d_lt
