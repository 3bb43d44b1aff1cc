-- How an entry is put: each entry that it meets from its place on moves on by one, up to an empty slot.
use Rattle.std.proofs.Common.{◌≡◌, ℕ, ◌+◌, ◌^◌, ◌<◌, ◌≤◌, true, false, cond, ◌==◌, List, length, set, is_some, Some, None, sym, refl, ap, ◌∙◌, subst, ⊎_elim, arith, length-set, get_or-set_other, get_or-set_same}
use Rattle.std.proofs.lemmas.Bool.{cases_eq, cases_Bool, both_ways, eq-eqb, ne_eqb}
use Rattle.hash_store.specs.Holding.{SlotOf, has}
use Rattle.hash_store.specs.Counting.{held_count}
use Rattle.stores.specs.Meaning.{Put}
use Rattle.hash_store.specs.inside.Probing.{slot_at, lookup, count, home_of, ring, away, reach, room, Absent, Fits, Opened, Ordered, Single, Sound}
use Rattle.hash_store.proofs.Counts.{count_change}
use Rattle.hash_store.proofs.Orders.{grows, ordered_set}
use Rattle.hash_store.proofs.Rings.{away_less, away_lt, away_next, home_inside, next_lt, next_other, next_same, ring_away}
use Rattle.hash_store.proofs.Tables.{has_one, lookup_at, lookup_none, count_set}
use Rattle.hash_store.proofs.Writes.{holds_written, new_count, set_others, single_new}

module _ {V : Type 0} where
  -- On the way, in a ring of n with an empty slot at the end: the entry of k is about to be put at p, and the slots hold all else that was held or is put.
  pub record Pushing (was xs : List (SlotOf V)) (a : ℕ) (v : V) (end p k : ℕ) (w : V) : Type 0 where
    pub long : length xs ≡ length was
    pub fits : Fits (length was) xs k p
    pub ordered : Ordered (length was) xs
    pub single : Single xs
    pub none : Absent xs k
    pub counts : count xs ≡ count was
    pub here : cond (a == k) (Some v) (lookup was k) ≡ Some w
    pub same : (b : ℕ) → (b ≡ k → ⊥) → lookup xs b ≡ cond (a == b) (Some v) (lookup was b)
    pub last : end < length was
    pub empty : slot_at xs end ≡ None

  pub begun : (xs : List (SlotOf V)) (a : ℕ) (v : V) (end p : ℕ) → Fits (length xs) xs a p → Sound xs → Absent xs a → end < length xs → slot_at xs end ≡ None → Pushing xs xs a v end p a v
  begun xs a v end p fits s none last empty = record {
    long = refl;
    fits = fits;
    ordered = s.ordered;
    single = s.single;
    none = none;
    counts = refl;
    here = rw (eq-eqb a a refl) refl;
    same = λ b ne. rw (ne_eqb a b (λ e. ne (sym e))) refl;
    last = last;
    empty = empty;
  }

  module _ (was xs : List (SlotOf V)) (a : ℕ) (v : V) (end p k : ℕ) (w : V) (s : Pushing was xs a v end p k w) where
    abbrev n : ℕ
    n = length was

    abbrev ys : List (SlotOf V)
    ys = set xs p (Some (k, w))

    inside : p < length xs
    inside = omega (arith, s.long, s.fits.inside)

    in_order : Ordered n ys
    in_order = ordered_set n xs s.ordered p (Some (k, w)) s.long s.fits.inside (λ q qn e. omega (arith, s.fits.before q qn e)) (omega (arith, s.ordered p s.fits.inside, s.fits.after))

    alone : Single ys
    alone = single_new xs p k w inside s.none s.single

    same_k : lookup ys k ≡ cond (a == k) (Some v) (lookup was k)
    same_k = holds_written xs p k w inside alone ∙ sym s.here

    -- It is put into the empty slot.
    pub placed : slot_at xs p ≡ None → Opened was ys a v
    placed none = record {
      single = alone;
      ordered = rw (length-set xs p (Some (k, w)), s.long) in_order;
      counts = new_count xs p k w inside s.none (rw none refl) ∙ ap (λ m. m + 1) s.counts;
      same = λ b. ⊎_elim (λ e. rw e same_k) (λ ne. set_others xs p k w inside b (rw none refl) ne ∙ s.same b ne) (cases_eq b k);
    }

    -- Another entry stands there, and is to be put at the next place.
    module _ (k' : ℕ) (w' : V) (at : slot_at xs p ≡ Some (k', w')) where
      has_it : has (slot_at xs p) k' ≡ true
      has_it = rw at (eq-eqb k' k' refl)

      differs : k' ≡ k → ⊥
      differs e = both_ways _ (s.none p) (rw (← e) has_it)

      short : p ≡ end → ⊥
      short e = let gone : has (slot_at xs p) k' ≡ false = rw (e, s.empty) refl in both_ways _ gone has_it

      it : reach n p (slot_at xs p) ≡ away (home_of k' n) p n + 1
      it = rw at refl

      -- An entry is no farther from home than from the empty slot, so that the next place isn't its home again.
      far : away (home_of k' n) (ring p 1 n) n ≡ away (home_of k' n) p n + 1
      far = away_next (home_of k' n) p n (home_inside k' n (omega (arith, s.last))) s.fits.inside (omega (arith, m_lt, it, most))
        where
          m_lt : away end p n < n
          m_lt = away_lt end p n s.last s.fits.inside

          none_at : reach n end (slot_at xs end) ≡ 0
          none_at = rw s.empty refl

          most : reach n p (slot_at xs p) ≤ away end p n
          most = omega (arith, none_at, subst (λ q. reach n q (slot_at xs q) ≤ reach n end (slot_at xs end) + away end p n) (ring_away end p n s.last s.fits.inside) (grows n xs s.ordered end (away end p n) s.last m_lt))

      -- The empty slot is nearer by one.
      pub pushes : (q : ℕ) → q ≡ ring p 1 n → away q end n < away p end n
      pushes q on = rw on (omega (arith, away_less p end n s.fits.inside s.last short))

      pub pushed : Pushing was ys a v end (ring p 1 n) k' w'
      pushed = record {
        long = length-set xs p (Some (k, w)) ∙ s.long;
        fits = record {
          inside = next_lt p n s.fits.inside;
          before = λ q qn e. subst (λ r. away (home_of k' n) (ring p 1 n) n ≤ reach n r (slot_at ys r)) (sym (next_same q p n qn s.fits.inside e)) (rw (get_or-set_same xs p (Some (k, w)) None inside) (omega (arith, far, it, s.fits.after)));
          after = rw (get_or-set_other xs p (ring p 1 n) (Some (k, w)) None (next_other p end n s.fits.inside s.last short)) (omega (arith, far, it, s.ordered p s.fits.inside));
        };
        ordered = in_order;
        single = alone;
        none = λ j. ⊎_elim
            (λ e. ap (λ m. has (slot_at ys m) k') e ∙ ap (λ z. has z k') (get_or-set_same xs p (Some (k, w)) None inside) ∙ ne_eqb k k' (λ f. differs (sym f)))
            (λ ne. ap (λ z. has z k') (get_or-set_other xs p j (Some (k, w)) None ne) ∙ (⊎_elim (λ h. absurd (ne (s.single (record { a = k'; i = j; j = p; one = h; other = has_it })))) (λ f. f) (cases_Bool (has (slot_at xs j) k'))))
            (cases_eq j p);
        counts = let c = rw at at (count_set xs p (Some (k, w)) inside) in omega (arith, s.counts);
        here = sym (s.same k' differs) ∙ lookup_at xs k' p s.single has_it ∙ rw at (rw (eq-eqb k' k' refl) refl);
        same = λ b ne. ⊎_elim (λ e. rw e same_k) (λ nk. set_others xs p k w inside b (has_one (slot_at xs p) k' b has_it ne) nk ∙ s.same b nk) (cases_eq b k);
        last = s.last;
        empty = get_or-set_other xs p end (Some (k, w)) None (λ e. short (sym e)) ∙ s.empty;
      }

  -- An entry was put so.
  module _ (xs ys : List (SlotOf V)) (a : ℕ) (v : V) (small : a < 2 ^ 32) (none : Absent xs a) (s : Sound xs) (o : Opened xs ys a v) where
    others : (b : ℕ) → (b ≡ a → ⊥) → lookup ys b ≡ lookup xs b
    others b ne = o.same b ∙ rw (ne_eqb a b (λ e. ne (sym e))) refl

    holds : lookup ys a ≡ Some v
    holds = o.same a ∙ rw (eq-eqb a a refl) refl

    one_more : held_count (lookup ys) ≡ held_count (lookup xs) + 1
    one_more =
        let before : is_some (lookup xs a) ≡ false = rw (lookup_none xs a none) refl in
        let after : is_some (lookup ys a) ≡ true = rw holds refl in
        let c = rw (before, after) at (count_change (lookup xs) (lookup ys) a others small) in
        omega arith

    pub opened_sound : Sound ys
    opened_sound = record { counts = omega (arith, one_more, s.counts, o.counts); single = o.single; ordered = o.ordered }

    pub opened_put : Put (lookup xs) (lookup ys) (room xs) (room ys) a v
    opened_put = record {
      holds = holds;
      others = others;
      still = λ held. absurd (both_ways _ (rw (lookup_none xs a none) refl) held);
    }
