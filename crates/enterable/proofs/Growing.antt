-- How the sets grow, and that they are whole once nothing is new.
use Rattle.std.proofs.Common.{◌≡◌, ℕ, zero, suc, ◌+◌, ◌<◌, ◌≤◌, ◌⊎◌, Bool, true, false, not, cond, ◌||◌, List, [], ◌∷◌, length, get_or, set, replicate, Some, count_by, refl, sym, ap, ◌∙◌, subst, inl, inr, ⊎_elim, arith}
use Rattle.std.proofs.lemmas.Bool.{cases_eq, cases_lt, or_parts}
use Rattle.std.proofs.lemmas.List.{get_or-set_other, get_or_past, set-get_or, get_or-replicate, length-replicate}
use Rattle.std.proofs.lemmas.List.Sums.{sum_by-set}
use Rattle.content.specs.declared.instruction.Instruction.TheVariants as op
use Rattle.parts.specs.Content.{Content}
use Rattle.module.specs.Modules.{instruction_at}
use Rattle.enterable.specs.declared.functions.EnterableFunctions.{EnterableFunctions}
use Rattle.enterable.specs.declared.way.Way.{Way}
use Rattle.enterable.specs.declared.way.Way.TheVariants.{Call, Address}
use Rattle.enterable.specs.Enterable.{Enterable, first, called, taken, EnterableThrough}
use Rattle.enterable.specs.First.{Leads}
use Rattle.enterable.specs.inside.Rounds.{Has, Rightful, ClosedAt, ClosedBelow, Grown, enters, enters_through}

differ : {b : Bool} → b ≡ false → b ≡ true → ⊥
differ {b} p q = grind arith

-- after a place is set, what is set is that place, or was set before
was_set : (xs : List Bool) (g k : ℕ) → get_or (set xs g true) k false ≡ true → (k ≡ g) ⊎ (get_or xs k false ≡ true)
was_set xs g k e = ⊎_elim (λ q. inl q) (λ ne. inr (sym (get_or-set_other xs g k true false ne) ∙ e)) (cases_eq k g)

still_set : (xs : List Bool) (g k : ℕ) → get_or xs k false ≡ true → get_or (set xs g true) k false ≡ true
still_set [] g k e = e
still_set (x ∷ xs) zero zero e = refl
still_set (x ∷ xs) zero (suc k) e = e
still_set (x ∷ xs) (suc g) zero e = e
still_set (x ∷ xs) (suc g) (suc k) e = still_set xs g k e

same_set : (xs : List Bool) (g : ℕ) → get_or xs g false ≡ true → set xs g true ≡ xs
same_set xs g e = ap (λ (b : Bool). set xs g b) (sym e) ∙ set-get_or xs g false

none_set : (n k : ℕ) → get_or (replicate n false) k false ≡ true → ⊥
none_set n k m = ⊎_elim (λ h. differ (get_or-replicate n k false false h) m) (λ h. differ (get_or_past (replicate n false) k false (simp length-replicate h)) m) (cases_lt k n)

count_set : (xs : List Bool) (g : ℕ) → g < length xs → count_by not (set xs g true) + cond (not (get_or xs g false)) 1 0 ≡ count_by not xs
count_set xs g h = let count : Bool → ℕ = λ b. cond (not b) 1 0 in omega (arith, sum_by-set count xs g true false h)

-- an empty place that is set leaves one fewer; no set leaves more
fewer_set : (xs : List Bool) (g : ℕ) → g < length xs → not (get_or xs g false) ≡ true → count_by not (set xs g true) < count_by not xs
fewer_set xs g h e = let one : ◌≡◌ {A = ℕ} (cond (not (get_or xs g false)) 1 0) 1 = ap (λ (b : Bool). cond b 1 0) e in omega (arith, count_set xs g h, one)

least_set : (xs : List Bool) (g : ℕ) → g < length xs → count_by not (set xs g true) ≤ count_by not xs
least_set xs g h = omega (arith, count_set xs g h)

not_false : (b : Bool) → not b ≡ false → b ≡ true
not_false true e = refl
not_false false e = absurd (cc)

either : (x y : Bool) → (x || y) ≡ true → (x ≡ true) ⊎ (y ≡ true)
either true y e = inl refl
either false y e = inr e

module _ (c : Content) where
  closed_called : (f i g : ℕ) (s : EnterableFunctions) → instruction_at c f i ≡ Some (op.Call g) → enters s g ≡ true → (way : Way) (h : ℕ) → Leads c way f i h → Has s way h
  closed_called f i g s is e Call h l = let q : g ≡ h = cc in subst (λ k. enters s k ≡ true) q e
  closed_called f i g s is e Address h l = let l1 = l.1 in absurd (cc)

  closed_taken : (f i x g : ℕ) (s : EnterableFunctions) → instruction_at c f i ≡ Some (op.Function x g) → enters s g ≡ true → enters_through s g ≡ true → (way : Way) (h : ℕ) → Leads c way f i h → Has s way h
  closed_taken f i x g s is a t Call h l = absurd (cc)
  closed_taken f i x g s is a t Address h l = let l1 = l.1 in let q : g ≡ h = cc in (subst (λ k. enters s k ≡ true) q a, subst (λ k. enters_through s k ≡ true) q t)

  pub called_grown : (f i g : ℕ) (s : EnterableFunctions) → g < length s.all → enters s f ≡ true → instruction_at c f i ≡ Some (op.Call g) → Grown c (ClosedAt c f i) s (record s { all = set s.all g true }) (not (enters s g))
  called_grown f i g s h m is =
      record {
        right = λ r. record {
          zero = still_set s.all g 0 r.zero;
          all = λ k e. ⊎_elim (λ q. subst (Enterable c) (sym q) (called f i g (r.all f m) is)) (r.all k) (was_set s.all g k e);
          through = r.through;
        };
        kept = λ k e. still_set s.all g k e;
        fewer = λ n. omega (arith, fewer_set s.all g h n);
        same = λ n. let e = same_set s.all g (not_false (enters s g) n) in ap (λ (xs : List Bool). record s { all = xs }) e;
        done = λ n. closed_called f i g _ is (still_set s.all g g (not_false (enters s g) n));
      }

  pub taken_grown : (f i x g : ℕ) (s : EnterableFunctions) → g < length s.all → g < length s.through → enters s f ≡ true → instruction_at c f i ≡ Some (op.Function x g) → Grown c (ClosedAt c f i) s (record { all = set s.all g true; through = set s.through g true }) (not (enters s g) || not (enters_through s g))
  taken_grown f i x g s h h' m is =
      let was : (not (enters s g) || not (enters_through s g)) ≡ false → (enters s g ≡ true) × (enters_through s g ≡ true) =
      λ n. let p = or_parts (not (enters s g)) (not (enters_through s g)) n in (not_false (enters s g) p.0, not_false (enters_through s g) p.1) in
      record {
        right = λ r. record {
          zero = still_set s.all g 0 r.zero;
          all = λ k e. ⊎_elim (λ q. subst (Enterable c) (sym q) (taken f i x g (r.all f m) is)) (r.all k) (was_set s.all g k e);
          through = λ k e. ⊎_elim
              (λ q. subst (EnterableThrough c) (sym q) (f, i, x, r.all f m, is))
              (r.through k) (was_set s.through g k e);
        };
        kept = λ k e. still_set s.all g k e;
        fewer = λ n. ⊎_elim
            (λ a. omega (arith, fewer_set s.all g h a, least_set s.through g h'))
            (λ b. omega (arith, least_set s.all g h, fewer_set s.through g h' b))
            (either (not (enters s g)) (not (enters_through s g)) n);
        same = λ n. let w = was n in ap (λ (xs : List Bool). record { all = xs; through = set s.through g true }) (same_set s.all g w.0) ∙ ap (λ (xs : List Bool). record { all = s.all; through = xs }) (same_set s.through g w.1);
        done = λ n. let w = was n in closed_taken f i x g _ is (still_set s.all g g w.0) (still_set s.through g g w.1);
      }

  -- function 0 alone is right
  pub first_right : Rightful c (record { all = set (replicate 64 false) 0 true; through = replicate 64 false })
  first_right =
      record {
        zero = refl;
        all = λ k e. ⊎_elim (λ q. subst (Enterable c) (sym q) first) (λ m. absurd (none_set 64 k m)) (was_set (replicate 64 false) 0 k e);
        through = λ k e. absurd (none_set 64 k e);
      }

  module _ (s : EnterableFunctions) (few : (k : ℕ) → Enterable c k → k < 64) (r : Rightful c s) (closed : ClosedBelow c 64 s) where
    -- once nothing is new, all that can be entered is in the sets
    pub whole : {k : ℕ} → Enterable c k → enters s k ≡ true
    whole first = r.zero
    whole (called f i g e is) = let m = whole e in closed f (few f e) m i Call g is
    whole (taken f i x g e is) = let m = whole e in (closed f (few f e) m i Address g (x, is)).0

    pub whole_through : (k : ℕ) → EnterableThrough c k → enters_through s k ≡ true
    whole_through k t = let m = whole t.3 in (closed t.0 (few t.0 t.3) m t.1 Address k (t.2, t.4)).1
