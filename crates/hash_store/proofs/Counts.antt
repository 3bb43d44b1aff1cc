-- How the number of held addresses changes.
use Rattle.std.proofs.Common.{◌≡◌, ℕ, zero, suc, ◌+◌, ◌^◌, ◌<◌, ◌≤◌, is_some, None, Option, refl, ⊎_elim, arith}
use Rattle.std.proofs.lemmas.Bool.{cases_eq}
use Rattle.hash_store.specs.Counting.{one_if, held_below, held_count}

module _ {V : Type 0} (e e' : ℕ → Option V) (a : ℕ) (others : (b : ℕ) → (b ≡ a → ⊥) → e' b ≡ e b) where
  below_same : (n : ℕ) → n ≤ a → held_below e' n ≡ held_below e n
  unfolding held_below
  below_same zero le = refl
  below_same (suc n) le = let x = others n (omega arith) in rw (x, below_same n (omega arith)) refl

  below_change : (n : ℕ) → a < n → held_below e' n + one_if (is_some (e a)) ≡ held_below e n + one_if (is_some (e' a))
  unfolding held_below
  below_change zero lt = absurd (omega arith)
  below_change (suc n) lt = ⊎_elim (λ same. at_n same) (λ ne. before ne (below_change n (omega arith))) (cases_eq n a)
    where
      at_n : n ≡ a → held_below e' (suc n) + one_if (is_some (e a)) ≡ held_below e (suc n) + one_if (is_some (e' a))
      at_n same = let x : held_below e' a ≡ held_below e a = below_same a (omega arith) in rw same (omega (arith, x))

      before : (n ≡ a → ⊥) → held_below e' n + one_if (is_some (e a)) ≡ held_below e n + one_if (is_some (e' a)) → held_below e' (suc n) + one_if (is_some (e a)) ≡ held_below e (suc n) + one_if (is_some (e' a))
      before ne ih = rw (others n ne) (omega (arith, ih))

  pub count_change : a < 2 ^ 32 → held_count e' + one_if (is_some (e a)) ≡ held_count e + one_if (is_some (e' a))
  unfolding held_count
  count_change lt = below_change (2 ^ 32) lt

below_none : {V : Type 0} (e : ℕ → Option V) → ((a : ℕ) → e a ≡ None) → (n : ℕ) → held_below e n ≡ 0
unfolding held_below
below_none e none zero = refl
below_none e none (suc n) = rw (none n, below_none e none n) refl

pub count_none : {V : Type 0} (e : ℕ → Option V) → ((a : ℕ) → e a ≡ None) → held_count e ≡ 0
unfolding held_count
count_none e none = below_none e none (2 ^ 32)
