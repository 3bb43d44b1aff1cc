-- The first item at which a test fails.
use Rattle.std.proofs.Common.{◌≡◌, ℕ, suc, ◌+◌, map, unwrap_or, ◌<◌, ◌≤◌, Bool, true, false, not, cond, List, [], ◌∷◌, length, get_or, Some, None, Option, nat_lt, sym, refl, ap, ◌∙◌, ⊎_elim, arith}
use Rattle.std.specs.List.{slice_get, find, position, position_or_len, range_with_len}
use Rattle.std.specs.Option.{option_map}
use Rattle.std.proofs.lemmas.Option.{slice_get-get_or, slice_get_within, slice_get_past, get_or_from_slice_get}
use Rattle.std.proofs.lemmas.List.{length-map}
use Rattle.std.proofs.lemmas.Bool.{cases_lt}
use Rattle.std.proofs.lemmas.Bool.Decides.{nat_tests}
use Rattle.std.proofs.lemmas.List.Sums.{fails_before_first, position_or_len_is}
use Rattle.std.proofs.lemmas.List.Folds.{find_at}
use Rattle.std.proofs.lemmas.List.FromFn.{length-range_with_len, get_or-range_with_len}
use Rattle.records.specs.Rows.{words_in, readings}
use Rattle.rules.specs.Judging.{first_in}

none_long : (m n : ℕ) → ◌≡◌ {A = Option ℕ} (cond (nat_lt m n) (Some m) None) None → n ≤ m
none_long m n e = grind (arith, nat_tests)

long_none : (m n : ℕ) → n ≤ m → ◌≡◌ {A = Option ℕ} (cond (nat_lt m n) (Some m) None) None
long_none m n h = grind (arith, nat_tests)

some_short : (m n : ℕ) → m < n → ◌≡◌ {A = Option ℕ} (cond (nat_lt m n) (Some m) None) (Some m)
some_short m n h = grind (arith, nat_tests)

passing : (b : Bool) → not b ≡ false → b ≡ true
passing b e = grind arith

module _ {R : Type 0} (test : R → Bool) where
  all_long : (xs : List R) → ((k : ℕ) (x : R) → slice_get xs k ≡ Some x → test x ≡ true) → length xs ≤ position_or_len (λ x. not (test x)) xs
  all_long [] h = omega arith
  all_long (x ∷ xs) h = let l = all_long xs (λ k y e. h (suc k) y e) in rw (h 0 x refl) (omega (arith, l))

  -- where no item fails the test, each passes it
  pub in_none : (xs : List R) → first_in test xs ≡ None → (k : ℕ) (x : R) → slice_get xs k ≡ Some x → test x ≡ true
  in_none xs n k x e =
      let long = none_long (position_or_len (λ y. not (test y)) xs) (length xs) n in
      let l = slice_get_within xs k x e in
      passing _ (ap (λ y. not (test y)) (sym (get_or_from_slice_get xs k x x e)) ∙ fails_before_first (λ y. not (test y)) xs k x (omega (arith, long, l)))

  -- and where each passes it, none fails it
  pub none_in : (xs : List R) → ((k : ℕ) (x : R) → slice_get xs k ≡ Some x → test x ≡ true) → first_in test xs ≡ None
  none_in xs h = long_none _ _ (all_long xs h)

pub at_range : (n i : ℕ) → i < n → slice_get (range_with_len 0 n) i ≡ Some i
at_range n i l = slice_get-get_or (range_with_len 0 n) i 0 (omega (arith, length-range_with_len 0 n)) ∙ ap Some (let e = get_or-range_with_len 0 n i 0 l in omega arith)

pub in_range : (n k i : ℕ) → slice_get (range_with_len 0 n) k ≡ Some i → i < n
in_range n k i e =
    let l : k < n = omega (arith, slice_get_within (range_with_len 0 n) k i e, length-range_with_len 0 n) in
    omega (arith, get_or_from_slice_get (range_with_len 0 n) k i 0 e, get_or-range_with_len 0 n k 0 l)

-- the first place that fails, where each before it passes
pub first_fails : (test : ℕ → Bool) (n m : ℕ) → m < n → ((k : ℕ) → k < m → test k ≡ true) → test m ≡ false → Some m ≡ first_in test (range_with_len 0 n)
first_fails test n m l before fails =
    let xs = range_with_len 0 n in
    let p : ℕ → Bool = λ x. not (test x) in
    let long : length xs ≡ n = length-range_with_len 0 n in
    let at : (k : ℕ) → k < n → get_or xs k 0 ≡ k = λ k h. omega (arith, get_or-range_with_len 0 n k 0 h) in
    let first : position_or_len p xs ≡ m = position_or_len_is p xs m 0 (omega (arith, long)) (λ k h. ap p (at k (omega arith)) ∙ ap not (before k h)) (λ h. ap p (at m l) ∙ ap not fails) in
    sym (ap (λ x. cond (nat_lt x (length xs)) (Some x) None) first ∙ some_short m (length xs) (omega (arith, long)))

-- no place fails, where each passes
pub none_fails : (test : ℕ → Bool) (n : ℕ) → ((k : ℕ) → k < n → test k ≡ true) → None ≡ first_in test (range_with_len 0 n)
none_fails test n passes = sym (none_in test (range_with_len 0 n) (λ k i e. passes i (in_range n k i e)))

-- in a range from 0 on an item is its place
pub find_range : (p : ℕ → Bool) (n : ℕ) → find p (range_with_len 0 n) ≡ position p (range_with_len 0 n)
find_range p n =
    let xs = range_with_len 0 n in
    let m = position_or_len p xs in
    find_at p xs
    ∙ ⊎_elim
    (λ l. at_range n m (omega (arith, length-range_with_len 0 n)) ∙ sym (some_short m (length xs) l))
    (λ h. slice_get_past xs m h ∙ sym (long_none m (length xs) h))
    (cases_lt m (length xs))

pub map_same : (o : Option ℕ) → o ≡ option_map (λ x. x) o
map_same o = grind arith

read_long : {R X : Type 0} (test : R → Bool) (f : X → R) (xs : List X) → position_or_len (λ x. not (test x)) (map f xs) ≡ position_or_len (λ x. not (test (f x))) xs
read_long test f [] = refl
read_long test f (x ∷ xs) = ap (λ n. cond (not (not (test (f x)))) (1 + n) 0) (read_long test f xs)

-- the first to fail among what is read is the first whose reading fails
pub first_read : {R : Type 0} (test : R → Bool) (meant : List ℕ → Option R) (blank : R) (rs : List (List (List ℕ))) → position (λ r. not (test (unwrap_or (meant (words_in r)) blank))) rs ≡ first_in test (readings meant blank rs)
first_read {R} test meant blank rs =
    let f : List (List ℕ) → R = λ r. unwrap_or (meant (words_in r)) blank in
    rw (read_long test f rs, length-map rs f) refl
