-- Laws of the slots that count.
use Rattle.std.proofs.Common.{◌≡◌, ℕ, zero, suc, ◌-◌, ◌<◌, min, List, [], ◌∷◌, ◌++◌, length, take, drop, set, replicate, sym, refl, ap, ◌∙◌, subst, ⊎_elim, arith}
use native.Mathlib.Nat.{sub-zero}
use Rattle.std.proofs.lemmas.List.{append-nil, drop_all, drop-set-lt, length-append, length-drop, length-replicate, length-set, length-take, take_all, take_at, take_min, take-replicate}
use Rattle.std.proofs.lemmas.Slice.{drop-append-drop}
use Rattle.std.proofs.lemmas.Bool.{cases_lt}
use Rattle.stores.specs.Slots.{SlotsKept, counted}

module _ {X : Type 0} where
  take_set : (n : ℕ) (xs : List X) (i : ℕ) (y : X) → take n (set xs i y) ≡ set (take n xs) i y
  take_set zero xs i y = refl
  take_set (suc n) [] i y = refl
  take_set (suc n) (x ∷ xs) zero y = refl
  take_set (suc n) (x ∷ xs) (suc i) y = ap (λ zs. x ∷ zs) (take_set n xs i y)

  pub counted_length : (xs : List X) → length (counted xs) ≡ min 65536 (length xs)
  unfolding counted
  counted_length xs = length-take 65536 xs

  pub counted_set : (xs : List X) (i : ℕ) (y : X) → counted (set xs i y) ≡ set (counted xs) i y
  unfolding counted
  counted_set xs i y = take_set 65536 xs i y

  pub counted_replicate : (n : ℕ) (y : X) → counted (replicate n y) ≡ replicate (min 65536 n) y
  unfolding counted
  counted_replicate n y = sym (take_min 65536 (replicate n y)) ∙ rw length-replicate (take-replicate (min 65536 n) n y (omega arith))

  -- the part of the slots that `first_of` lends
  pub counted_front : (xs : List X) (n : ℕ) → n ≡ min (length xs) 65536 → take n xs ≡ counted xs
  unfolding counted
  counted_front xs n e = let e : n ≡ min 65536 (length xs) = omega arith in rw e (take_min 65536 xs)

  -- the same as a range from 0
  pub counted_part : (xs : List X) (n : ℕ) → n ≡ min (length xs) 65536 → take (n - 0) xs ≡ counted xs
  counted_part xs n e = rw sub-zero (counted_front xs n e)

  -- A write to a slot that counts keeps the slots.
  pub kept_set : (xs : List X) (i : ℕ) (y : X) → i < length (counted xs) → SlotsKept xs (set xs i y)
  kept_set xs i y lt = record { long = length-set xs i y; uncounted = drop-set-lt 65536 xs i y (omega (arith, counted_length xs)) }

  -- As many slots count as before.
  pub counted_long : (xs ys : List X) → SlotsKept xs ys → length (counted ys) ≡ length (counted xs)
  counted_long xs ys k = counted_length ys ∙ ap (min 65536) k.long ∙ sym (counted_length xs)

  -- The slots that count are written anew, and the others stay.
  module _ (xs ws : List X) where
    take_put : (k : ℕ) → length ws ≡ min k (length xs) → take k (ws ++ drop (min k (length xs)) xs) ≡ ws
    take_put k long = ⊎_elim
        (λ lt. take_at ws (drop (min k (length xs)) xs) k (omega arith))
        (λ le. let none : drop (min k (length xs)) xs ≡ [] = drop_all (min k (length xs)) xs (omega arith) in rw (none, append-nil) (take_all k ws (omega arith)))
        (cases_lt k (length xs))

    module _ (long : length ws ≡ length (counted xs)) where
      abbrev m : ℕ
      m = min 65536 (length xs)

      abbrev put : List X
      put = ws ++ drop (length (counted xs) - 0) xs

      put_is : put ≡ ws ++ drop m xs
      put_is = ap (λ n. ws ++ drop n xs) (sub-zero (length (counted xs)) ∙ counted_length xs)

      lengths : length ws ≡ m
      lengths = long ∙ counted_length xs

      pub counted_put : counted put ≡ ws
      unfolding counted
      counted_put = ap (take 65536) put_is ∙ take_put 65536 lengths

      pub kept_put : SlotsKept xs put
      kept_put = subst (SlotsKept xs) (sym put_is) (record {
        long = length-append ws (drop m xs) ∙ rw (length-drop m xs) (omega (arith, lengths));
        uncounted = drop-append-drop m xs ws 65536 (omega arith) lengths;
      })
