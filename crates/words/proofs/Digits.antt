-- Where each step is cut before it at a largest number, the end cut there is the value cut there.
use Rattle.std.proofs.Common.{◌≡◌, ℕ, ◌+◌, ◌-◌, ◌*◌, List, [], ◌∷◌, min, fold, refl, arith}

module _ (most : ℕ) where
  alike : (n m : ℕ) (xs : List ℕ) → min n most ≡ min m most → min (fold (λ k d. min k most * 10 + (d - 48)) n xs) most ≡ min (fold (λ k d. 10 * k + (d - 48)) m xs) most
  alike n m [] e = e
  alike n m (x ∷ xs) e = alike (min n most * 10 + (x - 48)) (10 * m + (x - 48)) xs (grind (arith, e))

  pub cut_value : (xs : List ℕ) → min (fold (λ k d. min k most * 10 + (d - 48)) 0 xs) most ≡ min (fold (λ k d. 10 * k + (d - 48)) 0 xs) most
  cut_value xs = alike 0 0 xs refl
