-- What is so of each record of a table is so of the one that is picked.
use Rattle.std.proofs.Common.{◌≡◌, ℕ, Bool, true, false, cond, ◌&&◌, List, [], ◌∷◌, Some, None, Option, ◌==◌, refl, arith, subst, eqb-true}
use Rattle.std.specs.Bool.{then_some}
use Rattle.content.specs.Records.{pick}

-- each record of the table is P where n picks it
abbrev pub Each : {R : Type 0} → (R → Type 0) → ℕ → List (ℕ × Bool × R) → Type 0
Each P n [] = Unit {0}
Each P n ((k, b, x) ∷ rest) = (n ≡ k → b ≡ true → P x) × Each P n rest

module _ {R : Type 0} (P : R → Type 0) (r : R) where
  none_some : ◌≡◌ {A = Option R} None (Some r) → P r
  none_some e = let z : ◌≡◌ {A = ℕ} 0 1 = cc in absurd (omega arith)

  some_same : (x : R) → P x → ◌≡◌ {A = Option R} (Some x) (Some r) → P r
  some_same x p e = let q : x ≡ r = cc in subst P q p

  by_test : (t : Bool) (o : Option R) (x : R) (b : Bool) → (t ≡ true → b ≡ true → P x) → (o ≡ Some r → P r) → cond t (then_some b x) o ≡ Some r → P r
  by_test true o x true here on e = some_same x (here refl refl) e
  by_test true o x false here on e = none_some e
  by_test false o x b here on e = on e

pub by_pick : {R : Type 0} (P : R → Type 0) (n : ℕ) (table : List (ℕ × Bool × R)) → Each P n table → (r : R) → pick n table ≡ Some r → P r
by_pick P n [] each r e = none_some P r e
by_pick P n ((k, b, x) ∷ rest) each r e = by_test P r (n == k) (pick n rest) x b (λ t. each.0 (eqb-true n k t)) (by_pick P n rest each.1 r) e

pub both : (b c : Bool) → b && c ≡ true → (b ≡ true) × (c ≡ true)
both true c e = (refl, e)
both false c e = let z : false ≡ true = e in absurd (grind arith)
