-- What a run of records was made of.
use Rattle.std.proofs.Common.{◌≡◌, ℕ, List, ◌∷◌, Some, None, Ok, Err, Option, Result, sym, refl}
use Rattle.records.specs.Records.{before}

module _ {R : Type 0} where
  pub ok_same : (xs ys : List R) → ◌≡◌ {A = Result (List R) ℕ} (Ok xs) (Ok ys) → xs ≡ ys
  ok_same xs ys e = cc

  -- a run of records with one in front
  pub record Led (o : Option R) (r : Result (List R) ℕ) (xs : List R) : Type 0 where
    pub head : R
    pub tail : List R
    pub head_is : o ≡ Some head
    pub tail_is : r ≡ Ok tail
    pub all_is : xs ≡ head ∷ tail

  pub led : (o : Option R) (r : Result (List R) ℕ) (xs : List R) → before o r ≡ Ok xs → Led o r xs
  led None r xs e = absurd (cc)
  led (Some x) (Ok rs) xs e = record { head = x; tail = rs; head_is = refl; tail_is = refl; all_is = sym (ok_same _ _ e) }
  led (Some x) (Err k) xs e = absurd (cc)
