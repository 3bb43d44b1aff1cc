-- What holds of each item of a list, and which items a list has after one was put in.
use Rattle.std.proofs.Common.{◌≡◌, ℕ, zero, suc, ◌⊎◌, inl, inr, ⊎_elim, arith, List, [], ◌∷◌, ◌++◌, length, replicate, slice_index_or, slice_set, Some, refl, subst}
use Rattle.std.specs.List.{slice_get}

module _ {X : Type 0} where
  abbrev pub Each : (X → Type 0) → List X → Type 0
  Each P xs = (k : ℕ) (x : X) → slice_get xs k ≡ Some x → P x

  pub each_none : (P : X → Type 0) → Each P []
  each_none P k x e = absurd (cc)

  pub each_cons : (P : X → Type 0) (x : X) (xs : List X) → P x → Each P xs → Each P (x ∷ xs)
  each_cons P x xs p ps zero y e = let q : x ≡ y = cc in rw (← q) p
  each_cons P x xs p ps (suc k) y e = ps k y e

  pub each_first : (P : X → Type 0) (x : X) (xs : List X) → Each P (x ∷ xs) → P x
  each_first P x xs ps = ps 0 x refl

  pub each_rest : (P : X → Type 0) (x : X) (xs : List X) → Each P (x ∷ xs) → Each P xs
  each_rest P x xs ps k y e = ps (suc k) y e

  -- copies of one item
  pub each_copy : (P : X → Type 0) (n : ℕ) (x : X) → P x → Each P (replicate n x)
  each_copy P zero x p = each_none P
  each_copy P (suc n) x p = each_cons P x (replicate n x) p (each_copy P n x p)

  -- after a set, an item was there or is the one put in
  pub set_cases : (xs : List X) (i : ℕ) (a : X) (k : ℕ) (x : X) → slice_get (slice_set xs i a) k ≡ Some x → (slice_get xs k ≡ Some x) ⊎ ((k ≡ i) × (a ≡ x))
  set_cases [] i a k x e = inl e
  set_cases (y ∷ ys) zero a zero x e = inr (refl, cc)
  set_cases (y ∷ ys) zero a (suc k) x e = inl e
  set_cases (y ∷ ys) (suc i) a zero x e = inl e
  set_cases (y ∷ ys) (suc i) a (suc k) x e = ⊎_elim (λ p. inl p) (λ p. inr (cc, p.1)) (set_cases ys i a k x e)

  pub each_set : (P : X → Type 0) (xs : List X) (i : ℕ) (a : X) → P a → Each P xs → Each P (slice_set xs i a)
  each_set P xs i a p ps k x e = ⊎_elim (λ q. ps k x q) (λ q. subst P q.1 p) (set_cases xs i a k x e)

  -- what is read at a place stands there, or is the default
  pub each_read_or : (P : X → Type 0) (xs : List X) (k : ℕ) (d : X) → P d → Each P xs → P (slice_index_or xs k d)
  each_read_or P [] k d p ps = p
  each_read_or P (y ∷ ys) zero d p ps = ps 0 y refl
  each_read_or P (y ∷ ys) (suc k) d p ps = each_read_or P ys k d p (each_rest P y ys ps)

  -- what is read at a place, and isn't the default, stands there
  pub read_there : (xs : List X) (k : ℕ) (d x : X) → slice_index_or xs k d ≡ x → (d ≡ x → ⊥) → slice_get xs k ≡ Some x
  read_there [] k d x e n = absurd (n e)
  read_there (y ∷ ys) zero d x e n = cc
  read_there (y ∷ ys) (suc k) d x e n = read_there ys k d x e n

  -- a longer list has the same items at the same places, and then its last
  pub get_more : (xs : List X) (y : X) (k : ℕ) (x : X) → slice_get xs k ≡ Some x → slice_get (xs ++ y ∷ []) k ≡ Some x
  get_more [] y k x e = absurd (cc)
  get_more (z ∷ xs) y zero x e = e
  get_more (z ∷ xs) y (suc k) x e = get_more xs y k x e

  pub get_last : (xs : List X) (y : X) → slice_get (xs ++ y ∷ []) (length xs) ≡ Some y
  get_last [] y = refl
  get_last (z ∷ xs) y = get_last xs y

  -- and no others
  pub get_cases : (xs : List X) (y : X) (k : ℕ) (x : X) → slice_get (xs ++ y ∷ []) k ≡ Some x → (slice_get xs k ≡ Some x) ⊎ ((k ≡ length xs) × (y ≡ x))
  get_cases [] y zero x e = inr (refl, cc)
  get_cases [] y (suc k) x e = absurd (cc)
  get_cases (z ∷ xs) y zero x e = inl e
  get_cases (z ∷ xs) y (suc k) x e = ⊎_elim (λ p. inl p) (λ p. inr (omega (arith, p.0), p.1)) (get_cases xs y k x e)
