-- What the calls of a store mean: what is held at each address and which addresses are taken, before and after.
use Rattle.std.specs.Prelude.{◌≡◌, ℕ, Bool, true, is_some, Some, None, Option, ◌≢◌}

-- No yes turns into a no elsewhere than at a.
abbrev pub StillTaken : (ℕ → Bool) → (ℕ → Bool) → ℕ → Type 0
StillTaken taken taken' a = (b : ℕ) → (b ≢ a) → taken b ≡ true → taken' b ≡ true

module _ {V : Type 0} where
  -- Held addresses are taken.
  abbrev pub HeldTaken : (ℕ → Option V) → (ℕ → Bool) → Type 0
  HeldTaken entry taken = (a : ℕ) → is_some (entry a) ≡ true → taken a ≡ true

  -- The address a isn't spoken of: what stands at every other one stays.
  abbrev pub OthersStay : (ℕ → Option V) → (ℕ → Option V) → ℕ → Type 0
  OthersStay entry entry' a = (b : ℕ) → (b ≢ a) → entry' b ≡ entry b

  -- A put of v at a that isn't refused.
  pub record Put (entry entry' : ℕ → Option V) (taken taken' : ℕ → Bool) (a : ℕ) (v : V) : Type 0 where
    pub holds : entry' a ≡ Some v
    pub others : OthersStay entry entry' a
    pub still : is_some (entry a) ≡ true → StillTaken taken taken' a

  -- A drop at a.
  pub record Dropped (entry entry' : ℕ → Option V) (taken taken' : ℕ → Bool) (a : ℕ) : Type 0 where
    pub gone : entry' a ≡ None
    pub others : OthersStay entry entry' a
    pub free : is_some (entry a) ≡ true → taken' a ≡ true
    pub still : StillTaken taken taken' a

-- What holds over no call, and over two if over each, holds over any number of them.
pub record Lasting {S : Type 0} (kept : S → S → Type 0) : Type 0 where
  pub same : (s : S) → kept s s
  pub chained : (s t u : S) → kept s t → kept t u → kept s u
