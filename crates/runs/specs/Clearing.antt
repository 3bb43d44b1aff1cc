-- A store whose addresses below a limit were dropped.
use Rattle.std.specs.Prelude.{◌≡◌, ℕ, ◌<◌, ◌≤◌, true, is_some, None}
use Rattle.machine.specs.Machine.{Entries, Taken}

-- below n nothing is held, and each address that was held there is taken; from n on all is held as before, and what was taken still is
pub record Cleared (n : ℕ) (e : Entries) (t : Taken) (e' : Entries) (t' : Taken) : Type 0 where
  pub gone : (a : ℕ) → a < n → e' a ≡ None
  pub free : (a : ℕ) → a < n → is_some (e a) ≡ true → t' a ≡ true
  pub others : (a : ℕ) → n ≤ a → e' a ≡ e a
  pub still : (a : ℕ) → n ≤ a → t a ≡ true → t' a ≡ true
