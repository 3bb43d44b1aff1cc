-- How a local keeps its value in eight bytes: a word, and a pair of which data is told by a low that isn't above the last.
use Rattle.std.specs.Prelude.{◌≡◌, ℕ, ◌+◌, ◌-◌, ◌<◌, ◌≤◌, cond, ◌==◌, Some, None, Option}
use Rattle.values.specs.declared.bounds.Bounds.{Bounds}
use Rattle.machine.specs.declared.held.Held.TheInside.{Inside}
use Rattle.machine.specs.Values.{Value, Plain, Marked, Code, Data, bounds_if, bounds_of}
use Rattle.std.proofs.Common.{rules}

-- 1 and 0 stand for plain, 2 and 0 for code
abbrev pub told : ℕ → ℕ → Option Bounds → Value
told w low (Some b) = Marked (Data w b)
told w low None = cond (low == 1) (Plain w) (Marked (Code w))

abbrev pub valued : Inside → Value
valued a = told a.word a.low (bounds_of a.low (a.last + 1))

abbrev pub unvalued : Value → Inside
unvalued (Plain w) = record { word = w; low = 1; last = 0 }
unvalued (Marked (Code w)) = record { word = w; low = 2; last = 0 }
unvalued (Marked (Data w b)) = record { word = w; low = b.low; last = b.high - 1 }

-- no other pair stands for no data
pub record Tidy (low last : ℕ) : Type 0 where
  pub small : last < 65536
  pub marks : last < low → (last ≡ 0) × (low ≤ 2)

-- a value is kept in one way alone
pub unvalued_valued : (a : Inside) → Tidy a.low a.last → unvalued (valued a) ≡ a
unfolding bounds_of bounds_if
unvalued_valued a t = search rules
