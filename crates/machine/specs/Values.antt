-- A value's word and mark.
use Rattle.std.specs.Prelude.{◌≡◌, ℕ, ◌+◌, ◌%◌, ◌^◌, Bool, true, List, ◌++◌, Some, None, Option, refl, codes, decimal, nat_lt, nat_le}
use Rattle.values.specs.Written.{written}
use Rattle.values.specs.declared.bounds.Bounds.{Bounds}
pub use Rattle.values.specs.declared.marked.Marked.{Marked as Mark}
pub use Rattle.values.specs.declared.marked.Marked.TheVariants.{Code, Data}
pub use Rattle.machine.specs.declared.value.Value.{Value}
pub use Rattle.machine.specs.declared.value.Value.TheVariants.{Plain, Marked}
use Rattle.std.proofs.lemmas.Bool.{ltb-true, leb-true}

-- its word
abbrev pub word : Value → ℕ
word (Plain w) = w
word (Marked (Code f)) = f
word (Marked (Data w b)) = w

-- how a value is written
abbrev pub value_text : Value → List ℕ
value_text (Plain w) = codes "p:" ++ decimal w
value_text (Marked m) = written m

-- the same mark at another word
abbrev pub with_word : Value → ℕ → Value
with_word (Plain w) n = Plain n
with_word (Marked (Code f)) n = Marked (Code n)
with_word (Marked (Data w b)) n = Marked (Data n b)

-- the bounds from low to high, as two tests come out
unfoldable pub bounds_if : (low high : ℕ) (l h : Bool) → nat_lt low high ≡ l → nat_le high 65536 ≡ h → Option Bounds
bounds_if low high true true p q = Some (record { low = low; high = high; some = ltb-true low high p; inside = leb-true high 65536 q })
bounds_if low high _ _ p q = None

-- the bounds from low to high, if low is below high and high at most 65,536
unfoldable pub bounds_of : ℕ → ℕ → Option Bounds
bounds_of low high = bounds_if low high (nat_lt low high) (nat_le high 65536) refl refl

-- data at the word w with these bounds
abbrev pub data_in : Option Bounds → ℕ → Value
data_in None w = Plain w
data_in (Some b) w = Marked (Data w b)

-- what a load reads: the store's value or, without one, the memory's word
abbrev pub read : Option Mark → ℕ → Value
read None w = Plain w
read (Some v) w = Marked v

-- words wrap around
abbrev pub wrapped : ℕ → ℕ
wrapped n = n % 2 ^ 32
