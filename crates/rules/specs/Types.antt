-- What a type is.
use Rattle.std.specs.Prelude.{ℕ, ◌+◌, Bool, true, false, cond, ◌||◌, List, is_some, Some, None, Option, ◌==◌, nat_lt}
use Rattle.std.specs.List.{slice_get}
use Rattle.std.specs.Option.{option_and_then, option_map}
use Rattle.content.specs.declared.kind.Kind.{Kind}
use Rattle.content.specs.declared.kind.Kind.TheVariants as kind
use Rattle.content.specs.declared.typed.Typed.{Typed}
use Rattle.content.specs.declared.function.Function.{Function}

-- how many words a type takes: atomic types and records are sized: an atomic type takes one word, a record one word a field
abbrev pub size : Option Kind → Option ℕ
size (Some kind.Number) = Some 1
size (Some (kind.Pointer to)) = Some 1
size (Some (kind.Fields first count)) = Some count
size _ = None

-- whether a type is number
abbrev pub number : Option Kind → Bool
number (Some kind.Number) = true
number _ = false

-- whether a type is function
abbrev pub function : Option Kind → Bool
function (Some kind.Function) = true
function _ = false

-- the type that a pointer points at
abbrev pub pointee : Option Kind → Option ℕ
pointee (Some (kind.Pointer to)) = Some to
pointee _ = None

-- numbers and pointers are atomic: they take one word
abbrev pub atomic : Option Kind → Bool
atomic o = number o || is_some (pointee o)

-- the type of field k of a record
abbrev pub field_type : List Typed → Option Kind → ℕ → Option ℕ
field_type fields (Some (kind.Fields first count)) k = cond (nat_lt k count) (option_map (λ t. t.kind) (slice_get fields (first + k))) None
field_type fields _ k = None

-- the kind of a type, if there is one
abbrev pub kind_at : List Kind → Option ℕ → Option Kind
kind_at types = option_and_then (slice_get types)

-- the type of local x of a function
abbrev pub local_type : List Typed → Function → ℕ → Option ℕ
local_type locals f x = cond (nat_lt x f.locals) (option_map (λ t. t.kind) (slice_get locals (f.first_local + x))) None

-- both are there and the same
abbrev pub same : Option ℕ → Option ℕ → Bool
same (Some a) (Some b) = a == b
same _ _ = false
