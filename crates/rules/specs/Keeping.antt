-- What each record must keep, for either rule.
use Rattle.std.specs.Prelude.{ℕ, ◌+◌, Bool, true, false, cond, ◌&&◌, length, is_some, Option, ◌==◌, nat_le, nat_lt}
use Rattle.std.specs.List.{slice_get}
use Rattle.std.specs.Option.{option_map}
use Rattle.content.specs.declared.kind.Kind.{Kind}
use Rattle.content.specs.declared.kind.Kind.TheVariants as kind
use Rattle.content.specs.declared.typed.Typed.{Typed}
use Rattle.content.specs.declared.global.Global.{Global}
use Rattle.content.specs.declared.function.Function.{Function}
use Rattle.content.specs.declared.instruction.Instruction.{Instruction}
use Rattle.content.specs.declared.instruction.Instruction.TheVariants as op
use Rattle.parts.specs.Content.{Content}
use Rattle.rules.specs.declared.rule.Rule.{Rule}
use Rattle.rules.specs.declared.rule.Rule.TheVariants.{Names, Types}
use Rattle.rules.specs.Types.{atomic, size, number, function, pointee, field_type, kind_at, local_type, same}

-- a pointer names a type, a record a range of fields
abbrev pub kind_keeps : Rule → Content → Kind → Bool
kind_keeps Names c (kind.Pointer to) = nat_lt to (length c.types)
kind_keeps Names c (kind.Fields first count) = nat_le (first + count) (length c.fields)
kind_keeps _ c _ = true

-- fields and locals name a type, which is atomic
abbrev pub typed_keeps : Rule → Content → Typed → Bool
typed_keeps Names c t = nat_lt t.kind (length c.types)
typed_keeps Types c t = atomic (slice_get c.types t.kind)

-- globals name a type, which is atomic or a record
abbrev pub global_keeps : Rule → Content → Global → Bool
global_keeps Names c g = nat_lt g.kind (length c.types)
global_keeps Types c g = is_some (size (slice_get c.types g.kind))

-- functions name a range of instructions and a range of locals
abbrev pub function_keeps : Rule → Content → Function → Bool
function_keeps Names c f = nat_le (f.first + f.count) (length c.code) && nat_le (f.first_local + f.locals) (length c.locals)
function_keeps Types c f = true

module _ (c : Content) (f : Function) where
  -- the kind of local x
  abbrev pub kind_of : ℕ → Option Kind
  kind_of x = kind_at c.types (local_type c.locals f x)

  -- the type that it points at
  abbrev pub target : ℕ → Option ℕ
  target x = pointee (kind_of x)

  -- the kind of what it points at
  abbrev pub target_kind : ℕ → Option Kind
  target_kind x = kind_at c.types (target x)

  -- local x is there
  abbrev pub here : ℕ → Bool
  here x = nat_lt x f.locals

  -- what an instruction names is there: locals and places of its function, functions, globals; and its types are right, the same where their numbers are
  abbrev pub instruction_row : Instruction → Bool × Bool
  instruction_row (op.Set x n) = (here x, number (kind_of x))
  instruction_row (op.Add x y z) = (here x && here y && here z, number (kind_of x) && number (kind_of y) && number (kind_of z))
  instruction_row (op.Subtract x y z) = (here x && here y && here z, number (kind_of x) && number (kind_of y) && number (kind_of z))
  instruction_row (op.Less x y z) = (here x && here y && here z, number (kind_of x) && number (kind_of y) && number (kind_of z))
  instruction_row (op.Cast x y) = (here x && here y, true)
  instruction_row (op.Jump to) = (nat_lt to f.count, true)
  instruction_row (op.Branch x to) = (here x && nat_lt to f.count, number (kind_of x))
  instruction_row (op.Function x g) = (here x && nat_lt g (length c.functions), function (target_kind x))
  instruction_row (op.Global x g) = (here x && nat_lt g (length c.globals), same (target x) (option_map (λ h. h.kind) (slice_get c.globals g)))
  instruction_row (op.Allocate x y) = (here x && here y, is_some (size (target_kind x)) && number (kind_of y))
  instruction_row (op.Move x y z) =
      (here x && here y && here z, same (local_type c.locals f x) (local_type c.locals f y) && is_some (size (target_kind x)) && number (kind_of z))
  instruction_row (op.Field x y k) = (here x && here y, same (target x) (field_type c.fields (target_kind y) k))
  instruction_row (op.Load x y) = (here x && here y, same (target y) (local_type c.locals f x))
  instruction_row (op.Store x y) = (here x && here y, same (target y) (local_type c.locals f x))
  instruction_row (op.Call g) = (nat_lt g (length c.functions), true)
  instruction_row (op.CallThrough x) = (here x, function (target_kind x))
  instruction_row op.Return = (true, true)

-- the instructions that may stand last
abbrev pub ends : Instruction → Bool
ends (op.Jump to) = true
ends op.Return = true
ends _ = false

-- the instruction at place i of function f
abbrev pub instruction_keeps : Rule → Content → Function → ℕ → Instruction → Bool
instruction_keeps Names c f i o = (instruction_row c f o).0
instruction_keeps Types c f i o = (instruction_row c f o).1 && cond (i + 1 == f.count) (ends o) true
