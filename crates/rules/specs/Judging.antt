-- What it is that records keep a rule, and which breaks it first.
use Rattle.std.specs.Prelude.{◌≡◌, ℕ, ◌+◌, ◌<◌, Bool, true, not, List, [], ◌∷◌, Some, None, Option, position}
use Rattle.std.specs.List.{slice_get, range_with_len}
use Rattle.std.specs.Option.{option_map, option_map_or, option_or}
use Rattle.records.specs.Lists.{list_number}
use Rattle.records.specs.declared.list.ListOf.{ListOf}
use Rattle.records.specs.declared.list.ListOf.TheVariants as list
use Rattle.records.specs.declared.record.RecordFault.{RecordFault}
use Rattle.content.specs.declared.kind.Kind.{Kind}
use Rattle.content.specs.declared.typed.Typed.{Typed}
use Rattle.content.specs.declared.global.Global.{Global}
use Rattle.content.specs.declared.function.Function.{Function}
use Rattle.content.specs.declared.instruction.Instruction.{Instruction}
use Rattle.parts.specs.Content.{Content}
use Rattle.rules.specs.declared.rule.Rule.{Rule}
use Rattle.rules.specs.declared.rule.Rule.TheVariants.{Names, Types}
use Rattle.rules.specs.declared.fault.RuleFault.{RuleFault}
use Rattle.rules.specs.declared.fault.RuleFault.TheVariants.{Meaningless, Unnamed, Mistyped}
use Rattle.rules.specs.Keeping.{kind_keeps, typed_keeps, global_keeps, function_keeps, instruction_keeps}

-- every record keeps the rule, and so does each instruction in every function that has it
pub record Kept (r : Rule) (c : Content) : Type 0 where
  pub types : (k : ℕ) (t : Kind) → slice_get c.types k ≡ Some t → kind_keeps r c t ≡ true
  pub fields : (k : ℕ) (t : Typed) → slice_get c.fields k ≡ Some t → typed_keeps r c t ≡ true
  pub globals : (k : ℕ) (g : Global) → slice_get c.globals k ≡ Some g → global_keeps r c g ≡ true
  pub locals : (k : ℕ) (t : Typed) → slice_get c.locals k ≡ Some t → typed_keeps r c t ≡ true
  pub functions : (k : ℕ) (f : Function) → slice_get c.functions k ≡ Some f → function_keeps r c f ≡ true
  pub code : (k : ℕ) (f : Function) (i : ℕ) (o : Instruction) → slice_get c.functions k ≡ Some f → i < f.count → slice_get c.code (f.first + i) ≡ Some o → instruction_keeps r c f i o ≡ true

-- the first item at which the test fails, by its place
abbrev pub first_in : {R : Type 0} → (R → Bool) → List R → Option ℕ
first_in test rs = position (λ r. not (test r)) rs

-- the instruction at place i of function f keeps the rule; what isn't there breaks nothing
abbrev pub place_keeps : Rule → Content → Function → ℕ → Bool
place_keeps r c f i = option_map_or (instruction_keeps r c f i) (slice_get c.code (f.first + i)) true

-- the first instruction of a function that breaks the rule there, by its place in the list of code
abbrev pub broken_by : Rule → Content → Function → Option ℕ
broken_by r c f = option_map (λ k. f.first + k) (first_in (place_keeps r c f) (range_with_len 0 f.count))

-- the first instruction that breaks the rule, function by function
abbrev pub broken_by_any : Rule → Content → List Function → Option ℕ
broken_by_any r c [] = None
broken_by_any r c (f ∷ fs) = option_or (broken_by r c f) (broken_by_any r c fs)

-- the first record of a list that breaks the rule
abbrev pub broken : Rule → Content → ListOf → Option ℕ
broken r c list.Types = first_in (kind_keeps r c) c.types
broken r c list.Fields = first_in (typed_keeps r c) c.fields
broken r c list.Globals = first_in (global_keeps r c) c.globals
broken r c list.Locals = first_in (typed_keeps r c) c.locals
broken r c list.Functions = first_in (function_keeps r c) c.functions
broken r c list.Code = broken_by_any r c c.functions

-- f names the first record of the first list in which one breaks the rule
abbrev pub FirstBroken : Rule → Content → RecordFault → Type 0
FirstBroken r c f = (broken r c f.list ≡ Some f.record) × ((l : ListOf) → list_number l < list_number f.list → broken r c l ≡ None)

-- no record breaks the rule
abbrev pub Unbroken : Rule → Content → Type 0
Unbroken r c = (l : ListOf) → broken r c l ≡ None

-- which rule the content breaks first, and where
abbrev pub Breaks : Content → RuleFault → Type 0
Breaks c (Meaningless f) = ⊥
Breaks c (Unnamed f) = FirstBroken Names c f
Breaks c (Mistyped f) = Kept Names c × FirstBroken Types c f
