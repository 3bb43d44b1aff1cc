-- Parts of what the rules ask, by the names that the code has.
use Rattle.std.specs.Prelude.{ℕ, Bool, is_some, Option}
use Rattle.std.specs.Option.{option_map}
use Rattle.content.specs.declared.kind.Kind.{Kind}
use Rattle.content.specs.declared.typed.Typed.{Typed}
use Rattle.content.specs.declared.global.Global.{Global}
use Rattle.content.specs.declared.function.Function.{Function}
use Rattle.content.specs.declared.instruction.Instruction.{Instruction}
use Rattle.parts.specs.Content.{Content}
use Rattle.rules.specs.Types.{size}
use Rattle.rules.specs.Keeping.{instruction_row}

abbrev pub sized : Option Kind → Bool
sized o = is_some (size o)

abbrev pub type_of : Option Typed → Option ℕ
type_of = option_map (λ t. t.kind)

abbrev pub global_type : Option Global → Option ℕ
global_type = option_map (λ g. g.kind)

-- an instruction names what is there
abbrev pub named : Content → Function → Instruction → Bool
named c f o = (instruction_row c f o).0

-- an instruction's types are right
abbrev pub typed : Content → Function → Instruction → Bool
typed c f o = (instruction_row c f o).1
