-- What a module says, and what is asked of it.
use Rattle.std.specs.Prelude.{ℕ, zero, suc, ◌+◌, Bool, cond, List, [], ◌∷◌, Some, None, Option, nat_lt, slice_index_or}
use Rattle.content.specs.declared.kind.Kind.TheVariants.{Number}
use Rattle.content.specs.declared.function.Function.{Function}
use Rattle.content.specs.declared.instruction.Instruction.{Instruction}
use Rattle.content.specs.declared.instruction.Instruction.TheVariants.{Return}
use Rattle.std.specs.List.{slice_get}
use Rattle.parts.specs.Content.{Content, content}
use Rattle.sensitivity.specs.Sensitive.{First, Links, Sensitive}
use Rattle.tables.specs.Tables.{layout_at, plain}
use Rattle.tables.specs.declared.layout.Local.{Local}
use Rattle.writing.specs.Image.{image_of}
use Rattle.module.specs.declared.module.Module.{Module}

-- what a module says
abbrev pub said : Module → Content
said m = content m.parts

-- a module's image
abbrev pub image : Module → List ℕ
image m = image_of (said m)

-- a link leads from type t to the sensitive type j
abbrev pub SensitiveLink : Content → ℕ → ℕ → Type 0
SensitiveLink c t j = Links c.fields (slice_get c.types t) j × Sensitive c.types c.fields j

-- no field of the record t in front of the one that leads to j leads to a sensitive type
abbrev pub FirstLink : Content → ℕ → ℕ → Type 0
FirstLink c t j = First c.fields (Sensitive c.types c.fields) (slice_get c.types t) j

-- no link leads from type t to a sensitive type
abbrev pub NoLink : Content → ℕ → Type 0
NoLink c t = (j : ℕ) → SensitiveLink c t j → ⊥

-- how many frames may stand: a depth of 0 stands for 16
abbrev pub frames : ℕ → ℕ
frames zero = 16
frames (suc d) = suc d

-- the instruction at place i of a function
abbrev pub in_function : Content → Option Function → ℕ → Option Instruction
in_function c None i = None
in_function c (Some f) i = cond (nat_lt i f.count) (slice_get c.code (f.first + i)) None

-- the instruction at place i of function k, if there are both
abbrev pub instruction_at : Content → ℕ → ℕ → Option Instruction
instruction_at c k i = in_function c (slice_get c.functions k) i

-- what has to be known of local x of function k; all plain where there is none
abbrev pub local_at : Content → List Bool → ℕ → ℕ → Local
local_at c marks k x = slice_index_or (layout_at c marks k) x plain

-- what a module says before any reading
abbrev pub fresh : Content
fresh =
    record {
      memory = 1;
      depth = 1;
      types = Number ∷ [];
      fields = [];
      globals = [];
      locals = [];
      functions = record { first = 0; count = 1; first_local = 0; locals = 0 } ∷ [];
      code = Return ∷ [];
    }
