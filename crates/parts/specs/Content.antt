-- What an image says, and the arrays that keep it.
use Rattle.std.specs.Prelude.{ℕ, List, length, take}
use Rattle.content.specs.declared.kind.Kind.{Kind}
use Rattle.content.specs.declared.typed.Typed.{Typed}
use Rattle.content.specs.declared.global.Global.{Global}
use Rattle.content.specs.declared.function.Function.{Function}
use Rattle.content.specs.declared.instruction.Instruction.{Instruction}
use Rattle.header.specs.declared.counts.Counts.{Counts}
use Rattle.content.specs.declared.kind.Kind.TheVariants.{Number}
use Rattle.content.specs.declared.instruction.Instruction.TheVariants.{Return}
use Rattle.content.specs.Records.{kind_from, typed_from, global_from, function_from, instruction_from}
use Rattle.records.specs.Rows.{readings}
use Rattle.parts.specs.declared.image.Image.{Image}
use Rattle.parts.specs.declared.lists.Lists.{Lists}
use Rattle.parts.specs.declared.parts.Parts.{Parts}

-- what a module says: its memory size, its depth as written, and its six lists
pub record Content : Type 0 where
  pub memory : ℕ
  pub depth : ℕ
  pub types : List Kind
  pub fields : List Typed
  pub globals : List Global
  pub locals : List Typed
  pub functions : List Function
  pub code : List Instruction

abbrev pub viewed : Lists → Content
viewed l =
    record {
      memory = l.memory;
      depth = l.depth;
      types = l.types.now;
      fields = l.fields.now;
      globals = l.globals.now;
      locals = l.locals.now;
      functions = l.functions.now;
      code = l.code.now;
    }

abbrev pub content : Parts → Content
content p =
    let n = p.header.counts in
    record {
      memory = p.header.memory;
      depth = p.header.depth;
      types = take n.types p.types;
      fields = take n.fields p.fields;
      globals = take n.globals p.globals;
      locals = take n.locals p.locals;
      functions = take n.functions p.functions;
      code = take n.code p.code;
    }

-- lists as they stand in an image
abbrev pub kinds : List (List (List ℕ)) → List Kind
kinds rs = readings kind_from Number rs

abbrev pub typed : List (List (List ℕ)) → List Typed
typed rs = readings typed_from (record { kind = 0 }) rs

abbrev pub globals : List (List (List ℕ)) → List Global
globals rs = readings global_from (record { kind = 0; count = 1 }) rs

abbrev pub functions : List (List (List ℕ)) → List Function
functions rs = readings function_from (record { first = 0; count = 1; first_local = 0; locals = 0 }) rs

abbrev pub code : List (List (List ℕ)) → List Instruction
code rs = readings instruction_from Return rs

abbrev pub shown : Image → Content
shown i =
    record {
      memory = i.header.memory;
      depth = i.header.depth;
      types = kinds i.types.now;
      fields = typed i.fields.now;
      globals = globals i.globals.now;
      locals = typed i.locals.now;
      functions = functions i.functions.now;
      code = code i.code.now;
    }

-- how many records each list has
abbrev pub lengths : Content → Counts
lengths c = record { types = length c.types; fields = length c.fields; globals = length c.globals; locals = length c.locals; functions = length c.functions; code = length c.code }
