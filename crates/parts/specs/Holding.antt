-- When an image holds a content.
use Rattle.std.specs.Prelude.{◌≡◌, ℕ, ◌<◌, List, drop, Some, None, Ok, Err, Option, Result}
use Rattle.std.specs.Borrow.{Bor}
use Rattle.std.specs.Result.{result_err}
use Rattle.records.specs.Records.{records}
use Rattle.records.specs.Rows.{rows}
use Rattle.records.specs.Lists.{list_number}
use Rattle.records.specs.declared.list.ListOf.{ListOf}
use Rattle.records.specs.declared.list.ListOf.TheVariants.{Types, Fields, Globals, Locals, Functions, Code}
use Rattle.records.specs.declared.record.RecordFault.{RecordFault}
use Rattle.content.specs.Records.{kind_from, typed_from, global_from, function_from, instruction_from}
use Rattle.header.specs.declared.counts.Counts.{Counts}
use Rattle.header.specs.Header.{fields_at, globals_at, locals_at, functions_at, code_at, counts_in, Headed}
use Rattle.parts.specs.Content.{Content}

-- the lists at the places where the counts n put them in the image s say c
pub record Listed (s : List ℕ) (n : Counts) (c : Content) : Type 0 where
  pub types_are : records kind_from 3 n.types (drop 60 s) ≡ Ok c.types
  pub fields_are : records typed_from 1 n.fields (drop (fields_at n) s) ≡ Ok c.fields
  pub globals_are : records global_from 2 n.globals (drop (globals_at n) s) ≡ Ok c.globals
  pub locals_are : records typed_from 1 n.locals (drop (locals_at n) s) ≡ Ok c.locals
  pub functions_are : records function_from 4 n.functions (drop (functions_at n) s) ≡ Ok c.functions
  pub code_is : records instruction_from 4 n.code (drop (code_at n) s) ≡ Ok c.code

-- the first record of a list that means nothing
abbrev pub meaningless : List ℕ → Counts → ListOf → Option ℕ
meaningless s n Types = result_err (records kind_from 3 n.types (drop 60 s))
meaningless s n Fields = result_err (records typed_from 1 n.fields (drop (fields_at n) s))
meaningless s n Globals = result_err (records global_from 2 n.globals (drop (globals_at n) s))
meaningless s n Locals = result_err (records typed_from 1 n.locals (drop (locals_at n) s))
meaningless s n Functions = result_err (records function_from 4 n.functions (drop (functions_at n) s))
meaningless s n Code = result_err (records instruction_from 4 n.code (drop (code_at n) s))

-- f names the first record of the first list in which one means nothing
pub record FirstMeaningless (s : List ℕ) (n : Counts) (f : RecordFault) : Type 0 where
  pub here : meaningless s n f.list ≡ Some f.record
  pub earlier : (l : ListOf) → list_number l < list_number f.list → meaningless s n l ≡ None

-- one list, as it stands there, or its first record that means nothing
abbrev pub RowsRead : {R : Type 0} → (List ℕ → Option R) → ℕ → ℕ → ListOf → List ℕ → Result (Bor (List (List (List ℕ)))) RecordFault → Type 0
RowsRead meant w count list s (Ok found) = (result_err (records meant w count s) ≡ None) × (found.now ≡ rows w count s)
RowsRead meant w count list s (Err f) = (f.list ≡ list) × (records meant w count s ≡ Err f.record)

-- the image s is laid out right, each of its records means something, and together they say c
pub record Holds (s : List ℕ) (c : Content) : Type 0 where
  pub headed : Headed s c.memory c.depth (counts_in s)
  pub listed : Listed s (counts_in s) c
