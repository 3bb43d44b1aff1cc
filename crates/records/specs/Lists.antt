-- The lists of an image, in their order, and where a record stands in them.
use Rattle.std.specs.Prelude.{ℕ, List, ◌++◌, codes, decimal}
use Rattle.records.specs.declared.list.ListOf.{ListOf}
use Rattle.records.specs.declared.list.ListOf.TheVariants.{Types, Fields, Globals, Locals, Functions, Code}
use Rattle.records.specs.declared.record.RecordFault.{RecordFault}

abbrev pub list_number : ListOf → ℕ
list_number Types = 0
list_number Fields = 1
list_number Globals = 2
list_number Locals = 3
list_number Functions = 4
list_number Code = 5

abbrev pub list_name : ListOf → List ℕ
list_name Types = codes "types"
list_name Fields = codes "fields"
list_name Globals = codes "globals"
list_name Locals = codes "locals"
list_name Functions = codes "functions"
list_name Code = codes "code"

-- a record's place, told by its list's name
abbrev pub place_text : RecordFault → List ℕ
place_text f = list_name f.list ++ (codes ", record " ++ decimal f.«record»)
