-- How a refusal is told: in numbers, and in words.
use Rattle.std.specs.Prelude.{ℕ, List, ◌++◌, Some, None, Option, codes, decimal}
use Rattle.records.specs.Lists.{list_number}
use Rattle.records.specs.declared.record.RecordFault.{RecordFault}
use Rattle.header.specs.Texts.{header_text}
use Rattle.rules.specs.Texts.{rule_text}
use Rattle.module.specs.declared.fault.ModuleFault.{ModuleFault}
use Rattle.module.specs.declared.fault.ModuleFault.TheVariants.{Header, Rule, Globals}
use Rattle.module.specs.declared.fault.Refusal.{Refusal}
use Rattle.module.specs.Refusals.{refusal_of}

-- the list's number and the record's, 0 and 0 where no record is named
abbrev pub place_numbers : Option RecordFault → List ℕ
place_numbers None = codes "0 0"
place_numbers (Some f) = decimal (list_number f.list) ++ (codes " " ++ decimal f.«record»)

abbrev pub refusal_text : Refusal → List ℕ
refusal_text r = decimal r.number ++ (codes " " ++ place_numbers r.place)

abbrev pub meaning : ModuleFault → List ℕ
meaning (Header f) = header_text f
meaning (Rule f) = rule_text f
meaning Globals = codes "the globals take more words than the memory has"

-- a fault's number and meaning, and the place of the record that it names
abbrev pub fault_text : ModuleFault → List ℕ
fault_text f = decimal (refusal_of f).number ++ (codes ": " ++ meaning f)
