-- How a fault of a record is told, with the record's place behind it.
use Rattle.std.specs.Prelude.{ℕ, List, ◌++◌, codes}
use Rattle.records.specs.Lists.{place_text}
use Rattle.rules.specs.declared.fault.RuleFault.{RuleFault}
use Rattle.rules.specs.declared.fault.RuleFault.TheVariants.{Meaningless, Unnamed, Mistyped}

-- a fault's meaning, and the record's place
abbrev pub rule_text : RuleFault → List ℕ
rule_text (Meaningless f) = codes "an unknown kind or op, or a count or unused word out of range: " ++ place_text f
rule_text (Unnamed f) = codes "a number names nothing in its list or function: " ++ place_text f
rule_text (Mistyped f) = codes "a type rule is broken: " ++ place_text f
