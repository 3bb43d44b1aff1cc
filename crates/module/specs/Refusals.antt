-- The number of an image's first fault, the record that it names, and how it is told.
use Rattle.std.specs.Prelude.{ℕ, List, Some, None}
use Rattle.records.specs.Words.{word_at}
use Rattle.header.specs.Header.{Headed, HeaderBad, counts_in}
use Rattle.parts.specs.Content.{Content}
use Rattle.parts.specs.Holding.{Holds}
use Rattle.rules.specs.declared.rule.Rule.TheVariants.{Names, Types}
use Rattle.rules.specs.Judging.{Kept}
use Rattle.rules.specs.Faults.{RecordsBad}
use Rattle.tables.specs.Tables.{Over}
use Rattle.header.specs.declared.fault.HeaderFault.TheVariants.{Short, Version, Range, Layout}
use Rattle.rules.specs.declared.fault.RuleFault.TheVariants.{Meaningless, Unnamed, Mistyped}
use Rattle.module.specs.declared.fault.ModuleFault.{ModuleFault}
use Rattle.module.specs.declared.fault.ModuleFault.TheVariants.{Header, Rule, Globals}
use Rattle.module.specs.declared.fault.Refusal.{Refusal}

-- the number of a fault, and the record that it names
abbrev pub refusal_of : ModuleFault → Refusal
refusal_of (Header Short) = record { number = 1; place = None }
refusal_of (Header Version) = record { number = 2; place = None }
refusal_of (Header Range) = record { number = 3; place = None }
refusal_of (Header Layout) = record { number = 4; place = None }
refusal_of (Rule (Meaningless f)) = record { number = 5; place = Some f }
refusal_of (Rule (Unnamed f)) = record { number = 6; place = Some f }
refusal_of (Rule (Mistyped f)) = record { number = 7; place = Some f }
refusal_of Globals = record { number = 8; place = None }

-- bytes that an image doesn't fit into
abbrev pub too_short : Refusal
too_short = record { number = 9; place = None }

-- the image s is laid out right and its records say c, which keeps the rules, but for the room of its globals
pub record Overfull (s : List ℕ) : Type 0 where
  pub content : Content
  pub holds : Holds s content
  pub named : Kept Names content
  pub typed : Kept Types content
  pub over : Over content

-- f is the first thing that is wrong with the image s
abbrev pub Refused : List ℕ → ModuleFault → Type 0
Refused s (Header f) = HeaderBad s f
Refused s (Rule e) = Headed s (word_at s 4) (word_at s 8) (counts_in s) × RecordsBad s (word_at s 4) (word_at s 8) (counts_in s) e
Refused s Globals = Overfull s
