-- What is wrong first with the records of an image.
use Rattle.std.specs.Prelude.{◌≡◌, ℕ, List}
use Rattle.header.specs.declared.counts.Counts.{Counts}
use Rattle.parts.specs.Content.{Content}
use Rattle.parts.specs.Holding.{Listed, FirstMeaningless}
use Rattle.rules.specs.declared.fault.RuleFault.{RuleFault}
use Rattle.rules.specs.declared.fault.RuleFault.TheVariants.{Meaningless, Unnamed, Mistyped}
use Rattle.rules.specs.Judging.{Breaks}

-- the lists of the image s say c, of memory size m and depth d, and c breaks a rule
abbrev pub Broken : List ℕ → ℕ → ℕ → Counts → RuleFault → Type 0
Broken s m d n e = (c : Content) × (c.memory ≡ m) × (c.depth ≡ d) × Listed s n c × Breaks c e

-- e is the first thing that is wrong with the records of the image s
abbrev pub RecordsBad : List ℕ → ℕ → ℕ → Counts → RuleFault → Type 0
RecordsBad s m d n (Meaningless f) = FirstMeaningless s n f
RecordsBad s m d n (Unnamed f) = Broken s m d n (Unnamed f)
RecordsBad s m d n (Mistyped f) = Broken s m d n (Mistyped f)
