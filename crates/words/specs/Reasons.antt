-- The text that is written for each fault of a line.
use Rattle.std.specs.Prelude.{ℕ, List, codes}
use Rattle.words.specs.declared.fault.Fault.{Fault}
use Rattle.words.specs.declared.fault.Fault.TheVariants.{Bounds, Count, Hex, Large, Number, Word}

abbrev pub reason : Fault → List ℕ
reason Word = codes "unknown word"
reason Count = codes "wrong count of words"
reason Number = codes "not a number"
reason Large = codes "number beyond its limit"
reason Bounds = codes "low must be below high, and high at most 65536"
reason Hex = codes "not bytes in hex"
