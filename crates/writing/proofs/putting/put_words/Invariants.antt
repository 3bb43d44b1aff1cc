use Rattle.std.proofs.Common.{◌≡◌, take}
use Rattle.records.specs.Words.{spell}
use Rattle.writing.specs.inside.Putting.{placed}
use Rattle.writing.proofs.putting.put_words.Given as goal

abbrev pub invariant-loop-k : goal.invariant-loop-k
invariant-loop-k l = l.out ≡ placed l.initial.out l.at (spell (take l.k l.words))
