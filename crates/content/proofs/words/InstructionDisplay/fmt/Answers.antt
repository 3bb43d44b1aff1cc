use Rattle.std.proofs.Common.{ℕ, List, sym, ap, subst}
use Rattle.std.specs.Fmt.{HasWritten}
use Rattle.content.specs.Records.{instruction_row}
use Rattle.content.proofs.words.InstructionDisplay.fmt.Goals as goal

pub returns-in-Allocate-clause-writes : goal.returns-in-Allocate-clause-writes
returns-in-Allocate-clause-writes g c plain ok =
    subst (λ (bs : List ℕ). HasWritten g.W.Write.write_str_gives c.args.f.now bs c.write-in-Allocate.new.self) (sym (ap (λ o. (instruction_row o).1) c.in-Allocate.is)) (c.write-in-Allocate.ensures.writes plain ok)
