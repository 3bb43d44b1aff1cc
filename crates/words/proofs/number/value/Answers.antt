use Rattle.std.proofs.Common.{rules}
use Rattle.words.proofs.Digits.{cut_value}
use Rattle.words.proofs.number.value.Goals as goal

pub returns : goal.returns
returns c = rw (← cut_value 4294967296 c.args.digits.now) (search rules)
