use Rattle.std.proofs.Common.{rules}
use Rattle.hex_bytes.proofs.Pairs.{pairs_bytes}
use Rattle.hex_bytes.proofs.hex.bytes_of.Goals as goal

pub returns : goal.returns
returns c = rw (← pairs_bytes c.args.digits.now) (search rules)
