use Rattle.std.proofs.Common.{◌≡◌}
use Rattle.machine.specs.Values.{wrapped}
use Rattle.board.specs.Runs.{weighted}
use Rattle.board.proofs.digest.digest_of.Given as goal

abbrev pub invariant-loop-i : goal.invariant-loop-i
invariant-loop-i l = l.sum ≡ wrapped (weighted l.words l.i)
