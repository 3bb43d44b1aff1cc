use Rattle.std.proofs.Common.{◌≡◌, ◌*◌, length}
use Rattle.machine.specs.Goes.{Ready}
use Rattle.runs.specs.Seen.{seen}
use Rattle.exports.proofs.Slices.{Sliced}
use Rattle.exports.proofs.running.go_on.Given as goal

abbrev pub invariant-loop-k : goal.invariant-loop-k
invariant-loop-k g l =
    let see = seen g.S.Store.entry g.S.Store.taken in
    let m = l.initial.run.module in
    (l.run.module ≡ m)
    × Ready m (see l.run l.memory)
    × (length l.events ≡ length l.initial.events)
    × Sliced m (see l.initial.run l.initial.memory) (l.k * l.each) (see l.run l.memory)
