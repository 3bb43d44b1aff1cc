use Rattle.std.proofs.Common.{true, length, ◌-◌, ◌≡◌, ◌<◌, false}
use Rattle.module.specs.Modules.{said}
use Rattle.runs.specs.Seen.{sight}
use Rattle.runs.specs.inside.Making.{seen_at, IsNewest}
use Rattle.runs.proofs.Progress.{Progress}
use Rattle.runs.proofs.run.Live.go.Given as goal

abbrev pub invariant-loop-made : goal.invariant-loop-made
invariant-loop-made g l =
    let entry = g.S.Store.entry in
    let taken = g.S.Store.taken in
    let before = l.fn.self in
    g.S.Store.kept before.store l.self.store
    × (l.on.module.now ≡ l.program)
    × (length l.memory ≡ (said l.program).memory)
    × Progress l.program (sight entry taken before before.stack false l.fn.memory) l.fn.events l.made (seen_at entry taken l.self l.place l.memory) l.events
    × (l.stands ≡ true → 0 < length l.self.stack)
    × (l.stands ≡ false → length l.self.stack ≡ 0)
    × IsNewest l.on l.self

abbrev pub decreases-loop-made : goal.decreases-loop-made
decreases-loop-made g l = length l.fn.events - l.made
