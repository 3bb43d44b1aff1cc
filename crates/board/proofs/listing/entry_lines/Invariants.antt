use Rattle.std.proofs.Common.{◌≡◌, ◌≤◌, flat_map, length, string_bytes}
use Rattle.board.specs.Shown.{entry_line, held}
use Rattle.board.proofs.listing.entry_lines.Given as goal

abbrev pub invariant-loop-a : goal.invariant-loop-a
invariant-loop-a g l = (string_bytes l.text ≡ flat_map entry_line (held (g.S.Store.entry l.run.live.store) l.a)) × (l.count ≡ length (held (g.S.Store.entry l.run.live.store) l.a)) × (l.count ≤ l.a)
