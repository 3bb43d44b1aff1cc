use Rattle.std.proofs.Common.{◌≡◌, ◌-◌, drop, flat_map, reverse, string_bytes}
use Rattle.board.specs.Shown.{frame_line}
use Rattle.board.proofs.listing.frame_lines.Given as goal

abbrev pub invariant-loop-i : goal.invariant-loop-i
invariant-loop-i g l = string_bytes l.text ≡ flat_map frame_line (reverse (drop (l.depth - l.i) l.run.live.stack))
