use Rattle.std.proofs.Common.{◌≡◌, ◌++◌, take, string_bytes}
use Rattle.hex_bytes.specs.Hex.{hex_of}
use Rattle.hex_bytes.proofs.hex.push_hex.Given as goal

abbrev pub invariant-loop-b : goal.invariant-loop-b
invariant-loop-b l = string_bytes l.text ≡ string_bytes l.initial.text ++ hex_of (take l.b-index l.bytes)
