use Rattle.std.proofs.Common.{◌≡◌, ◌++◌, string_bytes}
use Rattle.desk.specs.Shown.{numbered}
use Rattle.desk.proofs.doing.push_sensitive.Given as goal

abbrev pub invariant-loop-t : goal.invariant-loop-t
invariant-loop-t l = string_bytes l.text ≡ string_bytes l.initial.text ++ numbered l.held.sensitive l.t
