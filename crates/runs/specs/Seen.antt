-- A run as the machine's meaning sees it.
use Rattle.std.specs.Prelude.{ℕ, Bool, List}
use Rattle.machine.specs.declared.frame.Frame.{Frame}
use Rattle.machine.specs.Machine.{Entries, Taken, Sight}
use Rattle.runs.specs.declared.run.Live.{Live}
use Rattle.runs.specs.declared.run.Run.{Run}

module _ {S : Type 0} (entry : S → Entries) (taken : S → Taken) where
  abbrev pub sight : Live S → List Frame → Bool → List ℕ → Sight
  sight l stack stopped memory = record { state = record { stack = stack; heap = l.heap; stopped = stopped }; entries = entry l.store; taken = taken l.store; memory = memory }

  abbrev pub seen : Run S → List ℕ → Sight
  seen r memory = sight r.live r.live.stack r.stopped memory
