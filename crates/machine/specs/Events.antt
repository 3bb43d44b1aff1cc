-- Events: their numbers, which are decisions, and which enter a function.
use Rattle.std.specs.Prelude.{ℕ, Bool, true, false}
use Rattle.machine.specs.declared.event.EventKind.{EventKind}
use Rattle.machine.specs.declared.event.EventKind.TheVariants.{Other, Called, CalledThrough, Returned, Ended, Branched, Moved, Allocated}
use Rattle.machine.specs.declared.event.Event.{Event}

-- an event of this kind and word
abbrev pub event : EventKind → ℕ → Event
event k n = record { kind = k; word = n }

-- the event 0 0
abbrev pub other : Event
other = event Other 0

-- an event's kind: its number, whether it is a decision, and whether it enters a function
abbrev pub kind_row : EventKind → ℕ × Bool × Bool
kind_row Other = (0, false, false)
kind_row Called = (1, false, true)
kind_row CalledThrough = (2, false, true)
kind_row Returned = (3, false, false)
kind_row Ended = (4, false, false)
kind_row Branched = (5, true, false)
kind_row Moved = (6, true, false)
kind_row Allocated = (7, true, false)

-- its number
abbrev pub kind_number : EventKind → ℕ
kind_number k = (kind_row k).0

-- whether it is a decision
abbrev pub decides : EventKind → Bool
decides k = (kind_row k).1

-- whether it enters a function
abbrev pub enters : EventKind → Bool
enters k = (kind_row k).2
