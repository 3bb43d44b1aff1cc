-- How an event is told, and the numbers of refusals and stops.
use Rattle.std.specs.Prelude.{ℕ, List, ◌++◌, codes, decimal}
use Rattle.machine.specs.declared.event.Event.{Event}
use Rattle.machine.specs.Events.{kind_number}
use Rattle.machine.specs.declared.refusal.NotReady.{NotReady}
use Rattle.machine.specs.declared.refusal.NotReady.TheVariants.{Over, Memory}
use Rattle.machine.specs.declared.refusal.Stop.{Stop}
use Rattle.machine.specs.declared.refusal.Stop.TheVariants.{Address, NotData, Outside, NotCode, StackFull, HeapFull, NotTaken}
use Rattle.machine.specs.declared.refusal.Refusal.{Refusal}
use Rattle.machine.specs.declared.refusal.Refusal.TheVariants as refusal

-- an event's kind and word, told
abbrev pub event_text : Event → List ℕ
event_text e = decimal (kind_number e.kind) ++ (codes " " ++ decimal e.word)

-- why a step isn't tried
abbrev pub not_ready_number : NotReady → ℕ
not_ready_number Over = 11
not_ready_number Memory = 12

-- why it stops
abbrev pub stop_number : Stop → ℕ
stop_number Address = 21
stop_number NotData = 22
stop_number Outside = 23
stop_number NotCode = 24
stop_number StackFull = 25
stop_number HeapFull = 26
stop_number NotTaken = 27

-- either of them
abbrev pub refusal_number : Refusal → ℕ
refusal_number (refusal.NotReady n) = not_ready_number n
refusal_number (refusal.Stopped s) = stop_number s
