-- How what is told of a run is written.
use Rattle.std.specs.Prelude.{ℕ, zero, suc, List, [], ◌∷◌, ◌++◌, length, reverse, Ok, Err, flat_map, string_bytes, vec_items, codes, decimal}
use Rattle.std.specs.Option.{option_map_or}
use Rattle.values.specs.Written.{written}
use Rattle.values.specs.declared.marked.Marked.{Marked}
use Rattle.machine.specs.Machine.{Entries}
use Rattle.machine.specs.Numbers.{event_text, not_ready_number, stop_number}
use Rattle.machine.specs.Statuses.{status_text}
use Rattle.machine.specs.Values.{value_text}
use Rattle.machine.specs.declared.event.Event.{Event}
use Rattle.machine.specs.declared.frame.Frame.{Frame}
use Rattle.machine.specs.declared.gone.Came.{Came}
use Rattle.machine.specs.declared.gone.Came.TheVariants.{Full, Ended, Stopped}
use Rattle.machine.specs.declared.refusal.Refusal.TheVariants as refusal
use Rattle.machine.specs.declared.value.Value.{Value}
use Rattle.board.specs.declared.report.Report.{Report}
use Rattle.board.specs.declared.report.Report.TheVariants as tells

abbrev pub event_line : Event → List ℕ
event_line e = codes "event " ++ (event_text e ++ codes "\n")

-- why a go came to its end
abbrev pub came_text : Came → List ℕ
came_text Full = codes "full"
came_text Ended = codes "ended"
came_text (Stopped s) = codes "stopped " ++ decimal (stop_number s)

abbrev pub shown : Report → List ℕ
shown tells.Begun = codes "begun\n"
shown tells.NoStore = codes "no store\n"
shown tells.NoRun = codes "no run\n"
shown (tells.Sized n) = codes "memory " ++ (decimal n ++ codes "\n")
shown (tells.Poked a w) = codes "poked " ++ (decimal a ++ (codes " " ++ (decimal w ++ codes "\n")))
shown (tells.Word w) = codes "word " ++ (decimal w ++ codes "\n")
shown tells.Outside = codes "outside\n"
shown (tells.Digest s) = codes "digest " ++ (decimal s ++ codes "\n")
shown (tells.Stepped (Ok e)) = event_line e
shown (tells.Stepped (Err (refusal.NotReady n))) = codes "refused " ++ (decimal (not_ready_number n) ++ codes "\n")
shown (tells.Stepped (Err (refusal.Stopped s))) = codes "stopped " ++ (decimal (stop_number s) ++ codes "\n")
shown (tells.Went (Ok g) events) = codes "made " ++ (decimal g.made ++ (codes " " ++ (came_text g.came ++ (codes "\n" ++ flat_map event_line (vec_items events)))))
shown (tells.Went (Err n) events) = codes "refused " ++ (decimal (not_ready_number n) ++ codes "\n")
shown (tells.Lines lines) = string_bytes lines
shown (tells.Stands s) = status_text s ++ codes "\n"

abbrev pub local_word : Value → List ℕ
local_word v = codes " " ++ value_text v

-- its function, its place and all of its locals
abbrev pub frame_line : Frame → List ℕ
frame_line f = codes "frame " ++ (decimal f.function ++ (codes " " ++ (decimal f.place ++ (flat_map local_word f.locals ++ codes "\n"))))

-- The frames are named the newest first, and the oldest is told first.
abbrev pub frames_text : List Frame → List ℕ
frames_text fs = codes "frames " ++ (decimal (length fs) ++ (codes "\n" ++ flat_map frame_line (reverse fs)))

-- the addresses below n that hold anything, rising, with what they hold
abbrev pub held : Entries → ℕ → List (ℕ × Marked)
held e zero = []
held e (suc n) = held e n ++ option_map_or (λ v. (n, v) ∷ []) (e n) []

abbrev pub entry_line : ℕ × Marked → List ℕ
entry_line p = codes "entry " ++ (decimal p.0 ++ (codes " " ++ (written p.1 ++ codes "\n")))

abbrev pub entries_text : Entries → ℕ → List ℕ
entries_text e n = codes "entries " ++ (decimal (length (held e n)) ++ (codes "\n" ++ flat_map entry_line (held e n)))
