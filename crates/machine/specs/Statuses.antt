-- How a run stands.
use Rattle.std.specs.Prelude.{ℕ, Bool, true, false, List, [], ◌∷◌, codes}
use Rattle.machine.specs.declared.frame.Frame.{Frame}
use Rattle.machine.specs.declared.status.Status.{Status}
use Rattle.machine.specs.declared.status.Status.TheVariants.{Running, Ended, Stopped}

-- stopped, or ended once no frame stands
abbrev pub status_of : Bool → List Frame → Status
status_of true stack = Stopped
status_of false [] = Ended
status_of false (f ∷ rest) = Running

-- and how that is told
abbrev pub status_text : Status → List ℕ
status_text Running = codes "running"
status_text Ended = codes "ended"
status_text Stopped = codes "stopped"
