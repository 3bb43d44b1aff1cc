-- What the store holds after a history that began where it held e.
use Rattle.std.specs.Prelude.{List, fold}
use Rattle.machine.specs.Machine.{Entries}
use Rattle.machine.specs.Goes.{Made}

abbrev pub held_from : Entries → List Made → Entries
held_from e h = fold (λ e d. d.left) e h
