-- Parts of what the machine's definitions say, by names of their own.
use Rattle.std.specs.Prelude.{ℕ, ◌+◌, cond, List, Option}
use Rattle.module.specs.Modules.{said, local_at}
use Rattle.module.specs.declared.module.Module.{Module}
use Rattle.tables.specs.declared.layout.Local.{Local}
use Rattle.values.specs.declared.bounds.Bounds.{Bounds}
use Rattle.machine.specs.declared.frame.Frame.{Frame}
use Rattle.machine.specs.Values.{Value, Plain, word, bounds_of}
use Rattle.machine.specs.Machine.{Sight, sensitive, start_of}

-- what has to be known of a frame's local
abbrev pub local : Module → Frame → ℕ → Local
local m f x = local_at (said m) m.sensitive f.function x

-- the bounds of all of global g
abbrev pub bounds : Module → Sight → Frame → List Frame → ℕ → Option Bounds
bounds m s f rest g = let c = said m in bounds_of (start_of c.types c.globals g) (start_of c.types c.globals (g + 1))
