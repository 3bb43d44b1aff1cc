-- Why a call isn't done, by the reasons that the code has.
use Rattle.std.specs.Prelude.{◌≡◌, ◌≢◌, ℕ, List, length}
use Rattle.module.specs.Follows.{Follows}
use Rattle.module.specs.Modules.{said}
use Rattle.module.specs.Refusals.{refusal_of}
use Rattle.module.specs.declared.fault.ModuleFault.{ModuleFault}
use Rattle.module.specs.declared.module.Module.{Module}
use Rattle.exports.specs.declared.undone.Undone.{Undone}
use Rattle.exports.specs.declared.undone.Undone.TheVariants.{Image, Kind, Memory, Room}

-- a reason's number
abbrev pub number_of : Undone → ℕ
number_of (Image f) = (refusal_of f).number
number_of Kind = 10
number_of Memory = 12
number_of Room = 0

-- for a fault of the image, for its kind or for its memory, of each of which this is so
abbrev pub Why : (ModuleFault → Type 0) → Type 0 → Type 0 → Undone → Type 0
Why image kind memory (Image f) = image f
Why image kind memory Kind = kind
Why image kind memory Memory = memory
Why image kind memory Room = Unit {0}

-- the image is accepted, and the memory hasn't its module's size
abbrev pub OtherSize : List ℕ → List ℕ → Type 0
OtherSize image memory = (m : Module) × Follows image (said m) × (length memory ≢ (said m).memory)
