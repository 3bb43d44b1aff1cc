-- What is answered of a run.
use Rattle.std.specs.Prelude.{◌≡◌, ◌≢◌, ℕ, ◌⊎◌, List, length}
use Rattle.module.specs.Follows.{Follows}
use Rattle.module.specs.Modules.{said}
use Rattle.module.specs.Refusals.{Refused, refusal_of}
use Rattle.module.specs.declared.fault.ModuleFault.{ModuleFault}
use Rattle.module.specs.declared.module.Module.{Module}
use Rattle.machine.specs.Machine.{Entries, Taken, Sight}
use Rattle.machine.specs.Goes.{Made, Makes, Ends}
use Rattle.machine.specs.declared.gone.Came.{Came}
use Rattle.integrity.specs.Integrity.{Begun}
use Rattle.runs.specs.Seen.{seen}
use Rattle.runs.specs.declared.run.Run.{Run}
use Rattle.exports.specs.Stores.{ByKind, NoStore}

-- with room for so many steps, n were made from s, one after another, and then s' stands: as a go makes them and ends
abbrev pub Ran : Module → Sight → ℕ → ℕ → Sight → Type 0
Ran m s room n s' = (steps : List Made) × (last : Sight) × (came : Came) × Makes m s steps last × (length steps ≡ n) × Ends m came room n last s'

module _ {S : Type 0} (entry : S → Entries) (taken : S → Taken) (keeps : S → S → Type 0) (m : Module) (store : S) where
  -- a run of m began on the store, of which stays what its make keeps, and so it went with this memory
  abbrev pub RanOn : List ℕ → ℕ → ℕ → List ℕ → Type 0
  RanOn memory room n memory' =
      (first left : Run S) × Begun m (seen entry taken first memory) × keeps store first.live.store
      × Ran m (seen entry taken first memory) room n (seen entry taken left memory')

  -- a run of m began on the store, and n frames stand
  abbrev pub BegunOn : ℕ → Type 0
  BegunOn n = (run : Run S) × ((memory : List ℕ) → Begun m (seen entry taken run memory)) × keeps store run.live.store × (n ≡ length run.live.stack)

-- the image's module ran on a store of this kind and so many slots
abbrev pub HasRun : (image : List ℕ) (kind slots : ℕ) (memory : List ℕ) (room n : ℕ) (memory' : List ℕ) → Type 0
HasRun image kind slots memory room n memory' =
    (m : Module) × Follows image (said m) × (length memory ≡ (said m).memory)
    × ByKind kind (said m).memory slots (λ S entry taken keeps s. RanOn entry taken keeps m s memory room n memory')

-- the image's module began on a store of this kind and so many slots
abbrev pub HasBegun : (image : List ℕ) (kind slots n : ℕ) → Type 0
HasBegun image kind slots n = (m : Module) × Follows image (said m) × ByKind kind (said m).memory slots (λ S entry taken keeps s. BegunOn entry taken keeps m s n)

-- no run is begun: for the image's first fault, or there is no store
abbrev pub NotBegun : List ℕ → ℕ → ℕ → Type 0
NotBegun image kind k = ((f : ModuleFault) × Refused image f × (k ≡ (refusal_of f).number)) ⊎ NoStore kind k

-- nor are steps made; besides, the image may be accepted, and the memory not have its module's size
abbrev pub NotRun : List ℕ → ℕ → List ℕ → ℕ → Type 0
NotRun image kind memory k = NotBegun image kind k ⊎ ((m : Module) × Follows image (said m) × (length memory ≢ (said m).memory) × (k ≡ 12))
