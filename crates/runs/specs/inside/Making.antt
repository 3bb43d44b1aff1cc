-- What part of a step does, while the newest frame's place is kept beside it.
use Rattle.std.specs.Prelude.{◌≡◌, ℕ, ◌<◌, ◌≤◌, Bool, true, false, List, length, drop, Ok, Err, Result, slice_index_or}
use Rattle.std.specs.List.{slice_get}
use Rattle.tables.specs.Tables.{plain}
use Rattle.module.specs.Modules.{said, instruction_at, local_at}
use Rattle.module.specs.declared.module.Module.{Module}
use Rattle.machine.specs.declared.frame.Frame.{Frame}
use Rattle.machine.specs.declared.event.Event.{Event}
use Rattle.machine.specs.declared.gone.Came.{Came}
use Rattle.machine.specs.declared.gone.Came.TheVariants.{Full, Ended, Stopped as AsStop}
use Rattle.machine.specs.declared.refusal.Stop.{Stop}
use Rattle.machine.specs.declared.refusal.Refusal.{Refusal}
use Rattle.machine.specs.declared.refusal.Refusal.TheVariants.{Stopped}
use Rattle.machine.specs.Machine.{Entries, Taken, Sight, Left, Does, Step, at_place, stops}
use Rattle.stack.specs.Stack.{newest, with_newest}
use Rattle.runs.specs.declared.entered.Entered.{Entered}
use Rattle.runs.specs.declared.run.Live.{Live}
use Rattle.runs.specs.Seen.{sight}

-- a stop is answered as a refusal
abbrev pub answer : Result Event Stop → Result Event Refusal
answer (Ok e) = Ok e
answer (Err why) = Err (Stopped why)

-- the run was stopped by it
abbrev pub halted : Result Event Stop → Bool
halted (Ok e) = false
halted (Err why) = true

abbrev pub came_to_halt : Came → Bool
came_to_halt Full = false
came_to_halt Ended = false
came_to_halt (AsStop why) = true

-- what part of a step does: it is made, or it stops and has changed nothing
abbrev pub Tries : Sight → Left → Result Event Stop → Sight → Type 0
Tries s l (Ok e) s' = Does s l (Ok e) s'
Tries s l (Err why) s' = (l ≡ stops s why) × (s' ≡ s)

-- the frames, with the newest at this place
abbrev pub placed : ℕ → List Frame → List Frame
placed p fs = with_newest (λ f. at_place f p) fs

module _ {S : Type 0} where
  -- the newest frame's function was looked up
  pub record IsNewest (e : Entered) (l : Live S) : Type 0 where
    pub code : (place : ℕ) → slice_get e.code.now place ≡ instruction_at (said e.module.now) (newest l.stack).function place
    pub few : length e.code.now ≤ 1024
    pub layout : (x : ℕ) → slice_index_or e.layout.now x plain ≡ local_at (said e.module.now) e.module.now.sensitive (newest l.stack).function x

module _ {S : Type 0} (entry : S → Entries) (taken : S → Taken) where
  -- while instructions are made, the newest frame's place is kept beside it
  abbrev pub seen_at : Live S → ℕ → List ℕ → Sight
  seen_at l place memory = sight entry taken l (placed place l.stack) false memory

  -- a frame stands, its function was looked up, its place is below 1,024, the most instructions that there are, and the memory has the module's size
  pub record Going (e : Entered) (l : Live S) (place : ℕ) (memory : List ℕ) : Type 0 where
    pub newest : IsNewest e l
    pub stands : 0 < length l.stack
    pub near : place < 1024
    pub sized : length memory ≡ (said e.module.now).memory

  -- what part of a step does with the newest frame; of the store stays what its make keeps
  pub record Tried (keeps : S → S → Type 0) (part : Module → Sight → Frame → List Frame → Left) (e : Entered) (l : Live S) (place : ℕ) (memory : List ℕ) (a : Result Event Stop) (l' : Live S) (place' : ℕ) (memory' : List ℕ) : Type 0 where
    pub keeping : keeps l.store l'.store
    pub tries : Tries (seen_at l place memory) (part e.module.now (seen_at l place memory) (at_place (newest l.stack) place) (drop 1 l.stack)) a (seen_at l' place' memory')

  -- a step at a place that is kept beside the newest frame
  abbrev pub Stepped : Module → Live S → ℕ → List ℕ → Result Event Stop → Live S → ℕ → List ℕ → Type 0
  Stepped m l place memory a l' place' memory' = Step m (seen_at l place memory) (answer a) (sight entry taken l' (placed place' l'.stack) (halted a) memory')
