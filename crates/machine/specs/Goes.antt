-- What a go answers and leaves.
use Rattle.std.specs.Prelude.{◌≡◌, ◌≢◌, ℕ, ◌<◌, ◌≤◌, Bool, true, false, ◌||◌, List, [], ◌∷◌, ◌++◌, length, map, drop, Ok, Err, Result, ◌==◌}
use Rattle.module.specs.Modules.{said}
use Rattle.module.specs.declared.module.Module.{Module}
use Rattle.machine.specs.declared.event.Event.{Event}
use Rattle.machine.specs.declared.refusal.NotReady.{NotReady}
use Rattle.machine.specs.declared.refusal.NotReady.TheVariants.{Over, Memory}
use Rattle.machine.specs.declared.refusal.Refusal.TheVariants as refusal
use Rattle.machine.specs.declared.gone.Came.{Came}
use Rattle.machine.specs.declared.gone.Came.TheVariants.{Full, Ended, Stopped}
use Rattle.machine.specs.declared.gone.Gone.{Gone}
use Rattle.machine.specs.Machine.{Entries, State, Sight, Step}

-- a made step: the state that it was made in, its event, and what the store holds after it
pub record Made : Type 0 where
  pub found : State
  pub event : Event
  pub left : Entries

-- what a step from s to s' made
abbrev pub made : Sight → Event → Sight → Made
made s e s' = record { found = s.state; event = e; left = s'.entries }

-- made steps, one after another, with nothing in between
pub data Makes (m : Module) : Sight → List Made → Sight → Type 0 where
  none : {s : Sight} → Makes m s [] s
  then : {s s' s'' : Sight} {h : List Made} (e : Event) → Makes m s h s' → Step m s' (Ok e) s'' → Makes m s (h ++ made s' e s'' ∷ []) s''

-- the run has ended or stopped
abbrev pub over : State → Bool
over s = s.stopped || (length s.stack == 0)

-- what can make a step, or stop
abbrev pub Ready : Module → Sight → Type 0
Ready m s = (over s.state ≡ false) × (length s.memory ≡ (said m).memory)

-- why a step or a go is refused
abbrev pub Unready : Module → Sight → NotReady → Type 0
Unready m s Over = over s.state ≡ true
Unready m s Memory = (over s.state ≡ false) × (length s.memory ≢ (said m).memory)

-- how a go ends that made n steps, with room for so many events: after them s stood, and then s'
abbrev pub Ends : Module → Came → ℕ → ℕ → Sight → Sight → Type 0
Ends m Full room n s s' = (n ≡ room) × (over s.state ≡ false) × (s' ≡ s)
Ends m Ended room n s s' = (s.state.stack ≡ []) × (s' ≡ s)
Ends m (Stopped why) room n s s' = (n < room) × Step m s (Err (refusal.Stopped why)) s'

-- a go that isn't refused: its events stand first in the list, and the places behind stay
pub record Went (m : Module) (s : Sight) (events : List Event) (g : Gone) (s' : Sight) (events' : List Event) : Type 0 where
  pub steps : List Made
  pub last : Sight
  pub ready : Ready m s
  pub makes : Makes m s steps last
  pub count : length steps ≡ g.made
  pub room : g.made ≤ length events
  pub listed : events' ≡ map (λ d. d.event) steps ++ drop g.made events
  pub ends : Ends m g.came (length events) g.made last s'

-- a go's answer and what it leaves; refused, it changes nothing
abbrev pub Go : Module → Sight → List Event → Result Gone NotReady → Sight → List Event → Type 0
Go m s events (Ok g) s' events' = Went m s events g s' events'
Go m s events (Err why) s' events' = Unready m s why × (s' ≡ s) × (events' ≡ events)
