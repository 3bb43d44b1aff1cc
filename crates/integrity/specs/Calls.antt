-- Sequences of calls of step and go, with the panel's writes in between.
use Rattle.std.specs.Prelude.{List, ◌∷◌, ◌++◌, ℕ, Ok, Err}
use Rattle.module.specs.declared.module.Module.{Module}
use Rattle.machine.specs.declared.event.Event.{Event}
use Rattle.machine.specs.declared.refusal.NotReady.{NotReady}
use Rattle.machine.specs.declared.refusal.Refusal.{Refusal}
use Rattle.machine.specs.declared.gone.Gone.{Gone}
use Rattle.machine.specs.Machine.{Sight, Step}
use Rattle.machine.specs.Goes.{Made, made, Makes, Go}

-- calls in any number and order, granted or not, with the history that they make; between two the memory handed over may be any, of any length; the last may be a go that is still under way, of no step yet
pub data Calls (m : Module) : Sight → List Made → Sight → Type 0 where
  panel : {s s' : Sight} {h : List Made} (memory : List ℕ) → Calls m (record s { memory = memory }) h s' → Calls m s h s'
  step : {s s' s'' : Sight} {h : List Made} (e : Event) → Step m s (Ok e) s' → Calls m s' h s'' → Calls m s (made s e s' ∷ h) s''
  refused_step : {s s' s'' : Sight} {h : List Made} (why : Refusal) → Step m s (Err why) s' → Calls m s' h s'' → Calls m s h s''
  go : {s s' s'' : Sight} {h : List Made} (events events' : List Event) (g : Gone) (went : Go m s events (Ok g) s' events') → Calls m s' h s'' → Calls m s (went.steps ++ h) s''
  refused_go : {s s' s'' : Sight} {h : List Made} (events events' : List Event) (why : NotReady) → Go m s events (Err why) s' events' → Calls m s' h s'' → Calls m s h s''
  under_way : {s s' : Sight} {h : List Made} → Makes m s h s' → Calls m s h s'
