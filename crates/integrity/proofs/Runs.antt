-- Sequences of calls, taken apart into made steps and what changes nothing of a run.
use Rattle.std.specs.Prelude.{◌≡◌, ℕ, ◌==◌, List, [], ◌∷◌, ◌++◌, length, Some, None, Ok, Err, Option, Result}
use Rattle.std.proofs.Common.{refl, ap, sym, subst, ◌∙◌}
use Rattle.std.proofs.lemmas.Bool.{cond_both}
use Rattle.std.proofs.lemmas.Option.{same_Some}
use Rattle.content.specs.declared.instruction.Instruction.{Instruction}
use Rattle.module.specs.Modules.{said}
use Rattle.module.specs.declared.module.Module.{Module}
use Rattle.machine.specs.declared.frame.Frame.{Frame}
use Rattle.machine.specs.declared.event.Event.{Event}
use Rattle.machine.specs.declared.refusal.NotReady.{NotReady}
use Rattle.machine.specs.declared.refusal.NotReady.TheVariants.{Over, Memory}
use Rattle.machine.specs.declared.refusal.Stop.{Stop}
use Rattle.machine.specs.declared.refusal.Stop.TheVariants.{NotCode}
use Rattle.machine.specs.declared.refusal.Refusal.{Refusal}
use Rattle.machine.specs.declared.refusal.Refusal.TheVariants as refusal
use Rattle.machine.specs.declared.gone.Came.{Came}
use Rattle.machine.specs.declared.gone.Came.TheVariants as came
use Rattle.machine.specs.Machine.{Sight, Left, Step, Does, refuses, stops, make, turn, instruction}
use Rattle.machine.specs.inside.Parts.{take_turn}
use Rattle.machine.specs.Goes.{Made, made, Makes, Ends, Go}
use Rattle.machine.specs.Goes as goes
use Rattle.integrity.specs.Calls.{Calls}
use Rattle.integrity.specs.Calls as calls
use Rattle.std.specs.List.{slice_get}
use Rattle.integrity.specs.Histories.{Did}
use Rattle.integrity.proofs.Forms.{Outcome, stopped, done, outcome, Form, formed}

-- what the panel, a refused step and a stop leave of a run
pub record Quiet (s s' : Sight) : Type 0 where
  pub stack : s'.state.stack ≡ s.state.stack
  pub heap : s'.state.heap ≡ s.state.heap
  pub entries : s'.entries ≡ s.entries

-- made steps in order, with anything quiet in between
pub data Runs (m : Module) : Sight → List Made → Sight → Type 0 where
  rest : {s : Sight} → Runs m s [] s
  quiet : {s s' s'' : Sight} {h : List Made} → Quiet s s' → Runs m s' h s'' → Runs m s h s''
  step : {s s' s'' : Sight} {h : List Made} (e : Event) → Step m s (Ok e) s' → Runs m s' h s'' → Runs m s (made s e s' ∷ h) s''

-- a made step has a newest frame, with an instruction whose turn it is
pub record Turn (m : Module) (s : Sight) (e : Event) (s' : Sight) : Type 0 where
  pub frame : Frame
  pub others : List Frame
  pub instr : Instruction
  pub stack_is : s.state.stack ≡ frame ∷ others
  pub instruction_is : instruction m frame ≡ Some instr
  pub answer : (make m s frame others instr).answer ≡ Ok e
  pub does : Does s (make m s frame others instr) (Ok e) s'

answered : {A : Type 0} (e : Event) (why : Refusal) → ◌≡◌ {A = Result Event Refusal} (Ok e) (Err why) → A
answered e why p = absurd cc

module _ (m : Module) (s : Sight) where
  -- with no instruction for its frame a step stops
  turned_in : (e : Event) (s' : Sight) (f : Frame) (others : List Frame) → s.state.stack ≡ f ∷ others → (i : Option Instruction) → instruction m f ≡ i → Does s (take_turn m s f others i) (Ok e) s' → Turn m s e s'
  turned_in e s' f others stack None is d = answered e (refusal.Stopped NotCode) d.answer
  turned_in e s' f others stack (Some i) is d = record { frame = f; others = others; instr = i; stack_is = stack; instruction_is = is; answer = sym d.answer; does = d }

  turned_of : (e : Event) (s' : Sight) (stack : List Frame) → s.state.stack ≡ stack → Does s (turn m s stack) (Ok e) s' → Turn m s e s'
  turned_of e s' [] is d = answered e (refusal.NotReady Over) d.answer
  turned_of e s' (f ∷ others) is d =
      cond_both s.state.stopped _ _ (λ l. Does s l (Ok e) s' → Turn m s e s')
      (λ _ d. answered e (refusal.NotReady Over) d.answer)
      (λ _. cond_both (length s.memory == (said m).memory) _ _ (λ l. Does s l (Ok e) s' → Turn m s e s')
      (λ _. turned_in e s' f others is (instruction m f) refl) (λ _ d. answered e (refusal.NotReady Memory) d.answer)) d

  -- what isn't made leaves what it found
  abbrev Unmade : Left → Type 0
  Unmade l = (why : Refusal) (s' : Sight) → Does s l (Err why) s' → Quiet s s'

  refused : (because : NotReady) → Unmade (refuses s because)
  refused because why s' d = record { stack = ap (λ t. t.stack) d.state; heap = ap (λ t. t.heap) d.state; entries = d.store.0 }

  halted : (because : Stop) → Unmade (stops s because)
  halted because why s' d = record { stack = ap (λ t. t.stack) d.state; heap = ap (λ t. t.heap) d.state; entries = d.store.0 }

  module _ (f : Frame) (others : List Frame) where
    unmade_outcome : (i : Instruction) (l : Left) → Outcome m s f others i l → Unmade l
    unmade_outcome i l (stopped because is) = subst Unmade (sym is) (halted because)
    unmade_outcome i l (done e p form) = λ why s' d. answered e why (sym p ∙ sym d.answer)

    unmade_in : (i : Option Instruction) → Unmade (take_turn m s f others i)
    unmade_in None = halted NotCode
    unmade_in (Some i) = unmade_outcome i (make m s f others i) (outcome m s f others i)

  unmade_of : (stack : List Frame) → Unmade (turn m s stack)
  unmade_of [] = refused Over
  unmade_of (f ∷ others) =
      cond_both s.state.stopped _ _ Unmade (λ _. refused Over)
      (λ _. cond_both (length s.memory == (said m).memory) _ _ Unmade (λ _. unmade_in f others (instruction m f)) (λ _. refused Memory))

pub turned : (m : Module) (s : Sight) (e : Event) (s' : Sight) → Step m s (Ok e) s' → Turn m s e s'
turned m s e s' p = turned_of m s e s' s.state.stack refl p

-- what a made step did is its turn's
pub did_turn : {m : Module} {s : Sight} {e : Event} {s' : Sight} (t : Turn m s e s') → Did m (made s e s') t.frame t.instr
did_turn t = record { frame = ap (λ (l : List Frame). slice_get l 0) t.stack_is; instruction_is = t.instruction_is }

-- and nothing else
pub turn_is : {m : Module} {s : Sight} {e : Event} {s' : Sight} {f : Frame} {i : Instruction} (t : Turn m s e s') → Did m (made s e s') f i → (f ≡ t.frame) × (i ≡ t.instr)
turn_is {m} {f = f} {i = i} t did =
    let same : f ≡ t.frame = same_Some f t.frame (sym did.frame ∙ ap (λ (l : List Frame). slice_get l 0) t.stack_is) in
    (same, same_Some i t.instr (sym did.instruction_is ∙ ap (instruction m) same ∙ t.instruction_is))

pub form_turn : {m : Module} {s : Sight} {e : Event} {s' : Sight} (t : Turn m s e s') → Form m s t.frame t.others t.instr e (make m s t.frame t.others t.instr)
form_turn {m} {s} {e} t = formed m s t.frame t.others t.instr e t.answer

-- a step that isn't made is quiet
pub not_made : (m : Module) (s : Sight) (why : Refusal) (s' : Sight) → Step m s (Err why) s' → Quiet s s'
not_made m s why s' p = unmade_of m s s.state.stack why s' p

-- what stays as it is, is quiet
same : {s s' : Sight} → s' ≡ s → Quiet s s'
same e = record { stack = ap (λ t. t.state.stack) e; heap = ap (λ t. t.state.heap) e; entries = ap (λ t. t.entries) e }

module _ (m : Module) where
  joined : {s s' s'' : Sight} {h h' : List Made} → Runs m s h s' → Runs m s' h' s'' → Runs m s (h ++ h') s''
  joined rest r = r
  joined (quiet q p) r = quiet q (joined p r)
  joined (step e p q) r = step e p (joined q r)

  made_runs : {s s' : Sight} {h : List Made} → Makes m s h s' → Runs m s h s'
  made_runs goes.none = rest
  made_runs (goes.then e p q) = joined (made_runs p) (step e q rest)

  ended : (came : Came) (room n : ℕ) (s s' : Sight) → Ends m came room n s s' → Quiet s s'
  ended came.Full room n s s' e = same e.2
  ended came.Ended room n s s' e = same e.1
  ended (came.Stopped why) room n s s' e = not_made m s (refusal.Stopped why) s' e.1

pub runs_of : (m : Module) {s : Sight} {h : List Made} {s' : Sight} → Calls m s h s' → Runs m s h s'
runs_of m (calls.panel memory c) = quiet (record { stack = refl; heap = refl; entries = refl }) (runs_of m c)
runs_of m (calls.step e p c) = step e p (runs_of m c)
runs_of m (calls.refused_step {s = s} {s' = s'} why p c) = quiet (not_made m s why s' p) (runs_of m c)
runs_of m (calls.go {s' = s'} events events' g went c) = joined m (made_runs m went.makes) (quiet (ended m g.came (length events) g.made went.last s' went.ends) (runs_of m c))
runs_of m (calls.refused_go events events' why p c) = quiet (same p.1) (runs_of m c)
runs_of m (calls.under_way p) = made_runs m p
