-- That a turn is a step, and what is known of the newest frame after it.
use Rattle.std.specs.Prelude.{◌≡◌, ℕ, ◌<◌, List, [], ◌∷◌, length, drop, Some, Ok, Err, Result, false, true, refl}
use Rattle.std.specs.List.{slice_get}
use Rattle.std.proofs.lemmas.Option.{slice_get_within}
use Rattle.content.specs.declared.instruction.Instruction.{Instruction}
use Rattle.std.proofs.Common.{arith, ap, sym, ◌∙◌, eq-eqb}
use Rattle.module.specs.Modules.{said, instruction_at, local_at}
use Rattle.module.specs.declared.module.Module.{Module}
use Rattle.machine.specs.declared.event.Event.{Event}
use Rattle.machine.specs.declared.frame.Frame.{Frame}
use Rattle.machine.specs.declared.refusal.Stop.{Stop}
use Rattle.machine.specs.declared.refusal.Refusal.TheVariants.{Stopped}
use Rattle.machine.specs.Machine.{Entries, Taken, Sight, Left, Does, at_place, instruction, stops, turn}
use Rattle.machine.specs.inside.Parts.{take_turn}
use Rattle.stack.specs.Stack.{newest}
use Rattle.runs.specs.declared.run.Live.{Live}
use Rattle.runs.specs.declared.entered.Entered.{Entered}
use Rattle.runs.specs.inside.Entering.{leaves}
use Rattle.runs.specs.Seen.{sight}
use Rattle.runs.specs.inside.Making.{answer, halted, placed, seen_at, IsNewest, Stepped, Tried, Tries}
use Rattle.runs.proofs.Newest.{placed_there}
use Rattle.runs.proofs.Progress.{Progress, at_start}
use Rattle.runs.proofs.Staying.{stays_in, stands_still}

-- whose turn it is
turned : (m : Module) (s : Sight) (fs : List Frame) (p : ℕ) → s.state.stopped ≡ false → length s.memory ≡ (said m).memory → 0 < length fs
    → turn m s (placed p fs) ≡ take_turn m s (at_place (newest fs) p) (drop 1 fs) (instruction m (at_place (newest fs) p))
turned m s [] p on sized h = absurd (omega (arith, h))
turned m s (f ∷ rest) p on sized h = rw (on, eq-eqb (length s.memory) (said m).memory sized) refl

pub whose_turn : {S : Type 0} (e : Entered) (l : Live S) (place : ℕ) → IsNewest e l → slice_get e.code.now place ≡ instruction e.module.now (at_place (newest l.stack) place)
whose_turn e l place h = h.code place

-- where there is one
pub at_code : {S : Type 0} (e : Entered) (l : Live S) (place : ℕ) (i : Instruction) → IsNewest e l → Some i ≡ slice_get e.code.now place → place < 1024
at_code e l place i h at = omega (arith, h.few, slice_get_within e.code.now place i (sym at))

halts : (s s' : Sight) (why : Stop) → s' ≡ s
    → Does s (stops s why) (Err (Stopped why)) (record { state = record { stack = s'.state.stack; heap = s'.state.heap; stopped = true }; entries = s'.entries; taken = s'.taken; memory = s'.memory })
halts s s' why e =
    record {
      answer = refl;
      state = ap (λ (t : Sight). record { stack = t.state.stack; heap = t.state.heap; stopped = true }) e;
      store = (ap (λ (t : Sight). t.entries) e, ap (λ (t : Sight). t.taken) e);
      memory = ap (λ (t : Sight). t.memory) e;
    }

function_placed : (p : ℕ) (fs : List Frame) → (newest (placed p fs)).function ≡ (newest fs).function
function_placed p [] = refl
function_placed p (f ∷ rest) = refl

length_placed : (p : ℕ) (fs : List Frame) → length (placed p fs) ≡ length fs
length_placed p [] = refl
length_placed p (f ∷ rest) = refl

module _ {S : Type 0} (entry : S → Entries) (taken : S → Taken) where
  answered : (m : Module) (l : Live S) (place : ℕ) (memory : List ℕ) (o : Left) (a : Result Event Stop) (l' : Live S) (place' : ℕ) (memory' : List ℕ)
      → Tries (seen_at entry taken l place memory) o a (seen_at entry taken l' place' memory')
      → Does (seen_at entry taken l place memory) o (answer a) (sight entry taken l' (placed place' l'.stack) (halted a) memory')
  answered m l place memory o (Ok e) l' place' memory' t = t
  answered m l place memory o (Err why) l' place' memory' t =
      let s = seen_at entry taken l place memory in
      let s' = seen_at entry taken l' place' memory' in
      rw (t.0) (halts s s' why t.1)

  -- what is made of the instruction whose turn it is is a step
  pub stepped : (keeps : S → S → Type 0) (e : Entered) (l : Live S) (place : ℕ) (memory : List ℕ) (a : Result Event Stop) (l' : Live S) (place' : ℕ) (memory' : List ℕ)
      → 0 < length l.stack → length memory ≡ (said e.module.now).memory
      → Tried entry taken keeps (λ m s f rest. take_turn m s f rest (instruction m f)) e l place memory a l' place' memory'
      → Stepped entry taken e.module.now l place memory a l' place' memory'
  stepped keeps e l place memory a l' place' memory' stands sized t =
      rw (turned e.module.now (seen_at entry taken l place memory) l.stack place refl sized stands)
      (answered e.module.now l place memory _ a l' place' memory' t.tries)

  -- a step that leaves no frame has the same function's as the newest
  pub followed : (e : Entered) (l : Live S) (place : ℕ) (memory : List ℕ) (v : Event) (l' : Live S) (place' : ℕ) (memory' : List ℕ)
      → Stepped entry taken e.module.now l place memory (Ok v) l' place' memory' → IsNewest e l → leaves v.kind ≡ false → IsNewest e l'
  followed e l place memory v l' place' memory' d h q =
      let same : (newest l'.stack).function ≡ (newest l.stack).function
      = sym (function_placed place' l'.stack) ∙ stays_in e.module.now (seen_at entry taken l place memory) v (seen_at entry taken l' place' memory') d q ∙ function_placed place l.stack in
      record {
        code = λ i. h.code i ∙ ap (λ k. instruction_at (said e.module.now) k i) (sym same);
        few = h.few;
        layout = λ x. h.layout x ∙ ap (λ k. local_at (said e.module.now) e.module.now.sensitive k x) (sym same);
      }

  pub still_stands : (m : Module) (l : Live S) (place : ℕ) (memory : List ℕ) (v : Event) (l' : Live S) (place' : ℕ) (memory' : List ℕ)
      → Stepped entry taken m l place memory (Ok v) l' place' memory' → leaves v.kind ≡ false → 0 < length l'.stack
  still_stands m l place memory v l' place' memory' d q =
      omega (arith, length_placed place' l'.stack, stands_still m (seen_at entry taken l place memory) v (seen_at entry taken l' place' memory') d q)

  -- at its own place the newest frame is as it was
  pub started : (m : Module) (l : Live S) (place : ℕ) (memory : List ℕ) (events : List Event) → place ≡ (newest l.stack).place
      → Progress m (sight entry taken l l.stack false memory) events 0 (seen_at entry taken l place memory) events
  started m l place memory events p =
      let same : placed place l.stack ≡ l.stack = ap (λ k. placed k l.stack) p ∙ placed_there l.stack in
      rw same (at_start m (sight entry taken l l.stack false memory) events)
