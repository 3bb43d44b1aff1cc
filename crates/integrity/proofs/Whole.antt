-- The integrity theorem, from what each made step keeps and tells.
use Rattle.std.specs.Prelude.{◌≡◌, ℕ, true, List, [], ◌∷◌, ◌++◌, None, Ok}
use Rattle.content.specs.declared.instruction.Instruction.{Instruction}
use Rattle.module.specs.Modules.{said}
use Rattle.module.specs.declared.module.Module.{Module}
use Rattle.enterable.specs.Enterable.{Enterable, EnterableThrough}
use Rattle.values.specs.declared.marked.Marked.{Marked as Mark}
use Rattle.machine.specs.declared.value.Value.TheVariants.{Marked}
use Rattle.machine.specs.declared.frame.Frame.{Frame}
use Rattle.machine.specs.declared.event.Event.{Event}
use Rattle.machine.specs.declared.event.EventKind.TheVariants.{CalledThrough}
use Rattle.machine.specs.Events.{event, enters}
use Rattle.machine.specs.Frames.{value}
use Rattle.machine.specs.Machine.{Sight, Step}
use Rattle.machine.specs.Goes.{Made, made}
use Rattle.integrity.specs.Calls.{Calls}
use Rattle.integrity.specs.Histories.{Did, TookBy, Through}
use Rattle.integrity.specs.Integrity.{Begun, Inside, Sound, Integrity}
use Rattle.integrity.proofs.Along.{along_all, held_is}
use Rattle.integrity.proofs.Fair.{Fair, fair_begin, fair_quiet}
use Rattle.integrity.proofs.FairStep.{fair_step}
use Rattle.integrity.proofs.Objects.{Laid, laid_begin, laid_quiet, laid_step, apart_of, inside_of}
use Rattle.integrity.proofs.Placed.{Placed, placed_begin, placed_quiet, placed_step, named_of}
use Rattle.integrity.proofs.Reached.{entered_step, reached_step}
use Rattle.integrity.proofs.Runs.{Quiet, runs_of}
use Rattle.integrity.proofs.Within.{Bound, bound_begin, bound_quiet, through_step, entered_within, bound_step}
use Rattle.integrity.proofs.AlikeRuns.{alike_of}

module _ (m : Module) where
  -- all that is kept along a history
  record Keeps (h : List Made) (s : Sight) : Type 0 where
    fair : Fair m h s
    laid : Laid m h s
    placed : Placed m s
    bound : Bound m h s

  -- what is told of a made step, with the history before it
  record Tells (h : List Made) (d : Made) : Type 0 where
    entered : (g : ℕ) → d.event ≡ event CalledThrough g → TookBy m h g
    reached : (f : Frame) (i : Instruction) (y words : ℕ) (v : Mark) → Did m d f i → Through m f i y words → value f y ≡ Marked v → Inside v words
    enterable : enters d.event.kind ≡ true → Enterable (said m) d.event.word
    enterable_through : (g : ℕ) → d.event ≡ event CalledThrough g → EnterableThrough (said m) g

  begins : (s : Sight) → Begun m s → Keeps [] s
  begins s b = record { fair = fair_begin m s b; laid = laid_begin b; placed = placed_begin m s b; bound = bound_begin m s b }

  calm : (h : List Made) (s s' : Sight) → Keeps h s → Quiet s s' → Keeps h s'
  calm h s s' k q = record { fair = fair_quiet m h s s' k.fair q; laid = laid_quiet k.laid q; placed = placed_quiet m s s' q k.placed; bound = bound_quiet m h s s' q k.bound }

  keeps : (h : List Made) (s : Sight) (e : Event) (s' : Sight) → Keeps h s → Step m s (Ok e) s' → Keeps (h ++ made s e s' ∷ []) s'
  keeps h s e s' k p =
      record {
        fair = fair_step m h s s' e (λ o low high there. (inside_of k.laid o low high there).1) k.fair p;
        laid = laid_step k.laid p;
        placed = placed_step m h s e s' k.placed (entered_step m h s s' e k.fair p) p;
        bound = bound_step m h s e s' k.bound (entered_step m h s s' e k.fair p) p;
      }

  tells : (h : List Made) (s : Sight) (e : Event) (s' : Sight) → Keeps h s → Step m s (Ok e) s' → Tells h (made s e s')
  tells h s e s' k p =
      let took = entered_step m h s s' e k.fair p in
      record {
        entered = took;
        reached = reached_step m h s s' e k.fair p;
        enterable = entered_within m h s e s' k.bound took p;
        enterable_through = through_step m h s e s' k.bound took;
      }

  sound : (s : Sight) → Begun m s → (h : List Made) (s' : Sight) → Calls m s h s' → Sound m h s'
  sound s b h s' c =
      let whole = along_all m Keeps Tells calm keeps tells (begins s b) (runs_of m c) in
      let k : Keeps h s' = whole.0 in
      record {
        entered = λ n g d at. (whole.1 n d at).entered g;
        locals = λ n x f v at. (k.fair.frames n f at).known x v;
        held = k.fair.held;
        reached = λ n y words d f i v at. (whole.1 n d at).reached f i y words v;
        apart = apart_of k.laid;
        inside = inside_of k.laid;
        named = named_of m h;
        placed = k.placed;
        left = held_is m (λ _. None) b.clear (runs_of m c);
        enterable = λ n d at. (whole.1 n d at).enterable;
        enterable_through = λ n g d at. (whole.1 n d at).enterable_through g;
        standing = k.bound.standing;
      }

  pub integral : (s : Sight) → Begun m s → Integrity m s
  integral s b =
      record {
        sound = sound s b;
        alike = λ t b' h h' s' t' c c'. alike_of m s t s' t' h h' b b' (runs_of m c) (runs_of m c');
      }
