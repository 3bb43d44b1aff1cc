-- Every function that is entered can be: what stays so along a history.
use Rattle.std.proofs.Common.{◌≡◌, ℕ, ⊎_elim, true, false, List, [], ◌∷◌, ◌++◌, Some, Ok, refl, sym, ap, subst}
use Rattle.std.specs.List.{slice_get}
use Rattle.std.proofs.lemmas.Bool.{both_ways}
use Rattle.content.specs.declared.instruction.Instruction.{Instruction}
use Rattle.content.specs.declared.instruction.Instruction.TheVariants as op
use Rattle.module.specs.Modules.{said}
use Rattle.module.specs.declared.module.Module.{Module}
use Rattle.enterable.specs.Enterable as can
use Rattle.enterable.specs.Enterable.{Enterable, EnterableThrough}
use Rattle.machine.specs.declared.value.Value.{Value}
use Rattle.machine.specs.declared.frame.Frame.{Frame}
use Rattle.machine.specs.declared.event.Event.{Event}
use Rattle.machine.specs.declared.event.EventKind.{EventKind}
use Rattle.machine.specs.declared.event.EventKind.TheVariants.{CalledThrough}
use Rattle.machine.specs.Events.{event, enters}
use Rattle.machine.specs.Frames.{entered}
use Rattle.machine.specs.Machine.{Sight, Left, Step, instruction, given}
use Rattle.machine.specs.inside.Parts.{behind}
use Rattle.machine.specs.Goes.{Made, made}
use Rattle.integrity.specs.Histories.{Did, TookBy}
use Rattle.integrity.specs.Integrity.{Begun}
use Rattle.integrity.proofs.Each.{Each, each_none, each_cons, each_first, each_rest, get_cases}
use Rattle.integrity.proofs.Forms.{Gives, moved, Enters, called, called_through, Form, gave, allocated, went, wrote, entered_in, left}
use Rattle.integrity.proofs.Runs.{Quiet, turned, form_turn}

module _ (m : Module) where
  abbrev Can : Frame → Type 0
  Can f = Enterable (said m) f.function

  -- each standing frame's function can be entered, and each function whose address was taken can be entered through a pointer
  pub record Bound (h : List Made) (s : Sight) : Type 0 where
    pub standing : Each Can s.state.stack
    pub taken : (g : ℕ) → TookBy m h g → EnterableThrough (said m) g

  -- what can be entered through a pointer can be entered
  at_all : (g : ℕ) → EnterableThrough (said m) g → Enterable (said m) g
  at_all g t = can.taken t.0 t.1 t.2 g t.3 t.4

  newest_can : (fs : List Frame) → Each Can fs → (f : Frame) → slice_get fs 0 ≡ Some f → Can f
  newest_can [] all f e = absurd (cc)
  newest_can (g ∷ rest) all f e = let q : g ≡ f = cc in subst Can q (each_first Can g rest all)

  took_can : (d : Made) → Each Can d.found.stack → (f : Frame) (x g : ℕ) → Did m d f (op.Function x g) → EnterableThrough (said m) g
  took_can d all f x g did = (f.function, f.place, x, newest_can d.found.stack all f did.frame, did.instruction_is)

  taken_more : (h : List Made) (d : Made) → ((g : ℕ) → TookBy m h g → EnterableThrough (said m) g) → Each Can d.found.stack → (g : ℕ) → TookBy m (h ++ d ∷ []) g → EnterableThrough (said m) g
  taken_more h d known all g t =
      ⊎_elim
      (λ a. known g (t.0, t.1, t.2, t.3, a, t.5))
      (λ a. took_can d all t.2 t.3 g (subst (λ (c : Made). Did m c t.2 (op.Function t.3 g)) (sym a.1) t.5))
      (get_cases h d t.0 t.1 t.4)

module _ (m : Module) (s : Sight) (f : Frame) (rest : List Frame) where
  gives_quiet : {i : Instruction} {e : Event} {x : ℕ} {v : Value} → Gives m s f rest i e x v → enters e.kind ≡ false
  gives_quiet (moved x y z w b is) = refl
  gives_quiet p = refl

  -- what is entered can be
  module _ (e : Event) (through : (g : ℕ) → e ≡ event CalledThrough g → Enterable (said m) g) (newest : Can m f) where
    enters_can : (i : Instruction) (k : EventKind) (g : ℕ) → instruction m f ≡ Some i → e ≡ event k g → Enters m s f rest i k g → Enterable (said m) g
    enters_can i k g is q (called _) = can.called f.function f.place g newest is
    enters_can i k g is q (called_through x _ v) = through g q

    form_can : (i : Instruction) (l : Left) → instruction m f ≡ Some i → enters e.kind ≡ true → Form m s f rest i e l → Enterable (said m) e.word
    form_can i l is n (gave x v g q) = absurd (both_ways _ (gives_quiet g) n)
    form_can i l is n (allocated x y j b h q k) = absurd (both_ways _ (ap (λ (d : Event). enters d.kind) q) n)
    form_can i l is n (went p x h q) = absurd (⊎_elim (λ z. both_ways _ (ap (λ (d : Event). enters d.kind) z) n) (λ z. both_ways _ (ap (λ (d : Event). enters d.kind) z.1) n) h)
    form_can i l is n (wrote act memory w h q) = absurd (both_ways _ (ap (λ (d : Event). enters d.kind) h) n)
    form_can i l is n (entered_in k g w b h q) = subst (Enterable (said m)) (sym (ap (λ (d : Event). d.word) h)) (enters_can i k g is h w)
    form_can i l is n (left j h q) = absurd (⊎_elim (λ z. both_ways _ (ap (λ (d : Event). enters d.kind) z) n) (λ z. both_ways _ (ap (λ (d : Event). enters d.kind) z) n) h)

    -- after a step with a form, so can each frame's function
    stands : Each (Can m) rest → (i : Instruction) (l : Left) → instruction m f ≡ Some i → Form m s f rest i e l → Each (Can m) l.state.stack
    stands all i l is (gave x v g q) = rw q (each_cons (Can m) (given m f x v) rest newest all)
    stands all i l is (allocated x y j b h q k) = rw k (each_cons (Can m) _ rest newest all)
    stands all i l is (went p x h q) = rw q (each_cons (Can m) _ rest newest all)
    stands all i l is (wrote act memory w h q) = rw q (each_cons (Can m) (behind f) rest newest all)
    stands all i l is (entered_in k g w b h q) = rw q (each_cons (Can m) (entered g) (behind f ∷ rest) (enters_can i k g is h w) (each_cons (Can m) (behind f) rest newest all))
    stands all i l is (left j h q) = rw q all

pub bound_begin : (m : Module) (s : Sight) → Begun m s → Bound m [] s
bound_begin m s b =
    record {
      standing = rw (b.state) (each_cons (Can m) (entered 0) [] can.first (each_none (Can m)));
      taken = λ g t. let at = t.4 in absurd (cc);
    }

pub bound_quiet : (m : Module) (h : List Made) (s s' : Sight) → Quiet s s' → Bound m h s → Bound m h s'
bound_quiet m h s s' q b = record { standing = rw (q.stack) b.standing; taken = b.taken }

module _ (m : Module) (h : List Made) (s : Sight) (e : Event) (s' : Sight) (b : Bound m h s) (took : (g : ℕ) → e ≡ event CalledThrough g → TookBy m h g) where
  -- every function that a made step enters through a pointer can be
  pub through_step : (g : ℕ) → e ≡ event CalledThrough g → EnterableThrough (said m) g
  through_step g q = b.taken g (took g q)

  module _ (step : Step m s (Ok e) s') where
    pub entered_within : enters e.kind ≡ true → Enterable (said m) e.word
    entered_within n =
        let t = turned m s e s' step in
        let all : Each (Can m) (t.frame ∷ t.others) = rw (t.stack_is) at b.standing in
        form_can m s t.frame t.others e (λ g q. at_all m g (through_step g q)) (each_first (Can m) t.frame t.others all) t.instr _ t.instruction_is n (form_turn t)

    pub bound_step : Bound m (h ++ made s e s' ∷ []) s'
    bound_step =
        let t = turned m s e s' step in
        let all : Each (Can m) (t.frame ∷ t.others) = rw (t.stack_is) at b.standing in
        record {
          standing = rw (t.does.state) (stands m s t.frame t.others e (λ g q. at_all m g (through_step g q)) (each_first (Can m) t.frame t.others all) (each_rest (Can m) t.frame t.others all) t.instr _ t.instruction_is (form_turn t));
          taken = taken_more m h (made s e s') b.taken b.standing;
        }
