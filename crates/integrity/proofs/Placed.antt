-- Every standing frame has an instruction whose turn it is, and every function whose address was taken is there.
use Rattle.std.specs.Prelude.{ℕ, ◌+◌, ◌<◌, ◌≤◌, false, nat_lt, List, [], ◌∷◌, length, Some, Ok}
use Rattle.std.specs.List.{slice_get}
use Rattle.std.proofs.Common.{◌≡◌, refl, ap, ◌∙◌, inl, inr, arith}
use Rattle.std.proofs.lemmas.Bool.{ltb-true, leb-true, lt-ltb, and_parts, cond-true, cases_eq, both_ways}
use Rattle.std.proofs.lemmas.Option.{slice_get_cases}
use native.Mathlib.Bridge.{le_prop}
use Rattle.content.specs.declared.function.Function.{Function}
use Rattle.content.specs.declared.instruction.Instruction.{Instruction}
use Rattle.content.specs.declared.instruction.Instruction.TheVariants as op
use Rattle.rules.specs.Keeping.{ends}
use Rattle.module.specs.Modules.{said, in_function}
use Rattle.module.specs.declared.module.Module.{Module}
use Rattle.machine.specs.declared.frame.Frame.{Frame}
use Rattle.machine.specs.Frames.{entered}
use Rattle.machine.specs.declared.event.Event.{Event}
use Rattle.machine.specs.declared.event.EventKind.{EventKind}
use Rattle.machine.specs.declared.event.EventKind.TheVariants.{CalledThrough}
use Rattle.machine.specs.declared.value.Value.{Value}
use Rattle.machine.specs.Events.{event}
use Rattle.machine.specs.Machine.{Sight, Left, Act, Step, instruction, given}
use Rattle.machine.specs.inside.Parts.{behind}
use Rattle.machine.specs.Goes.{Made}
use Rattle.integrity.specs.Histories.{TookBy}
use Rattle.integrity.specs.Integrity.{Begun}
use Rattle.integrity.proofs.Forms.{Next, behind_branch, by_branch, by_jump, Gives, Writes, Enters, called, called_through, Form, gave, allocated, went, wrote, entered_in, left}
use Rattle.integrity.proofs.Runs.{Quiet, turned, form_turn}
use Rattle.integrity.proofs.Each.{Each, each_none, each_cons, each_rest}
use Rattle.integrity.proofs.Read.{functions_some, some_function}
use Rattle.integrity.proofs.Rules.{Ruled, ruled}

module _ (m : Module) where
  code_fits : (k : ℕ) (g : Function) → slice_get (said m).functions k ≡ Some g → g.first + g.count ≤ length (said m).code
  code_fits k g is = ∥∥₁_rec le_prop (λ y. leb-true _ _ (and_parts _ _ (y.named.functions k g is)).0) m.follows

  abbrev Has : Frame → Type 0
  Has f = (i : Instruction) × (instruction m f ≡ Some i)

  -- a place within a function has an instruction
  has_at : (f : Frame) (g : Function) → slice_get (said m).functions f.function ≡ Some g → f.place < g.count → Has f
  has_at f g is lt =
      let z = code_fits f.function g is in
      elim (slice_get_cases (said m).code (g.first + f.place)).1 [
        | inl t ↦ (t.0, ap (λ o. in_function (said m) o f.place) is ∙ cond-true _ _ _ (lt-ltb f.place g.count lt) ∙ t.2)
        | inr t ↦ absurd (omega (arith, z, t.0))
      ]

  -- a function that is there has one as it is entered
  has_entered : (g : ℕ) → g < length (said m).functions → Has (entered g)
  has_entered g lt =
      elim (slice_get_cases (said m).functions g).1 [
        | inl t ↦ has_at (entered g) t.0 t.2 (functions_some m g t.0 t.2)
        | inr t ↦ absurd (omega arith)
      ]

  -- each standing frame has one
  abbrev pub Standing : List Frame → Type 0
  Standing = Each Has

  -- a function whose address was taken is there
  pub named_of : (h : List Made) (g : ℕ) → TookBy m h g → g < length (said m).functions
  named_of h g t =
      let r = ruled m t.2 (op.Function t.3 g) t.5.instruction_is in
      ltb-true _ _ (and_parts (nat_lt t.3 r.owner.locals) _ r.names).1

module _ (m : Module) (s : Sight) (f : Frame) (rest : List Frame) where
  -- what gives, writes or enters is not the last of its function
  gives_on : (i : Instruction) (e : Event) (x : ℕ) (v : Value) → Gives m s f rest i e x v → ends i ≡ false
  gives_on (op.Jump to) e x v g = elim g [ ]
  gives_on op.Return e x v g = elim g [ ]
  gives_on i e x v g = refl

  writes_on : (i : Instruction) (act : Act) → Writes m s f rest i act → ends i ≡ false
  writes_on (op.Jump to) act w = elim w [ ]
  writes_on op.Return act w = elim w [ ]
  writes_on i act w = refl

  enters_on : (i : Instruction) (k : EventKind) (g : ℕ) → Enters m s f rest i k g → ends i ≡ false
  enters_on (op.Jump to) k g w = elim w [ ]
  enters_on op.Return k g w = elim w [ ]
  enters_on i k g w = refl

  module _ (e : Event) (through : (g : ℕ) → e ≡ event CalledThrough g → g < length (said m).functions) (callers : Standing m rest) where
    -- the place behind an instruction that isn't the last
    on : (i : Instruction) (r : Ruled m f i) → ends i ≡ false → f.place + 1 < r.owner.count
    on i r n = elim (cases_eq (f.place + 1) r.owner.count) [ inl q ↦ absurd (both_ways (ends i) n (r.last q)) | inr q ↦ omega (arith, r.within) ]

    -- the frame at a place of its function, whatever it holds
    at_next : (i : Instruction) (r : Ruled m f i) (xs : List Value) {p : ℕ} → p < r.owner.count → Standing m (record { function = f.function; place = p; locals = xs } ∷ rest)
    at_next i r xs {p} lt = each_cons (Has m) _ rest (has_at m (record { function = f.function; place = p; locals = xs }) r.owner r.owner_is lt) callers

    -- the next place lies within the function
    next : (i : Instruction) (r : Ruled m f i) (p : ℕ) → Next m s f rest i p → p < r.owner.count
    next i r p (behind_branch x to) = on i r refl
    next i r p (by_branch x to) = ltb-true _ _ (and_parts (nat_lt x r.owner.locals) _ r.names).1
    next i r p (by_jump to) = ltb-true _ _ r.names

    enters_there : (i : Instruction) (r : Ruled m f i) (k : EventKind) (g : ℕ) → e ≡ event k g → Enters m s f rest i k g → g < length (said m).functions
    enters_there i r k g q (called _) = ltb-true _ _ r.names
    enters_there i r k g q (called_through x _ v) = through g q

    -- after a step with a form, each frame has an instruction
    stands : (i : Instruction) (l : Left) → Ruled m f i → Form m s f rest i e l → Standing m l.state.stack
    stands i l r (gave x v g q) = rw q (at_next i r (given m f x v).locals (on i r (gives_on i e x v g)))
    stands i l r (allocated x y q n b h k) = rw k (at_next i r _ (on i r (ap ends q)))
    stands i l r (went p n h q) = rw q (at_next i r f.locals (next i r p n))
    stands i l r (wrote act memory w h q) = rw q (at_next i r f.locals (on i r (writes_on i act w)))
    stands i l r (entered_in k g w b h q) = rw q (each_cons (Has m) (entered g) (behind f ∷ rest) (has_entered m g (enters_there i r k g h w)) (at_next i r f.locals (on i r (enters_on i k g w))))
    stands i l r (left q h k) = rw k callers

-- each standing frame has an instruction whose turn it is
abbrev pub Placed : Module → Sight → Type 0
Placed m s = Standing m s.state.stack

pub placed_begin : (m : Module) (s : Sight) → Begun m s → Placed m s
placed_begin m s b = rw (b.state) (each_cons (Has m) (entered 0) [] (has_entered m 0 (some_function m)) (each_none (Has m)))

pub placed_quiet : (m : Module) (s s' : Sight) → Quiet s s' → Placed m s → Placed m s'
placed_quiet m s s' q p = rw (q.stack) p

pub placed_step : (m : Module) (h : List Made) (s : Sight) (e : Event) (s' : Sight) → Placed m s → ((g : ℕ) → e ≡ event CalledThrough g → TookBy m h g) → Step m s (Ok e) s' → Placed m s'
placed_step m h s e s' p took step =
    let t = turned m s e s' step in
    let a : Standing m (t.frame ∷ t.others) = rw (t.stack_is) at p in
    let callers = each_rest (Has m) t.frame t.others a in
    rw (t.does.state) (stands m s t.frame t.others e (λ g q. named_of m h g (took g q)) callers t.instr _ (ruled m t.frame t.instr t.instruction_is) (form_turn t))
