-- A made step enters through a pointer only a function whose address was taken, and reaches nothing outside the bounds of a marked value.
use Rattle.std.proofs.Common.{◌≡◌, ℕ, ⊎_elim, true, false, List, Some, Ok, sym, ap, ◌∙◌, subst}
use Rattle.std.proofs.lemmas.Bool.{both_ways}
use Rattle.content.specs.declared.instruction.Instruction.TheVariants as op
use Rattle.content.specs.declared.instruction.Instruction.{Instruction}
use Rattle.tables.specs.Tables.{words}
use Rattle.module.specs.declared.module.Module.{Module}
use Rattle.values.specs.declared.bounds.Bounds.{Bounds}
use Rattle.values.specs.declared.marked.Marked.{Marked as Mark}
use Rattle.values.specs.declared.marked.Marked.TheVariants.{Code, Data}
use Rattle.machine.specs.declared.value.Value.{Value}
use Rattle.machine.specs.declared.value.Value.TheVariants.{Marked}
use Rattle.machine.specs.declared.frame.Frame.{Frame}
use Rattle.machine.specs.declared.event.Event.{Event}
use Rattle.machine.specs.declared.event.EventKind.{EventKind}
use Rattle.machine.specs.declared.event.EventKind.TheVariants.{Other, CalledThrough, Returned, Ended, Branched, Allocated as AllocatedIs}
use Rattle.machine.specs.inside.Parts.{within}
use Rattle.machine.specs.Events.{event}
use Rattle.machine.specs.Frames.{value}
use Rattle.machine.specs.Machine.{Sight, Act, Left, Step, sensitive, size, instruction}
use Rattle.machine.specs.Goes.{Made, made}
use Rattle.machine.proofs.Bounding.{within_parts}
use Rattle.integrity.specs.Histories.{Did, TookBy, Through, field, load, store}
use Rattle.integrity.specs.Integrity.{Inside}
use Rattle.integrity.proofs.Forms.{Next, behind_branch, by_branch, by_jump, Gives, moved, field as given_field, field_plain, loaded, loaded_plain, Writes, put, dropped, written, Enters, called, called_through, Form, gave, allocated, went, wrote, entered_in, left}
use Rattle.integrity.proofs.Runs.{Turn, turned, turn_is, form_turn}
use Rattle.integrity.proofs.Typed.{through_load, through_store}
use Rattle.integrity.proofs.Fair.{some_marked, FairFrame, Fair, value_there}
use Rattle.integrity.proofs.FairStep.{before_frame}

-- an event of another kind isn't that of a function entered through a pointer
unlike : (e : Event) (k : EventKind) (n g : ℕ) → (k ≡ CalledThrough → ⊥) → e ≡ event k n → e ≡ event CalledThrough g → ⊥
unlike e k n g z p q = z (ap (λ (x : Event). x.kind) (sym p ∙ q))

-- a step of the frame f above the others, of which what is fair is known
module _ (m : Module) (h : List Made) (s : Sight) (f : Frame) (rest : List Frame) (fair : FairFrame m h f) where
  -- what is entered through a pointer
  gives_kind : {i : Instruction} {e : Event} {x : ℕ} {v : Value} → Gives m s f rest i e x v → e.kind ≡ CalledThrough → ⊥
  gives_kind (moved x y z w b is) p = cc
  gives_kind q p = cc

  enters_known : {i : Instruction} {k : EventKind} {g : ℕ} → Enters m s f rest i k g → (g' : ℕ) → event k g ≡ event CalledThrough g' → TookBy m h g'
  enters_known (called g) g' q = let z = ap (λ (e : Event). e.kind) q in absurd (cc)
  enters_known (called_through x g is) g' q = subst (TookBy m h) (ap (λ (e : Event). e.word) q) (fair.known x (Code g) (value_there f x (Code g) is))

  through_known : {i : Instruction} {e : Event} {l : Left} → Form m s f rest i e l → (g : ℕ) → e ≡ event CalledThrough g → TookBy m h g
  through_known (gave x v p is) g e_is = absurd (gives_kind p (ap (λ (e : Event). e.kind) e_is))
  through_known (allocated x y i_is nonzero fits q is) g e_is = absurd (unlike _ AllocatedIs _ g (λ z. cc) q e_is)
  through_known (went p n q is) g e_is = absurd (⊎_elim (λ z. unlike _ Other 0 g (λ w. cc) z e_is) (λ z. unlike _ Branched z.0 g (λ w. cc) z.1 e_is) q)
  through_known (wrote act memory p q is) g e_is = absurd (unlike _ Other 0 g (λ z. cc) q e_is)
  through_known (entered_in k g' p room q is) g e_is = enters_known p g (sym q ∙ e_is)
  through_known (left i_is q is) g e_is = absurd (⊎_elim (λ z. unlike _ Returned 0 g (λ w. cc) z e_is) (λ z. unlike _ Ended 0 g (λ w. cc) z e_is) q)

  -- nothing is reached through a mark but within its bounds
  abbrev pub Reaches : Instruction → Type 0
  Reaches i = (y words : ℕ) (v : Mark) → Through m f i y words → value f y ≡ Marked v → Inside v words

  -- so it is through one local, of so many words
  abbrev Held : ℕ → ℕ → Type 0
  Held y words = (v : Mark) → value f y ≡ Marked v → Inside v words

  by_field : (x y k : ℕ) → Held y (size m f y) → Reaches (op.Field x y k)
  by_field x y k held _ _ v (field _ _ _) is = held v is

  by_load : (x y : ℕ) → Held y 1 → Reaches (op.Load x y)
  by_load x y held _ _ v (load _ _) is = held v is

  by_store : (x y : ℕ) → Held y 1 → Reaches (op.Store x y)
  by_store x y held _ _ v (store _ _) is = held v is

  inside_at : (y a n : ℕ) (b : Bounds) → value f y ≡ Marked (Data a b) → within b a n ≡ true → Held y n
  inside_at y a n b is l v e = let w = within_parts b a n l in subst (λ u. Inside u n) (some_marked (Data a b) v (sym is ∙ e)) (w.0, w.1)

  -- where what y points at isn't sensitive, y is plain, and nothing is reached through a mark
  plain_at : (x y n : ℕ) → (sensitive m f y ≡ true → sensitive m f x ≡ true) → sensitive m f x ≡ false → Held y n
  plain_at x y n k t v e = absurd (both_ways _ t (k (fair.typed y v (value_there f y v e))))

  gives_inside : {i : Instruction} {e : Event} {x : ℕ} {u : Value} → Gives m s f rest i e x u → instruction m f ≡ Some i → Reaches i
  gives_inside (given_field x y k w b t is l) ins = by_field x y k (inside_at y w (size m f y) b is l)
  gives_inside (field_plain x y k t) ins = by_field x y k (plain_at y y (size m f y) (λ z. z) t)
  gives_inside (loaded x y a n b t is l) ins = by_load x y (inside_at y a 1 b is l)
  gives_inside (loaded_plain x y n t) ins = by_load x y (plain_at x y 1 (through_load m f x y ins) t)
  gives_inside p ins = λ y words v q e. elim q [ ]

  writes_inside : {i : Instruction} {act : Act} → Writes m s f rest i act → instruction m f ≡ Some i → Reaches i
  writes_inside (put x y a v b t x_is y_is l) ins = by_store x y (inside_at y a 1 b y_is l)
  writes_inside (dropped x y a n b t x_is y_is l) ins = by_store x y (inside_at y a 1 b y_is l)
  writes_inside (written x y t) ins = by_store x y (plain_at x y 1 (through_store m f x y ins) t)

  next_none : {i : Instruction} {p : ℕ} → Next m s f rest i p → (y words : ℕ) → Through m f i y words → ⊥
  next_none (behind_branch x to) y words q = elim q [ ]
  next_none (by_branch x to) y words q = elim q [ ]
  next_none (by_jump to) y words q = elim q [ ]

  enters_none : {i : Instruction} {k : EventKind} {g : ℕ} → Enters m s f rest i k g → (y words : ℕ) → Through m f i y words → ⊥
  enters_none (called g) y words q = elim q [ ]
  enters_none (called_through x g is) y words q = elim q [ ]

  allocate_none : (x y z words : ℕ) → Through m f (op.Allocate x y) z words → ⊥
  allocate_none x y z words q = elim q [ ]

  return_none : (z words : ℕ) → Through m f op.Return z words → ⊥
  return_none z words q = elim q [ ]

  form_inside : {i : Instruction} {e : Event} {l : Left} → Form m s f rest i e l → instruction m f ≡ Some i → Reaches i
  form_inside (gave x u p is) ins = gives_inside p ins
  form_inside (allocated x y i_is nonzero fits q is) ins = λ z words v t e. absurd (allocate_none x y z words (subst (λ i. Through m f i z words) i_is t))
  form_inside (went p n q is) ins = λ y words v t e. absurd (next_none n y words t)
  form_inside (wrote act memory p q is) ins = writes_inside p ins
  form_inside (entered_in k g p room q is) ins = λ y words v t e. absurd (enters_none p y words t)
  form_inside (left i_is q is) ins = λ y words v t e. absurd (return_none y words (subst (λ i. Through m f i y words) i_is t))

newest_fair : (m : Module) (h : List Made) (s : Sight) (e : Event) (s' : Sight) → Fair m h s → (t : Turn m s e s') → FairFrame m h t.frame
newest_fair m h s e s' fair t = before_frame m h s t.frame t.others (made s e s') fair t.stack_is

pub entered_step : (m : Module) (h : List Made) (s s' : Sight) (e : Event) → Fair m h s → Step m s (Ok e) s' → (g : ℕ) → e ≡ event CalledThrough g → TookBy m h g
entered_step m h s s' e fair p g q =
    let t = turned m s e s' p in
    through_known m h s t.frame t.others (newest_fair m h s e s' fair t) (form_turn t) g q

pub reached_step : (m : Module) (h : List Made) (s s' : Sight) (e : Event) → Fair m h s → Step m s (Ok e) s' → (f : Frame) (i : Instruction) (y words : ℕ) (v : Mark) → Did m (made s e s') f i → Through m f i y words → value f y ≡ Marked v → Inside v words
reached_step m h s s' e fair p f i y words v did q is =
    let t = turned m s e s' p in
    let same = turn_is t did in
    form_inside m h s t.frame t.others (newest_fair m h s e s' fair t) (form_turn t) t.instruction_is y words v (rw (same.0, same.1) at q) (rw (same.0) at is)
