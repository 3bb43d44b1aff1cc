-- A step that no call and no return is stays in its frame's function.
use Rattle.std.specs.Prelude.{◌≡◌, ℕ, ◌+◌, ◌<◌, Bool, true, false, cond, ◌==◌, nat_lt, List, [], ◌∷◌, length, Some, None, Ok, Option, Result, refl}
use Rattle.std.proofs.Common.{arith, ap, sym, ◌∙◌}
use Rattle.content.specs.declared.instruction.Instruction.{Instruction}
use Rattle.content.specs.declared.instruction.Instruction.TheVariants as op
use Rattle.module.specs.Modules.{said, frames}
use Rattle.module.specs.declared.module.Module.{Module}
use Rattle.values.specs.declared.marked.Marked.TheVariants.{Code, Data}
use Rattle.machine.specs.declared.value.Value.{Value}
use Rattle.machine.specs.declared.value.Value.TheVariants.{Plain, Marked}
use Rattle.machine.specs.declared.frame.Frame.{Frame}
use Rattle.machine.specs.declared.event.Event.{Event}
use Rattle.machine.specs.declared.event.EventKind.{EventKind}
use Rattle.machine.specs.declared.event.EventKind.TheVariants.{Called, CalledThrough}
use Rattle.machine.specs.declared.refusal.Stop.{Stop}
use Rattle.machine.specs.declared.refusal.NotReady.{NotReady}
use Rattle.machine.specs.declared.refusal.Refusal.{Refusal}
use Rattle.machine.specs.Values.{word}
use Rattle.machine.specs.inside.Parts.{within}
use Rattle.machine.specs.Frames.{value}
use Rattle.machine.specs.Machine.{Sight, Act, Left, Step, makes, stops, refuses, enter, enter_through, leave, move, field_within, load_within, keep, make, turn, instruction, sensitive, size}
use Rattle.machine.specs.inside.Parts.{store_within, take_turn}
use Rattle.stack.specs.Stack.{newest}
use Rattle.runs.specs.inside.Entering.{leaves}

-- what was made, by a step that leaves no frame, has a frame of this function as the newest
record Stays (n : ℕ) (l : Left) : Type 0 where
  same : (e : Event) → Ok e ≡ l.answer → leaves e.kind ≡ false → ((newest l.state.stack).function ≡ n) × (0 < length l.state.stack)

stopped : (n : ℕ) (s : Sight) (why : Stop) → Stays n (stops s why)
stopped n s why = record { same = λ e p q. absurd cc }

refused : (n : ℕ) (s : Sight) (why : NotReady) → Stays n (refuses s why)
refused n s why = record { same = λ e p q. absurd cc }

stayed : (f : Frame) (rest : List Frame) (d : Event) (h : ℕ) (a : Act) (ws : List ℕ) → Stays f.function (makes d (f ∷ rest) h a ws)
stayed f rest d h a ws = record { same = λ e p q. (refl, omega arith) }

not_left : (d e : Event) → leaves d.kind ≡ true → ◌≡◌ {A = Result Event Refusal} (Ok e) (Ok d) → leaves e.kind ≡ false → ⊥
not_left d e t p q =
    let is : e ≡ d = cc in
    let z : true ≡ false = sym t ∙ ap (λ (c : Event). leaves c.kind) (sym is) ∙ q in
    absurd cc

left : (n : ℕ) (fs : List Frame) (d : Event) (h : ℕ) (a : Act) (ws : List ℕ) → leaves d.kind ≡ true → Stays n (makes d fs h a ws)
left n fs d h a ws t = record { same = λ e p q. absurd (not_left d e t p q) }

either : (n : ℕ) (b : Bool) (l r : Left) → Stays n l → Stays n r → Stays n (cond b l r)
either n true l r p q = p
either n false l r p q = q

module _ (m : Module) (s : Sight) (f : Frame) (rest : List Frame) where
  stops_here : (why : Stop) → Stays f.function (stops s why)
  stops_here why = stopped f.function s why

  entering : (k : EventKind) (g : ℕ) → leaves k ≡ true → Stays f.function (enter m s f rest k g)
  entering k g t = either f.function (nat_lt (length rest + 1) (frames (said m).depth)) _ _ (left f.function _ _ _ _ _ t) (stops_here _)

  through : (v : Value) → Stays f.function (enter_through m s f rest v)
  through (Plain w) = stops_here _
  through (Marked (Code g)) = entering CalledThrough g refl
  through (Marked (Data w b)) = stops_here _

  leaving : (fs : List Frame) → Stays f.function (leave m s f rest fs)
  leaving [] = left f.function _ _ _ _ _ refl
  leaving (g ∷ gs) = left f.function _ _ _ _ _ refl

  moving : (x : ℕ) (v : Value) (k words : ℕ) → Stays f.function (move m s f rest x v k words)
  moving x (Plain w) k words = stayed _ rest _ _ _ _
  moving x (Marked (Code g)) k words = stayed _ rest _ _ _ _
  moving x (Marked (Data w b)) k words = stayed _ rest _ _ _ _

  field_in : (x : ℕ) (v : Value) (k words : ℕ) → Stays f.function (field_within m s f rest x v k words)
  field_in x (Plain w) k words = stops_here _
  field_in x (Marked (Code g)) k words = stops_here _
  field_in x (Marked (Data w b)) k words = either f.function (within b w words) _ _ (stayed _ rest _ _ _ _) (stops_here _)

  load_in : (x : ℕ) (v : Value) → Stays f.function (load_within m s f rest x v)
  load_in x (Plain w) = stops_here _
  load_in x (Marked (Code g)) = stops_here _
  load_in x (Marked (Data a b)) = either f.function (within b a 1) _ _ (stayed _ rest _ _ _ _) (stops_here _)

  keeping : (v : Value) (a : ℕ) → Stays f.function (keep m s f rest v a)
  keeping (Plain w) a = stayed _ rest _ _ _ _
  keeping (Marked v) a = either f.function (s.taken a) _ _ (stayed _ rest _ _ _ _) (stops_here _)

  store_in : (u v : Value) → Stays f.function (store_within m s f rest u v)
  store_in u (Plain w) = stops_here _
  store_in u (Marked (Code g)) = stops_here _
  store_in u (Marked (Data a b)) = either f.function (within b a 1) _ _ (keeping u a) (stops_here _)

  making : (i : Instruction) → Stays f.function (make m s f rest i)
  making (op.Set x k) = stayed _ rest _ _ _ _
  making (op.Add x y z) = stayed _ rest _ _ _ _
  making (op.Subtract x y z) = stayed _ rest _ _ _ _
  making (op.Less x y z) = stayed _ rest _ _ _ _
  making (op.Cast x y) = stayed _ rest _ _ _ _
  making (op.Jump to) = stayed _ rest _ _ _ _
  making (op.Branch x to) = either f.function (word (value f x) == 0) _ _ (stayed _ rest _ _ _ _) (stayed _ rest _ _ _ _)
  making (op.Function x g) = stayed _ rest _ _ _ _
  making (op.Global x g) = stayed _ rest _ _ _ _
  making (op.Allocate x y) = either f.function _ _ _ (stops_here _) (stayed _ rest _ _ _ _)
  making (op.Move x y z) = moving x (value f y) (word (value f z)) (size m f x)
  making (op.Field x y k) = either f.function (sensitive m f y) _ _ (field_in x (value f y) k (size m f y)) (stayed _ rest _ _ _ _)
  making (op.Load x y) = either f.function (sensitive m f x) _ _ (load_in x (value f y)) (either f.function _ _ _ (stayed _ rest _ _ _ _) (stops_here _))
  making (op.Store x y) = either f.function (sensitive m f x) _ _ (store_in (value f x) (value f y)) (either f.function _ _ _ (stayed _ rest _ _ _ _) (stops_here _))
  making (op.Call g) = entering Called g refl
  making (op.CallThrough x) = through (value f x)
  making op.Return = leaving rest

  taking : (o : Option Instruction) → Stays f.function (take_turn m s f rest o)
  taking None = stops_here _
  taking (Some i) = making i

turning : (m : Module) (s : Sight) (fs : List Frame) → Stays (newest fs).function (turn m s fs)
turning m s [] = refused _ s _
turning m s (f ∷ rest) =
    either f.function s.state.stopped _ _ (refused _ s _)
    (either f.function (length s.memory == (said m).memory) _ _ (taking m s f rest (instruction m f)) (refused _ s _))

-- a step that leaves no frame has a frame of the same function as the newest
pub stays_in : (m : Module) (s : Sight) (e : Event) (s' : Sight) → Step m s (Ok e) s' → leaves e.kind ≡ false → (newest s'.state.stack).function ≡ (newest s.state.stack).function
stays_in m s e s' d q = rw d.state ((turning m s s.state.stack).same e d.answer q).0

pub stands_still : (m : Module) (s : Sight) (e : Event) (s' : Sight) → Step m s (Ok e) s' → leaves e.kind ≡ false → 0 < length s'.state.stack
stands_still m s e s' d q = rw d.state ((turning m s s.state.stack).same e d.answer q).1
