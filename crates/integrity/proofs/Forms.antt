-- What a made step can leave, with what is then known: one form for each way that a step can be made.
use Rattle.std.specs.Prelude.{◌≡◌, ℕ, ◌+◌, ◌*◌, ◌<◌, ◌≤◌, true, false, ◌⊎◌, ◌||◌, ◌==◌, nat_lt, List, [], ◌∷◌, length, Ok, Err, Result}
use Rattle.std.proofs.Common.{refl, inl, inr, subst}
use Rattle.std.proofs.lemmas.Bool.{cond_both, ltb-true, ltb-false, eqb-false, or_parts}
use Rattle.content.specs.declared.instruction.Instruction.{Instruction}
use Rattle.content.specs.declared.instruction.Instruction.TheVariants as op
use Rattle.module.specs.Modules.{said, frames}
use Rattle.module.specs.declared.module.Module.{Module}
use Rattle.values.specs.declared.bounds.Bounds.{Bounds}
use Rattle.values.specs.declared.marked.Marked.{Marked as Mark}
use Rattle.values.specs.declared.marked.Marked.TheVariants.{Code, Data}
use Rattle.machine.specs.declared.value.Value.{Value}
use Rattle.machine.specs.declared.value.Value.TheVariants.{Plain, Marked}
use Rattle.machine.specs.declared.frame.Frame.{Frame}
use Rattle.machine.specs.declared.event.Event.{Event}
use Rattle.machine.specs.declared.event.EventKind.{EventKind}
use Rattle.machine.specs.declared.event.EventKind.TheVariants.{Called, CalledThrough, Returned, Ended, Branched, Moved, Allocated}
use Rattle.machine.specs.declared.refusal.Stop.{Stop}
use Rattle.machine.specs.declared.refusal.Stop.TheVariants.{Address, NotData, Outside, NotCode, StackFull, HeapFull, NotTaken}
use Rattle.machine.specs.declared.refusal.Refusal.{Refusal}
use Rattle.machine.specs.declared.refusal.Refusal.TheVariants.{Stopped}
use Rattle.machine.specs.Values.{word, with_word, bounds_of, data_in, read, wrapped}
use Rattle.machine.specs.inside.Parts.{within}
use Rattle.machine.specs.Frames.{entered, value}
use Rattle.machine.specs.Events.{event, other}
use Rattle.machine.specs.Machine.{Sight, Act, keeps, puts, drops, Left, makes, gives, goes, writes, given, sensitive, size, start_of, stops, enter, enter_through, leave, allocate, move, field_within, load_within, keep, make}
use Rattle.machine.specs.inside.Parts.{behind, branch, store_within}
use Rattle.machine.proofs.Parts.{bounds}

module _ (m : Module) (s : Sight) (f : Frame) (rest : List Frame) where
  -- why a place is the next: it is behind the instruction, or a jump or a branch names it
  pub data Next : Instruction → ℕ → Type 0 where
    behind_branch : (x to : ℕ) → Next (op.Branch x to) (f.place + 1)
    by_branch : (x to : ℕ) → Next (op.Branch x to) to
    by_jump : (to : ℕ) → Next (op.Jump to) to

  -- why x takes a value
  pub data Gives : Instruction → Event → ℕ → Value → Type 0 where
    address : (x g : ℕ) → Gives (op.Function x g) other x (Marked (Code g))
    named : (x g : ℕ) → Gives (op.Global x g) other x (data_in (bounds m s f rest g) (start_of (said m).types (said m).globals g))
    moved : (x y z w : ℕ) (b : Bounds) → value f y ≡ Marked (Data w b)
        → Gives (op.Move x y z) (event Moved (word (value f z))) x (Marked (Data (wrapped (w + word (value f z) * size m f x)) b))
    moved_plain : (x y z n : ℕ) → Gives (op.Move x y z) other x (Plain n)
    cast : (x y : ℕ) → Gives (op.Cast x y) other x (value f y)
    field : (x y k w : ℕ) (b : Bounds) → sensitive m f y ≡ true → value f y ≡ Marked (Data w b) → within b w (size m f y) ≡ true
        → Gives (op.Field x y k) other x (Marked (Data (wrapped (w + k)) b))
    field_plain : (x y k : ℕ) → sensitive m f y ≡ false → Gives (op.Field x y k) other x (with_word (value f y) (wrapped (word (value f y) + k)))
    loaded : (x y a n : ℕ) (b : Bounds) → sensitive m f x ≡ true → value f y ≡ Marked (Data a b) → within b a 1 ≡ true
        → Gives (op.Load x y) other x (read (s.entries a) n)
    loaded_plain : (x y n : ℕ) → sensitive m f x ≡ false → Gives (op.Load x y) other x (Plain n)
    set : (x n : ℕ) → Gives (op.Set x n) other x (Plain n)
    added : (x y z n : ℕ) → Gives (op.Add x y z) other x (Plain n)
    subtracted : (x y z n : ℕ) → Gives (op.Subtract x y z) other x (Plain n)
    compared : (x y z n : ℕ) → Gives (op.Less x y z) other x (Plain n)

  -- why the store and the memory change
  pub data Writes : Instruction → Act → Type 0 where
    put : (x y a : ℕ) (v : Mark) (b : Bounds) → sensitive m f x ≡ true → value f x ≡ Marked v → value f y ≡ Marked (Data a b) → within b a 1 ≡ true → Writes (op.Store x y) (puts a v)
    dropped : (x y a n : ℕ) (b : Bounds) → sensitive m f x ≡ true → value f x ≡ Plain n → value f y ≡ Marked (Data a b) → within b a 1 ≡ true → Writes (op.Store x y) (drops a)
    written : (x y : ℕ) → sensitive m f x ≡ false → Writes (op.Store x y) keeps

  -- why a function is entered
  pub data Enters : Instruction → EventKind → ℕ → Type 0 where
    called : (g : ℕ) → Enters (op.Call g) Called g
    called_through : (x g : ℕ) → value f x ≡ Marked (Code g) → Enters (op.CallThrough x) CalledThrough g

  -- the made step of an instruction: its event, and what it leaves
  pub data Form (i : Instruction) (e : Event) (l : Left) : Type 0 where
    gave : (x : ℕ) (v : Value) → Gives i e x v → l ≡ gives m s f rest e x v → Form i e l
    allocated : (x y : ℕ) → i ≡ op.Allocate x y → (word (value f y) ≡ 0 → ⊥) → s.state.heap + word (value f y) * size m f x ≤ (said m).memory → e ≡ event Allocated (word (value f y))
        → l ≡ makes e (given m f x (data_in (bounds_of s.state.heap (s.state.heap + word (value f y) * size m f x)) s.state.heap) ∷ rest) (s.state.heap + word (value f y) * size m f x) keeps s.memory → Form i e l
    went : (p : ℕ) → Next i p → ((e ≡ other) ⊎ ((n : ℕ) × (e ≡ event Branched n))) → l ≡ goes m s f rest e p → Form i e l
    wrote : (act : Act) (memory : List ℕ) → Writes i act → e ≡ other → l ≡ writes m s f rest act memory → Form i e l
    entered_in : (k : EventKind) (g : ℕ) → Enters i k g → length rest + 1 < frames (said m).depth → e ≡ event k g → l ≡ makes e (entered g ∷ behind f ∷ rest) s.state.heap keeps s.memory → Form i e l
    left : i ≡ op.Return → (e ≡ event Returned 0) ⊎ (e ≡ event Ended 0) → l ≡ makes e rest s.state.heap keeps s.memory → Form i e l

  -- what an instruction leaves: a stop, or what a form says
  pub data Outcome (i : Instruction) (l : Left) : Type 0 where
    stopped : (why : Stop) → l ≡ stops s why → Outcome i l
    done : (e : Event) → l.answer ≡ Ok e → Form i e l → Outcome i l

  stop : (i : Instruction) (why : Stop) → Outcome i (stops s why)
  stop i why = stopped why refl

  give : (i : Instruction) (e : Event) (x : ℕ) (v : Value) → Gives i e x v → Outcome i (gives m s f rest e x v)
  give i e x v g = done e refl (gave x v g refl)

  go : (i : Instruction) (e : Event) (p : ℕ) → Next i p → ((e ≡ other) ⊎ ((n : ℕ) × (e ≡ event Branched n))) → Outcome i (goes m s f rest e p)
  go i e p next is = done e refl (went p next is refl)

  write : (i : Instruction) (act : Act) (memory : List ℕ) → Writes i act → Outcome i (writes m s f rest act memory)
  write i act memory w = done other refl (wrote act memory w refl refl)

  entering : (i : Instruction) (k : EventKind) (g : ℕ) → Enters i k g → Outcome i (enter m s f rest k g)
  entering i k g enters =
      cond_both (nat_lt (length rest + 1) (frames (said m).depth)) _ _ (Outcome i)
      (λ lt. done (event k g) refl (entered_in k g enters (ltb-true (length rest + 1) (frames (said m).depth) lt) refl refl))
      (λ _. stop i StackFull)

  entering_through : (x : ℕ) (v : Value) → value f x ≡ v → Outcome (op.CallThrough x) (enter_through m s f rest v)
  entering_through x (Plain w) is = stop (op.CallThrough x) NotCode
  entering_through x (Marked (Code g)) is = entering (op.CallThrough x) CalledThrough g (called_through x g is)
  entering_through x (Marked (Data w b)) is = stop (op.CallThrough x) NotCode

  leaving : (gs : List Frame) → rest ≡ gs → Outcome op.Return (leave m s f rest gs)
  leaving [] is = done (event Ended 0) refl (left refl (inr refl) (rw is refl))
  leaving (g ∷ gs) is = done (event Returned 0) refl (left refl (inl refl) (rw is refl))

  branching : (x w to : ℕ) → Outcome (op.Branch x to) (branch m s f rest w to)
  branching x w to =
      cond_both (w == 0) _ _ (Outcome (op.Branch x to))
      (λ _. go (op.Branch x to) (event Branched 0) (f.place + 1) (behind_branch x to) (inr (0, refl)))
      (λ _. go (op.Branch x to) (event Branched 1) to (by_branch x to) (inr (1, refl)))

  allocating : (x y : ℕ) → Outcome (op.Allocate x y) (allocate m s f rest x (word (value f y)) (word (value f y) * size m f x))
  allocating x y =
      let n = word (value f y) in
      let top = s.state.heap + n * size m f x in
      cond_both (n == 0 || nat_lt (said m).memory top) _ _ (Outcome (op.Allocate x y)) (λ _. stop (op.Allocate x y) HeapFull)
      (λ no. let parts = or_parts (n == 0) (nat_lt (said m).memory top) no in
      done (event Allocated n) refl (allocated x y refl (eqb-false n 0 parts.0) (ltb-false (said m).memory top parts.1) refl refl))

  moving : (x y z : ℕ) (v : Value) → value f y ≡ v → Outcome (op.Move x y z) (move m s f rest x v (word (value f z)) (size m f x))
  moving x y z (Plain w) is = give (op.Move x y z) other x _ (moved_plain x y z _)
  moving x y z (Marked (Code g)) is = give (op.Move x y z) other x _ (moved_plain x y z _)
  moving x y z (Marked (Data w b)) is = give (op.Move x y z) _ x _ (moved x y z w b is)

  fielding : (x y k : ℕ) → sensitive m f y ≡ true → (v : Value) → value f y ≡ v → Outcome (op.Field x y k) (field_within m s f rest x v k (size m f y))
  fielding x y k told (Plain w) is = stop (op.Field x y k) NotData
  fielding x y k told (Marked (Code g)) is = stop (op.Field x y k) NotData
  fielding x y k told (Marked (Data w b)) is =
      cond_both (within b w (size m f y)) _ _ (Outcome (op.Field x y k))
      (λ inside. give (op.Field x y k) other x _ (field x y k w b told is inside)) (λ _. stop (op.Field x y k) Outside)

  loading : (x y : ℕ) → sensitive m f x ≡ true → (v : Value) → value f y ≡ v → Outcome (op.Load x y) (load_within m s f rest x v)
  loading x y told (Plain w) is = stop (op.Load x y) NotData
  loading x y told (Marked (Code g)) is = stop (op.Load x y) NotData
  loading x y told (Marked (Data a b)) is =
      cond_both (within b a 1) _ _ (Outcome (op.Load x y))
      (λ inside. give (op.Load x y) other x _ (loaded x y a _ b told is inside)) (λ _. stop (op.Load x y) Outside)

  keeping : (x y a : ℕ) (b : Bounds) → sensitive m f x ≡ true → value f y ≡ Marked (Data a b) → within b a 1 ≡ true → (v : Value) → value f x ≡ v → Outcome (op.Store x y) (keep m s f rest v a)
  keeping x y a b told at inside (Plain n) is = write (op.Store x y) (drops a) _ (dropped x y a n b told is at inside)
  keeping x y a b told at inside (Marked v) is =
      cond_both (s.taken a) _ _ (Outcome (op.Store x y))
      (λ _. write (op.Store x y) (puts a v) s.memory (put x y a v b told is at inside)) (λ _. stop (op.Store x y) NotTaken)

  storing : (x y : ℕ) → sensitive m f x ≡ true → (v : Value) → value f y ≡ v → Outcome (op.Store x y) (store_within m s f rest (value f x) v)
  storing x y told (Plain w) is = stop (op.Store x y) NotData
  storing x y told (Marked (Code g)) is = stop (op.Store x y) NotData
  storing x y told (Marked (Data a b)) is =
      cond_both (within b a 1) _ _ (Outcome (op.Store x y))
      (λ inside. keeping x y a b told is inside (value f x) refl) (λ _. stop (op.Store x y) Outside)

  pub outcome : (i : Instruction) → Outcome i (make m s f rest i)
  outcome (op.Set x n) = give (op.Set x n) other x (Plain n) (set x n)
  outcome (op.Add x y z) = give (op.Add x y z) other x _ (added x y z _)
  outcome (op.Subtract x y z) = give (op.Subtract x y z) other x _ (subtracted x y z _)
  outcome (op.Less x y z) = give (op.Less x y z) other x _ (compared x y z _)
  outcome (op.Cast x y) = give (op.Cast x y) other x (value f y) (cast x y)
  outcome (op.Jump to) = go (op.Jump to) other to (by_jump to) (inl refl)
  outcome (op.Branch x to) = branching x (word (value f x)) to
  outcome (op.Function x g) = give (op.Function x g) other x _ (address x g)
  outcome (op.Global x g) = give (op.Global x g) other x _ (named x g)
  outcome (op.Allocate x y) = allocating x y
  outcome (op.Move x y z) = moving x y z (value f y) refl
  outcome (op.Field x y k) =
      cond_both (sensitive m f y) _ _ (Outcome (op.Field x y k))
      (λ told. fielding x y k told (value f y) refl) (λ no. give (op.Field x y k) other x _ (field_plain x y k no))
  outcome (op.Load x y) =
      cond_both (sensitive m f x) _ _ (Outcome (op.Load x y)) (λ told. loading x y told (value f y) refl)
      (λ no. cond_both (nat_lt (word (value f y)) (said m).memory) _ _ (Outcome (op.Load x y))
      (λ _. give (op.Load x y) other x _ (loaded_plain x y _ no)) (λ _. stop (op.Load x y) Address))
  outcome (op.Store x y) =
      cond_both (sensitive m f x) _ _ (Outcome (op.Store x y)) (λ told. storing x y told (value f y) refl)
      (λ no. cond_both (nat_lt (word (value f y)) (said m).memory) _ _ (Outcome (op.Store x y))
      (λ _. write (op.Store x y) keeps _ (written x y no)) (λ _. stop (op.Store x y) Address))
  outcome (op.Call g) = entering (op.Call g) Called g (called g)
  outcome (op.CallThrough x) = entering_through x (value f x) refl
  outcome op.Return = leaving rest refl

  of_outcome : (i : Instruction) (e : Event) (l : Left) → l.answer ≡ Ok e → Outcome i l → Form i e l
  of_outcome i e l p (stopped why is) = let z : ◌≡◌ {A = Result Event Refusal} (Err (Stopped why)) (Ok e) = rw is at p in absurd cc
  of_outcome i e l p (done e' p' form) = let same : e' ≡ e = cc in subst (λ d. Form i d l) same form

  -- every made step has a form
  pub formed : (i : Instruction) (e : Event) → (make m s f rest i).answer ≡ Ok e → Form i e (make m s f rest i)
  formed i e p = of_outcome i e (make m s f rest i) p (outcome i)
