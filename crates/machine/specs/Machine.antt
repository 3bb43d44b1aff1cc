-- What a step answers and leaves.
use Rattle.std.specs.Prelude.{◌≡◌, ℕ, ◌+◌, ◌-◌, ◌*◌, ◌^◌, Bool, true, false, cond, ◌&&◌, ◌||◌, List, [], ◌∷◌, length, take, Some, None, Ok, Err, Option, Result, ◌==◌, nat_le, nat_lt, slice_index_or, slice_set, unwrap_or}
use Rattle.content.specs.declared.kind.Kind.{Kind}
use Rattle.content.specs.declared.global.Global.{Global}
use Rattle.content.specs.declared.instruction.Instruction.{Instruction}
use Rattle.content.specs.declared.instruction.Instruction.TheVariants as op
use Rattle.std.specs.Option.{option_map_or}
use Rattle.stores.specs.Meaning.{Dropped, Put}
use Rattle.tables.specs.Tables.{words}
use Rattle.module.specs.Modules.{said, frames, instruction_at, local_at}
use Rattle.module.specs.declared.module.Module.{Module}
use Rattle.values.specs.declared.bounds.Bounds.{Bounds}
use Rattle.machine.specs.declared.frame.Frame.{Frame}
use Rattle.machine.specs.declared.event.Event.{Event}
use Rattle.machine.specs.declared.event.EventKind.{EventKind}
use Rattle.machine.specs.declared.event.EventKind.TheVariants.{Called, CalledThrough, Returned, Ended, Branched, Moved, Allocated}
use Rattle.machine.specs.declared.refusal.NotReady.{NotReady}
use Rattle.machine.specs.declared.refusal.NotReady.TheVariants.{Over, Memory}
use Rattle.machine.specs.declared.refusal.Stop.{Stop}
use Rattle.machine.specs.declared.refusal.Stop.TheVariants.{Address, NotData, Outside, NotCode, StackFull, HeapFull, NotTaken}
use Rattle.machine.specs.declared.refusal.Refusal.{Refusal}
use Rattle.machine.specs.declared.refusal.Refusal.TheVariants.{NotReady as Unready, Stopped}
use Rattle.machine.specs.Values.{Mark, Code, Data, Value, Plain, Marked, word, with_word, bounds_of, data_in, read, wrapped}
use Rattle.machine.specs.Frames.{entered, value}
use Rattle.machine.specs.Events.{event, other}

-- what is held at each address
abbrev pub Entries : Type 0
Entries = ℕ → Option Mark

-- which addresses are taken
abbrev pub Taken : Type 0
Taken = ℕ → Bool

-- a run beside its module and its store
pub record State : Type 0 where
  -- the frames that stand, the newest first; none after the end
  pub stack : List Frame
  -- where the unused words of the heap begin
  pub heap : ℕ
  pub stopped : Bool

-- all that a step sees and may change
pub record Sight : Type 0 where
  pub state : State
  pub entries : Entries
  pub taken : Taken
  pub memory : List ℕ

-- as a run begins: in function 0, the heap behind the globals
abbrev pub beginning : Module → State
beginning m = record { stack = entered 0 ∷ []; heap = words (said m).types (said m).globals; stopped = false }

-- what a step does with the store
pub data Act : Type 0 where
  keeps : Act
  puts : ℕ → Mark → Act
  drops : ℕ → Act

-- and what that leaves of it
abbrev pub Acts : Act → Entries → Taken → Entries → Taken → Type 0
Acts keeps e t e' t' = (e' ≡ e) × (t' ≡ t)
Acts (puts a v) e t e' t' = Put e e' t t' a v
Acts (drops a) e t e' t' = Dropped e e' t t' a

-- what a step answers and leaves; of the store, what it does with it
pub record Left : Type 0 where
  pub answer : Result Event Refusal
  pub state : State
  pub act : Act
  pub memory : List ℕ

-- where global g begins; behind the last one, where the heap does
abbrev pub start_of : List Kind → List Global → ℕ → ℕ
start_of types globals g = words types (take g globals)

module _ (m : Module) where
  -- the instruction whose turn it is in a frame
  abbrev pub instruction : Frame → Option Instruction
  instruction f = instruction_at (said m) f.function f.place

  -- whether the type of a frame's local is sensitive
  abbrev pub sensitive : Frame → ℕ → Bool
  sensitive f x = (local_at (said m) m.sensitive f.function x).sensitive

  -- the size of what it points at
  abbrev pub size : Frame → ℕ → ℕ
  size f x = unwrap_or (local_at (said m) m.sensitive f.function x).size 0

-- a frame whose next instruction is at this place
abbrev pub at_place : Frame → ℕ → Frame
at_place f p = record { function = f.function; place = p; locals = f.locals }

-- a frame behind its instruction, local x holding v, or the plain word where its type isn't sensitive
abbrev pub given : Module → Frame → ℕ → Value → Frame
given m f x v = record { function = f.function; place = f.place + 1; locals = slice_set f.locals x (cond (sensitive m f x) v (Plain (word v))) }

-- refused: nothing changes
abbrev pub refuses : Sight → NotReady → Left
refuses s why = record { answer = Err (Unready why); state = s.state; act = keeps; memory = s.memory }

-- stopped: marked so, and nothing else changes
abbrev pub stops : Sight → Stop → Left
stops s why = record { answer = Err (Stopped why); state = record { stack = s.state.stack; heap = s.state.heap; stopped = true }; act = keeps; memory = s.memory }

-- made: the frames that stand then, where the heap begins, what the store is to do, and the memory
abbrev pub makes : Event → List Frame → ℕ → Act → List ℕ → Left
makes e stack heap act memory = record { answer = Ok e; state = record { stack = stack; heap = heap; stopped = false }; act = act; memory = memory }

-- a step of the newest frame f, above the others
module _ (m : Module) (s : Sight) (f : Frame) (rest : List Frame) where
  -- local x takes a value
  abbrev pub gives : Event → ℕ → Value → Left
  gives e x v = makes e (given m f x v ∷ rest) s.state.heap keeps s.memory

  -- the next instruction is at place p
  abbrev pub goes : Event → ℕ → Left
  goes e p = makes e (at_place f p ∷ rest) s.state.heap keeps s.memory

  -- the store and the memory change
  abbrev pub writes : Act → List ℕ → Left
  writes act memory = makes other (at_place f (f.place + 1) ∷ rest) s.state.heap act memory

  -- a function is entered, if a frame more may stand
  abbrev pub enter : EventKind → ℕ → Left
  enter k g =
      cond (nat_lt (length rest + 1) (frames (said m).depth))
      (makes (event k g) (entered g ∷ at_place f (f.place + 1) ∷ rest) s.state.heap keeps s.memory) (stops s StackFull)

  -- through a value, which must be code
  abbrev pub enter_through : Value → Left
  enter_through (Marked (Code g)) = enter CalledThrough g
  enter_through _ = stops s NotCode

  -- the newest frame goes; with the last, the run ends
  abbrev pub leave : List Frame → Left
  leave [] = makes (event Ended 0) [] s.state.heap keeps s.memory
  leave (g ∷ gs) = makes (event Returned 0) (g ∷ gs) s.state.heap keeps s.memory

  -- asked for n times so many words: the first that the heap has left
  abbrev pub allocate : ℕ → ℕ → ℕ → Left
  allocate x n words =
      cond (n == 0 || nat_lt (said m).memory (s.state.heap + words)) (stops s HeapFull)
      (makes (event Allocated n) (given m f x (data_in (bounds_of s.state.heap (s.state.heap + words)) s.state.heap) ∷ rest) (s.state.heap + words) keeps s.memory)

  -- moved by n, each of so many words: data stays data, within its bounds
  abbrev pub move : ℕ → Value → ℕ → ℕ → Left
  move x (Marked (Data w b)) n words = gives (event Moved n) x (Marked (Data (wrapped (w + n * words)) b))
  move x v n words = gives other x (Plain (wrapped (word v + n * words)))

  -- a value must be data, and so many words at it lie within its bounds, for what is done with it
  abbrev pub at_data : Value → ℕ → (ℕ → Bounds → Left) → Left
  at_data (Marked (Data w b)) words does = cond (nat_le b.low w && nat_le (w + words) b.high) (does w b) (stops s Outside)
  at_data _ words does = stops s NotData

  -- field k of the record at data, which must lie wholly within the bounds
  abbrev pub field_within : ℕ → Value → ℕ → ℕ → Left
  field_within x v k words = at_data v words (λ w b. gives other x (Marked (Data (wrapped (w + k)) b)))

  -- a load from the memory alone
  abbrev pub load_plain : ℕ → ℕ → Left
  load_plain x a = cond (nat_lt a (said m).memory) (gives other x (Plain (slice_index_or s.memory a 0))) (stops s Address)

  -- a load that the store goes before
  abbrev pub load_within : ℕ → Value → Left
  load_within x v = at_data v 1 (λ a b. gives other x (read (s.entries a) (slice_index_or s.memory a 0)))

  -- a store into the memory alone
  abbrev pub store_plain : ℕ → ℕ → Left
  store_plain n a = cond (nat_lt a (said m).memory) (writes keeps (slice_set s.memory a n)) (stops s Address)

  -- a marked value goes into the store, a plain one into the memory
  abbrev pub keep : Value → ℕ → Left
  keep (Plain n) a = writes (drops a) (slice_set s.memory a n)
  keep (Marked v) a = cond (s.taken a) (writes (puts a v) s.memory) (stops s NotTaken)

  -- what each instruction does
  abbrev pub make : Instruction → Left
  make (op.Set x n) = gives other x (Plain n)
  make (op.Add x y z) = gives other x (Plain (wrapped (word (value f y) + word (value f z))))
  make (op.Subtract x y z) = gives other x (Plain (wrapped (word (value f y) + (2 ^ 32 - word (value f z)))))
  make (op.Less x y z) = gives other x (Plain (cond (nat_lt (word (value f y)) (word (value f z))) 1 0))
  make (op.Cast x y) = gives other x (value f y)
  make (op.Jump to) = goes other to
  make (op.Branch x to) = cond (word (value f x) == 0) (goes (event Branched 0) (f.place + 1)) (goes (event Branched 1) to)
  make (op.Function x g) = gives other x (Marked (Code g))
  make (op.Global x g) = let c = said m in let low = start_of c.types c.globals g in gives other x (data_in (bounds_of low (start_of c.types c.globals (g + 1))) low)
  make (op.Allocate x y) = allocate x (word (value f y)) (word (value f y) * size m f x)
  make (op.Move x y z) = move x (value f y) (word (value f z)) (size m f x)
  make (op.Field x y k) =
      cond (sensitive m f y) (field_within x (value f y) k (size m f y)) (gives other x (with_word (value f y) (wrapped (word (value f y) + k))))
  make (op.Load x y) = cond (sensitive m f x) (load_within x (value f y)) (load_plain x (word (value f y)))
  make (op.Store x y) = cond (sensitive m f x) (at_data (value f y) 1 (λ a b. keep (value f x) a)) (store_plain (word (value f x)) (word (value f y)))
  make (op.Call g) = enter Called g
  make (op.CallThrough x) = enter_through (value f x)
  make op.Return = leave rest

-- a step: refused after the end or a stop, and on a memory that hasn't the module's size; a frame with no instruction for it calls what isn't code, and no run comes there
abbrev pub turn : Module → Sight → List Frame → Left
turn m s [] = refuses s Over
turn m s (f ∷ rest) =
    cond s.state.stopped (refuses s Over)
    (cond (length s.memory == (said m).memory) (option_map_or (make m s f rest) (instruction m f) (stops s NotCode)) (refuses s Memory))

-- s' and the answer r are what l says of a step of s
pub record Does (s : Sight) (l : Left) (r : Result Event Refusal) (s' : Sight) : Type 0 where
  pub answer : r ≡ l.answer
  pub state : s'.state ≡ l.state
  pub store : Acts l.act s.entries s.taken s'.entries s'.taken
  pub memory : s'.memory ≡ l.memory

-- a step's answer and what it leaves
abbrev pub Step : Module → Sight → Result Event Refusal → Sight → Type 0
Step m s r s' = Does s (turn m s s.state.stack) r s'
