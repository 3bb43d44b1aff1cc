-- What is said of a history, the list of its made steps, the oldest first.
use Rattle.std.specs.Prelude.{◌≡◌, ℕ, ◌+◌, ◌*◌, ◌<◌, List, length, take, map, filter, fold, Some, None}
use Rattle.std.specs.List.{slice_get}
use Rattle.content.specs.declared.instruction.Instruction.{Instruction}
use Rattle.content.specs.declared.instruction.Instruction.TheVariants as op
use Rattle.module.specs.Modules.{said}
use Rattle.module.specs.declared.module.Module.{Module}
use Rattle.values.specs.declared.marked.Marked.{Marked as Mark}
use Rattle.values.specs.declared.marked.Marked.TheVariants.{Code, Data}
use Rattle.machine.specs.declared.frame.Frame.{Frame}
use Rattle.machine.specs.declared.event.Event.{Event}
use Rattle.machine.specs.Values.{word}
use Rattle.machine.specs.Events.{decides, enters}
use Rattle.machine.specs.Frames.{value}
use Rattle.machine.specs.Machine.{Entries, instruction, size, start_of}
use Rattle.machine.specs.Goes.{Made}

-- the step made this instruction, of the frame f, the newest
pub record Did (m : Module) (d : Made) (f : Frame) (i : Instruction) : Type 0 where
  pub frame : slice_get d.found.stack 0 ≡ Some f
  pub instruction_is : instruction m f ≡ Some i

-- a step of the history took the address of function g
abbrev pub TookBy : Module → List Made → ℕ → Type 0
TookBy m h g = (n : ℕ) × (d : Made) × (f : Frame) × (x : ℕ) × (slice_get h n ≡ Some d) × Did m d f (op.Function x g)

-- the step allocated the new words from low up to high
abbrev pub Allocated : Module → Made → ℕ → ℕ → Type 0
Allocated m d low high = (f : Frame) × (x y : ℕ) × Did m d f (op.Allocate x y) × (low ≡ d.found.heap) × (high ≡ d.found.heap + word (value f y) * size m f x)

-- global k, or the block that step n of the history allocated
pub data Name : Type 0 where
  global : ℕ → Name
  block : ℕ → Name

-- its words, from low up to high
abbrev pub Object : Module → List Made → Name → ℕ → ℕ → Type 0
Object m h (global k) low high = let c = said m in (k < length c.globals) × (low ≡ start_of c.types c.globals k) × (high ≡ start_of c.types c.globals (k + 1))
Object m h (block n) low high = (d : Made) × (slice_get h n ≡ Some d) × Allocated m d low high

-- a function whose address a step of the history took, or data with exactly the bounds of one global or one block
abbrev pub Known : Module → List Made → Mark → Type 0
Known m h (Code g) = TookBy m h g
Known m h (Data w b) = (o : Name) × Object m h o b.low b.high

-- the instructions that reach words through a local, which one, and how many
pub data Through (m : Module) (f : Frame) : Instruction → ℕ → ℕ → Type 0 where
  field : (x y k : ℕ) → Through m f (op.Field x y k) y (size m f y)
  load : (x y : ℕ) → Through m f (op.Load x y) y 1
  store : (x y : ℕ) → Through m f (op.Store x y) y 1

-- what a history decides, in order
abbrev pub decisions : List Made → List Event
decisions h = filter (λ e. decides e.kind) (map (λ d. d.event) h)

-- the functions that it enters, in order
abbrev pub entered_by : List Made → List ℕ
entered_by h = map (λ e. e.word) (filter (λ e. enters e.kind) (map (λ d. d.event) h))

-- two lists agree as far as the shorter goes
abbrev pub Agree : {X : Type 0} → List X → List X → Type 0
Agree xs ys = take (length ys) xs ≡ take (length xs) ys

-- what the store holds below the memory size after a history: what its last step left; as a run begins nothing is held there
abbrev pub held_after : List Made → Entries
held_after h = fold (λ e d. d.left) (λ a. None) h
