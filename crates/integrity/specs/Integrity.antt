-- The integrity theorem: what holds of every sequence of calls after a begin, on every store, with any writes of the panel.
use Rattle.std.specs.Prelude.{◌≡◌, ◌≢◌, ℕ, ◌+◌, ◌<◌, ◌≤◌, true, ◌⊎◌, List, length, take, Some, None}
use Rattle.std.specs.List.{slice_get}
use Rattle.content.specs.declared.instruction.Instruction.{Instruction}
use Rattle.module.specs.Modules.{said}
use Rattle.module.specs.declared.module.Module.{Module}
use Rattle.enterable.specs.Enterable.{Enterable, EnterableThrough}
use Rattle.values.specs.declared.marked.Marked.{Marked as Mark}
use Rattle.values.specs.declared.marked.Marked.TheVariants.{Code, Data}
use Rattle.machine.specs.declared.value.Value.TheVariants.{Marked}
use Rattle.machine.specs.declared.frame.Frame.{Frame}
use Rattle.machine.specs.declared.event.EventKind.TheVariants.{CalledThrough}
use Rattle.machine.specs.Events.{event, enters}
use Rattle.machine.specs.Frames.{value}
use Rattle.machine.specs.Machine.{Sight, beginning, instruction}
use Rattle.machine.specs.Goes.{Made}
use Rattle.integrity.specs.Calls.{Calls}
use Rattle.integrity.specs.Histories.{Did, TookBy, Name, Object, Known, Through, decisions, entered_by, Agree, held_after}

-- a run as it begins: in the module's first state, nothing held below the memory size
pub record Begun (m : Module) (s : Sight) : Type 0 where
  pub state : s.state ≡ beginning m
  pub clear : (a : ℕ) → a < (said m).memory → s.entries a ≡ None

-- a value is data, and so many words at it lie within its bounds
abbrev pub Inside : Mark → ℕ → Type 0
Inside (Code g) words = ⊥
Inside (Data w b) words = (b.low ≤ w) × (w + words ≤ b.high)

-- what holds of a history and of where it leads
pub record Sound (m : Module) (h : List Made) (s : Sight) : Type 0 where
  -- every function entered through a pointer is one whose address an earlier step took
  pub entered : (n g : ℕ) (d : Made) → slice_get h n ≡ Some d → d.event ≡ event CalledThrough g → TookBy m (take n h) g
  -- so is each marked function in a local of a standing frame, and each marked data has the bounds of one global or block
  pub locals : (k x : ℕ) (f : Frame) (v : Mark) → slice_get s.state.stack k ≡ Some f → slice_get f.locals x ≡ Some (Marked v) → Known m h v
  -- and so it is with what the store holds below the memory size
  pub held : (a : ℕ) (v : Mark) → a < (said m).memory → s.entries a ≡ Some v → Known m h v
  -- no load, store or field step went through a marked value but within its bounds
  pub reached : (n y words : ℕ) (d : Made) (f : Frame) (i : Instruction) (v : Mark) → slice_get h n ≡ Some d → Did m d f i → Through m f i y words → value f y ≡ Marked v → Inside v words
  -- no two of all globals and blocks overlap
  pub apart : (o o' : Name) (low high low' high' : ℕ) → o ≢ o' → Object m h o low high → Object m h o' low' high' → (high ≤ low') ⊎ (high' ≤ low)
  -- each of them has a word at least, and lies within the memory
  pub inside : (o : Name) (low high : ℕ) → Object m h o low high → (low < high) × (high ≤ (said m).memory)
  -- every function whose address was taken is there, and every standing frame has an instruction whose turn it is
  pub named : (g : ℕ) → TookBy m h g → g < length (said m).functions
  pub placed : (k : ℕ) (f : Frame) → slice_get s.state.stack k ≡ Some f → (i : Instruction) × (instruction m f ≡ Some i)
  -- the store holds below the memory size what the last made step left there
  pub left : (a : ℕ) → a < (said m).memory → s.entries a ≡ held_after h a
  -- every function that was entered, by a call or through a pointer, can be entered; every one that was through a pointer can be through one
  pub enterable : (n : ℕ) (d : Made) → slice_get h n ≡ Some d → enters d.event.kind ≡ true → Enterable (said m) d.event.word
  pub enterable_through : (n g : ℕ) (d : Made) → slice_get h n ≡ Some d → d.event ≡ event CalledThrough g → EnterableThrough (said m) g
  -- and so can the function of every standing frame
  pub standing : (k : ℕ) (f : Frame) → slice_get s.state.stack k ≡ Some f → Enterable (said m) f.function

-- what holds of two histories of one module, each on its own store, with its own memories
pub record Alike (m : Module) (h h' : List Made) : Type 0 where
  -- they enter the same functions, as far as the shorter goes
  pub enter : Agree (entered_by h) (entered_by h')
  -- after as many steps the stores hold the same below the memory size
  pub hold : (n a : ℕ) → n ≤ length h → n ≤ length h' → a < (said m).memory → held_after (take n h) a ≡ held_after (take n h') a

-- the theorem, of a run that began at s
pub record Integrity (m : Module) (s : Sight) : Type 0 where
  pub sound : (h : List Made) (s' : Sight) → Calls m s h s' → Sound m h s'
  -- two runs whose decisions agree
  pub alike : (t : Sight) → Begun m t → (h h' : List Made) (s' t' : Sight) → Calls m s h s' → Calls m t h' t' → Agree (decisions h) (decisions h') → Alike m h h'
