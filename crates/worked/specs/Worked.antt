-- Worked cases of what the definitions say.
use Rattle.std.specs.Prelude.{◌≡◌, ◌≢◌, ℕ, ◌+◌, ◌<◌, true, false, List, [], ◌∷◌, length, replicate, is_some, None, Some, Ok, slice_index_or, slice_set, vec_items}
use Rattle.content.specs.declared.kind.Kind.TheVariants.{Number, Void, Function, Pointer, Fields}
use Rattle.content.specs.declared.instruction.Instruction.TheVariants as op
use Rattle.parts.specs.Content.{Content}
use Rattle.sensitivity.specs.Sensitive.{Sensitive}
use Rattle.stores.specs.Meaning.{Dropped, Put}
use Rattle.stores.specs.Slots.{SlotsKept}
use Rattle.array_store.specs.Array.{array_entry, array_taken}
use Rattle.array_store.specs.declared.ArrayStore.{ArrayStore}
use Rattle.hash_store.specs.Hash.{hash_entry, hash_taken}
use Rattle.hash_store.specs.declared.HashStore.{HashStore}
use Rattle.window.specs.Window.{window_entry, window_taken}
use Rattle.window.specs.declared.Window.{Window}
use Rattle.tables.specs.Tables.{words}
use Rattle.module.specs.Modules.{said}
use Rattle.module.specs.declared.module.Module.{Module}
use Rattle.values.specs.declared.bounds.Bounds.{Bounds}
use Rattle.machine.specs.declared.frame.Frame.{Frame}
use Rattle.machine.specs.declared.event.EventKind.TheVariants.{Moved, Allocated}
use Rattle.machine.specs.declared.refusal.Stop.TheVariants.{Outside, NotCode, HeapFull}
use Rattle.machine.specs.declared.value.Value.TheVariants.{Plain, Marked}
use Rattle.machine.specs.Values.{Mark, Code, Data, word, read, wrapped}
use Rattle.machine.specs.Frames.{entered, value}
use Rattle.machine.specs.Events.{event, other}
use Rattle.machine.specs.Machine.{Sight, Step, keeps, makes, stops, given, gives, sensitive, size, load_within, field_within, move, make}

-- what a module may say. Its types: numbers, functions, pointers to functions, records of a number and a pointer to a function, pointers to these records, pointers to numbers, void, void pointers, pointers to void pointers. Two records take 4 of its 10 words. Function 0 takes the address of function 3, spoils it, and allocates.
abbrev pub four : Content
four =
    record {
      memory = 10;
      depth = 1;
      globals = record { kind = 3; count = 2 } ∷ [];
      types = Number ∷ Function ∷ Pointer 1 ∷ Fields 0 2 ∷ Pointer 3 ∷ Pointer 0 ∷ Void ∷ Pointer 6 ∷ Pointer 7 ∷ [];
      fields = record { kind = 0 } ∷ record { kind = 2 } ∷ [];
      locals = record { kind = 2 } ∷ record { kind = 8 } ∷ record { kind = 0 } ∷ record { kind = 4 } ∷ record { kind = 0 } ∷ record { kind = 0 } ∷ [];
      functions = record { first = 0; count = 11; first_local = 0; locals = 6 } ∷ replicate 3 (record { first = 10; count = 1; first_local = 0; locals = 0 });
      code = op.Function 0 3 ∷ op.Set 2 1 ∷ op.Set 4 3 ∷ op.Set 5 2147483648 ∷ op.Cast 1 0 ∷ op.Move 1 1 2
          ∷ op.Cast 0 1 ∷ op.Allocate 3 4 ∷ op.Allocate 3 5 ∷ op.CallThrough 0 ∷ op.Return ∷ [];
    }

-- the bounds from 4 to 6
abbrev pub FourToSix : Bounds → Type 0
FourToSix b = (b.low ≡ 4) × (b.high ≡ 6)

-- local x holds the address of function 3, y is a pointer to what takes one word, both are sensitive, and z holds 1
abbrev pub Holding3 : Module → Frame → (x y z : ℕ) → Type 0
Holding3 m f x y z =
    (value f x ≡ Marked (Code 3)) × (word (value f z) ≡ 1) × (sensitive m f x ≡ true) × (sensitive m f y ≡ true) × (size m f y ≡ 1)
    × (x < length f.locals) × (y < length f.locals) × (z ≢ y)

-- a cast, a move, a cast back and a call through the pointer, each in the frame that the one before it left
abbrev pub Spoilt : Module → Sight → Frame → List Frame → (x y z : ℕ) → Type 0
Spoilt m s f rest x y z =
    let cast : Frame = given m f y (Marked (Code 3)) in
    let moved : Frame = given m cast y (Plain 4) in
    (make m s f rest (op.Cast y x) ≡ gives m s f rest other y (Marked (Code 3))) × (value cast y ≡ Marked (Code 3))
    × (make m s cast rest (op.Move y y z) ≡ gives m s cast rest other y (Plain 4)) × (value moved y ≡ Plain 4)
    × (make m s moved rest (op.Cast x y) ≡ gives m s moved rest other x (Plain 4)) × (make m s (given m moved x (Plain 4)) rest (op.CallThrough x) ≡ stops s NotCode)

-- of 10 words the globals take 4 and the heap none so far, x points at what takes 2 words, y holds 3, and z 2,147,483,648
abbrev pub Asked : Module → Sight → Frame → (x y z : ℕ) → Type 0
Asked m s f x y z =
    ((said m).memory ≡ 10) × (words (said m).types (said m).globals ≡ 4) × (s.state.heap ≡ words (said m).types (said m).globals)
    × (size m f x ≡ 2) × (word (value f y) ≡ 3) × (word (value f z) ≡ 2147483648)

-- a hash store of 2 slots holds something at 5 and at 9
abbrev pub FiveAndNine : HashStore Mark → Type 0
FiveAndNine h = let xs = vec_items h.slots in (length xs ≡ 2) × (is_some (hash_entry xs 5) ≡ true) × (is_some (hash_entry xs 9) ≡ true)

-- a window of 8 addresses, from 100 on, over an array store of 200 slots
abbrev pub Eight : Window (ArrayStore Mark) → Type 0
Eight w = (w.base ≡ 100) × (w.len ≡ 8) × (length (vec_items w.below.slots) ≡ 200)

-- what the cases say
pub record Worked : Type 0 where
  -- A pointer to itself isn't sensitive.
  pub circle : Sensitive (Pointer 0 ∷ []) [] 0 → ⊥
  -- A pointer to a record of a number and a function pointer is sensitive.
  pub through_record : Sensitive four.types four.fields 4
  -- A pointer to a number isn't.
  pub to_number : Sensitive four.types four.fields 5 → ⊥
  -- Within the bounds from 4 to 6 a load at 5 is made, and at 6 it stops.
  pub load : (m : Module) (s : Sight) (f : Frame) (rest : List Frame) (x : ℕ) (b : Bounds) → FourToSix b
      → (load_within m s f rest x (Marked (Data 5 b)) ≡ gives m s f rest other x (read (s.entries 5) (slice_index_or s.memory 5 0))) × (load_within m s f rest x (Marked (Data 6 b)) ≡ stops s Outside)
  -- Within them a step to a field of a record of two words is made at 4, and at 5 it stops.
  pub field : (m : Module) (s : Sight) (f : Frame) (rest : List Frame) (x k : ℕ) (b : Bounds) → FourToSix b
      → (field_within m s f rest x (Marked (Data 4 b)) k 2 ≡ gives m s f rest other x (Marked (Data (wrapped (4 + k)) b))) × (field_within m s f rest x (Marked (Data 5 b)) k 2 ≡ stops s Outside)
  -- Word 4 moved by 4,294,967,295, each of 2 words, is word 2, whether plain or data.
  pub around : (m : Module) (s : Sight) (f : Frame) (rest : List Frame) (x : ℕ) (b : Bounds)
      → (move m s f rest x (Plain 4) 4294967295 2 ≡ gives m s f rest other x (Plain 2)) × (move m s f rest x (Marked (Data 4 b)) 4294967295 2 ≡ gives m s f rest (event Moved 4294967295) x (Marked (Data 2 b)))
  -- A function's address that is cast keeps its mark, loses it as it is moved, and doesn't get it back: the call through it stops.
  pub spoilt : (m : Module) (s : Sight) (f : Frame) (rest : List Frame) (x y z : ℕ) → Holding3 m f x y z → Spoilt m s f rest x y z
  -- Of 10 words, 4 of them the globals', the heap gives three times two, which are all that it has; asked for 2,147,483,648 times two, which would wrap around to none, it stops.
  pub heap : (m : Module) (s : Sight) (f : Frame) (rest : List Frame) (x y z : ℕ) → Asked m s f x y z
      → ((b : Bounds) × (b.low ≡ 4) × (b.high ≡ 10) × (make m s f rest (op.Allocate x y) ≡ makes (event Allocated 3) (given m f x (Marked (Data 4 b)) ∷ rest) 10 keeps s.memory)) × (make m s f rest (op.Allocate x z) ≡ stops s HeapFull)
  -- A hash store of 2 slots that holds 5 and 9 doesn't take 7, and does once 5 was dropped.
  pub hashed : (h i : HashStore Mark) → FiveAndNine h
      → (hash_taken (vec_items h.slots) 7 ≡ false) × (Dropped (hash_entry (vec_items h.slots)) (hash_entry (vec_items i.slots)) (hash_taken (vec_items h.slots)) (hash_taken (vec_items i.slots)) 5 → SlotsKept (vec_items h.slots) (vec_items i.slots) → hash_taken (vec_items i.slots) 7 ≡ true)
  -- A window of 8 addresses from 100 on takes 7, which is 107 below, and holds what is put there, but doesn't take 8.
  pub window : (w x : Window (ArrayStore Mark)) (v : Mark) → Eight w → Eight x
      → (window_taken array_taken w 7 ≡ true) × (array_taken w.below 107 ≡ true) × (window_entry array_entry w 7 ≡ array_entry w.below 107) × (Put (window_entry array_entry w) (window_entry array_entry x) (window_taken array_taken w) (window_taken array_taken x) 7 v → array_entry x.below 107 ≡ Some v)
      × (window_taken array_taken w 8 ≡ false)

-- function 0 behind its first four instructions
abbrev pub standing : Frame
standing = record { function = 0; place = 4; locals = Marked (Code 3) ∷ Plain 0 ∷ Plain 1 ∷ Plain 0 ∷ Plain 3 ∷ Plain 2147483648 ∷ Plain 0 ∷ Plain 0 ∷ [] }

-- a run with this frame alone and nothing allocated, on an empty store that takes any address
abbrev pub seen : Module → Frame → Sight
seen m f = record { state = record { stack = f ∷ []; heap = words (said m).types (said m).globals; stopped = false }; entries = λ _. None; taken = λ _. true; memory = replicate 10 0 }

-- The premises of the cases are met.
pub record Met : Type 0 where
  pub four_to_six : (b : Bounds) × FourToSix b
  pub says : (m : Module) × (said m ≡ four)
  -- From a run's beginning four steps lead to `standing`.
  pub stands : (m : Module) → said m ≡ four → (f : Frame) × (g : Frame) × (h : Frame)
      × Step m (seen m (entered 0)) (Ok other) (seen m f) × Step m (seen m f) (Ok other) (seen m g) × Step m (seen m g) (Ok other) (seen m h) × Step m (seen m h) (Ok other) (seen m standing)
  pub holding : (m : Module) → said m ≡ four → Holding3 m standing 0 1 2
  pub asked : (m : Module) → said m ≡ four → Asked m (seen m standing) standing 3 4 5
  -- A hash store whose two slots hold 9 and 5, and one as it is after 5 was dropped.
  pub hashed : (v u : Mark) → (h : HashStore Mark) × (i : HashStore Mark) × (vec_items h.slots ≡ Some (9, u) ∷ Some (5, v) ∷ []) × (vec_items i.slots ≡ None ∷ Some (9, u) ∷ [])
      × FiveAndNine h × Dropped (hash_entry (vec_items h.slots)) (hash_entry (vec_items i.slots)) (hash_taken (vec_items h.slots)) (hash_taken (vec_items i.slots)) 5 × SlotsKept (vec_items h.slots) (vec_items i.slots)
  -- A window over 200 empty slots, and one as it is after v was put at 7.
  pub window : (v : Mark) → (w : Window (ArrayStore Mark)) × (x : Window (ArrayStore Mark)) × (vec_items w.below.slots ≡ replicate 200 None) × (vec_items x.below.slots ≡ slice_set (replicate 200 None) 107 (Some v))
      × Eight w × Eight x × Put (window_entry array_entry w) (window_entry array_entry x) (window_taken array_taken w) (window_taken array_taken x) 7 v
