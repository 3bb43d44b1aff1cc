-- A frame as its function is entered, and its locals.
use Rattle.std.specs.Prelude.{ℕ, replicate, slice_index_or}
use Rattle.machine.specs.declared.frame.Frame.{Frame}
use Rattle.machine.specs.declared.value.Value.{Value}
use Rattle.machine.specs.declared.value.Value.TheVariants.{Plain}

-- at its first instruction, all locals plain 0
abbrev pub entered : ℕ → Frame
entered f = record { function = f; place = 0; locals = replicate 8 (Plain 0) }

-- what local x holds; plain 0 where there is none
abbrev pub value : Frame → ℕ → Value
value f x = slice_index_or f.locals x (Plain 0)
