-- What the calls of the stack do.
use Rattle.std.specs.Prelude.{ℕ, cond, List, [], ◌∷◌, length, nat_lt, slice_index_or, slice_set}
use Rattle.machine.specs.declared.frame.Frame.{Frame}
use Rattle.machine.specs.declared.value.Value.{Value}
use Rattle.machine.specs.Frames.{entered}

-- the newest frame, or a fresh one of function 0 where none stands
abbrev pub newest : List Frame → Frame
newest fs = slice_index_or fs 0 (entered 0)

-- a function is entered where fewer than 16 frames stand
abbrev pub entering : ℕ → List Frame → List Frame
entering f fs = cond (nat_lt (length fs) 16) (entered f ∷ fs) fs

-- the newest frame is changed, if there is one
abbrev pub with_newest : (Frame → Frame) → List Frame → List Frame
with_newest g [] = []
with_newest g (f ∷ rest) = g f ∷ rest

abbrev pub with_local : ℕ → Value → Frame → Frame
with_local x v f = record { function = f.function; place = f.place; locals = slice_set f.locals x v }
