-- The frames that stand.
use Rattle.std.specs.Prelude.{◌≡◌, ℕ, ◌≤◌, zero, suc, List, [], ◌∷◌, slice_index_or}
use Rattle.machine.specs.declared.frame.Frame.{Frame}
use Rattle.machine.specs.Frames.{entered}

-- the first d of the frames, the newest, which is the last of them, first
abbrev pub standing : ℕ → List Frame → List Frame
standing zero fs = []
standing (suc d) fs = slice_index_or fs d (entered 0) ∷ standing d fs

-- d frames: the newest, and below it as many of the others
abbrev pub topped : ℕ → Frame → List Frame → List Frame
topped zero f fs = []
topped (suc d) f fs = f ∷ standing d fs

-- 16 frames at most; where none stands, a fresh one of function 0 is kept
pub record Topped (d : ℕ) (f : Frame) : Type 0 where
  pub few : d ≤ 16
  pub fresh : d ≡ 0 → f ≡ entered 0
