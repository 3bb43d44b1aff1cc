-- Parts of a step, by the names that the code has.
use Rattle.std.specs.Prelude.{ℕ, ◌+◌, Bool, cond, ◌&&◌, List, Option, ◌==◌, nat_le}
use Rattle.std.specs.Option.{option_map_or}
use Rattle.content.specs.declared.instruction.Instruction.{Instruction}
use Rattle.content.specs.declared.instruction.Instruction.TheVariants as op
use Rattle.module.specs.declared.module.Module.{Module}
use Rattle.values.specs.declared.bounds.Bounds.{Bounds}
use Rattle.machine.specs.declared.frame.Frame.{Frame}
use Rattle.machine.specs.declared.event.EventKind.TheVariants.{Branched}
use Rattle.machine.specs.declared.refusal.Stop.TheVariants.{NotCode}
use Rattle.machine.specs.Values.{Value, Plain, word}
use Rattle.machine.specs.Events.{event}
use Rattle.machine.specs.Machine.{Sight, Left, at_place, at_data, goes, keep, make, sensitive, stops}

-- the n words at w lie within the bounds
abbrev pub within : Bounds → ℕ → ℕ → Bool
within b w n = nat_le b.low w && nat_le (w + n) b.high

-- what local x may hold: plain where its type isn't sensitive
abbrev pub kept : Module → Frame → ℕ → Value → Value
kept m f x v = cond (sensitive m f x) v (Plain (word v))

-- a frame behind its instruction
abbrev pub behind : Frame → Frame
behind f = at_place f (f.place + 1)

module _ (m : Module) (s : Sight) (f : Frame) (rest : List Frame) where
  abbrev pub branch : ℕ → ℕ → Left
  branch w to = cond (w == 0) (goes m s f rest (event Branched 0) (f.place + 1)) (goes m s f rest (event Branched 1) to)

  abbrev pub field : ℕ → ℕ → ℕ → Left
  field x y k = make m s f rest (op.Field x y k)

  abbrev pub load : ℕ → ℕ → Left
  load x y = make m s f rest (op.Load x y)

  abbrev pub store_within : Value → Value → Left
  store_within v at = at_data m s f rest at 1 (λ a b. keep m s f rest v a)

  abbrev pub store : ℕ → ℕ → Left
  store x y = make m s f rest (op.Store x y)

  abbrev pub take_turn : Option Instruction → Left
  take_turn o = option_map_or (make m s f rest) o (stops s NotCode)
