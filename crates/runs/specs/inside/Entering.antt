-- Which steps leave a frame, and which locals an instruction names.
use Rattle.std.specs.Prelude.{◌<◌, Bool, true, false}
use Rattle.content.specs.declared.instruction.Instruction.{Instruction}
use Rattle.content.specs.declared.instruction.Instruction.TheVariants as op
use Rattle.machine.specs.declared.event.EventKind.{EventKind}
use Rattle.machine.specs.declared.event.EventKind.TheVariants.{Other, Called, CalledThrough, Returned, Ended, Branched, Moved, Allocated}

-- after a step of this kind another frame is the newest, or none is
abbrev pub leaves : EventKind → Bool
leaves Other = false
leaves Called = true
leaves CalledThrough = true
leaves Returned = true
leaves Ended = true
leaves Branched = false
leaves Moved = false
leaves Allocated = false

-- each local that the instruction names is one of a frame's eight
abbrev pub LocalsBelow : Instruction → Type 0
LocalsBelow (op.Set x n) = x < 8
LocalsBelow (op.Add x y z) = (x < 8) × (y < 8) × (z < 8)
LocalsBelow (op.Subtract x y z) = (x < 8) × (y < 8) × (z < 8)
LocalsBelow (op.Less x y z) = (x < 8) × (y < 8) × (z < 8)
LocalsBelow (op.Cast x y) = (x < 8) × (y < 8)
LocalsBelow (op.Jump to) = Unit {0}
LocalsBelow (op.Branch x to) = x < 8
LocalsBelow (op.Function x g) = x < 8
LocalsBelow (op.Global x g) = x < 8
LocalsBelow (op.Allocate x y) = (x < 8) × (y < 8)
LocalsBelow (op.Move x y z) = (x < 8) × (y < 8) × (z < 8)
LocalsBelow (op.Field x y k) = (x < 8) × (y < 8)
LocalsBelow (op.Load x y) = (x < 8) × (y < 8)
LocalsBelow (op.Store x y) = (x < 8) × (y < 8)
LocalsBelow (op.Call g) = Unit {0}
LocalsBelow (op.CallThrough x) = x < 8
LocalsBelow op.Return = Unit {0}
