-- The locals that an instruction names.
use Rattle.std.specs.Prelude.{◌≡◌, ℕ, ◌<◌, ◌≤◌, true, ◌&&◌, nat_lt, Some}
use Rattle.std.proofs.Common.{arith, sym, ◌∙◌}
use Rattle.std.proofs.lemmas.Bool.{ltb-true, and_parts}
use Rattle.content.specs.declared.function.Function.{Function}
use Rattle.content.specs.declared.instruction.Instruction.{Instruction}
use Rattle.content.specs.declared.instruction.Instruction.TheVariants as op
use Rattle.parts.specs.Content.{Content}
use Rattle.rules.specs.inside.Rows.{named}
use Rattle.module.specs.Modules.{said}
use Rattle.module.specs.declared.module.Module.{Module}
use Rattle.machine.specs.declared.frame.Frame.{Frame}
use Rattle.integrity.proofs.Read.{functions_few}
use Rattle.integrity.proofs.Rules.{Ruled, ruled}
use Rattle.stack.specs.Stack.{newest}
use Rattle.runs.specs.declared.run.Live.{Live}
use Rattle.std.specs.List.{slice_get}
use Rattle.machine.specs.Machine.{at_place}
use Rattle.runs.specs.declared.entered.Entered.{Entered}
use Rattle.runs.specs.inside.Entering.{LocalsBelow}
use Rattle.runs.specs.inside.Making.{IsNewest}

module _ (l : ℕ) (few : l ≤ 8) where
  one : (x : ℕ) → nat_lt x l ≡ true → x < 8
  one x h = omega (arith, ltb-true x l h, few)

  two : (x y : ℕ) → (nat_lt x l && nat_lt y l) ≡ true → (x < 8) × (y < 8)
  two x y h = let p = and_parts (nat_lt x l) (nat_lt y l) h in (one x p.0, one y p.1)

  three : (x y z : ℕ) → (nat_lt x l && nat_lt y l && nat_lt z l) ≡ true → (x < 8) × (y < 8) × (z < 8)
  three x y z h = let p = and_parts (nat_lt x l && nat_lt y l) (nat_lt z l) h in let q = two x y p.0 in (q.0, q.1, one z p.1)

named_below : (c : Content) (f : Function) → f.locals ≤ 8 → (i : Instruction) → named c f i ≡ true → LocalsBelow i
named_below c f few (op.Set x n) h = one f.locals few x h
named_below c f few (op.Add x y z) h = three f.locals few x y z h
named_below c f few (op.Subtract x y z) h = three f.locals few x y z h
named_below c f few (op.Less x y z) h = three f.locals few x y z h
named_below c f few (op.Cast x y) h = two f.locals few x y h
named_below c f few (op.Jump to) h = tt
named_below c f few (op.Branch x to) h = one f.locals few x (and_parts (nat_lt x f.locals) _ h).0
named_below c f few (op.Function x g) h = one f.locals few x (and_parts (nat_lt x f.locals) _ h).0
named_below c f few (op.Global x g) h = one f.locals few x (and_parts (nat_lt x f.locals) _ h).0
named_below c f few (op.Allocate x y) h = two f.locals few x y h
named_below c f few (op.Move x y z) h = three f.locals few x y z h
named_below c f few (op.Field x y k) h = two f.locals few x y h
named_below c f few (op.Load x y) h = two f.locals few x y h
named_below c f few (op.Store x y) h = two f.locals few x y h
named_below c f few (op.Call g) h = tt
named_below c f few (op.CallThrough x) h = one f.locals few x h
named_below c f few op.Return h = tt

ruled_below : (m : Module) (f : Frame) (i : Instruction) → Ruled m f i → LocalsBelow i
ruled_below m f i r = named_below (said m) r.owner (functions_few m f.function r.owner r.owner_is) i r.names

-- the instruction whose turn it is names locals that its frame has, by the rules
pub locals_below : {S : Type 0} (e : Entered) (l : Live S) (place : ℕ) (i : Instruction) → IsNewest e l → Some i ≡ slice_get e.code.now place → LocalsBelow i
locals_below e l place i h at =
    let f : Frame = at_place (newest l.stack) place in
    ruled_below e.module.now f i (ruled e.module.now f i (sym (at ∙ h.code place)))
