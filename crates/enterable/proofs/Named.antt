-- What a module's instructions name is there.
use Rattle.std.proofs.Common.{◌≡◌, ℕ, ◌+◌, ◌<◌, ◌≤◌, Bool, true, false, cond, length, Some, None, Option, refl, arith}
use Rattle.std.specs.Prelude.{nat_lt}
use Rattle.std.specs.List.{slice_get}
use Rattle.std.proofs.lemmas.Bool.{ltb-true, and_parts}
use Rattle.std.proofs.lemmas.List.{length-take}
use mathlib.Core.Bool.{Bool-set}
use Rattle.content.specs.declared.function.Function.{Function}
use Rattle.content.specs.declared.instruction.Instruction.{Instruction}
use Rattle.content.specs.declared.instruction.Instruction.TheVariants as op
use Rattle.rules.specs.inside.Rows.{named}
use Rattle.module.specs.Modules.{said, in_function, instruction_at}
use Rattle.module.specs.declared.module.Module.{Module}
use Rattle.enterable.specs.Enterable.{Enterable, first, called, taken}

-- what there is only under a condition
cond_option : {A : Type 0} (b : Bool) (o : Option A) (x : A) → cond b o None ≡ Some x → (b ≡ true) × (o ≡ Some x)
cond_option true o x e = (refl, e)
cond_option false o x e = absurd (cc)

-- an instruction of a module, with a function that has it
record Owned (m : Module) (o : Instruction) : Type 0 where
  owner : Function
  names : named (said m) owner o ≡ true

owned_in : (m : Module) (f i : ℕ) (o : Instruction) (h : Option Function) → slice_get (said m).functions f ≡ h → in_function (said m) h i ≡ Some o → Owned m o
owned_in m f i o None is e = absurd (cc)
owned_in m f i o (Some g) is e =
    let p = cond_option (nat_lt i g.count) (slice_get (said m).code (g.first + i)) o e in
    record { owner = g; names = ∥∥₁_rec (Bool-set _ true) (λ y. y.named.code f g i o is (ltb-true i g.count p.0) p.1) m.follows }

owned : (m : Module) (f i : ℕ) (o : Instruction) → instruction_at (said m) f i ≡ Some o → Owned m o
owned m f i o e = owned_in m f i o (slice_get (said m).functions f) refl e

-- a function that is called, or whose address is taken, is there
called_there : (m : Module) (f i g : ℕ) → instruction_at (said m) f i ≡ Some (op.Call g) → g < length (said m).functions
called_there m f i g e = ltb-true g (length (said m).functions) (owned m f i (op.Call g) e).names

taken_there : (m : Module) (f i x g : ℕ) → instruction_at (said m) f i ≡ Some (op.Function x g) → g < length (said m).functions
taken_there m f i x g e = let r = owned m f i (op.Function x g) e in ltb-true g (length (said m).functions) (and_parts (nat_lt x r.owner.locals) _ r.names).1

some_function : (m : Module) → 0 < length (said m).functions
some_function m = omega (arith, length-take m.parts.header.counts.functions m.parts.functions, m.parts.functions_long, m.parts.header.few.some_functions)

-- so is every function that can be entered
pub there : (m : Module) (k : ℕ) → Enterable (said m) k → k < length (said m).functions
there m k first = some_function m
there m k (called f i g e is) = called_there m f i g is
there m k (taken f i x g e is) = taken_there m f i x g is

-- and each has a place in the sets
few_functions : (m : Module) → length (said m).functions ≤ 64
few_functions m = omega (arith, length-take m.parts.header.counts.functions m.parts.functions, m.parts.functions_long)

pub called_few : (m : Module) (f i g : ℕ) → instruction_at (said m) f i ≡ Some (op.Call g) → g < 64
called_few m f i g e = omega (arith, called_there m f i g e, few_functions m)

pub taken_few : (m : Module) (f i x g : ℕ) → instruction_at (said m) f i ≡ Some (op.Function x g) → g < 64
taken_few m f i x g e = omega (arith, taken_there m f i x g e, few_functions m)

pub enterable_few : (m : Module) (k : ℕ) → Enterable (said m) k → k < 64
enterable_few m k e = omega (arith, there m k e, few_functions m)
