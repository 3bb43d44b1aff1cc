-- What the rules give of the instruction whose turn it is in a frame, and what a frame's locals are.
use Rattle.std.specs.Prelude.{ℕ, ◌+◌, ◌<◌, ◌≤◌, Bool, true, false, cond, ◌&&◌, ◌==◌, nat_lt, Some, None, Option}
use Rattle.std.specs.List.{slice_get}
use Rattle.std.proofs.Common.{◌≡◌, sym, refl, ◌∙◌, arith}
use Rattle.std.proofs.lemmas.Bool.{ltb-true, and_parts, cond-true, eq-eqb}
use Rattle.std.proofs.lemmas.List.{get_or_past}
use Rattle.std.proofs.lemmas.List.FromFn.{get_or-map-range_with_len}
use mathlib.Core.Bool.{Bool-set}
use Rattle.content.specs.declared.function.Function.{Function}
use Rattle.content.specs.declared.instruction.Instruction.{Instruction}
use Rattle.rules.specs.Keeping.{ends}
use Rattle.rules.specs.inside.Rows.{named, typed}
use Rattle.tables.specs.Tables.{layout_of, local_of, plain}
use Rattle.module.specs.Modules.{said, in_function}
use Rattle.module.specs.declared.module.Module.{Module}
use Rattle.machine.specs.declared.frame.Frame.{Frame}
use Rattle.machine.specs.Machine.{instruction}
use Rattle.machine.proofs.Parts.{local}
use Rattle.integrity.proofs.Read.{functions_few}

-- the function of a frame, and the rules that its instruction keeps
pub record Ruled (m : Module) (f : Frame) (i : Instruction) : Type 0 where
  pub owner : Function
  pub owner_is : slice_get (said m).functions f.function ≡ Some owner
  pub within : f.place < owner.count
  pub names : named (said m) owner i ≡ true
  pub types : typed (said m) owner i ≡ true
  pub last : f.place + 1 ≡ owner.count → ends i ≡ true

-- what there is only under a condition
pub cond_option : {A : Type 0} (b : Bool) (o : Option A) (x : A) → cond b o None ≡ Some x → (b ≡ true) × (o ≡ Some x)
cond_option true o x e = (refl, e)
cond_option false o x e = absurd (cc)

-- an instruction is found only at a place of a function that is there
ruled_in : (m : Module) (f : Frame) (i : Instruction) (o : Option Function) → slice_get (said m).functions f.function ≡ o → in_function (said m) o f.place ≡ Some i → Ruled m f i
ruled_in m f i None is e = absurd (cc)
ruled_in m f i (Some g) is e =
    let p = cond_option (nat_lt f.place g.count) (slice_get (said m).code (g.first + f.place)) i e in
    let within : f.place < g.count = ltb-true f.place g.count p.0 in
    let names : named (said m) g i ≡ true = ∥∥₁_rec (Bool-set _ true) (λ y. y.named.code f.function g f.place i is within p.1) m.follows in
    let kept : (typed (said m) g i && cond (f.place + 1 == g.count) (ends i) true) ≡ true = ∥∥₁_rec (Bool-set _ true) (λ y. y.typed.code f.function g f.place i is within p.1) m.follows in
    let t = and_parts (typed (said m) g i) (cond (f.place + 1 == g.count) (ends i) true) kept in
    record {
      owner = g;
      owner_is = is;
      within = within;
      names = names;
      types = t.0;
      last = λ n. sym (cond-true (f.place + 1 == g.count) (ends i) true (eq-eqb (f.place + 1) g.count n)) ∙ t.1;
    }

pub ruled : (m : Module) (f : Frame) (i : Instruction) → instruction m f ≡ Some i → Ruled m f i
ruled m f i e = ruled_in m f i (slice_get (said m).functions f.function) refl e

-- what has to be known of a local of a frame, of the function g
module _ (m : Module) (f : Frame) (g : Function) (is : slice_get (said m).functions f.function ≡ Some g) where
  pub local_in : (x : ℕ) → x < 8 → local m f x ≡ local_of (said m) m.sensitive g x
  local_in x h = rw is (get_or-map-range_with_len (local_of (said m) m.sensitive g) 0 8 x x plain h (omega arith))

  pub local_past : (x : ℕ) → 8 ≤ x → local m f x ≡ plain
  local_past x h = rw is (get_or_past (layout_of (said m) m.sensitive g) x plain h)

  pub local_is : (x : ℕ) → nat_lt x g.locals ≡ true → local m f x ≡ local_of (said m) m.sensitive g x
  local_is x h = local_in x (omega (arith, ltb-true x g.locals h, functions_few m f.function g is))
