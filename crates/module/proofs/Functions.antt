-- The instructions of a function.
use Rattle.std.proofs.Common.{◌≡◌, ℕ, zero, suc, ◌+◌, ◌<◌, ◌≤◌, length, List, [], ◌∷◌, take, drop, cond, nat_lt, Some, None, refl, ap, sym, ◌∙◌, ⊎_elim, arith}
use Rattle.std.specs.List.{slice_get}
use Rattle.std.proofs.Props.{props}
use Rattle.std.proofs.lemmas.Bool.{cond-true, cond-false, leb-true, and_parts, lt-ltb, le-ltb, cases_lt}
use Rattle.std.proofs.lemmas.List.{length-take}
use Rattle.std.proofs.lemmas.Option.{slice_get_past}
use Rattle.content.specs.declared.function.Function.{Function}
use Rattle.content.specs.declared.instruction.Instruction.{Instruction}
use Rattle.parts.specs.Content.{Content}
use Rattle.module.specs.declared.module.Module.{Module}
use Rattle.module.specs.Modules.{said, instruction_at}

-- what stands at a place of a part of a list
in_front : (n i : ℕ) (xs : List Instruction) → i < n → slice_get (take n xs) i ≡ slice_get xs i
in_front zero i xs p = absurd (omega (arith, p))
in_front (suc n) i [] p = refl
in_front (suc n) zero (x ∷ xs) p = refl
in_front (suc n) (suc i) (x ∷ xs) p = in_front n i xs (omega (arith, p))

behind : (n i : ℕ) (xs : List Instruction) → slice_get (drop n xs) i ≡ slice_get xs (n + i)
behind zero i xs = ap (slice_get xs) (omega arith)
behind (suc n) i [] = sym (slice_get_past [] (suc n + i) (omega arith))
behind (suc n) i (x ∷ xs) = let e : suc n + i ≡ suc (n + i) = omega arith in rw e (behind n i xs)

part : (first count i : ℕ) (xs : List Instruction) → slice_get (take count (drop first xs)) i ≡ cond (nat_lt i count) (slice_get xs (first + i)) None
part first count i xs = ⊎_elim
    (λ (lt : i < count). in_front count i (drop first xs) lt ∙ behind first i xs ∙ sym (cond-true _ _ _ (lt-ltb i count lt)))
    (λ (le : count ≤ i). slice_get_past (take count (drop first xs)) i (omega (arith, le, length-take count (drop first xs))) ∙ sym (cond-false _ _ _ (le-ltb i count le)))
    (cases_lt i count)

module _ (c d : Content) (k : ℕ) (same : d ≡ c) where
  -- a function that isn't there has none at any place
  pub no_instruction : (i : ℕ) → None ≡ slice_get d.functions k → None ≡ instruction_at c k i
  no_instruction i e =
      let f : slice_get c.functions k ≡ None = cc (ap (λ (x : Content). slice_get x.functions k) same, e) in
      rw f refl

  -- the others are a part of the code
  pub these_instructions : (i : ℕ) (f : Function) (code : List Instruction) → Some f ≡ slice_get d.functions k → d.code ≡ code → slice_get (take f.count (drop f.first code)) i ≡ instruction_at c k i
  these_instructions i f code e is =
      let g : slice_get c.functions k ≡ Some f = cc (ap (λ (x : Content). slice_get x.functions k) same, e) in
      let there : c.code ≡ code = sym (ap (λ (x : Content). x.code) same) ∙ is in
      rw (g, there) (part f.first f.count i code)

-- and of it alone, by the rules
pub code_fits : (m : Module) (d : Content) (k : ℕ) (f : Function) (code : List Instruction) → d ≡ said m → Some f ≡ slice_get d.functions k → d.code ≡ code → f.first + f.count ≤ length code
code_fits m d k f code same e is =
    let there : slice_get (said m).functions k ≡ Some f = cc (ap (λ (x : Content). slice_get x.functions k) same, e) in
    let le : IsProp (f.first + f.count ≤ length (said m).code) = Prim.hlevel props in
    let fits : f.first + f.count ≤ length (said m).code = ∥∥₁_rec le (λ y. leb-true _ _ (and_parts _ _ (y.named.functions k f there)).0) m.follows in
    let long : length (said m).code ≡ length code = sym (ap (λ (x : Content). length x.code) same) ∙ ap (λ (l : List Instruction). length l) is in
    omega (arith, fits, long)
