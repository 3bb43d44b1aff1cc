-- The sizes in a module: each global takes a word at least, and they fit; and what an allocation asks for is of a size.
use Rattle.std.proofs.Common.{take_all, ◌≡◌, ℕ, zero, suc, ◌+◌, ◌<◌, ◌≤◌, true, List, [], ◌∷◌, length, get_or, Some, None, Option, is_some, unwrap_or, refl, ap, arith}
use Rattle.std.proofs.Math.Bridge.{le_prop}
use Rattle.std.proofs.Math.Nat.{mul-pos}
use mathlib.Core.Bool.{Bool-set}
use Rattle.std.proofs.lemmas.Bool.{and_parts}
use Rattle.std.specs.List.{slice_get}
use Rattle.std.proofs.lemmas.Option.{slice_get-get_or}
use Rattle.content.specs.declared.kind.Kind.{Kind}
use Rattle.content.specs.declared.global.Global.{Global}
use Rattle.content.specs.declared.instruction.Instruction.TheVariants as op
use Rattle.rules.specs.Types.{size, kind_at}
use Rattle.rules.specs.inside.Rows.{sized}
use Rattle.rules.specs.Keeping.{target}
use Rattle.tables.specs.Tables.{words}
use Rattle.tables.proofs.Words.{words_more, words_front}
use Rattle.module.specs.Modules.{said}
use Rattle.module.specs.declared.module.Module.{Module}
use Rattle.machine.specs.declared.frame.Frame.{Frame}
use Rattle.machine.specs.Machine.{instruction, size as reach, start_of}
use Rattle.integrity.proofs.Read.{kinds_some, globals_some}
use Rattle.integrity.proofs.Rules.{ruled, local_is}

one_some : (o : Option ℕ) → 1 ≤ unwrap_or o 1 → is_some o ≡ true → 1 ≤ unwrap_or o 0
one_some None h s = absurd (cc)
one_some (Some n) h s = h

module _ (m : Module) where
  -- the globals fit in the memory
  pub globals_fit : words (said m).types (said m).globals ≤ (said m).memory
  globals_fit = ∥∥₁_rec le_prop (λ y. y.fits) m.follows

  sized_kind : (o : Option Kind) → ((t : Kind) → o ≡ Some t → 1 ≤ unwrap_or (size (Some t)) 1) → sized o ≡ true → 1 ≤ unwrap_or (size o) 0
  sized_kind None h s = absurd (cc)
  sized_kind (Some t) h s = one_some (size (Some t)) (h t refl) s

  -- a sized type takes a word at least
  sized_some : (t : Option ℕ) → sized (kind_at (said m).types t) ≡ true → 1 ≤ unwrap_or (size (kind_at (said m).types t)) 0
  sized_some None s = absurd (cc)
  sized_some (Some n) s = sized_kind (slice_get (said m).types n) (kinds_some m n) s

  sized_global : (k : ℕ) (g : Global) → slice_get (said m).globals k ≡ Some g → sized (kind_at (said m).types (Some g.kind)) ≡ true
  sized_global k g e = ∥∥₁_rec (Bool-set _ _) (λ y. y.typed.globals k g e) m.follows

  -- global k takes a word at least
  pub global_some : (k : ℕ) → k < length (said m).globals → start_of (said m).types (said m).globals k < start_of (said m).types (said m).globals (k + 1)
  global_some k h =
      let gs = (said m).globals in
      let none : Global = record { kind = 0; count = 0 } in
      let at : slice_get gs k ≡ Some (get_or gs k none) = slice_get-get_or gs k none h in
      let wide = sized_some (Some (get_or gs k none).kind) (sized_global k (get_or gs k none) at) in
      let more = words_more (said m).types gs k none h in
      let some = mul-pos wide (globals_some m k (get_or gs k none) at) in
      omega (arith, more, some)

  -- and begins, and so the one before it ends, where the heap begins, or before
  pub start_before : (k : ℕ) → start_of (said m).types (said m).globals k ≤ words (said m).types (said m).globals
  start_before k = words_front (said m).types (said m).globals k

  pub start_within : (k : ℕ) → start_of (said m).types (said m).globals k ≤ (said m).memory
  start_within k = omega (arith, start_before k, globals_fit)

  -- an allocation asks for things of a word at least
  pub allocate_some : (f : Frame) (x y : ℕ) → instruction m f ≡ Some (op.Allocate x y) → 1 ≤ reach m f x
  allocate_some f x y e =
      let r = ruled m f (op.Allocate x y) e in
      let there = local_is m f r.owner r.owner_is x (and_parts _ _ r.names).0 in
      let some = sized_some (target (said m) r.owner x) (and_parts _ _ r.types).0 in
      rw (reach, there) some

-- a later global begins where an earlier one ends, or behind
pub starts_up : (types : List Kind) (gs : List Global) (j k : ℕ) → j ≤ k → start_of types gs j ≤ start_of types gs k
starts_up types gs zero k h = omega arith
starts_up types [] (suc j) k h = omega arith
starts_up types (g ∷ gs) (suc j) zero h = absurd (omega arith)
starts_up types (g ∷ gs) (suc j) (suc k) h = let l = starts_up types gs j k (omega arith) in omega (arith, l)

-- behind the last global, where the heap does
pub start_behind : (types : List Kind) (gs : List Global) (k : ℕ) → length gs ≤ k → start_of types gs k ≡ words types gs
start_behind types gs k h = ap (words types) (take_all k gs h)
