-- What the type rule says of the locals of an instruction: a load and a store of what isn't sensitive go through what isn't sensitive.
use Rattle.std.specs.Option.{option_map_or}
use Rattle.std.proofs.Common.{⊎_elim, subst, ◌≡◌, ℕ, Bool, true, false, slice_index_or, List, Some, None, Option, refl, sym, ap, nat_lt}
use mathlib.Core.Bool.{Bool-set}
use Rattle.std.specs.List.{slice_get}
use Rattle.std.proofs.lemmas.Bool.{false≢true, cases_lt, eqb-true}
use Rattle.content.specs.declared.kind.Kind.{Kind}
use Rattle.content.specs.declared.typed.Typed.{Typed}
use Rattle.content.specs.declared.kind.Kind.TheVariants as kind
use Rattle.content.specs.declared.function.Function.{Function}
use Rattle.content.specs.declared.instruction.Instruction.TheVariants as op
use Rattle.rules.specs.Types.{pointee, local_type, kind_at, same}
use Rattle.rules.specs.Keeping.{target}
use Rattle.sensitivity.specs.Sensitive.{here, link, ChainFrom, Links, EndsChain}
use Rattle.module.specs.Modules.{said}
use Rattle.module.specs.declared.module.Module.{Module}
use Rattle.machine.specs.declared.frame.Frame.{Frame}
use Rattle.machine.specs.Machine.{instruction, sensitive}
use Rattle.integrity.proofs.Rules.{cond_option, ruled, local_in, local_past, local_is}

-- what a pointer points at is all that a link leads to, and no chain ends at it
no_end : (o : Option Kind) (to : ℕ) → pointee o ≡ Some to → EndsChain o → ⊥
no_end None to p q = q
no_end (Some kind.Number) to p q = q
no_end (Some kind.Void) to p q = cc
no_end (Some kind.Function) to p q = cc
no_end (Some (kind.Pointer t)) to p q = q
no_end (Some (kind.Fields first count)) to p q = q

one_link : (fields : List Typed) (o : Option Kind) (to j : ℕ) → pointee o ≡ Some to → Links fields o j → j ≡ to
one_link fields None to j p q = absurd q
one_link fields (Some kind.Number) to j p q = absurd q
one_link fields (Some kind.Void) to j p q = absurd q
one_link fields (Some kind.Function) to j p q = absurd q
one_link fields (Some (kind.Pointer t)) to j p q = cc
one_link fields (Some (kind.Fields first count)) to j p q = cc

-- so a chain from a pointer goes through what it points at
chain_on : (types : List Kind) (fields : List Typed) (t to : ℕ) → pointee (slice_get types t) ≡ Some to → ChainFrom types fields t → ChainFrom types fields to
chain_on types fields t to p (here _ q) = absurd (no_end (slice_get types t) to p q)
chain_on types fields t to p (link _ j q c) = subst (ChainFrom types fields) (one_link fields (slice_get types t) to j p q) c

same_is : (a b : Option ℕ) → same a b ≡ true → (n : ℕ) × (a ≡ Some n) × (b ≡ Some n)
same_is None b e = absurd (cc)
same_is (Some n) None e = absurd (cc)
same_is (Some n) (Some k) e = (n, refl, ap Some (sym (eqb-true n k e)))

-- whether a type is marked, if there is one
abbrev mark_of : List Bool → Option ℕ → Bool
mark_of marks t = option_map_or (λ t. slice_index_or marks t false) t false

-- what a sensitive type points at is sensitive
mark_on : (m : Module) (a b : Option ℕ) → same (pointee (kind_at (said m).types a)) b ≡ true → mark_of m.sensitive a ≡ true → mark_of m.sensitive b ≡ true
mark_on m None b s e = absurd (cc)
mark_on m (Some t) b s e =
    let p = same_is (pointee (slice_get (said m).types t)) b s in
    rw p.2 (∥∥₁_rec (Bool-set _ true) (λ z. (m.right p.0).1 ∣ chain_on (said m).types (said m).fields t p.0 p.1 z ∣₁) ((m.right t).0 e))

module _ (m : Module) (f : Frame) (g : Function) (is : slice_get (said m).functions f.function ≡ Some g) where
  -- a sensitive local's type is marked, and a local whose type is marked is sensitive
  marked_local : (x : ℕ) → sensitive m f x ≡ true → mark_of m.sensitive (local_type (said m).locals g x) ≡ true
  marked_local x e = ⊎_elim (λ h. rw (sensitive, local_in m f g is x h) at e) (λ h. absurd (false≢true (rw (sensitive, local_past m f g is x h) at e))) (cases_lt x 8)

  local_marked : (x n : ℕ) → local_type (said m).locals g x ≡ Some n → mark_of m.sensitive (local_type (said m).locals g x) ≡ true → sensitive m f x ≡ true
  local_marked x n t e = rw (sensitive, local_is m f g is x (cond_option (nat_lt x g.locals) _ n t).0) e

  -- where y points at what x is and y is sensitive, x is too
  pointed : (x y : ℕ) → same (target (said m) g y) (local_type (said m).locals g x) ≡ true → sensitive m f y ≡ true → sensitive m f x ≡ true
  pointed x y s e =
      let p = same_is (target (said m) g y) (local_type (said m).locals g x) s in
      local_marked x p.0 p.2 (mark_on m (local_type (said m).locals g y) (local_type (said m).locals g x) s (marked_local y e))

pub through_load : (m : Module) (f : Frame) (x y : ℕ) → instruction m f ≡ Some (op.Load x y) → sensitive m f y ≡ true → sensitive m f x ≡ true
through_load m f x y e s = let r = ruled m f (op.Load x y) e in pointed m f r.owner r.owner_is x y r.types s

pub through_store : (m : Module) (f : Frame) (x y : ℕ) → instruction m f ≡ Some (op.Store x y) → sensitive m f y ≡ true → sensitive m f x ≡ true
through_store m f x y e s = let r = ruled m f (op.Store x y) e in pointed m f r.owner r.owner_is x y r.types s
