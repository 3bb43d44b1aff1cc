use Rattle.std.proofs.Common.{◌≡◌, length, replicate, List, [], ◌∷◌, of_calls, refl, ap, arith}
use Rattle.std.proofs.lemmas.Grind.{common_steps}
use Rattle.std.specs.List.{FoldsTo}
use Rattle.stores.proofs.slots.emptied.Goals as goal

-- Where each call gives e, what the calls gave is e alone.
module _ {F X : Type 0} (R : F → X → F → Type 0) (e : X) (Is : F → Type 0) (each : (f f' : F) (x : X) → Is f → R f x f' → (x ≡ e) × Is f') where
  filled : (f last : F) (xs : List X) → Is f → FoldsTo R f xs last → xs ≡ replicate (length xs) e
  filled f last [] is ran = refl
  filled f last (x ∷ xs) is ran =
      let here = each f ran.0 x is ran.1 in
      rw here.0 (ap (λ ys. e ∷ ys) (filled ran.0 last xs here.1 ran.2))

pub returns-clause-items : goal.returns-clause-items
returns-clause-items g c =
    let e = c.args.empty in
    let all = filled _ e (λ f. f.0.now ≡ e) (λ f f' x is step. search (of_calls, is, step.met)) _ _ _ refl c.fill_with.ensures.ran.1 in
    grind (arith, common_steps, all, c.fill_with.ensures.len)
