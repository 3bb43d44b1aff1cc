use Rattle.std.proofs.Common.{◌≡◌, ℕ, zero, suc, ◌+◌, ◌<◌, ◌≤◌, List, [], get_or, sym, ap, ◌∙◌, subst, Some, ⊎_elim, arith}
use Rattle.std.specs.Array.{IsFromFnResultFrom}
use Rattle.std.proofs.lemmas.Bool.{cases_eq}
use Rattle.std.proofs.lemmas.Option.{slice_get-get_or}
use Rattle.parts.specs.Content.{shown}
use Rattle.tables.specs.declared.layout.Local.{Local}
use Rattle.tables.specs.Tables.{layout_at}
use Rattle.tables.proofs.layout.table_of.Goals as goal
use denote.Param.Members.{Mut, Called}

both : {A B : Type 0} (x : A × B) (a : A) (b : B) → x.0 ≡ a → x.1 ≡ b → x ≡ (a, b)
both (x, y) a b p q = cc

-- what each call gave, where no call changes the closure
each_made : {F B : Type 0} {g : Mut F (ℕ × Unit {0}) B} {f : F} (P : ℕ → B → Type 0) (d : B) (ys : List B) (n i : ℕ) → IsFromFnResultFrom g f ys i n → ((i : ℕ) (y : B) (q : F) → Called g f (i, tt) y q → (q ≡ f) × P i y) → (k : ℕ) → i ≤ k → k < i + n → P k (get_or ys k d)
each_made P d ys zero i m h k a b = absurd (omega arith)
each_made {F} {B} {g} {f} P d ys (suc n) i (q, y, at, called, rest) h k a b =
    let made = h i y q called in
    ⊎_elim
    (λ e. subst (λ j. P j (get_or ys j d)) e (subst (P i) (sym (at.1 d)) made.1))
    (λ ne. each_made P d ys n (i + 1) (subst (λ p. IsFromFnResultFrom g p ys (i + 1) n) made.0 rest) h k (omega arith) (omega arith))
    (cases_eq i k)

pub returns : goal.returns
returns c = λ k l.
    let none : List Local = [] in
    let lay : ℕ → List Local = layout_at (shown c.args.image.now) c.args.marks.now in
    slice_get-get_or c.from_fn.result k none (omega (arith, c.from_fn.ensures.items.long))
    ∙ ap Some (each_made (λ j y. y ≡ lay j) none c.from_fn.result 64 0 c.from_fn.ensures.items.each (λ i y q p. (both q _ _ p.met.0.0 p.met.0.1, p.met.1)) k (omega arith) l)
