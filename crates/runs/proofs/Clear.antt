-- One address more is dropped.
use Rattle.std.specs.Prelude.{ℕ, ◌+◌, is_some, refl}
use Rattle.std.proofs.Common.{arith, ap, sym, ◌∙◌, ⊎_elim}
use Rattle.std.proofs.lemmas.Bool.{cases_eq}
use Rattle.stores.specs.Meaning.{Dropped}
use Rattle.machine.specs.Machine.{Entries, Taken}
use Rattle.runs.specs.Clearing.{Cleared}

pub none_dropped : (e : Entries) (t : Taken) → Cleared 0 e t e t
none_dropped e t = record { gone = λ a lt. absurd (omega (arith, lt)); free = λ a lt _. absurd (omega (arith, lt)); others = λ a _. refl; still = λ a _ p. p }

pub one_dropped : (n : ℕ) (e : Entries) (t : Taken) (e' : Entries) (t' : Taken) (e'' : Entries) (t'' : Taken)
    → Cleared n e t e' t' → Dropped e' e'' t' t'' n → Cleared (n + 1) e t e'' t''
one_dropped n e t e' t' e'' t'' c d = record {
  gone = λ a lt. ⊎_elim (λ is. ap e'' is ∙ d.gone) (λ ne. d.others a ne ∙ c.gone a (omega (arith, lt, ne))) (cases_eq a n);
  free = λ a lt p. ⊎_elim
      (λ is. ap t'' is ∙ d.free (ap (λ o. is_some o) (c.others n (omega arith)) ∙ ap (λ k. is_some (e k)) (sym is) ∙ p))
      (λ ne. d.still a ne (c.free a (omega (arith, lt, ne)) p)) (cases_eq a n);
  others = λ a le. d.others a (λ is. absurd (omega (arith, le, is))) ∙ c.others a (omega (arith, le));
  still = λ a le p. d.still a (λ is. absurd (omega (arith, le, is))) (c.still a (omega (arith, le)) p);
}
