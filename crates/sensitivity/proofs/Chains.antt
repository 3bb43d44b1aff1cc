-- Chains of links to a sensitive type, and the marks that tell of them.
use Rattle.std.proofs.Common.{◌≡◌, ℕ, suc, ◌+◌, ◌<◌, Bool, true, false, not, cond, Decides, List, length, get_or, set, replicate, None, sym, ap, ◌∙◌, inl, inr, ⊎_elim, arith, below_more}
use Rattle.std.specs.List.{slice_get}
use Rattle.std.proofs.lemmas.Bool.{cases_eq, cases_lt}
use Rattle.std.proofs.lemmas.List.Sums.{sum_by-set}
use Rattle.std.proofs.lemmas.List.{length-replicate, get_or-replicate, get_or-set_other, get_or_past}
use Rattle.std.proofs.lemmas.Option.{slice_get_past}
use Rattle.content.specs.declared.kind.Kind.{Kind}
use Rattle.content.specs.declared.typed.Typed.{Typed}
use mathlib.Core.Bool.{Bool-set}
use Rattle.sensitivity.specs.Sensitive.{here, link, ChainFrom, EndsChain, Links, Sensitive, IsMarked}
use Rattle.sensitivity.specs.inside.Rounds.{Due, AllChained, unmarked, Round}

pub differ : {b : Bool} → b ≡ false → b ≡ true → ⊥
differ {b} p q = grind arith

-- a new mark leaves one place fewer
unmarked_set : (xs : List Bool) (i : ℕ) → i < length xs → get_or xs i false ≡ false → suc (unmarked (set xs i true)) ≡ unmarked xs
unmarked_set xs i h e =
    let count : Bool → ℕ = λ b. cond (not b) 1 0 in
    omega (arith, sum_by-set count xs i true false h, ap count e)

-- what holds at the end of a chain, and goes back over a link, holds at its start
chain_all : (types : List Kind) (fields : List Typed) (M : ℕ → Type 0) → ((i : ℕ) → EndsChain (slice_get types i) → M i) → ((i j : ℕ) → Links fields (slice_get types i) j → M j → M i) → {i : ℕ} → ChainFrom types fields i → M i
chain_all types fields M e l (here i p) = e i p
chain_all types fields M e l (link i j r s) = l i j r (chain_all types fields M e l s)

-- where nothing is marked, every mark is right
pub none_right : (types : List Kind) (fields : List Typed) (n : ℕ) → AllChained types fields (replicate n false)
none_right types fields n k m = absurd (⊎_elim (λ h. differ (get_or-replicate n k false false h) m) (λ h. differ (get_or_past (replicate n false) k false (simp length-replicate h)) m) (cases_lt k n))

module _ (types : List Kind) (fields : List Typed) where
  -- what is due is sensitive, where the marks are right
  due_right : (marks : List Bool) (i : ℕ) → AllChained types fields marks → Due fields marks (slice_get types i) → ChainFrom types fields i
  due_right marks i r d = ⊎_elim (λ e. here i e) (λ l. link i l.0 l.1.0 (r l.0 l.1.1)) d

  right_set : (marks : List Bool) (i : ℕ) → AllChained types fields marks → Due fields marks (slice_get types i) → AllChained types fields (set marks i true)
  right_set marks i r d k m =
      ⊎_elim
      (λ e. rw e (due_right marks i r d))
      (λ ne. r k (sym (get_or-set_other marks i k true false ne) ∙ m))
      (cases_eq k i)

  none_due : (marks : List Bool) → Due fields marks None → ⊥
  none_due marks d = ⊎_elim (λ e. e) (λ l. l.1.0) d

  due_marked : (marks : List Bool) → ((k : ℕ) → k < length types → Due fields marks (slice_get types k) → IsMarked marks k) → (i : ℕ) → Due fields marks (slice_get types i) → IsMarked marks i
  due_marked marks c i d = ⊎_elim (λ h. c i h d) (λ h. absurd (none_due marks (rw (slice_get_past types i h) at d))) (cases_lt i (length types))

  -- where each type that is due is marked, each sensitive type is
  pub closed_all : (marks : List Bool) → ((k : ℕ) → k < length types → Due fields marks (slice_get types k) → IsMarked marks k) → (i : ℕ) → ChainFrom types fields i → IsMarked marks i
  closed_all marks c i s =
      chain_all types fields (IsMarked marks)
      (λ k p. due_marked marks c k (inl p))
      (λ k j l m. due_marked marks c k (inr (j, (l, m))))
      s

  -- one more type, newly marked
  pub more_set : (old : List Bool) (i : ℕ) (new : List Bool) (changed : Bool) → i < length new → get_or new i false ≡ false → Due fields new (slice_get types i) → Round types fields old i new changed → Round types fields old (i + 1) (set new i true) true
  more_set old i new changed h e d s =
      let u = unmarked_set new i h e in
      let l = s.least in
      record {
        right = λ r. right_set new i (s.right r) d;
        least = omega arith;
        falls = λ _. omega arith;
        closed = λ z. grind arith;
      }

  -- one more type, left as it was
  pub more_same : (old : List Bool) (i : ℕ) (new : List Bool) (changed : Bool) → (Due fields new (slice_get types i) → IsMarked new i) → Round types fields old i new changed → Round types fields old (i + 1) new changed
  more_same old i new changed d s =
      record { right = s.right; least = s.least; falls = s.falls; closed = λ z. below_more _ _ (s.closed z) d }

  -- where a round finds nothing new, exactly the sensitive types are marked
  pub exact_marks : (marks old : List Bool) (changed : Bool) → AllChained types fields old → Round types fields old (length types) marks changed → changed ≡ false → (k : ℕ) → Decides (get_or marks k false) (Sensitive types fields k)
  exact_marks marks old changed r s e k = (λ m. ∣ s.right r k m ∣₁, λ t. ∥∥₁_rec (Bool-set _ true) (closed_all marks (s.closed e) k) t)
