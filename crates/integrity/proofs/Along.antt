-- Going along a history: a fact that every call keeps, what it tells of each made step, and what the store holds.
use Rattle.std.specs.Prelude.{◌≡◌, ℕ, ◌<◌, zero, suc, List, [], ◌∷◌, ◌++◌, take, Some, Ok}
use Rattle.std.specs.List.{slice_get}
use Rattle.std.proofs.Common.{refl, sym, ap, ◌∙◌, subst, append_assoc}
use Rattle.std.proofs.lemmas.List.{append-nil}
use Rattle.module.specs.Modules.{said}
use Rattle.module.specs.declared.module.Module.{Module}
use Rattle.machine.specs.declared.event.Event.{Event}
use Rattle.machine.specs.Machine.{Entries, Sight, Step}
use Rattle.machine.specs.Goes.{Made, made}
use Rattle.integrity.proofs.Held.{held_from}
use Rattle.integrity.proofs.Runs.{Quiet, Runs, rest, quiet, step}

-- the fact at the end, and what is told of each step, with the history before it
pub record Along (Inv : List Made → Sight → Type 0) (P : List Made → Made → Type 0) (before h : List Made) (s' : Sight) : Type 0 where
  pub inv : Inv (before ++ h) s'
  pub told : (n : ℕ) (d : Made) → slice_get h n ≡ Some d → P (before ++ take n h) d

module _ (m : Module) (Inv : List Made → Sight → Type 0) (P : List Made → Made → Type 0)
    (calm : (h : List Made) (s s' : Sight) → Inv h s → Quiet s s' → Inv h s')
    (keeps : (h : List Made) (s : Sight) (e : Event) (s' : Sight) → Inv h s → Step m s (Ok e) s' → Inv (h ++ made s e s' ∷ []) s')
    (tells : (h : List Made) (s : Sight) (e : Event) (s' : Sight) → Inv h s → Step m s (Ok e) s' → P h (made s e s')) where
  one_more : (before : List Made) (d : Made) (h : List Made) (s' : Sight) → P before d → Along Inv P (before ++ d ∷ []) h s' → Along Inv P before (d ∷ h) s'
  one_more before d h s' p a = record {
    inv = subst (λ x. Inv x s') (append_assoc before (d ∷ []) h) a.inv;
    told = told;
  }
    where
      told : (n : ℕ) (c : Made) → slice_get (d ∷ h) n ≡ Some c → P (before ++ take n (d ∷ h)) c
      told zero c at = let same : d ≡ c = cc in subst (λ x. P (before ++ []) x) same (subst (λ x. P x d) (sym (append-nil before)) p)
      told (suc n) c at = subst (λ x. P x c) (append_assoc before (d ∷ []) (take n h)) (a.told n c at)

  pub along : {s s' : Sight} {h : List Made} (before : List Made) → Inv before s → Runs m s h s' → Along Inv P before h s'
  along {s = s} before i rest = record { inv = subst (λ x. Inv x s) (sym (append-nil before)) i; told = λ n d at. absurd cc }
  along before i (quiet {s = s} {s' = t} q r) = along before (calm before s t i q) r
  along before i (step {s = s} {s' = t} {s'' = u} {h = h} e p r) = one_more before (made s e t) h u (tells before s e t i p) (along (before ++ made s e t ∷ []) (keeps before s e t i p) r)

  -- from the first step on
  pub along_all : {s s' : Sight} {h : List Made} → Inv [] s → Runs m s h s' → Inv h s' × ((n : ℕ) (d : Made) → slice_get h n ≡ Some d → P (take n h) d)
  along_all i r = let a = along [] i r in (a.inv, a.told)

-- the store holds below the memory size what the last made step left there
pub held_is : (m : Module) {s : Sight} {h : List Made} {s' : Sight} (e : Entries) → ((a : ℕ) → a < (said m).memory → s.entries a ≡ e a) → Runs m s h s' → (a : ℕ) → a < (said m).memory → s'.entries a ≡ held_from e h a
held_is m e so rest = so
held_is m e so (quiet q r) = held_is m e (λ a below. ap (λ (f : Entries). f a) q.entries ∙ so a below) r
held_is m e so (step {s' = s'} d p r) = held_is m s'.entries (λ a below. refl) r
