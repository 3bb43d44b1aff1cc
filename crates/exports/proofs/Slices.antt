-- How far a run in slices has come, and one slice more.
use Rattle.std.specs.Prelude.{◌≡◌, ℕ, ◌+◌, ◌*◌, ◌<◌, ◌≤◌, List, [], ◌∷◌, ◌++◌, length, false, refl}
use Rattle.std.proofs.Common.{add-one, arith, ap, sym, subst, ◌∙◌}
use Rattle.std.proofs.Math.Nat.{mul-le-mul_right, suc-mul, zero-mul}
use Rattle.std.proofs.lemmas.List.{append-nil, append_assoc, length-append}
use Rattle.module.specs.declared.module.Module.{Module}
use Rattle.machine.specs.declared.event.Event.{Event}
use Rattle.machine.specs.declared.gone.Came.{Came}
use Rattle.machine.specs.declared.gone.Came.TheVariants.{Full, Ended, Stopped}
use Rattle.machine.specs.declared.gone.Gone.{Gone}
use Rattle.machine.specs.Machine.{Sight}
use Rattle.machine.specs.Goes.{Made, made, Makes, none, then, Ends, Went, over}
use Rattle.exports.specs.Runs.{Ran}

-- n steps were made from s, one after another; now it is s'
pub record Sliced (m : Module) (s : Sight) (n : ℕ) (s' : Sight) : Type 0 where
  pub steps : List Made
  pub makes : Makes m s steps s'
  pub count : length steps ≡ n

pub at_start : (m : Module) (s : Sight) (each : ℕ) → Sliced m s (0 * each) s
at_start m s each = record { steps = []; makes = none; count = sym (zero-mul each) }

-- steps behind steps
joined : {m : Module} {s s' s'' : Sight} {h h' : List Made} → Makes m s h s' → Makes m s' h' s'' → Makes m s (h ++ h') s''
joined {m = m} {s = s} {s' = s'} {h = h} p none = subst (λ (l : List Made). Makes m s l s') (sym (append-nil h)) p
joined {m = m} {s = s} {s'' = s''} {h = h} p (then {s' = t} {h = h'} e q step) =
    subst (λ (l : List Made). Makes m s l s'') (append_assoc h h' (made t e s'' ∷ [])) (then e (joined p q) step)

-- a slice behind k slices of so many steps each
behind : {m : Module} {s s' s'' : Sight} {events events' : List Event} {g : Gone} (k each : ℕ)
    → Sliced m s (k * each) s' → (w : Went m s' events g s'' events') → Sliced m s (k * each + g.made) w.last
behind {g = g} k each p w =
    record {
      steps = p.steps ++ w.steps;
      makes = joined p.makes w.makes;
      count = length-append p.steps w.steps ∙ ap (λ (n : ℕ). n + length w.steps) p.count ∙ ap (λ (n : ℕ). k * each + n) w.count;
    }

next : (k each : ℕ) → k * each + each ≡ (k + 1) * each
next k each = rw add-one (sym (suc-mul k each))

-- m' is the module of the run as it is, which stays
moved : {m m' : Module} {s' s'' : Sight} {events events' : List Event} {g : Gone} → m' ≡ m → Went m' s' events g s'' events' → Went m s' events g s'' events'
moved {s' = s'} {s'' = s''} {events = events} {events' = events'} {g = g} same w = subst (λ (x : Module). Went x s' events g s'' events') same w

full : {m : Module} {s' s'' : Sight} {events events' : List Event} {g : Gone} → g.came ≡ Full → (w : Went m s' events g s'' events') → Ends m Full (length events) g.made w.last s''
full {m = m} {s'' = s''} {events = events} {g = g} came w = subst (λ (c : Came). Ends m c (length events) g.made w.last s'') came w.ends

-- a slice that fills the list
pub one_more : {m m' : Module} {s s' s'' : Sight} {events events' : List Event} (g : Gone) (k each : ℕ)
    → m' ≡ m → g.came ≡ Full → each ≡ length events → Sliced m s (k * each) s' → Went m' s' events g s'' events' → Sliced m s ((k + 1) * each) s''
one_more {m = m} {s = s} g k each same came is p went =
    let w = moved same went in
    let ends = full came w in
    let whole : k * each + g.made ≡ (k + 1) * each = ap (λ (j : ℕ). k * each + j) (ends.0 ∙ sym is) ∙ next k each in
    subst (λ (x : Sight). Sliced m s ((k + 1) * each) x) (sym ends.2) (subst (λ (j : ℕ). Sliced m s j w.last) whole (behind k each p w))

pub goes_on : {m : Module} {s' s'' : Sight} {events events' : List Event} (g : Gone) → g.came ≡ Full → Went m s' events g s'' events' → over s''.state ≡ false
goes_on g came w = let ends = full came w in ap (λ (x : Sight). over x.state) ends.2 ∙ ends.1

-- as many slices as there were to be
pub ran_full : {m : Module} {s s' : Sight} (k each : ℕ) → over s'.state ≡ false → Sliced m s (k * each) s' → Ran m s (k * each) (k * each) s'
ran_full {s' = s'} k each on p = (p.steps, s', Full, p.makes, p.count, (refl, on, refl))

-- with more room, and more steps before
ends_so : (m : Module) (c : Came) (room n whole before : ℕ) (s s' : Sight) → (c ≡ Full → ⊥) → (n < room → before + n < whole) → Ends m c room n s s' → Ends m c whole (before + n) s s'
ends_so m Full room n whole before s s' short lt e = absurd (short refl)
ends_so m Ended room n whole before s s' short lt e = e
ends_so m (Stopped why) room n whole before s s' short lt e = (lt e.0, e.1)

-- a slice within which the run ends or a step stops
pub ran_short : {m m' : Module} {s s' s'' : Sight} {events events' : List Event} (g : Gone) (slices k each : ℕ)
    → m' ≡ m → (g.came ≡ Full → ⊥) → k < slices → each ≡ length events → Sliced m s (k * each) s' → Went m' s' events g s'' events'
    → Ran m s (slices * each) (k * each + g.made) s''
ran_short {m = m} {s'' = s''} {events = events} g slices k each same short lt is p went =
    let w = moved same went in
    let all = behind k each p w in
    let most : (k + 1) * each ≤ slices * each = mul-le-mul_right each (omega (arith, lt)) in
    let one : k * each + each ≡ (k + 1) * each = next k each in
    let room : g.made < length events → k * each + g.made < slices * each = λ few. omega (arith, most, one, is, few) in
    (all.steps, w.last, g.came, all.makes, all.count, ends_so m g.came (length events) g.made (slices * each) (k * each) w.last s'' short room w.ends)
