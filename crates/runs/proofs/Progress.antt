-- How far a go has come, and one step more.
use Rattle.std.specs.Prelude.{◌≡◌, ℕ, ◌+◌, ◌<◌, ◌≤◌, List, [], ◌∷◌, ◌++◌, length, map, take, drop, slice_set, false, Ok, Err, refl}
use Rattle.std.proofs.Common.{arith, ap, sym, subst, take-append-drop, ◌∙◌}
use Rattle.std.proofs.lemmas.List.{take_more_set, drop-set-lt, length-set, length-append, map-append, drop-drop}
use Rattle.module.specs.Modules.{said}
use Rattle.module.specs.declared.module.Module.{Module}
use Rattle.machine.specs.declared.frame.Frame.{Frame}
use Rattle.machine.specs.declared.event.Event.{Event}
use Rattle.machine.specs.declared.refusal.Stop.{Stop}
use Rattle.machine.specs.declared.refusal.Refusal.TheVariants.{Stopped as AsStop}
use Rattle.machine.specs.declared.gone.Came.{Came}
use Rattle.machine.specs.declared.gone.Came.TheVariants.{Full, Ended, Stopped}
use Rattle.machine.specs.Machine.{Sight, Step}
use Rattle.machine.specs.Goes.{Made, made, Makes, none, then, Ready, Ends, Went, over}

-- n steps were made from s, with these events; now it is s'
pub record Progress (m : Module) (s : Sight) (events : List Event) (n : ℕ) (s' : Sight) (events' : List Event) : Type 0 where
  pub steps : List Made
  pub makes : Makes m s steps s'
  pub count : length steps ≡ n
  pub room : n ≤ length events
  pub long : length events' ≡ length events
  pub listed : take n events' ≡ map (λ d. d.event) steps
  pub behind : drop n events' ≡ drop n events

pub at_start : (m : Module) (s : Sight) (events : List Event) → Progress m s events 0 s events
at_start m s events = record { steps = []; makes = none; count = refl; room = omega arith; long = refl; listed = refl; behind = refl }

-- where none stands, there is no frame
none_stand : (frames : List Frame) → length frames ≡ 0 → frames ≡ []
none_stand [] p = refl
none_stand (f ∷ rest) p = absurd (omega (arith, p))

-- a place behind the first n+1 says nothing of place n
drop_more : (n : ℕ) (xs ys : List Event) (e : Event) → drop n xs ≡ drop n ys → drop (n + 1) (slice_set xs n e) ≡ drop (n + 1) ys
drop_more n xs ys e p = drop-set-lt (n + 1) xs n e (omega arith) ∙ sym (drop-drop 1 n xs) ∙ ap (drop 1) p ∙ drop-drop 1 n ys

-- m' is the module of the run as it is, which stays
pub one_more : (m m' : Module) (s : Sight) (events : List Event) (n : ℕ) (s' : Sight) (events' : List Event) (e : Event) (s'' : Sight)
    → m' ≡ m → Progress m s events n s' events' → n < length events' → Step m' s' (Ok e) s'' → Progress m s events (n + 1) s'' (slice_set events' n e)
one_more m m' s events n s' events' e s'' same p lt q =
    record {
      steps = p.steps ++ made s' e s'' ∷ [];
      makes = then e p.makes (subst (λ (x : Module). Step x s' (Ok e) s'') same q);
      count = length-append p.steps (made s' e s'' ∷ []) ∙ ap (λ k. k + 1) p.count;
      room = omega (arith, lt, p.long);
      long = length-set events' n e ∙ p.long;
      listed = take_more_set events' n e lt ∙ ap (λ l. l ++ e ∷ []) p.listed ∙ sym (map-append (λ d. d.event) p.steps (made s' e s'' ∷ []));
      behind = drop_more n events' events e p.behind;
    }

-- a go that has come so far, and ends there so
went : (m : Module) (s : Sight) (events : List Event) (n : ℕ) (s' : Sight) (events' : List Event) (c : Came) (s'' : Sight)
    → Ready m s → Progress m s events n s' events' → Ends m c (length events) n s' s'' → Went m s events (record { made = n; came = c }) s'' events'
went m s events n s' events' c s'' ready p ends =
    let told = map (λ d. d.event) p.steps in
    record {
      steps = p.steps;
      last = s';
      ready = ready;
      makes = p.makes;
      count = p.count;
      room = p.room;
      listed = sym (take-append-drop n events') ∙ ap (λ l. l ++ drop n events') p.listed ∙ ap (λ l. told ++ l) p.behind;
      ends = ends;
    }

pub went_full : (m : Module) (s : Sight) (events : List Event) (n : ℕ) (s' : Sight) (events' : List Event)
    → Ready m s → Progress m s events n s' events' → length events' ≤ n → over s'.state ≡ false → Went m s events (record { made = n; came = Full }) s' events'
went_full m s events n s' events' ready p le on = went m s events n s' events' Full s' ready p (omega (arith, le, p.room, p.long), on, refl)

pub went_ended : (m : Module) (s : Sight) (events : List Event) (n : ℕ) (s' : Sight) (events' : List Event)
    → Ready m s → Progress m s events n s' events' → length s'.state.stack ≡ 0 → Went m s events (record { made = n; came = Ended }) s' events'
went_ended m s events n s' events' ready p empty = went m s events n s' events' Ended s' ready p (none_stand s'.state.stack empty, refl)

pub went_stopped : (m m' : Module) (s : Sight) (events : List Event) (n : ℕ) (s' : Sight) (events' : List Event) (why : Stop) (s'' : Sight)
    → m' ≡ m → Ready m s → Progress m s events n s' events' → n < length events' → Step m' s' (Err (AsStop why)) s''
    → Went m s events (record { made = n; came = Stopped why }) s'' events'
went_stopped m m' s events n s' events' why s'' same ready p lt q =
    went m s events n s' events' (Stopped why) s'' ready p (omega (arith, lt, p.long), subst (λ (x : Module). Step x s' (Err (AsStop why)) s'') same q)

-- a run that wasn't stopped, with frames that stand
pub ready_on : (m m' : Module) (s : Sight) → m' ≡ m → s.state.stopped ≡ false → 0 < length s.state.stack → length s.memory ≡ (said m).memory → Ready m' s
ready_on m m' s same on stands sized = subst (λ (x : Module). Ready x s) (sym same) (grind arith, sized)
