-- Two steps that tell and leave the same but for plain words, with what is so of any two steps.
use Rattle.std.proofs.Common.{◌≡◌, refl, ℕ, ◌<◌, Bool, true, false, cond, map, Some, Ok, Err}
use Rattle.module.specs.Modules.{said}
use Rattle.module.specs.declared.module.Module.{Module}
use Rattle.machine.specs.declared.event.Event.{Event}
use Rattle.machine.specs.declared.refusal.Refusal.{Refusal}
use Rattle.machine.specs.declared.refusal.Refusal.TheVariants.{Stopped}
use Rattle.machine.specs.declared.refusal.Stop.{Stop}
use Rattle.machine.specs.Events.{decides}
use Rattle.machine.specs.Machine.{Sight, Act, keeps, puts, drops, Left, stops}
use Rattle.integrity.proofs.AlikeFrames.{shape, Low, LowFrames}

-- two sights whose frames differ in plain words alone, and whose stores agree within the memory, where each mark's bounds end
pub record AlikeRun (m : Module) (s t : Sight) : Type 0 where
  pub stack : map shape s.state.stack ≡ map shape t.state.stack
  pub heap : s.state.heap ≡ t.state.heap
  pub held : (a : ℕ) → a < (said m).memory → s.entries a ≡ t.entries a
  pub low : LowFrames (said m).memory s.state.stack
  pub low_held : (a : ℕ) → a < (said m).memory → Low (said m).memory (s.entries a)

abbrev pub LowAct : ℕ → Act → Type 0
LowAct n keeps = Unit {0}
LowAct n (puts a v) = Low n (Some v)
LowAct n (drops a) = Unit {0}

-- two steps tell and leave the same but for plain words
pub record Same (m : Module) (l l' : Left) : Type 0 where
  pub answer : l.answer ≡ l'.answer
  pub stack : map shape l.state.stack ≡ map shape l'.state.stack
  pub heap : l.state.heap ≡ l'.state.heap
  pub act : l.act ≡ l'.act
  pub low : LowFrames (said m).memory l.state.stack
  pub low_act : LowAct (said m).memory l.act

abbrev pub SameDecision : Event → Event → Type 0
SameDecision e e' = decides e.kind ≡ true → decides e'.kind ≡ true → e ≡ e'

-- if both steps are made and decide alike
abbrev pub Both : Module → Left → Left → Type 0
Both m l l' = (e e' : Event) → l.answer ≡ Ok e → l'.answer ≡ Ok e' → SameDecision e e' → Same m l l'

module _ (m : Module) where
  pub left_not : (why : Refusal) (l l' : Left) → l.answer ≡ Err why → Both m l l'
  left_not why l l' was e e' is is' d = absurd cc

  pub right_not : (why : Refusal) (l l' : Left) → l'.answer ≡ Err why → Both m l l'
  right_not why l l' was e e' is is' d = absurd cc

  pub both_made : (e e' : Event) (l l' : Left) → l.answer ≡ Ok e → l'.answer ≡ Ok e' → (SameDecision e e' → Same m l l') → Both m l l'
  both_made e e' l l' was was' f a a' is is' d = let z : a ≡ e = cc in let z' : a' ≡ e' = cc in f (rw (z, z') at d)

  pub if_made : (s t : Sight) (why why' : Stop) (b b' : Bool) (l l' : Left) → (b ≡ true → Both m l l') → Both m (cond b l (stops s why)) (cond b' l' (stops t why'))
  if_made s t why why' true true l l' p = p refl
  if_made s t why why' true false l l' p = right_not (Stopped why') l (stops t why') refl
  if_made s t why why' false true l l' p = left_not (Stopped why) (stops s why) l' refl
  if_made s t why why' false false l l' p = left_not (Stopped why) (stops s why) (stops t why') refl

  pub unless_made : (s t : Sight) (why why' : Stop) (b b' : Bool) (l l' : Left) → (b ≡ false → Both m l l') → Both m (cond b (stops s why) l) (cond b' (stops t why') l')
  unless_made s t why why' false false l l' p = p refl
  unless_made s t why why' false true l l' p = right_not (Stopped why') l (stops t why') refl
  unless_made s t why why' true false l l' p = left_not (Stopped why) (stops s why) l' refl
  unless_made s t why why' true true l l' p = left_not (Stopped why) (stops s why) (stops t why') refl

  pub by_same : (b b' : Bool) (l k l' k' : Left) → b ≡ b' → Both m l l' → Both m k k' → Both m (cond b l k) (cond b' l' k')
  by_same true true l k l' k' e p q = p
  by_same true false l k l' k' e p q = absurd cc
  by_same false true l k l' k' e p q = absurd cc
  by_same false false l k l' k' e p q = q
