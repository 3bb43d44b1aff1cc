-- Marked values are known, and nothing reaches outside its bounds: what holds of a run as it begins, and stays over each made step.
use Rattle.std.proofs.Common.{◌≡◌, ℕ, ◌<◌, ◌≤◌, ⊎_elim, Bool, true, false, cond, List, [], ◌∷◌, ◌++◌, Some, None, Option, refl, subst, replicate, slice_get}
use Rattle.module.specs.Modules.{said}
use Rattle.module.specs.declared.module.Module.{Module}
use Rattle.values.specs.declared.bounds.Bounds.{Bounds}
use Rattle.values.specs.declared.marked.Marked.{Marked as Mark}
use Rattle.values.specs.declared.marked.Marked.TheVariants.{Code, Data}
use Rattle.machine.specs.declared.value.Value.{Value}
use Rattle.machine.specs.declared.value.Value.TheVariants.{Plain, Marked}
use Rattle.machine.specs.declared.frame.Frame.{Frame}
use Rattle.machine.specs.Values.{word, with_word, data_in, read}
use Rattle.machine.specs.Frames.{entered, value}
use Rattle.machine.specs.Machine.{Entries, Sight, at_place, given, sensitive}
use Rattle.machine.specs.inside.Parts.{kept}
use Rattle.machine.specs.Goes.{Made}
use Rattle.integrity.specs.Histories.{Name, global, block, Object, Known}
use Rattle.integrity.specs.Integrity.{Begun}
use Rattle.integrity.proofs.Runs.{Quiet}
use Rattle.integrity.proofs.Each.{Each, each_none, each_cons, each_copy, set_cases, read_there, get_more}

-- each marked value of a frame is known, and a local whose type isn't sensitive is plain
pub record FairFrame (m : Module) (h : List Made) (f : Frame) : Type 0 where
  pub known : (x : ℕ) (v : Mark) → slice_get f.locals x ≡ Some (Marked v) → Known m h v
  pub typed : (x : ℕ) (v : Mark) → slice_get f.locals x ≡ Some (Marked v) → sensitive m f x ≡ true

-- so is what the store holds below the memory size
abbrev pub FairStore : Module → List Made → Entries → Type 0
FairStore m h e = (a : ℕ) (v : Mark) → a < (said m).memory → e a ≡ Some v → Known m h v

pub record Fair (m : Module) (h : List Made) (s : Sight) : Type 0 where
  pub frames : Each (FairFrame m h) s.state.stack
  pub held : FairStore m h s.entries

-- every global and every block ends within the memory
abbrev pub Ending : Module → List Made → Type 0
Ending m h = (o : Name) (low high : ℕ) → Object m h o low high → high ≤ (said m).memory

-- what a local may take
abbrev pub KnownValue : Module → List Made → Value → Type 0
KnownValue m h v = (w : Mark) → v ≡ Marked w → Known m h w

pub some_marked : (v w : Mark) → ◌≡◌ {A = Value} (Marked v) (Marked w) → v ≡ w
some_marked v w e = cc

pub plain_known : (m : Module) (h : List Made) (n : ℕ) → KnownValue m h (Plain n)
plain_known m h n w e = absurd (cc)

pub marked_known : (m : Module) (h : List Made) (v : Mark) → Known m h v → KnownValue m h (Marked v)
marked_known m h v k w e = subst (Known m h) (some_marked v w e) k

-- data in bounds that there may not be
pub data_known : (m : Module) (h : List Made) (o : Option Bounds) (w : ℕ) → ((b : Bounds) → o ≡ Some b → Known m h (Data w b)) → KnownValue m h (data_in o w)
data_known m h None w k = plain_known m h w
data_known m h (Some b) w k = marked_known m h (Data w b) (k b refl)

-- what a load reads
pub read_known : (m : Module) (h : List Made) (o : Option Mark) (n : ℕ) → ((v : Mark) → o ≡ Some v → Known m h v) → KnownValue m h (read o n)
read_known m h None n k = plain_known m h n
read_known m h (Some v) n k = marked_known m h v (k v refl)

-- a value with its word changed is as plain as before
pub with_word_known : (m : Module) (h : List Made) (v : Value) (n : ℕ) → ((w : Mark) → v ≡ Marked w → ⊥) → KnownValue m h (with_word v n)
with_word_known m h (Plain w) n k = plain_known m h n
with_word_known m h (Marked w) n k = absurd (k w refl)

-- what stood before stays known
object_more : (m : Module) (h : List Made) (d : Made) (o : Name) (low high : ℕ) → Object m h o low high → Object m (h ++ d ∷ []) o low high
object_more m h d (global k) low high p = p
object_more m h d (block n) low high p = (p.0, get_more h d n p.0 p.1, p.2)

pub known_more : (m : Module) (h : List Made) (d : Made) (v : Mark) → Known m h v → Known m (h ++ d ∷ []) v
known_more m h d (Code g) k = (k.0, k.1, k.2, k.3, get_more h d k.0 k.1 k.4, k.5)
known_more m h d (Data w b) k = (k.0, object_more m h d k.0 b.low b.high k.1)

pub value_there : (f : Frame) (x : ℕ) (v : Mark) → value f x ≡ Marked v → slice_get f.locals x ≡ Some (Marked v)
value_there f x v e = read_there f.locals x (Plain 0) (Marked v) e (λ z. cc)

kept_cases : (b : Bool) (v : Value) (n : ℕ) (w : Mark) → cond b v (Plain n) ≡ Marked w → (b ≡ true) × (v ≡ Marked w)
kept_cases true v n w e = (refl, e)
kept_cases false v n w e = absurd (cc)

not_plain : (n : ℕ) (w : Mark) → Plain n ≡ Marked w → ⊥
not_plain n w e = cc

module _ (m : Module) (h : List Made) where
  pub begun_frame : (g : ℕ) → FairFrame m h (entered g)
  begun_frame g =
      let none : (x : ℕ) (v : Mark) → slice_get (replicate 8 (Plain 0)) x ≡ Some (Marked v) → ⊥ = λ x v e. each_copy (λ u. u ≡ Marked v → ⊥) 8 (Plain 0) (not_plain 0 v) x (Marked v) e refl in
      record { known = λ x v e. absurd (none x v e); typed = λ x v e. absurd (none x v e) }

  pub at_place_fair : (f : Frame) (p : ℕ) → FairFrame m h f → FairFrame m h (at_place f p)
  at_place_fair f p q = record { known = q.known; typed = q.typed }

  pub given_fair : (f : Frame) (x : ℕ) (v : Value) → FairFrame m h f → KnownValue m h v → FairFrame m h (given m f x v)
  given_fair f x v q k =
      record {
        known = λ y w e. ⊎_elim (λ p. q.known y w p) (λ p. k w (kept_cases (sensitive m f x) v (word v) w p.1).1) (set_cases f.locals x (kept m f x v) y (Marked w) e);
        typed = λ y w e. ⊎_elim (λ p. q.typed y w p) (λ p. rw p.0 (kept_cases (sensitive m f x) v (word v) w p.1).0) (set_cases f.locals x (kept m f x v) y (Marked w) e);
      }

  pub frame_more : (d : Made) (f : Frame) → FairFrame m h f → FairFrame m (h ++ d ∷ []) f
  frame_more d f q = record { known = λ x v e. known_more m h d v (q.known x v e); typed = q.typed }

pub fair_begin : (m : Module) (s : Sight) → Begun m s → Fair m [] s
fair_begin m s b =
    record {
      frames = rw (b.state) (each_cons (FairFrame m []) (entered 0) [] (begun_frame m [] 0) (each_none (FairFrame m [])));
      held = λ a v l e. let z = b.clear a l in absurd (cc);
    }

pub fair_quiet : (m : Module) (h : List Made) (s s' : Sight) → Fair m h s → Quiet s s' → Fair m h s'
fair_quiet m h s s' p q = record { frames = rw (q.stack) p.frames; held = rw (q.entries) p.held }
