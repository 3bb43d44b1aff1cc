-- What two runs that decide alike have in common: the marks of their frames, and bounds that end within the memory.
use Rattle.std.proofs.Common.{◌≡◌, refl, sym, ap, ◌∙◌, subst, ℕ, ◌≤◌, Bool, true, false, cond, List, [], ◌∷◌, map, get_or, set, Some, None, Option, arith}
use Rattle.std.proofs.Math.ListN.{get_or-map}
use Rattle.std.proofs.lemmas.List.{map-set}
use Rattle.values.specs.declared.bounds.Bounds.{Bounds}
use Rattle.values.specs.declared.marked.Marked.{Marked as Mark}
use Rattle.values.specs.declared.marked.Marked.TheVariants.{Code, Data}
use Rattle.machine.specs.declared.value.Value.{Value}
use Rattle.machine.specs.declared.value.Value.TheVariants.{Plain, Marked}
use Rattle.machine.specs.declared.frame.Frame.{Frame}
use Rattle.machine.specs.Values.{word, bounds_of, data_in, read}
use Rattle.machine.specs.Frames.{entered, value}
use Rattle.machine.proofs.Bounding.{bounds_are}
use Rattle.integrity.proofs.Each.{Each, each_copy, each_read_or}

-- a value's mark, if it has one
abbrev pub mark_of : Value → Option Mark
mark_of (Plain w) = None
mark_of (Marked v) = Some v

-- both are plain, or both are the same marked value
pub data SameMark : Value → Value → Type 0 where
  both_plain : (w w' : ℕ) → SameMark (Plain w) (Plain w')
  both_marked : (v : Mark) → SameMark (Marked v) (Marked v)

pub same_mark : (v v' : Value) → mark_of v ≡ mark_of v' → SameMark v v'
same_mark (Plain w) (Plain w') e = both_plain w w'
same_mark (Plain w) (Marked k) e = absurd cc
same_mark (Marked k) (Plain w) e = absurd cc
same_mark (Marked k) (Marked k') e = let z : k ≡ k' = cc in subst (λ (c : Mark). SameMark (Marked k) (Marked c)) z (both_marked k)

-- a frame without its plain words
pub record Shape : Type 0 where
  pub function : ℕ
  pub place : ℕ
  pub marks : List (Option Mark)

abbrev pub shape : Frame → Shape
shape f = record { function = f.function; place = f.place; marks = map mark_of f.locals }

pub mark_at : (f g : Frame) → shape f ≡ shape g → (x : ℕ) → SameMark (value f x) (value g x)
mark_at f g e x =
    same_mark (value f x) (value g x)
    (sym (get_or-map mark_of f.locals x (Plain 0)) ∙ ap (λ (s : Shape). get_or s.marks x None) e ∙ get_or-map mark_of g.locals x (Plain 0))

-- what a frame's local is set to keeps the shapes the same
pub set_same : (f g : Frame) → shape f ≡ shape g → (x : ℕ) (v v' : Value) → mark_of v ≡ mark_of v' → map mark_of (set f.locals x v) ≡ map mark_of (set g.locals x v')
set_same f g e x v v' same =
    map-set mark_of f.locals x v ∙ ap (λ (l : List (Option Mark)). set l x (mark_of v)) (ap (λ (s : Shape). s.marks) e)
    ∙ ap (λ (o : Option Mark). set (map mark_of g.locals) x o) same ∙ sym (map-set mark_of g.locals x v')

pub cond_same : (b : Bool) (v v' : Value) → mark_of v ≡ mark_of v' → mark_of (cond b v (Plain (word v))) ≡ mark_of (cond b v' (Plain (word v')))
cond_same true v v' same = same
cond_same false v v' same = refl

pub read_mark : (o : Option Mark) (w : ℕ) → mark_of (read o w) ≡ o
read_mark None w = refl
read_mark (Some v) w = refl

-- a mark whose bounds end at n at most
abbrev pub Low : ℕ → Option Mark → Type 0
Low n None = Unit {0}
Low n (Some (Code g)) = Unit {0}
Low n (Some (Data w b)) = b.high ≤ n

abbrev pub LowFrame : ℕ → Frame → Type 0
LowFrame n f = Each (λ (v : Value). Low n (mark_of v)) f.locals

abbrev pub LowFrames : ℕ → List Frame → Type 0
LowFrames n [] = Unit {0}
LowFrames n (f ∷ fs) = LowFrame n f × LowFrames n fs

module _ (n : ℕ) where
  pub low_cond : (b : Bool) (v : Value) → Low n (mark_of v) → Low n (mark_of (cond b v (Plain (word v))))
  low_cond true v p = p
  low_cond false v p = tt

  pub low_value : (f : Frame) → LowFrame n f → (x : ℕ) → Low n (mark_of (value f x))
  low_value f l x = each_read_or (λ (v : Value). Low n (mark_of v)) f.locals x (Plain 0) tt l

  pub low_entered : (g : ℕ) → LowFrame n (entered g)
  low_entered g = each_copy (λ (v : Value). Low n (mark_of v)) 8 (Plain 0) tt

  low_data : (o : Option Bounds) (w : ℕ) → ((b : Bounds) → o ≡ Some b → b.high ≤ n) → Low n (mark_of (data_in o w))
  low_data None w h = tt
  low_data (Some b) w h = h b refl

  pub low_bounds : (low high w : ℕ) → high ≤ n → Low n (mark_of (data_in (bounds_of low high) w))
  low_bounds low high w le = low_data (bounds_of low high) w (λ b e. omega (arith, le, (bounds_are low high b e).1))
