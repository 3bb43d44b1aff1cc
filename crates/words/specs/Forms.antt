-- The form of a line: what each of its words has to be. The first word that doesn't fit is its fault.
use Rattle.std.specs.Prelude.{ℕ, cond, List, [], ◌∷◌, length, drop, Some, None, Ok, Err, codes, Option, Result, ◌==◌, unwrap_or}
use Prim.Native.String.{String}
use Rattle.std.specs.List.{slice_get}
use Rattle.std.specs.Option.{ok_or}
use Rattle.std.specs.Str.{bytes_eq}
use Rattle.words.specs.declared.fault.Fault.{Fault}
use Rattle.words.specs.declared.fault.Fault.TheVariants.{Count, Word}
use Rattle.words.specs.Words.{decimal}

-- what words that are left say, or their fault
abbrev pub Form : Type 0 → Type 0
Form A = List (List ℕ) → Result A Fault

-- The largest number of 32 bits.
abbrev pub largest : ℕ
largest = 4294967295

abbrev pub next_word : Form (List ℕ)
next_word ws = ok_or (slice_get ws 0) Count

module _ {A B : Type 0} where
  abbrev pub then : Result A Fault → (A → Result B Fault) → Result B Fault
  then (Ok x) k = k x
  then (Err e) k = Err e

module _ {A : Type 0} where
  -- No word is left.
  unfoldable pub ends : A → Form A
  ends x ws = cond (length ws == 0) (Ok x) (Err Count)

  -- A number of at most `most`, and what follows it.
  unfoldable pub number : ℕ → (ℕ → Form A) → Form A
  number most follows ws = then (then (next_word ws) (decimal most)) (λ n. follows n (drop 1 ws))

  -- what a line says whose form has its first word as its name, if one has
  unfoldable pub read : List (String × Form A) → List (List ℕ) → Option (Result A Fault)
  read forms [] = None
  read [] (w ∷ ws) = None
  read (f ∷ fs) (w ∷ ws) = cond (bytes_eq w (codes f.0)) (Some (f.1 ws)) (read fs (w ∷ ws))

  -- One of these names, and what follows it.
  unfoldable pub one_of : List (String × Form A) → Form A
  one_of forms ws = then (next_word ws) (λ w. unwrap_or (read forms (w ∷ drop 1 ws)) (Err Word))

-- What the form says is a part of f's.
abbrev pub part : {A B : Type 0} → (A → B) → Form A → Form B
part f form ws = then (form ws) (λ x. Ok (f x))
