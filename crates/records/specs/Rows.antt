-- Records as their words stand in an image, each word as its four bytes.
use Rattle.std.specs.Prelude.{ℕ, zero, suc, ◌*◌, List, [], ◌∷◌, map, drop, unwrap_or, Ok, Option, Result}
use Rattle.std.specs.Simd.{first_chunks}
use Rattle.records.specs.Words.{word_at}
use Rattle.records.specs.Records.{before}

-- the n records of w words each at the front of s
abbrev pub rows : ℕ → ℕ → List ℕ → List (List (List ℕ))
rows w zero s = []
rows w (suc n) s = first_chunks 4 w s ∷ rows w n (drop (4 * w) s)

-- the words of a record
abbrev pub words_in : List (List ℕ) → List ℕ
words_in row = map (λ bytes. word_at bytes 0) row

-- what records mean, with a blank for each that means nothing
abbrev pub readings : {R : Type 0} → (List ℕ → Option R) → R → List (List (List ℕ)) → List R
readings meant blank rs = map (λ row. unwrap_or (meant (words_in row)) blank) rs

-- what records mean, or the place of the first that means nothing
abbrev pub read_all : {R : Type 0} → (List ℕ → Option R) → List (List (List ℕ)) → Result (List R) ℕ
read_all meant [] = Ok []
read_all meant (row ∷ rs) = before (meant (words_in row)) (read_all meant rs)
