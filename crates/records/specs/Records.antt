-- Records out of the words of an image.
use Rattle.std.specs.Prelude.{ℕ, zero, suc, ◌*◌, List, [], ◌∷◌, drop, Some, None, Ok, Err, Option, Result}
use Rattle.records.specs.Words.{words_from}

-- one record in front of the others; a fault there is one place further on
abbrev pub before : {R : Type 0} → Option R → Result (List R) ℕ → Result (List R) ℕ
before None rest = Err 0
before (Some r) (Ok rs) = Ok (r ∷ rs)
before (Some r) (Err k) = Err (suc k)

-- the n records of w words each at the front of s, or the place of the first that means nothing
abbrev pub records : {R : Type 0} → (List ℕ → Option R) → ℕ → ℕ → List ℕ → Result (List R) ℕ
records meant w zero s = Ok []
records meant w (suc n) s = before (meant (words_from s 0 w)) (records meant w n (drop (4 * w) s))
