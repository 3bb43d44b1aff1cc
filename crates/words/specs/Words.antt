-- The lines of a text, the words of a line, and decimal numbers.
use Rattle.std.specs.Prelude.{ℕ, ◌+◌, ◌-◌, ◌*◌, ◌&&◌, cond, fold, filter, not, List, [], ◌∷◌, Ok, Err, Result, nat_le, ◌==◌}
use Rattle.std.specs.Char.{is_ascii_digit}
use Rattle.std.specs.List.{list_all, onto_first, slice_split}
use Rattle.std.specs.Str.{bytes_eq}
use Rattle.words.specs.declared.fault.Fault.{Fault}
use Rattle.words.specs.declared.fault.Fault.TheVariants.{Large, Number}

-- Each ends with the byte 10, and the last one may end with the text.
abbrev pub lines : List ℕ → List (List ℕ)
lines [] = []
lines (b ∷ bs) = cond (b == 10) ([] ∷ lines bs) (onto_first b (lines bs))

-- what stands between blanks, the byte 32
unfoldable pub words : List ℕ → List (List ℕ)
words line = filter (λ w. not (bytes_eq w [])) (slice_split (λ b. b == 32) line)

abbrev pub value : List ℕ → ℕ
value = fold (λ n digit. 10 * n + (digit - 48)) 0

-- One digit or more, that make a number of at most `most`.
abbrev pub decimal : ℕ → List ℕ → Result ℕ Fault
decimal most w = cond (not (bytes_eq w []) && list_all is_ascii_digit w) (cond (nat_le (value w) most) (Ok (value w)) (Err Large)) (Err Number)
