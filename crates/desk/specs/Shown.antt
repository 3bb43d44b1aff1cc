-- How what is told is written.
use Rattle.std.specs.Prelude.{ℕ, zero, suc, Bool, false, cond, List, [], ◌++◌, Ok, Err, string_bytes, codes, decimal, Result, slice_index_or}
use Rattle.module.specs.Refusals.{refusal_of, too_short}
use Rattle.module.specs.Texts.{refusal_text}
use Rattle.words.specs.Reasons.{reason}
use Rattle.writing.specs.declared.TooShort.{TooShort}
use Rattle.board.specs.Shown.{shown}
use Rattle.replay.specs.Answers.{shown_answer}
use Rattle.desk.specs.declared.told.Told.{Told}
use Rattle.desk.specs.declared.told.Told.TheVariants.{Answered, Faulty, Ran, Read, Silent, Text}

abbrev pub shown_told : Told → List ℕ
shown_told Silent = []
shown_told (Answered a) = shown_answer a ++ codes "\n"
shown_told (Ran r) = shown r
shown_told (Faulty n f) = codes "error line " ++ (decimal n ++ (codes ": " ++ (reason f ++ codes "\n")))
shown_told (Read (Ok _)) = codes "accepted\n"
shown_told (Read (Err f)) = codes "refused " ++ (refusal_text (refusal_of f) ++ codes "\n")
shown_told (Text t) = string_bytes t

-- how many bytes were written, or why none
abbrev pub wrote_front : Result ℕ TooShort → List ℕ
wrote_front (Ok n) = codes "wrote " ++ (decimal n ++ codes "\nbytes ")
wrote_front (Err _) = codes "refused " ++ (refusal_text too_short ++ codes "\nbytes ")

-- that, and then all bytes in hex
abbrev pub wrote_text : Result ℕ TooShort → List ℕ → List ℕ
wrote_text answer hex = wrote_front answer ++ (hex ++ codes "\n")

-- the numbers below n that are marked, rising, each after a blank
abbrev pub numbered : List Bool → ℕ → List ℕ
numbered marks zero = []
numbered marks (suc n) = numbered marks n ++ cond (slice_index_or marks n false) (codes " " ++ decimal n) []
