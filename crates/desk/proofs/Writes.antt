-- What was written is told.
use Rattle.std.proofs.Common.{◌≡◌, ℕ, List, ◌++◌, codes, string_bytes, Result, String, refl}
use Rattle.std.proofs.lemmas.List.{append_assoc}
use Rattle.std.specs.declared.alloc.Global.{Global}
use Rattle.hex_bytes.specs.Hex.{hex_of}
use Rattle.writing.specs.Image.{Written}
use Rattle.writing.specs.declared.TooShort.{TooShort}
use Rattle.desk.specs.Heard.{IsText, WroteSo}
use Rattle.desk.specs.Shown.{wrote_front, wrote_text}
use Rattle.desk.specs.declared.told.Told.TheVariants.{Text}

-- the front, the digits and the end are the text
pub fronted : (answer : Result ℕ TooShort) (hex : List ℕ) → wrote_front answer ++ hex ++ codes "\n" ≡ wrote_text answer hex
fronted answer hex = append_assoc (wrote_front answer) hex (codes "\n")

pub wrote : (bytes old new : List ℕ) (answer : Result ℕ TooShort) (text : String Global) → Written bytes old new answer → string_bytes text ≡ wrote_text answer (hex_of new) → IsText (WroteSo bytes old) (Text text)
wrote bytes old new answer text written told = (text, refl, (answer, new, written, told))
