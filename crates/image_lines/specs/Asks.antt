-- The lines about modules, each by the form of its words.
use Rattle.std.specs.Prelude.{ℕ, cond, List, [], ◌∷◌, Ok, Err}
use Prim.Native.String.{String}
use Rattle.hex_bytes.specs.Hex.{bytes_of, hexed}
use Rattle.words.specs.Forms.{Form, ends, number, part}
use Rattle.words.specs.declared.fault.Fault.TheVariants.{Hex}
use Rattle.image_lines.specs.declared.line.ImageLine.{ImageLine}
use Rattle.image_lines.specs.declared.line.ImageLine.TheVariants.{Image, Sensitive, Write}

-- what a line asks for: an image of these bytes is read, the module is written to so many bytes, the sensitive types are told
pub data Asked : Type 0 where
  image : List ℕ → Asked
  write : ℕ → Asked
  sensitive : Asked

abbrev pub asked : ImageLine → Asked
asked (Image digits) = image (bytes_of digits.now)
asked (Write n) = write n
asked Sensitive = sensitive

-- bytes in hex, or no word for no bytes
unfoldable pub bytes : Form Asked
bytes [] = Ok (image [])
bytes (w ∷ ws) = cond (hexed w) (ends (image (bytes_of w)) ws) (Err Hex)

abbrev pub modules : List (String × Form Asked)
modules = ("image", bytes) ∷ ("write", part write (number 65536 ends)) ∷ ("sensitive", ends sensitive) ∷ []
