-- The lines about runs and the memory, each by the form of its words.
use Rattle.std.specs.Prelude.{List, [], ◌∷◌}
use Prim.Native.String.{String}
use Rattle.words.specs.Forms.{Form, ends, largest, number, part}
use Rattle.run_lines.specs.declared.line.RunLine.{RunLine}
use Rattle.run_lines.specs.declared.line.RunLine.TheVariants.{Begin, Digest, Entries, Frames, Go, Memory, Peek, Poke, Status, Step}

abbrev pub runs : List (String × Form RunLine)
runs =
    ("memory", part Memory (number 65537 ends))
    ∷ ("poke", number largest (λ a. number largest (λ w. ends (Poke a w))))
    ∷ ("peek", part Peek (number largest ends))
    ∷ ("digest", ends Digest)
    ∷ ("begin", ends Begin)
    ∷ ("step", ends Step)
    ∷ ("go", part Go (number 65536 ends))
    ∷ ("frames", ends Frames)
    ∷ ("entries", ends Entries)
    ∷ ("status", ends Status)
    ∷ []
