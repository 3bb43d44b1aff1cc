-- The image of what a module says, and how it is written.
use Rattle.std.specs.Prelude.{◌≡◌, ℕ, ◌<◌, ◌≤◌, List, [], ◌∷◌, ◌++◌, length, drop, Ok, Err, Result}
use Rattle.std.specs.List.{flat_map}
use Rattle.records.specs.Words.{spell}
use Rattle.content.specs.Records.{kind_words, typed_words, global_words, function_words, instruction_words}
use Rattle.header.specs.declared.counts.Counts.{Counts}
use Rattle.header.specs.Header.{fields_at, globals_at, locals_at, functions_at, code_at}
use Rattle.parts.specs.Content.{Content, lengths}

-- version, memory size, depth, then start and count of each list
abbrev pub header_words : ℕ → ℕ → Counts → List ℕ
header_words m d n =
    1 ∷ m ∷ d ∷ 60 ∷ n.types ∷ fields_at n ∷ n.fields ∷ globals_at n ∷ n.globals
    ∷ locals_at n ∷ n.locals ∷ functions_at n ∷ n.functions ∷ code_at n ∷ n.code ∷ []

-- the words of the six lists
abbrev pub list_words : Content → List ℕ
list_words c =
    flat_map kind_words c.types ++ (flat_map typed_words c.fields ++ (flat_map global_words c.globals
    ++ (flat_map typed_words c.locals ++ (flat_map function_words c.functions ++ flat_map instruction_words c.code))))

-- the image that says c
unfoldable pub image_of : Content → List ℕ
image_of c = spell (header_words c.memory c.depth (lengths c) ++ list_words c)

-- the image stands at the front and the bytes behind it are left; or they are too few, and all are left
abbrev pub Written : {Y : Type 0} → List ℕ → List ℕ → List ℕ → Result ℕ Y → Type 0
Written image old new (Ok n) = (n ≡ length image) × (length image ≤ length old) × (new ≡ image ++ drop (length image) old)
Written image old new (Err _) = (length old < length image) × (new ≡ old)
