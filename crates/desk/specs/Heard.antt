-- What a line of a script does, and what is told of it.
use Rattle.std.specs.Prelude.{◌≡◌, ℕ, Bool, cond, List, [], ◌∷◌, ◌++◌, length, replicate, Some, None, Ok, Err, string_bytes, codes, Option, Result, String, IfOk, MatchResult, nat_eq}
use Rattle.std.specs.List.{starts_with}
use Rattle.std.specs.Result.{result_map_both}
use Rattle.std.specs.declared.alloc.AllocError.{AllocError}
use Rattle.std.specs.declared.alloc.Global.{Global}
use Rattle.hex_bytes.specs.Hex.{hex_of}
use Rattle.values.specs.declared.marked.Marked.{Marked}
use Rattle.words.specs.Forms.{read}
use Rattle.words.specs.declared.fault.Fault.{Fault}
use Rattle.words.specs.declared.fault.Fault.TheVariants.{Word}
use Rattle.script.specs.Lines.{stores}
use Rattle.script.specs.declared.command.Command.{Command}
use Rattle.image_lines.specs.Asks.{Asked, image, modules, sensitive, write}
use Rattle.run_lines.specs.Asks.{runs}
use Rattle.run_lines.specs.declared.line.RunLine.{RunLine}
use Rattle.module.specs.Follows.{Follows, Right}
use Rattle.module.specs.Modules.{said}
use Rattle.module.specs.Modules as of
use Rattle.module.specs.Refusals.{Refused}
use Rattle.module.specs.declared.fault.ModuleFault.{ModuleFault}
use Rattle.module.specs.declared.module.Module.{Module}
use Rattle.parts.specs.Content.{Content}
use Rattle.writing.specs.Image.{Written}
use Rattle.writing.specs.declared.TooShort.{TooShort}
use Rattle.replay.specs.Stores.{Loose, Obeyed}
use Rattle.replay.specs.declared.answer.Answer.{Answer}
use Rattle.board.specs.Runs as board
use Rattle.board.specs.declared.board.Board.{Board}
use Rattle.board.specs.declared.report.Report.{Report}
use Rattle.desk.specs.Shown.{numbered, wrote_text}
use Rattle.desk.specs.declared.told.Told.{Told}
use Rattle.desk.specs.declared.told.Told.TheVariants.{Answered, Faulty, Ran, Read, Silent, Text}

-- The image s was read into the module m, and n is left.
abbrev pub ReadSo : List ℕ → Module → Told → Module → Type 0
ReadSo s m told n = (answer : Result (Unit {0}) ModuleFault) × (told ≡ Read answer) × MatchResult answer (λ _. Follows s (said n)) (λ f. Refused s f × (n ≡ m))

-- An image was written over these bytes.
abbrev pub WroteSo : List ℕ → List ℕ → List ℕ → Type 0
WroteSo bytes old text = (answer : Result ℕ TooShort) × (new : List ℕ) × Written bytes old new answer × (text ≡ wrote_text answer (hex_of new))

-- The sensitive types are told.
abbrev pub ListedSo : Content → List ℕ → Type 0
ListedSo c text = (marks : List Bool) × Right c marks × (text ≡ codes "sensitive" ++ (numbered marks (length c.types) ++ codes "\n"))

abbrev pub IsText : (List ℕ → Type 0) → Told → Type 0
IsText So told = (text : String Global) × (told ≡ Text text) × So (string_bytes text)

-- What a line about modules does to a board. A module is written to bytes that each held 165. Where memory is wanting, nothing changes.
abbrev pub OfModule : Asked → Board Loose → Result Told AllocError → Board Loose → Type 0
OfModule (image s) b r b' = MatchResult r (λ told. ReadSo s b.module told b'.module) (λ _. b'.module ≡ b.module) × (b' ≡ record b { «module» = b'.module })
OfModule (write count) b r b' = IfOk r (IsText (WroteSo (of.image b.module) (replicate count 165))) × (b' ≡ b)
OfModule sensitive b r b' = IfOk r (IsText (ListedSo (said b.module))) × (b' ≡ b)

-- A line that no table has: it is empty or a comment, or its first word is unknown.
abbrev pub unread : ℕ → List (List ℕ) → Told
unread n [] = Silent
unread n (w ∷ ws) = cond (starts_with nat_eq w (codes "#")) Silent (Faulty n Word)

-- Of the line of number n: what is told of it with the board b, and which board is left.
module _ (entry : Loose → ℕ → Option Marked) (taken : Loose → ℕ → Bool) (keeps : Loose → Loose → Type 0) (b : Board Loose) (n : ℕ) (r : Result Told AllocError) (b' : Board Loose) where
  abbrev pub Only : Told → Type 0
  Only told = (r ≡ Ok told) × (b' ≡ b)

  -- What the form says is done, a fault is told, and a line without a form is another's.
  abbrev pub By : {A : Type 0} → Option (Result A Fault) → (A → Type 0) → Type 0 → Type 0
  By (Some (Ok line)) Does Else = Does line
  By (Some (Err f)) Does Else = Only (Faulty n f)
  By None Does Else = Else

  abbrev pub OfRun : RunLine → Type 0
  OfRun line = (report : Result Report AllocError) × (r ≡ result_map_both Ran (λ e. e) report) × board.Ran entry taken keeps b report b' line

  abbrev pub OfStore : Command → Type 0
  OfStore command = (answer : Result Answer AllocError) × (r ≡ result_map_both Answered (λ e. e) answer) × Obeyed entry taken keeps b.loose command answer b'.loose × (b' ≡ record b { loose = b'.loose })

  abbrev pub ByStores : List (List ℕ) → Type 0
  ByStores line = By (read stores line) OfStore (Only (unread n line))

  abbrev pub ByRuns : List (List ℕ) → Type 0
  ByRuns line = By (read runs line) OfRun (ByStores line)

  abbrev pub Heard : List (List ℕ) → Type 0
  Heard line = By (read modules line) (λ asked. OfModule asked b r b') (ByRuns line)
