-- What a line about the memory or a run does to a board, and what it tells.
use Rattle.std.specs.Prelude.{◌≡◌, ℕ, zero, suc, ◌+◌, ◌*◌, cond, List, length, replicate, take, Some, None, Ok, string_bytes, vec_items, Option, Result, String, IfOk, MatchResult, nat_lt, slice_index, slice_set}
use Rattle.std.specs.declared.alloc.AllocError.{AllocError}
use Rattle.std.specs.declared.alloc.Global.{Global}
use Rattle.std.specs.declared.vec.Vec.{Vec}
use Rattle.integrity.specs.Integrity.{Integrity}
use Rattle.module.specs.Modules.{said}
use Rattle.module.specs.declared.module.Module.{Module}
use Rattle.machine.specs.Events.{other}
use Rattle.machine.specs.Goes.{Go}
use Rattle.machine.specs.Machine.{Entries, Sight, Step, Taken, beginning}
use Rattle.machine.specs.Statuses.{status_of}
use Rattle.machine.specs.Values.{wrapped}
use Rattle.machine.specs.declared.event.Event.{Event}
use Rattle.machine.specs.declared.gone.Gone.{Gone}
use Rattle.machine.specs.declared.refusal.NotReady.{NotReady}
use Rattle.machine.specs.declared.refusal.Refusal.{Refusal}
use Rattle.runs.specs.Clearing.{Cleared}
use Rattle.runs.specs.Seen.{seen}
use Rattle.runs.specs.declared.run.Run.{Run}
use Rattle.run_lines.specs.declared.line.RunLine.{RunLine}
use Rattle.run_lines.specs.declared.line.RunLine.TheVariants as line
use Rattle.board.specs.declared.board.Board.{Board}
use Rattle.board.specs.declared.report.Report.{Report}
use Rattle.board.specs.declared.report.Report.TheVariants as tells
use Rattle.board.specs.Shown.{entries_text, frames_text}

-- the first n words, each times its place counted from 1
abbrev pub weighted : List ℕ → ℕ → ℕ
weighted memory zero = 0
weighted memory (suc n) = weighted memory n + suc n * slice_index memory n

abbrev pub digest_of : List ℕ → ℕ
digest_of memory = wrapped (weighted memory (length memory))

abbrev pub AreLines : List ℕ → Report → Type 0
AreLines text report = (lines : String Global) × (report ≡ tells.Lines lines) × (string_bytes lines ≡ text)

-- Of the list, the events of the steps that were made are told.
abbrev pub WentSo : Result Gone NotReady → List Event → Report → Type 0
WentSo answer events report = (made : Vec Event Global) × (report ≡ tells.Went answer made) × MatchResult answer (λ g. vec_items made ≡ take g.made events) (λ _. vec_items made ≡ events)

module _ {S : Type 0} (entry : S → Entries) (taken : S → Taken) (keeps : S → S → Type 0) where
  -- A run of m began on the store s.
  pub record BegunWith (m : Module) (s : S) (r : Run S) : Type 0 where
    pub module_is : r.module ≡ m
    pub state : (memory : List ℕ) → (seen entry taken r memory).state ≡ beginning m
    pub cleared : Cleared (said m).memory (entry s) (taken s) (entry r.live.store) (taken r.live.store)
    pub kept : keeps s r.live.store
    pub integrity : (memory : List ℕ) → Integrity m (seen entry taken r memory)

  -- The run r went on, and this is so of what is seen before and after.
  pub record Moved (So : Sight → Sight → Type 0) (r : Run S) (memory : List ℕ) (r' : Run S) (memory' : List ℕ) : Type 0 where
    pub module_is : r'.module ≡ r.module
    pub kept : keeps r.live.store r'.live.store
    pub so : So (seen entry taken r memory) (seen entry taken r' memory')

  -- What the board b tells of a line, and which board it becomes.
  module _ (b : Board S) (t : Result Report AllocError) (b' : Board S) where
    abbrev pub Tells : Report → Type 0
    Tells report = (t ≡ Ok report) × (b' ≡ b)

    -- This text is told, unless memory is wanting.
    abbrev pub Lists : List ℕ → Type 0
    Lists text = IfOk t (AreLines text) × (b' ≡ b)

    -- Nothing but the memory changes, which has these words now.
    abbrev pub Rewrites : List ℕ → Type 0
    Rewrites words = (vec_items b'.memory ≡ words) × (b' ≡ record b { memory = b'.memory })

    abbrev pub Moves : (Sight → Sight → Type 0) → Run S → Type 0
    Moves So r = (r' : Run S) × (b' ≡ record b { memory = b'.memory; run = Some r' }) × Moved So r (vec_items b.memory) r' (vec_items b'.memory)

    abbrev pub OfRun : Option (Run S) → (Run S → Type 0) → Type 0
    OfRun None Does = Tells tells.NoRun
    OfRun (Some r) Does = Does r

    -- A run begins on the loose store, in place of any earlier one.
    abbrev pub Begins : Option S → Type 0
    Begins None = Tells tells.NoStore
    Begins (Some s) = (t ≡ Ok tells.Begun) × ((r : Run S) × (b' ≡ record b { loose = None; run = Some r }) × BegunWith b.module s r)

    -- Where memory is wanting, nothing changes.
    abbrev pub Ran : RunLine → Type 0
    Ran line.Begin = Begins b.loose
    Ran (line.Memory n) = MatchResult t (λ report. (report ≡ tells.Sized n) × Rewrites (replicate n 0)) (λ _. b' ≡ b)
    Ran (line.Poke a w) = (t ≡ Ok (cond (nat_lt a (length (vec_items b.memory))) (tells.Poked a w) tells.Outside)) × Rewrites (slice_set (vec_items b.memory) a w)
    Ran (line.Peek a) = Tells (cond (nat_lt a (length (vec_items b.memory))) (tells.Word (slice_index (vec_items b.memory) a)) tells.Outside)
    Ran line.Digest = Tells (tells.Digest (digest_of (vec_items b.memory)))
    Ran line.Step = OfRun b.run (λ r. (answer : Result Event Refusal) × (t ≡ Ok (tells.Stepped answer)) × Moves (λ s s'. Step r.module s answer s') r)
    Ran (line.Go n) = OfRun b.run (λ r. MatchResult t (λ report. (answer : Result Gone NotReady) × (events : List Event) × WentSo answer events report × Moves (λ s s'. Go r.module s (replicate n other) answer s' events) r) (λ _. b' ≡ b))
    Ran line.Frames = OfRun b.run (λ r. Lists (frames_text r.live.stack))
    Ran line.Entries = OfRun b.run (λ r. Lists (entries_text (entry r.live.store) (said r.module).memory))
    Ran line.Status = OfRun b.run (λ r. Tells (tells.Stands (status_of r.stopped r.live.stack)))
