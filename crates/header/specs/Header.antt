-- What the front of an image says, and where its lists start.
use Rattle.std.specs.Prelude.{◌≡◌, ℕ, ◌+◌, ◌*◌, ◌<◌, ◌≤◌, Bool, true, false, ◌&&◌, List, length, ◌==◌, ◌≢◌, nat_le}
use Rattle.records.specs.Words.{word_at}
use Rattle.header.specs.declared.counts.Counts.{Counts}
use Rattle.header.specs.declared.starts.Starts.{Starts}
use Rattle.header.specs.declared.fault.HeaderFault.{HeaderFault}
use Rattle.header.specs.declared.fault.HeaderFault.TheVariants.{Short, Version, Range, Layout}

-- where the lists start: the first behind the header, each other behind the one before it
abbrev pub fields_at : Counts → ℕ
fields_at n = 60 + 12 * n.types

abbrev pub globals_at : Counts → ℕ
globals_at n = fields_at n + 4 * n.fields

abbrev pub locals_at : Counts → ℕ
locals_at n = globals_at n + 8 * n.globals

abbrev pub functions_at : Counts → ℕ
functions_at n = locals_at n + 4 * n.locals

abbrev pub code_at : Counts → ℕ
code_at n = functions_at n + 16 * n.functions

-- where the image ends
abbrev pub end_at : Counts → ℕ
end_at n = code_at n + 16 * n.code

-- the starts of the lists, together
abbrev pub starts_of : Counts → Starts
starts_of n = record { types = 60; fields = fields_at n; globals = globals_at n; locals = locals_at n; functions = functions_at n; code = code_at n; end = end_at n }

-- the counts as they stand in an image
abbrev pub counts_in : List ℕ → Counts
counts_in s = record { types = word_at s 16; fields = word_at s 24; globals = word_at s 32; locals = word_at s 40; functions = word_at s 48; code = word_at s 56 }

-- no list is longer than a module's lists are, and the three that a module can't do without have records
pub record Few (n : Counts) : Type 0 where
  pub some_types : 1 ≤ n.types
  pub few_types : n.types ≤ 64
  pub few_fields : n.fields ≤ 256
  pub few_globals : n.globals ≤ 64
  pub few_locals : n.locals ≤ 256
  pub some_functions : 1 ≤ n.functions
  pub few_functions : n.functions ≤ 64
  pub some_code : 1 ≤ n.code
  pub few_code : n.code ≤ 1024

-- the memory size, the depth and the counts are in range
abbrev pub ranged : ℕ → ℕ → Counts → Bool
ranged m d n =
    nat_le 1 m && nat_le m 65536
    && nat_le d 16
    && nat_le 1 n.types && nat_le n.types 64
    && nat_le n.fields 256
    && nat_le n.globals 64
    && nat_le n.locals 256
    && nat_le 1 n.functions && nat_le n.functions 64
    && nat_le 1 n.code && nat_le n.code 1024

-- the lists start, and the image ends, where the counts put them
abbrev pub laid : List ℕ → Counts → Bool
laid s n =
    (word_at s 12 == 60)
    && word_at s 20 == fields_at n
    && word_at s 28 == globals_at n
    && word_at s 36 == locals_at n
    && word_at s 44 == functions_at n
    && word_at s 52 == code_at n
    && length s == end_at n

-- the front of an image is right, with the memory size m, the depth d and the counts n
pub record Headed (s : List ℕ) (m d : ℕ) (n : Counts) : Type 0 where
  pub long : 60 ≤ length s
  pub version : word_at s 0 ≡ 1
  pub memory_is : m ≡ word_at s 4
  pub depth_is : d ≡ word_at s 8
  pub counts_are : n ≡ counts_in s
  pub in_range : ranged m d n ≡ true
  pub in_place : laid s n ≡ true

-- the first of the four faults that an image's front has
abbrev pub HeaderBad : List ℕ → HeaderFault → Type 0
HeaderBad s Short = length s < 60
HeaderBad s Version = (60 ≤ length s) × (word_at s 0 ≢ 1)
HeaderBad s Range = (60 ≤ length s) × (word_at s 0 ≡ 1) × (ranged (word_at s 4) (word_at s 8) (counts_in s) ≡ false)
HeaderBad s Layout = (60 ≤ length s) × (word_at s 0 ≡ 1) × (ranged (word_at s 4) (word_at s 8) (counts_in s) ≡ true) × (laid s (counts_in s) ≡ false)
