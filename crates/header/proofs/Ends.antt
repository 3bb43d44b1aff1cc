-- An image that is laid out right ends where its lists do.
use Rattle.std.proofs.Common.{◌≡◌, ℕ, Bool, ◌&&◌, ◌==◌, List, length, true, arith}
use Rattle.std.proofs.lemmas.Bool.Decides.{nat_tests}
use Rattle.header.specs.declared.counts.Counts.{Counts}
use Rattle.records.specs.Words.{word_at}
use Rattle.header.specs.Header.{fields_at, globals_at, locals_at, functions_at, code_at, end_at, Headed}

last : (a b c d e f : Bool) (x y : ℕ) → (a && b && c && d && e && f && x == y) ≡ true → x ≡ y
last a b c d e f x y h = grind (arith, nat_tests)

pub ends_there : (s : List ℕ) (m d : ℕ) (n : Counts) → Headed s m d n → length s ≡ end_at n
ends_there s m d n h = last (word_at s 12 == 60) (word_at s 20 == fields_at n) (word_at s 28 == globals_at n) (word_at s 36 == locals_at n) (word_at s 44 == functions_at n) (word_at s 52 == code_at n) (length s) (end_at n) h.in_place
