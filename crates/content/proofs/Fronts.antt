-- Words that mean a record begin with the record's words, also where as many follow as the longest record has.
use Rattle.std.proofs.Common.{◌≡◌, ℕ, List, length, take, Some, rules}
use Rattle.content.specs.declared.kind.Kind.{Kind}
use Rattle.content.specs.declared.typed.Typed.{Typed}
use Rattle.content.specs.declared.global.Global.{Global}
use Rattle.content.specs.Records.{kind_from, kind_words, typed_from, typed_words, global_from, global_words}

pub kind_front : (ws : List ℕ) (r : Kind) → length ws ≡ 4 → kind_from ws ≡ Some r → kind_words r ≡ take 3 ws
kind_front = search rules

pub typed_front : (ws : List ℕ) (r : Typed) → length ws ≡ 4 → typed_from ws ≡ Some r → typed_words r ≡ take 1 ws
typed_front = search rules

pub global_front : (ws : List ℕ) (r : Global) → length ws ≡ 4 → global_from ws ≡ Some r → global_words r ≡ take 2 ws
global_front = search rules
