-- Behind the last global nothing lies.
use Rattle.std.specs.Prelude.{◌≡◌, ℕ, ◌+◌, ◌≤◌, List, length, refl}
use Rattle.std.proofs.Common.{arith}
use Rattle.content.specs.declared.kind.Kind.{Kind}
use Rattle.content.specs.declared.global.Global.{Global}
use Rattle.tables.specs.Tables.{words}
use Rattle.machine.specs.declared.value.Value.TheVariants.{Plain}
use Rattle.machine.specs.Values.{bounds_of, data_in}
use Rattle.machine.specs.Machine.{start_of}
use Rattle.machine.proofs.Bounding.{unbounded}
use Rattle.integrity.proofs.Sizes.{start_behind}

pub nothing_beyond : (types : List Kind) (gs : List Global) (k : ℕ) → length gs ≤ k
    → data_in (bounds_of (start_of types gs k) (start_of types gs (k + 1))) (start_of types gs k) ≡ Plain (words types gs)
nothing_beyond types gs k h =
    rw (start_behind types gs k h, start_behind types gs (k + 1) (omega (arith, h)), unbounded (words types gs) (words types gs) (λ l _. absurd (omega (arith, l)))) refl
