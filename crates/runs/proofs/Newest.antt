-- The frames that stand, as the newest changes.
use Rattle.std.specs.Prelude.{◌≡◌, ℕ, ◌+◌, ◌<◌, List, [], ◌∷◌, length, drop, refl}
use Rattle.std.proofs.Common.{arith}
use Rattle.std.proofs.lemmas.Bool.{lt-ltb}
use Rattle.module.specs.declared.module.Module.{Module}
use Rattle.machine.specs.declared.frame.Frame.{Frame}
use Rattle.machine.specs.declared.value.Value.{Value}
use Rattle.machine.specs.Frames.{entered}
use Rattle.machine.specs.Machine.{at_place, given}
use Rattle.machine.specs.inside.Parts.{behind, kept}
use Rattle.stack.specs.Stack.{newest, with_newest, with_local, entering}
use Rattle.runs.specs.inside.Making.{placed}

-- it goes on at a place
pub placed_on : (fs : List Frame) (p to : ℕ) → 0 < length fs → placed to fs ≡ at_place (at_place (newest fs) p) to ∷ drop 1 fs
placed_on [] p to h = absurd (omega (arith, h))
placed_on (f ∷ rest) p to h = refl

-- a local takes a value, and it goes on
pub given_on : (m : Module) (fs : List Frame) (p x : ℕ) (v : Value) → 0 < length fs
    → placed (p + 1) (with_newest (with_local x (kept m (newest fs) x v)) fs) ≡ given m (at_place (newest fs) p) x v ∷ drop 1 fs
given_on m [] p x v h = absurd (omega (arith, h))
given_on m (f ∷ rest) p x v h = refl

-- a function is entered on it, where fewer than 16 stand
pub entered_on : (fs : List Frame) (p g : ℕ) → 0 < length fs → length fs < 16
    → placed 0 (entering g (placed (p + 1) fs)) ≡ entered g ∷ behind (at_place (newest fs) p) ∷ drop 1 fs
entered_on [] p g h few = absurd (omega (arith, h))
entered_on (f ∷ rest) p g h few = rw (lt-ltb (length (f ∷ rest)) 16 few) refl

-- at its own place it is as it was
pub placed_there : (fs : List Frame) → placed (newest fs).place fs ≡ fs
placed_there [] = refl
placed_there (f ∷ rest) = refl
