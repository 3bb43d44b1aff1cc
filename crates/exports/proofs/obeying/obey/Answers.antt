use mathlib.Core.Logic.{inl, inr}
use Rattle.exports.proofs.obeying.obey.Goals as goal

pub returns-in_ok-array-in-0 : goal.returns-in_ok-array-in-0
returns-in_ok-array-in-0 c = inl (c.in-0.is, c.in_ok-array-in-0.field-0, c.in_ok-array-in-0.ensures, c.obey_on.ensures)

pub returns-in_ok-hash-in-1 : goal.returns-in_ok-hash-in-1
returns-in_ok-hash-in-1 c = inr (inl (c.in-1.is, c.in_ok-hash-in-1.field-0, c.in_ok-hash-in-1.ensures, c.obey_on-in-1.ensures))

pub returns-in_ok-window-in-2 : goal.returns-in_ok-window-in-2
returns-in_ok-window-in-2 c = let made = c.in_ok-window-in-2.ensures in inr (inr (c.in-2.is, c.in_ok-window-in-2.field-0, made.0, made.1, made.2, c.obey_on-in-2.ensures))
