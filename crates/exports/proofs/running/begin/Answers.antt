use Rattle.std.proofs.Common.{◌∙◌}
use mathlib.Core.Logic.{inl, inr}
use Rattle.exports.proofs.running.begin.Goals as goal

pub returns-in_ok-array-in-0 : goal.returns-in_ok-array-in-0
returns-in_ok-array-in-0 c = (c.in_ok-module.«module», c.in_ok-module.ensures, inl (c.in-0.is, c.in_ok-array-in-0.field-0, c.in_ok-array-in-0.ensures, c.begin_on.ensures))

pub returns-in_ok-hash-in-1 : goal.returns-in_ok-hash-in-1
returns-in_ok-hash-in-1 c = (c.in_ok-module.«module», c.in_ok-module.ensures, inr (inl (c.in-1.is, c.in_ok-hash-in-1.field-0, c.in_ok-hash-in-1.ensures, c.begin_on-in-1.ensures)))

pub returns-in_ok-window-in-2 : goal.returns-in_ok-window-in-2
returns-in_ok-window-in-2 c =
    let made = c.in_ok-window-in-2.ensures in
    (c.in_ok-module.«module», c.in_ok-module.ensures, inr (inr (c.in-2.is, c.in_ok-window-in-2.field-0, made.0, made.1 ∙ c.memory.ensures, made.2, c.begin_on-in-2.ensures)))
