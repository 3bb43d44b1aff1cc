use Rattle.std.proofs.Common.{take}
use Rattle.exports.specs.Orders.{Orders}
use Rattle.exports.proofs.obeying.obey_on.Given as goal

abbrev pub invariant-loop-word : goal.invariant-loop-word
invariant-loop-word g l = Orders g.S.Store.entry g.S.Store.taken l.initial.store (take l.word-index l.orders) l.sum l.store
