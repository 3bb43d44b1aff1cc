use Rattle.std.proofs.Common.{sym, refl, vec_items}
use Rattle.array_store.proofs.Writes.{write_here, write_kept, written}
use Rattle.array_store.proofs.ArrayStore.write.Goals as goal

pub returns-then-takes-clause-made : goal.returns-then-takes-clause-made
returns-then-takes-clause-made g c = λ made. write_here (vec_items c.args.self.now.slots) c.args.a c.args.slot (sym c.if-takes.ensures)

pub returns-then-takes-clause-written : goal.returns-then-takes-clause-written
returns-then-takes-clause-written g c = written _ _ c.args.a c.args.slot (sym c.if-takes.ensures) refl

pub returns-then-takes-clause-kept : goal.returns-then-takes-clause-kept
returns-then-takes-clause-kept g c = write_kept (vec_items c.args.self.now.slots) c.args.a c.args.slot (sym c.if-takes.ensures)
