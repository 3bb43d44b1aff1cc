use Rattle.std.proofs.Common.{◌+◌, ◌*◌, ◌≤◌, length, sym, ap, ◌∙◌, arith}
use Rattle.std.specs.List.{flat_map}
use Rattle.std.proofs.lemmas.List.{take_all}
use Rattle.records.specs.Words.{spell}
use Rattle.writing.specs.inside.Putting.{placed}
use Rattle.writing.proofs.Placing.{bytes, placed_none, piece_more, spelt_joined, length_spell, place_first, place_next, place_last}
use Rattle.writing.proofs.putting.put_list.Goals as goal

pub loop-record-init : goal.loop-record-init
loop-record-init g c = record {
  next = place_first g.row.N c.args.start;
  put = sym (placed_none c.args.out.now c.args.start);
}

pub loop-record-preserved : goal.loop-record-preserved
loop-record-preserved g c =
    let n = g.row.N in
    let l = c.loop-record in
    let f = g.R.Record.spelt in
    let fits : c.args.start + 4 * n * length c.args.records.now ≤ length c.args.out.now = omega (arith, place_last n (length c.args.records.now) c.args.start, c.requires) in
    record {
      next = place_next n l.record-index c.args.start l.at l.invariant.next;
      put = c.put_words.ensures ∙ ap (λ ws. placed l.out l.at (spell ws)) c.write.ensures ∙ piece_more (bytes f) (4 * n) (λ x. length_spell (f x) ∙ ap (λ m. 4 * m) (g.met.R.Record.long x)) c.args.records.now l.record-index c.args.start l.at c.record-item.result _ c.args.out.now l.out fits c.loop-record-test.true c.record-item.is l.invariant.next l.invariant.put;
    }

pub returns : goal.returns
returns g c =
    let f = g.R.Record.spelt in
    c.loop-record.invariant.put ∙ ap (λ xs. placed c.args.out.now c.args.start (flat_map (bytes f) xs)) (take_all _ _ c.loop-record-test.false) ∙ ap (placed c.args.out.now c.args.start) (spelt_joined f c.args.records.now)
