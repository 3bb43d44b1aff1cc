use Rattle.std.proofs.Common.{◌∙◌, ap, unwrap_or, arith}
use Rattle.std.proofs.lemmas.List.{length-set}
use Rattle.records.specs.Rows.{words_in}
use Rattle.records.proofs.Chunks.{read_more}
use Rattle.parts.proofs.reading.fill.Goals as goal

pub loop-k-preserved : goal.loop-k-preserved
loop-k-preserved g c =
    let i = c.loop-k.invariant in
    record {
      long = length-set c.loop-k.places c.loop-k.k c.read_or.result ∙ i.long;
      read = read_more g.R.Record.meant c.args.blank c.args.rows.now c.loop-k.k c.index-rows-k.result c.loop-k.places c.read_or.result c.loop-k-test.true (omega (arith, i.long, c.loop-k-test.true, c.requires)) (c.read_or.ensures ∙ ap (λ row. unwrap_or (g.R.Record.meant (words_in row)) c.args.blank) c.index-rows-k.is) i.read;
    }
