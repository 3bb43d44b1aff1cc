use Rattle.std.proofs.Common.{◌∙◌, length, ap, arith}
use Rattle.std.proofs.lemmas.List.{length-drop}
use Rattle.records.specs.Rows.{rows}
use Rattle.records.proofs.Chunks.{rows_taken}
use Rattle.parts.proofs.reading.rows_at.Goals as goal

pub returns : goal.returns
returns g c =
    let d = c.after.ensures in
    rows_taken g.row.N c.args.count c.after.result.now c.words_of.result.now c.as_chunks.result.0.now c.requires.some (omega (arith, c.requires.there, ap length d, length-drop c.args.at c.args.image.now)) c.words_of.ensures.front c.words_of.ensures.long c.as_chunks.ensures.front
    ∙ ap (rows g.row.N c.args.count) d
