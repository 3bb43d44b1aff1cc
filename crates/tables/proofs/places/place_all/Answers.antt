use Rattle.std.proofs.Common.{◌≡◌, ◌+◌, take, ◌∙◌, arith}
use Rattle.std.proofs.lemmas.List.{length-set}
use Rattle.parts.specs.Content.{kinds, globals}
use Rattle.tables.specs.Tables.{words}
use Rattle.tables.proofs.Words.{words_next, words_front, placed_more}
use Rattle.tables.proofs.places.place_all.Goals as goal

pub loop-k-preserved : goal.loop-k-preserved
loop-k-preserved c =
    let gs = globals c.args.rows.now in
    let ts = kinds c.args.types.now in
    let k = c.loop-k.k in
    let i = c.loop-k.invariant in
    let more : c.loop-k.heap + c.global_words.result ≡ words ts (take (k + 1) gs) = omega (arith, words_next ts c.args.rows.now k _ c.read_or.result c.loop-k-test.true c.read_or.ensures, i.next, c.global_words.ensures.value) in
    record {
      next = more;
      within = omega arith;
      long = length-set c.loop-k.spans k _ ∙ i.long;
      placed = placed_more ts gs c.loop-k.spans k _ _ i.placed i.next more (omega (arith, i.long));
    }

pub returns-then-high-limit : goal.returns-then-high-limit
returns-then-high-limit c =
    let gs = globals c.args.rows.now in
    let ts = kinds c.args.types.now in
    let k = c.loop-k.k in
    omega (arith, words_next ts c.args.rows.now k _ c.read_or.result c.loop-k-test.true c.read_or.ensures, c.loop-k.invariant.next, c.global_words.ensures.value, words_front ts gs (k + 1))
