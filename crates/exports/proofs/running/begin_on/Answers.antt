use Rattle.exports.proofs.running.begin_on.Goals as goal

pub returns : goal.returns
returns g c =
    let is = c.begin.ensures in
    (c.begin.result, (λ memory. record { state = is.state memory; clear = is.cleared.gone }), is.kept, c.depth.ensures)
