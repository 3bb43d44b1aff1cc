use Rattle.std.proofs.Common.{length, ap, arith}
use Rattle.std.proofs.lemmas.List.{length-take}
use Rattle.parts.specs.Content.{Content}
use Rattle.sensitivity.proofs.sensitive_types.Goals as goal

pub marks_of-requires : goal.marks_of-requires
marks_of-requires c =
    omega (arith, ap (λ (v : Content). length v.types) c.lists-lists.ensures, length-take c.args.parts.now.header.counts.types c.args.parts.now.types)
