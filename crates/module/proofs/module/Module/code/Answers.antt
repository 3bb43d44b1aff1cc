use Rattle.std.proofs.Common.{refl, ap, ◌∙◌}
use Rattle.std.specs.List.{slice_get}
use Rattle.parts.specs.Content.{viewed}
use Rattle.module.specs.Modules.{said}
use Rattle.module.proofs.Functions.{code_fits, these_instructions}
use Rattle.module.proofs.module.Module.code.Goals as goal

pub code_of-requires : goal.code_of-requires
code_of-requires c = code_fits c.args.self.now (viewed c.lists-lists.result) c.args.k _ _ c.lists-lists.ensures c.in-Some.ensures refl

pub returns-in-Some-clause-instructions : goal.returns-in-Some-clause-instructions
returns-in-Some-clause-instructions c = λ place. ap (λ l. slice_get l place) c.code_of.ensures ∙ these_instructions (said c.args.self.now) (viewed c.lists-lists.result) c.args.k c.lists-lists.ensures place c.in-Some.function _ c.in-Some.ensures refl
