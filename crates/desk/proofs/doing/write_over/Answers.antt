use Rattle.desk.proofs.Writes.{wrote}
use Rattle.desk.proofs.doing.write_over.Goals as goal

pub returns : goal.returns
returns c = wrote _ _ c.write-answer.new.out c.write-answer.result c.in_ok-wrote_text.field-0 c.write-answer.ensures.answer c.in_ok-wrote_text.ensures
