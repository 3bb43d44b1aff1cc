use Rattle.parts.specs.Content.{viewed}
use Rattle.writing.proofs.Lists.{lists_placed}
use Rattle.writing.proofs.put_lists.Goals as goal

pub returns : goal.returns
returns c = lists_placed (viewed c.args.lists) c.args.at c.args.out.now _ _ _ _ _ _ c.requires.starts c.requires.fits c.put_list.ensures c.put_list-2.ensures c.put_list-3.ensures c.put_list-4.ensures c.put_list-5.ensures c.put_list-6.ensures
