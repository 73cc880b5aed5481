use Rattle.plantext_write.proofs.Laws.{name_part}
use Rattle.plantext_write.proofs.put_name.Goals as goal

pub put_word-requires : goal.put_word-requires
put_word-requires c = let a = c.args in rw (name_part a.names.now a.j c.name_size.ensures.0) c.requires.2

pub returns : goal.returns
returns c = let a = c.args in rw (name_part a.names.now a.j c.name_size.ensures.0) at c.put_word.ensures
