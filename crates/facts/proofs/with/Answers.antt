use Rattle.facts.proofs.Digits.{one_shl}
use Rattle.facts.proofs.Sets.{word_with}
use Rattle.facts.proofs.with.Goals as goal

pub returns : goal.returns
returns c = λ q. rw (one_shl 64 c.args.p c.requires) (word_with c.args.w c.args.p q)
