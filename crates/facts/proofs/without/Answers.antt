use Rattle.facts.proofs.Digits.{one_shl}
use Rattle.facts.proofs.Sets.{word_without}
use Rattle.facts.proofs.without.Goals as goal

pub returns : goal.returns
returns c = λ q. rw (one_shl 64 c.args.p c.requires) (word_without 64 c.args.w c.args.p c.requires c.ranges.w.fits q)
