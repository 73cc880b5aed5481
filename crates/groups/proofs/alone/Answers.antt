use Rattle.std.proofs.Common.{rules}
use Rattle.groups.specs.OneOf.{OneIn}
use Rattle.facts.proofs.Arrays.{made}
use Rattle.groups.proofs.Laws.{chosen_alone}
use Rattle.groups.proofs.alone.Goals as goal

pub returns : goal.returns
returns c P j l = let s = c.args.s.now in made _ _ _ 24 (λ i x. OneIn P s x) (λ i y q m k. (chosen_alone P s i (search rules), search rules)) c.from_fn.ensures.items j 0 l
