use Rattle.outset.proofs.Words.{cols_those, narrow, here, there}
use mathlib.Core.Path.{refl, ◌∙◌}
use Prim.Native.Nat.{◌-◌}
use native.Mathlib.Omega.{arith}
use Rattle.facts.specs.Facts.{has}
use Rattle.rules.specs.Clashes.{interfere}
use Rattle.tables.specs.Tables.{job_at, problem}
use borrow.Author.Rules.{rules}
use Rattle.outset.proofs.entry.Goals as goal

pub returns-then-i-lt24 : goal.returns-then-i-lt24
returns-then-i-lt24 c = here (omega arith) (here (omega arith) refl)

pub returns-then-i-lt25 : goal.returns-then-i-lt25
returns-then-i-lt25 c = here (omega arith) (there (omega arith) (here (omega arith) refl))

pub returns-then-i-lt26 : goal.returns-then-i-lt26
returns-then-i-lt26 c = here (omega arith) (there (omega arith) (there (omega arith) (here (omega arith) refl)))

pub returns-then-i-lt90 : goal.returns-then-i-lt90
returns-then-i-lt90 c = here (omega arith) (there (omega arith) (there (omega arith) (there (omega arith) (here (omega arith) (cols_those c.args.q.now.jobs (λ j. has (job_at c.args.l.now j).additions (c.args.i - 26)) c.min-n.ensures (c.those.ensures.word _ (λ j l b k. search rules)) c.from.ensures)))))

pub returns-then-i-lt154 : goal.returns-then-i-lt154
returns-then-i-lt154 c = here (omega arith) (there (omega arith) (there (omega arith) (there (omega arith) (there (omega arith) (here (omega arith) (cols_those c.args.q.now.jobs (λ j. has (job_at c.args.l.now j).deletions (c.args.i - 90)) c.min-n.ensures (c.those-then-i-lt154.ensures.word _ (λ j l b k. search rules)) c.from-then-i-lt154.ensures))))))

pub returns-then-i-lt178 : goal.returns-then-i-lt178
returns-then-i-lt178 c = here (omega arith) (there (omega arith) (there (omega arith) (there (omega arith) (there (omega arith) (there (omega arith) (here (omega arith) (omega (arith, c.step.ensures.0, c.step.ensures.1, c.gap.ensures))))))))

pub returns-then-i-lt202 : goal.returns-then-i-lt202
returns-then-i-lt202 c = here (omega arith) (there (omega arith) (there (omega arith) (there (omega arith) (there (omega arith) (there (omega arith) (there (omega arith) (here (omega arith) (cols_those c.args.q.now.jobs (interfere (problem c.args.l.now c.args.q.now) (c.args.i - 178)) c.min-n.ensures (c.those-then-i-lt202.ensures.word _ (λ j l b k. search rules)) c.from-then-i-lt202.ensures))))))))

pub returns-then-i-lt226 : goal.returns-then-i-lt226
returns-then-i-lt226 c = here (omega arith) (there (omega arith) (there (omega arith) (there (omega arith) (there (omega arith) (there (omega arith) (there (omega arith) (there (omega arith) (here (omega arith) (narrow c.from-then-i-lt226.ensures (search rules))))))))))

pub returns-then-i-lt227 : goal.returns-then-i-lt227
returns-then-i-lt227 c = here (omega arith) (there (omega arith) (there (omega arith) (there (omega arith) (there (omega arith) (there (omega arith) (there (omega arith) (there (omega arith) (there (omega arith) (here (omega arith) refl)))))))))

pub returns-then-i-lt228 : goal.returns-then-i-lt228
returns-then-i-lt228 c = here (omega arith) (there (omega arith) (there (omega arith) (there (omega arith) (there (omega arith) (there (omega arith) (there (omega arith) (there (omega arith) (there (omega arith) (there (omega arith) (c.from-then-i-lt228.ensures ∙ c.gap-then-i-lt228.ensures))))))))))

pub returns : goal.returns
returns c = there (omega arith) refl
