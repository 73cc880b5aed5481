use mathlib.Core.Bool.{Bool, not, ◌&&◌}
use mathlib.Core.Path.{refl, ap, ◌∙◌}
use native.Mathlib.Omega.{arith}
use lib.ListN.{length-set}
use Rattle.facts.proofs.Sets.{has_and}
use Rattle.facts.specs.Facts.{has}
use Rattle.facts.specs.Words.{Word}
use Rattle.facts.proofs.Lists.{set_more}
use Rattle.rules.specs.Pairs.{is_job}
use Rattle.rules.specs.Plans.{starts}
use Rattle.rules.specs.Supports.{named}
use Rattle.tables.specs.Tables.{problem}
use Rattle.named.proofs.Rows.{left_first, left_more, taken}
use Rattle.named.specs.Named.{consumer_of}
use Rattle.named.proofs.named_row.Goals as goal

pub loop-a-init : goal.loop-a-init
loop-a-init c = (refl, left_first (problem c.args.l c.args.q) (starts c.args.s.now) (consumer_of c.args.c) c.args.want _ (λ p. c.less-left.ensures p ∙ ap (λ (x : Bool). has c.args.want p && not x) (c.start_fits-start.ensures p)), λ k h. absurd (omega arith))

pub bounds-by-a : goal.bounds-by-a
bounds-by-a c = omega arith

pub loop-a-preserved : goal.loop-a-preserved
loop-a-preserved c = (length-set c.loop-a.by c.loop-a.a _ ∙ c.loop-a.invariant.0, left_more (problem c.args.l c.args.q) (starts c.args.s.now) (consumer_of c.args.c) c.args.want c.loop-a.a c.loop-a.left c.job_fits-fit.result _ c.loop-a.invariant.1 c.job_fits-fit.ensures c.less-left-in-loop-a.ensures, set_more (λ k w. Word (λ p. has c.args.want p && is_job k (named (problem c.args.l c.args.q) (starts c.args.s.now) p (consumer_of c.args.c))) w) c.loop-a.by c.loop-a.a _ 0 (omega arith) c.loop-a.invariant.2 (taken (problem c.args.l c.args.q) (starts c.args.s.now) (consumer_of c.args.c) c.args.want c.loop-a.a c.loop-a.left c.job_fits-fit.result _ (omega arith) c.loop-a.invariant.1 c.job_fits-fit.ensures (has_and c.loop-a.left c.job_fits-fit.result)))

pub returns : goal.returns
returns c = record { start = λ p. has_and c.args.want c.start_fits-start.result p ∙ ap (λ (x : Bool). has c.args.want p && x) (c.start_fits-start.ensures p); by = λ k h. c.loop-a.invariant.2 k (omega arith) }
