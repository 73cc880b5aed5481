-- `nuzzlefleece_batches` meets its contract: what the batches expand to fits the lent records. Assumes nothing.
use mathlib.Core.Path.{sym, ap, subst, ◌∙◌}
use Prim.Native.Nat.{ℕ}
use lib.ListN.{length}
use Rattle.tables.specs.Tables.{job_at, filled}
use Rattle.tables.proofs.Lent.{filled_none}
use Rattle.batches.specs.declared.BatchAnswer.{BatchAnswer}
use Rattle.batches.specs.Batches.{Expands}
use Rattle.batches.specs.Steps.{batched}
use Rattle.batches.proofs.Only.{expands_fit}
use Rattle.nuzzlefleece.proofs.nuzzlefleece_batches.Goals as goal

-- a table without jobs fills no record
pub returns-then-r-eq0 : goal.returns-then-r-eq0
returns-then-r-eq0 c =
    let r = c.expand-r in
    let job = job_at r.result.table in
    record {
      job = job;
      expands = subst (Expands c.args.groups.now (length c.args.t.now) job) (sym c.into.ensures) r.ensures;
      records = filled_none job c.args.t.now ∙ ap (λ (k : ℕ). filled job k c.args.t.now) (sym (ap (λ (b : BatchAnswer). b.jobs) c.into.ensures ∙ c.if-r-eq0.true));
    }

pub scatter-requires : goal.scatter-requires
scatter-requires c = expands_fit c.args.groups.now (length c.args.t.now) (job_at c.expand-r.result.table) (batched c.expand-r.result) c.expand-r.ensures

pub returns : goal.returns
returns c =
    let r = c.expand-r in
    record {
      job = job_at r.result.table;
      expands = subst (Expands c.args.groups.now (length c.args.t.now) (job_at r.result.table)) (sym c.into-2.ensures) r.ensures;
      records = c.scatter.ensures ∙ ap (λ (b : BatchAnswer). filled (job_at r.result.table) b.jobs c.args.t.now) (sym c.into-2.ensures);
    }
