-- `nuzzlefleece_read_file` meets its contract: what was read fits the lent records. Assumes nothing.
use mathlib.Core.Path.{sym, ap, subst, ◌∙◌}
use Prim.Native.Nat.{ℕ, ◌≤◌}
use lib.ListN.{length}
use Rattle.tables.specs.Tables.{job_at, filled}
use Rattle.tables.proofs.Lent.{filled_none}
use Rattle.jobfile.specs.declared.Read.{Read}
use Rattle.nuzzlefleece.specs.Files.{told}
use Rattle.nuzzlefleece.proofs.Fits.{reading_fits}
use Rattle.nuzzlefleece.proofs.nuzzlefleece_read_file.Goals as goal

-- a table without jobs fills no record
pub returns-then-r-eq0 : goal.returns-then-r-eq0
returns-then-r-eq0 c =
    let r = c.read_file-r in
    let e = r.ensures in
    let job = job_at r.result.table in
    record {
      says = c.into.ensures ∙ ap told e;
      records = filled_none job c.args.t.now ∙ ap (λ (k : ℕ). filled job k c.args.t.now) (sym c.if-r-eq0.true) ∙ ap (λ (r : Read). filled (job_at r.table) r.ask.jobs c.args.t.now) e;
    }

pub scatter-requires : goal.scatter-requires
scatter-requires c = subst (λ (r : Read). (r.ask.jobs ≤ 24) × (r.ask.jobs ≤ length c.args.t.now)) (sym c.read_file-r.ensures) (reading_fits c.args.file.now (length c.args.t.now))

pub returns : goal.returns
returns c =
    let e = c.read_file-r.ensures in
    record {
      says = c.into-2.ensures ∙ ap told e;
      records = c.scatter.ensures ∙ ap (λ (r : Read). filled (job_at r.table) r.ask.jobs c.args.t.now) e;
    }
