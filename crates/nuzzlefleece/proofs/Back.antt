-- Reading what was written gives back what was saved, over the records: job by job the reader's lent records are the writer's.
-- Assumes nothing.
use mathlib.Core.Path.{◌≡◌, ap, ◌∙◌}
use mathlib.Core.List.{List}
use Prim.Native.Nat.{ℕ, ◌≤◌, ◌<◌}
use native.Mathlib.Omega.{arith}
use lib.ListN.{length, take, replicate, length-replicate}
use Rattle.refusals.specs.Refusals.{accepted}
use Rattle.tables.specs.declared.Loaded.{Loaded}
use Rattle.tables.specs.declared.Ask.{Ask}
use Rattle.tables.specs.declared.Answer.{Answer}
use Rattle.tables.specs.Tables.{no_job, record_at, job_at, filled, answer_of}
use Rattle.tables.proofs.Lent.{filled_at, filled_rest}
use Rattle.jobfile.specs.declared.Read.{Read}
use Rattle.jobfile.specs.Calls.{whole as read_whole, reading, Writes}
use Rattle.jobfile.specs.Saved.{saved, kept}
use Rattle.jobfile.proofs.Back.{written_back}
use Rattle.tables.specs.declared.Action.{Action}
use Rattle.records.specs.Records.{loaded}
use Rattle.records.proofs.Lies.{loaded_at}
use Rattle.nuzzlefleece.specs.declared.ReadAnswer.{ReadAnswer}
use Rattle.nuzzlefleece.specs.Files.{told, Reads}
use Rattle.nuzzlefleece.proofs.Fits.{reading_fits}

-- the first n jobs of a table that is kept are its own
kept_at : (l : Loaded) (n room i : ℕ) → i < n → i < 24 → job_at (kept l n room) i ≡ job_at l i
kept_at l n room i h few = filled_at (job_at l) n (replicate 24 no_job) i no_job h (omega (arith, length-replicate {A = Action} 24 no_job))

-- the reader's lent records `new` after a save of the writer's records ts was read into `old`
pub record Restored (ts : List Action) (q : Ask) (old new : List Action) (a : ReadAnswer) : Type 0 where
  pub said : a.answer ≡ answer_of accepted 0 0
  pub numbers : a.ask ≡ saved q
  pub jobs : (i : ℕ) → i < q.jobs → record_at new i ≡ record_at ts i
  pub rest : (i : ℕ) → q.jobs ≤ i → record_at new i ≡ record_at old i

pub restored : (ts : List Action) (q : Ask) (used : ℕ) (buf buf' : List ℕ) (r : Answer) → Writes (loaded ts) q used buf buf' r → r.number ≡ 0
    → (old new : List Action) (a : ReadAnswer) → q.jobs ≤ length old → Reads (take r.value buf') old new a → Restored ts q old new a
restored ts q used buf buf' r w z old new a lent x = record {
  said = ap (λ (b : ReadAnswer). b.answer) says;
  numbers = ap (λ (b : ReadAnswer). b.ask) says;
  jobs = λ i h. ap (λ (us : List Action). record_at us i) records ∙ (filled_at (job_at table) q.jobs old i no_job h (omega (arith, lent)) ∙ (kept_at (loaded ts) q.jobs (length old) i h (omega (arith, few)) ∙ loaded_at ts i (omega (arith, few))));
  rest = λ i h. ap (λ (us : List Action). record_at us i) records ∙ filled_rest (job_at table) q.jobs old i no_job h;
}
  where
    file : List ℕ
    file = take r.value buf'

    table : Loaded
    table = kept (loaded ts) q.jobs (length old)

    back : reading file (length old) ≡ read_whole (answer_of accepted 0 0) (saved q) table
    back = written_back (loaded ts) q used buf buf' r w z (length old) lent

    few : q.jobs ≤ 24
    few = let h : (reading file (length old)).ask.jobs ≡ q.jobs = ap (λ (y : Read). y.ask.jobs) back in omega (arith, h, (reading_fits file (length old)).0)

    says : a ≡ told (read_whole (answer_of accepted 0 0) (saved q) table)
    says = x.says ∙ ap told back

    records : new ≡ filled (job_at table) q.jobs old
    records = x.records ∙ ap (λ (y : Read). filled (job_at y.table) y.ask.jobs old) back
