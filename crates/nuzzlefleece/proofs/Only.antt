-- Two results of one call that meet its promise are equal: the answer and all lent memory, refusals included. Over lent records each is the theorem of the call on numbers, at the table of those records.
-- Assumes nothing.
use mathlib.Core.Path.{◌≡◌, sym, ◌∙◌}
use mathlib.Core.List.{List}
use Prim.Native.Nat.{ℕ}
use Rattle.tables.specs.declared.Loaded.{Loaded}
use Rattle.tables.specs.declared.Ask.{Ask}
use Rattle.tables.specs.declared.Answer.{Answer}
use Rattle.verdict.specs.Offered.{ChecksPlan}
use Rattle.verdict.proofs.Only as verdict
use Rattle.bindings.specs.Bindings.{Supports, Pairs}
use Rattle.bindings.proofs.Only as bindings
use Rattle.following.specs.declared.Watch.{Watch}
use Rattle.following.specs.declared.Screen.{Screen}
use Rattle.following.specs.Screens.{Following}
use Rattle.following.proofs.Only as following
use Rattle.lateness.specs.declared.Overruns.{Overruns}
use Rattle.lateness.specs.Lateness.{HowLate}
use Rattle.lateness.proofs.Only as lateness
use Rattle.batches.specs.declared.BatchAnswer.{BatchAnswer}
use Rattle.batches.specs.Batches.{Batches}
use Rattle.batches.proofs.Only as batches
use Rattle.estimates.specs.Earliest.{Earliest}
use Rattle.estimates.proofs.Only as estimates
use Rattle.settle.specs.Settle.{Settling}
use Rattle.settle.proofs.Only as settle
use Rattle.reasons.specs.declared.Question.{Question}
use Rattle.reasons.specs.declared.Reason.{Reason}
use Rattle.reasons.specs.Reasons.{WhyStart, WhyNoPlan}
use Rattle.reasons.proofs.Only as reasons
use Rattle.planning.specs.Planning.{PlansWithin, BoundsWithin}
use Rattle.planning.proofs.Only as planning
use Rattle.jobfile.specs.Calls.{Writes}
use Rattle.jobfile_write.proofs.Only as jobfile_write
use Rattle.jobfile.specs.Tidy.{Tidies}
use Rattle.jobfile_tidy.proofs.Only as jobfile_tidy
use Rattle.plantext.specs.Reading.{ReadsText}
use Rattle.plantext_read.proofs.Only as plantext_read
use Rattle.plantext.specs.Writing.{WritesText}
use Rattle.plantext_write.proofs.Only as plantext_write
use Rattle.opentable.specs.declared.OpenTable.{OpenTable}
use Rattle.opentable.specs.declared.Wanted.{Wanted}
use Rattle.opentable.specs.declared.Edited.{Edited}
use Rattle.opentable.specs.Open.{jobs_of, ask_of, Leaves}
use Rattle.tables.specs.declared.Action.{Action}
use Rattle.records.specs.Records.{loaded}
use Rattle.nuzzlefleece.specs.declared.ReadAnswer.{ReadAnswer}
use Rattle.nuzzlefleece.specs.declared.Save.{Save}
use Rattle.nuzzlefleece.specs.Files.{Reads}

module _ (ts : List Action) (q : Ask) (r s : Answer) where
  abbrev l : Loaded
  l = loaded ts

  pub check_plan_only : (starts : List ℕ) → ChecksPlan l q starts r → ChecksPlan l q starts s → r ≡ s
  check_plan_only starts = verdict.check_plan_only l q starts r s

  module _ (old new new' : List ℕ) where
    pub supports_only : (starts : List ℕ) → Supports l q starts old new r → Supports l q starts old new' s → ◌≡◌ {A = Answer × List ℕ} (r, new) (s, new')
    supports_only starts = bindings.supports_only l q starts old new new' r s

    pub binding_pairs_only : (starts : List ℕ) → Pairs l q starts old new r → Pairs l q starts old new' s → ◌≡◌ {A = Answer × List ℕ} (r, new) (s, new')
    binding_pairs_only starts = bindings.binding_pairs_only l q starts old new new' r s

    pub settle_only : (pairs : List ℕ) → Settling l q pairs old new r → Settling l q pairs old new' s → (r ≡ s) × (new ≡ new')
    settle_only pairs = settle.settle_only l q pairs old new new' r s

    pub read_text_only : (names text : List ℕ) → ReadsText l q names text old new r → ReadsText l q names text old new' s → (r ≡ s) × (new ≡ new')
    read_text_only names text = plantext_read.read_text_only l q names text old new new' r s

    pub write_text_only : (names starts : List ℕ) → WritesText l q names starts old new r → WritesText l q names starts old new' s → (r ≡ s) × (new ≡ new')
    write_text_only names starts = plantext_write.write_text_only l q names starts old new new' r s

    pub earliest_only : Earliest l q old new r → Earliest l q old new' s → (r ≡ s) × (new ≡ new')
    earliest_only = estimates.earliest_only l q old new new' r s

    pub plan_within_only : PlansWithin l q old new r → PlansWithin l q old new' s → (r ≡ s) × (new ≡ new')
    plan_within_only = planning.plan_within_only l q old new new' r s

    pub least_bound_only : BoundsWithin l q old new r → BoundsWithin l q old new' s → (r ≡ s) × (new ≡ new')
    least_bound_only = planning.least_bound_only l q old new new' r s

-- what the screen is handed is one struct
pub follow_only : (ts : List Action) (w : Watch) (starts : List ℕ) (r s : Screen) → Following (loaded ts) w starts r → Following (loaded ts) w starts s → r ≡ s
follow_only ts w starts r s = following.follow_only (loaded ts) w starts r s

-- what is asked of a plan that runs over is one struct
pub how_late_only : (ts : List Action) (o : Overruns) (starts : List ℕ) (r s : Answer) → HowLate (loaded ts) o starts r → HowLate (loaded ts) o starts s → r ≡ s
how_late_only ts o starts r s = lateness.how_late_only (loaded ts) o starts r s

-- what is asked of a start is one struct, and so is the reason
pub why_start_only : (ts : List Action) (q : Question) (pairs old new new' : List ℕ) (r s : Answer) → WhyStart (loaded ts) q pairs old new r → WhyStart (loaded ts) q pairs old new' s → (r ≡ s) × (new ≡ new')
why_start_only ts q pairs old new new' r s = reasons.why_start_only (loaded ts) q pairs old new new' r s

pub why_no_plan_only : (ts : List Action) (q : Ask) (r s : Reason) → WhyNoPlan (loaded ts) q r → WhyNoPlan (loaded ts) q s → r ≡ s
why_no_plan_only ts q r s = reasons.why_no_plan_only (loaded ts) q r s

-- what is saved is one struct
pub write_file_only : (ts : List Action) (w : Save) (old new new' : List ℕ) (r s : Answer) → Writes (loaded ts) w.ask w.used old new r → Writes (loaded ts) w.ask w.used old new' s → (r ≡ s) × (new ≡ new')
write_file_only ts w old new new' r s = jobfile_write.write_file_only (loaded ts) w.ask w.used old new new' r s

pub tidy_only : (used : ℕ) (old new new' : List ℕ) (r s : Answer) → Tidies used old new r → Tidies used old new' s → (r ≡ s) × (new ≡ new')
tidy_only = jobfile_tidy.tidy_only

-- ── filled records ──

pub read_file_only : (file : List ℕ) (old new new' : List Action) (r s : ReadAnswer) → Reads file old new r → Reads file old new' s → (r ≡ s) × (new ≡ new')
read_file_only file old new new' r s x y = (x.says ∙ sym y.says, x.records ∙ sym y.records)

pub batches_only : (gs : List ℕ) (old new new' : List Action) (r s : BatchAnswer) → Batches gs old new r → Batches gs old new' s → (r ≡ s) × (new ≡ new')
batches_only = batches.batches_only

-- ── open tables ──

-- an edit says and leaves one thing
pub edit_only : (e : Edited) (new new' : OpenTable) (r s : Answer) → Leaves e new r → Leaves e new' s → (r ≡ s) × (new ≡ new')
edit_only e new new' r s x y = (x.answer ∙ sym y.answer, x.table ∙ sym y.table)

module _ (t : OpenTable) (w : Wanted) (old new new' : List ℕ) (r s : Answer) where
  pub plan_open_only : PlansWithin (jobs_of t) (ask_of t w) old new r → PlansWithin (jobs_of t) (ask_of t w) old new' s → (r ≡ s) × (new ≡ new')
  plan_open_only = planning.plan_within_only (jobs_of t) (ask_of t w) old new new' r s

  pub least_bound_open_only : BoundsWithin (jobs_of t) (ask_of t w) old new r → BoundsWithin (jobs_of t) (ask_of t w) old new' s → (r ≡ s) × (new ≡ new')
  least_bound_open_only = planning.least_bound_only (jobs_of t) (ask_of t w) old new new' r s
