-- What was tidied is read into the caller's records as before, and bench-plan prints of it what it printed before.
-- Assumes nothing.
use mathlib.Core.Path.{◌≡◌, sym, ap, ◌∙◌, subst}
use mathlib.Core.List.{List}
use Prim.Native.Nat.{ℕ}
use lib.ListN.{length, take}
use Rattle.tables.specs.declared.Action.{Action}
use Rattle.tables.specs.declared.Answer.{Answer}
use Rattle.tables.specs.Tables.{job_at, filled}
use Rattle.jobfile.specs.declared.Read.{Read}
use Rattle.jobfile.specs.Calls.{reading}
use Rattle.jobfile.specs.Tidy.{Tidies}
use Rattle.jobfile.proofs.Tidy.{read_as_before}
use Rattle.page.specs.Page.{said, Shows, Prints, Pages}
use Rattle.nuzzlefleece.specs.declared.ReadAnswer.{ReadAnswer}
use Rattle.nuzzlefleece.specs.Files.{told, Reads}

module _ (used : ℕ) (buf buf' : List ℕ) (r : Answer) (x : Tidies used buf buf' r) (z : r.number ≡ 0) where
  abbrev before : List ℕ
  before = take used buf

  abbrev after : List ℕ
  after = take r.value buf'

  pub same_read : (old new : List Action) (a : ReadAnswer) → Reads before old new a → Reads after old new a
  same_read old new a y =
      let e : reading before (length old) ≡ reading after (length old) = sym (read_as_before used buf buf' r x z (length old)) in
      record { says = y.says ∙ ap told e; records = y.records ∙ ap (λ (d : Read). filled (job_at d.table) d.ask.jobs old) e }

  pub same_page : (old new : List ℕ) (a : Answer) → Pages before old new a → Pages after old new a
  same_page old new a y = record { text = y.text; prints = λ m. prints (y.prints m); says = y.says; bytes = y.bytes }
    where
      e : reading before 255 ≡ reading after 255
      e = sym (read_as_before used buf buf' r x z 255)

      prints : Prints before y.text → Prints after y.text
      prints p = record {
        of = p.of;
        shows = subst (λ (d : Read). d.answer.number ≡ 0 → Shows d.table d.ask p.of) e p.shows;
        prints = p.prints ∙ ap (λ (d : Read). said d.answer p.of) e;
      }
