-- The tests of a support, as the code makes them on a table.
-- Assumes nothing.
use mathlib.Core.Path.{◌≡◌, sym, ap, ◌∙◌}
use mathlib.Core.Bool.{Bool, true, false, not, ◌&&◌}
use mathlib.Core.List.{List}
use Prim.Native.Nat.{ℕ, ◌+◌}
use lib.Dec.{eqb, leb, ltb}
use lib.ListN.{get_or}
use Rattle.facts.specs.Facts.{has}
use Rattle.facts.specs.Words.{Word}
use Rattle.facts.specs.Least.{any}
use Rattle.rules.specs.Plans.{starts, in_plan}
use Rattle.rules.specs.Supports.{blocks, start_fits, job_fits}
use Rattle.tables.specs.declared.Loaded.{Loaded}
use Rattle.tables.specs.declared.Ask.{Ask}
use Rattle.tables.specs.Tables.{job_at, problem}
use Rattle.verdict.specs.Steps.{start_in}
use Rattle.named.specs.declared.Holder.{Holder}
use Rattle.named.specs.Named.{consumer_of}
use Rattle.named.proofs.Tests.{way, fit_yes, fit_no, no_fact}

module _ (l : Loaded) (q : Ask) (s : List ℕ) (c : Holder) where
  -- job d blocks the facts that it deletes
  pub blocks_of : (p lag from d : ℕ) {y : Bool} → y ≡ (start_in (get_or s d 0) && (ltb from (get_or s d 0 + (job_at l d).duration + lag) && ltb (get_or s d 0) (c.till + c.lag)))
      → (has (job_at l d).deletions p && (y && not (eqb d c.me))) ≡ blocks (problem l q) (starts s) p (consumer_of c) lag from d
  unfolding blocks in_plan
  blocks_of p lag from d e =
      ap (λ (x : Bool). has (job_at l d).deletions p && (x && not (eqb d c.me))) e
      ∙ way (start_in (get_or s d 0)) (has (job_at l d).deletions p) (not (eqb d c.me)) (ltb from (get_or s d 0 + (job_at l d).duration + lag)) (ltb (get_or s d 0) (c.till + c.lag))

  -- Start supports the opening facts that no job blocks
  pub start_of : (w v : ℕ) → Word (λ p. any (blocks (problem l q) (starts s) p (consumer_of c) 0 0) q.jobs) w → Word (λ p. has q.opening p && not (has w p)) v
      → Word (λ p. start_fits (problem l q) (starts s) p (consumer_of c)) v
  unfolding start_fits
  start_of w v g h p = h p ∙ ap (λ (x : Bool). has q.opening p && not x) (g p)

  -- job a supports what it adds and no job blocks, if it is over in time
  pub job_of : (a w v : ℕ) {g : ℕ} {y : Bool} → y ≡ (start_in (get_or s a 0) && leb (get_or s a 0 + (job_at l a).duration + c.lag) c.at) → y ≡ true → g ≡ (problem l q).gap
      → Word (λ p. any (blocks (problem l q) (starts s) p (consumer_of c) g (get_or s a 0)) q.jobs) w → Word (λ p. has (job_at l a).additions p && not (has w p)) v
      → Word (λ p. job_fits (problem l q) (starts s) p (consumer_of c) a) v
  unfolding job_fits in_plan
  job_of a w v e t z g h p =
      h p ∙ ap (λ (x : Bool). has (job_at l a).additions p && not x) (g p ∙ ap (λ (lag : ℕ). any (blocks (problem l q) (starts s) p (consumer_of c) lag (get_or s a 0)) q.jobs) z)
      ∙ fit_yes (start_in (get_or s a 0)) (has (job_at l a).additions p) (leb (get_or s a 0 + (job_at l a).duration + c.lag) c.at) _ (sym e ∙ t)

  pub job_none : (a : ℕ) {y : Bool} → y ≡ (start_in (get_or s a 0) && leb (get_or s a 0 + (job_at l a).duration + c.lag) c.at) → y ≡ false
      → Word (λ p. job_fits (problem l q) (starts s) p (consumer_of c) a) 0
  unfolding job_fits in_plan
  job_none a e t p =
      no_fact p
      ∙ fit_no (start_in (get_or s a 0)) (has (job_at l a).additions p) (leb (get_or s a 0 + (job_at l a).duration + c.lag) c.at) _ (sym e ∙ t)
