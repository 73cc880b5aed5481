-- Two results that meet the promise are equal.
-- Assumes nothing.
use mathlib.Core.Path.{◌≡◌, sym, ap, ap₂, ◌∙◌}
use mathlib.Core.List.{List}
use Prim.Native.Nat.{ℕ, ◌<◌}
use native.Mathlib.Decide.{ℕ_discrete, dec_lt}
use native.Mathlib.Omega.{arith}
use lib.Dec.{ltb, lt→ltb}
use lib.ListN.{length, replicate}
use Rattle.refusals.specs.Refusals.{Verdict, accepted, refused}
use Rattle.rules.specs.Plans.{starts}
use Rattle.refusals.proofs.Refused.{if_hit}
use Rattle.tables.specs.declared.Loaded.{Loaded}
use Rattle.tables.specs.declared.Ask.{Ask}
use Rattle.tables.specs.declared.Answer.{Answer}
use Rattle.tables.specs.Tables.{problem, answer_of, changed}
use Rattle.planning.proofs.Only.{least_bound_only}
use Rattle.bytes_le.specs.Little.{at_front}
use Rattle.jobfile.specs.Calls.{reading}
use Rattle.page.specs.Page.{plan_text, said, Shows, Prints, room_check, Pages}
use Rattle.page.proofs.Pages.{said_any}

shows_only : (l : Loaded) (q : Ask) (t u : List ℕ) → Shows l q t → Shows l q u → t ≡ u
shows_only l q t u x y =
    let o = least_bound_only l q (replicate 24 65535) x.ys y.ys x.a y.a x.bounds y.bounds in
    x.shows ∙ ap₂ (λ (a : Answer) (s : List ℕ). said a (plan_text (problem l q) a.value (starts s))) o.0 o.1 ∙ sym y.shows

prints_only : (file t u : List ℕ) → Prints file t → Prints file u → t ≡ u
prints_only file t u x y = go (ℕ_discrete (reading file 255).answer.number 0)
  where
    go : Dec ((reading file 255).answer.number ≡ 0) → t ≡ u
    go (yes z) = x.prints ∙ ap (said (reading file 255).answer) (shows_only (reading file 255).table (reading file 255).ask x.of y.of (x.shows z) (y.shows z)) ∙ sym y.prints
    go (no n) = x.prints ∙ said_any (reading file 255).answer x.of y.of n ∙ sym y.prints

pub page_only : (file old new new' : List ℕ) (r r' : Answer) → Pages file old new r → Pages file old new' r' → (r ≡ r') × (new ≡ new')
page_only file old new new' r r' x y = go (dec_lt (length old) 8192)
  where
    go : Dec (length old < 8192) → (r ≡ r') × (new ≡ new')
    go (yes l) =
        let v : room_check (length old) ≡ refused 3 0 = if_hit (ltb (length old) 8192) 3 0 accepted (lt→ltb (length old) 8192 l) in (
          x.says ∙ ap (λ (w : Verdict). answer_of w (length x.text) 0) v ∙ sym (y.says ∙ ap (λ (w : Verdict). answer_of w (length y.text) 0) v),
          x.bytes ∙ ap (λ (w : Verdict). changed w (at_front x.text old) old) v ∙ sym (y.bytes ∙ ap (λ (w : Verdict). changed w (at_front y.text old) old) v),
        )
    go (no n) =
        let e = prints_only file x.text y.text (x.prints (omega arith)) (y.prints (omega arith)) in (
          x.says ∙ ap (λ (t : List ℕ). answer_of (room_check (length old)) (length t) 0) e ∙ sym y.says,
          x.bytes ∙ ap (λ (t : List ℕ). changed (room_check (length old)) (at_front t old) old) e ∙ sym y.bytes,
        )
