-- What is printed of a plan, of a table and of a file.
-- Assumes nothing.
use mathlib.Core.Path.{◌≡◌, refl, sym, ap, ap₂, ◌∙◌, subst}
use mathlib.Core.List.{List, [], ◌++◌}
use Prim.Native.Nat.{ℕ, zero, suc, ◌+◌, ◌*◌, ◌/◌, ◌≤◌, ◌<◌}
use native.Mathlib.Omega.{arith}
use borrow.Author.Tests.{eq-eqb, ne_eqb}
use lib.Dec.{ltb, ltb→lt, lt→ltb}
use lib.ListN.{length, get_or, replicate}
use Rattle.facts.proofs.Bools.{at_most}
use Rattle.refusals.specs.Refusals.{Verdict, accepted, refused}
use Rattle.rules.specs.Premises.{InOrder}
use Rattle.rules.specs.Plans.{starts}
use Rattle.rules.specs.Pairs.{joined}
use Rattle.refusals.proofs.Refused.{if_hit, if_pass}
use Rattle.tables.specs.declared.Loaded.{Loaded}
use Rattle.tables.specs.declared.Ask.{Ask}
use Rattle.tables.specs.declared.Answer.{Answer}
use Rattle.tables.specs.Tables.{problem, answer_of, changed, written}
use Rattle.tables.proofs.Lent.{filled_at}
use Rattle.tables.proofs.Calls.{cleared}
use Rattle.verdict.specs.Steps.{Given}
use Rattle.planning.specs.Planning.{BoundsWithin}
use Rattle.planning.proofs.Found.{bound_found}
use Rattle.bytes_le.specs.Little.{at_front}
use Rattle.jobfile.specs.Calls.{reading}
use Rattle.lines.specs.Lines.{refused_line, pair_line}
use Rattle.lines.specs.Lays.{Lays, LaysSome}
use Rattle.page.specs.Page.{pair_lines, plan_text, said, Shows, Prints, room_check, Pages}

-- ── pairs ──

in_order_same : (f g : ℕ → List ℕ) (n : ℕ) → ((i : ℕ) → i < n → f i ≡ g i) → joined f n ≡ joined g n
unfolding joined
in_order_same f g zero h = refl
in_order_same f g (suc k) h = ap₂ (λ (x y : List ℕ). x ++ y) (in_order_same f g k (λ i l. h i (omega arith))) (h k (omega arith))

-- the lines of the pairs written are the lines of the pairs
pub written_lines : (bytes old : List ℕ) → length bytes ≤ length old → pair_lines (written bytes old) (length bytes / 2) ≡ pair_lines bytes (length bytes / 2)
written_lines bytes old m = in_order_same _ _ (length bytes / 2) (λ i l. ap₂ pair_line (at (2 * i) (omega arith)) (at (2 * i + 1) (omega arith)))
  where
    at : (i : ℕ) → i < length bytes → get_or (written bytes old) i 0 ≡ get_or bytes i 0
    at i l = filled_at (λ j. get_or bytes j 0) (length bytes) old i 0 l (omega arith)

-- the lines of a list of pairs that stands in lent bytes
pub plan_pairs : (ps old : List ℕ) {bytes : List ℕ} {n at r : ℕ} {xs ys : List ℕ} → n ≡ 0 + length ps → bytes ≡ written ps old → length ps ≤ length old
    → Lays (19 * (n / 2)) (pair_lines bytes (n / 2)) at xs ys r → Lays (19 * (length ps / 2)) (pair_lines ps (length ps / 2)) at xs ys r
plan_pairs ps old {bytes} {n} {at} {r} {xs} {ys} e w l y =
    subst (λ (t : List ℕ). Lays (19 * (length ps / 2)) t at xs ys r) (ap (λ (b : List ℕ). pair_lines b (length ps / 2)) w ∙ written_lines ps old l)
    (subst (λ (k : ℕ). Lays (19 * (k / 2)) (pair_lines bytes (k / 2)) at xs ys r) (e ∙ omega arith) y)

-- ── a table ──

-- where the least bound is given, the table is in order and the starts are enough
pub ready : (l : Loaded) (q : Ask) (old new : List ℕ) (r : Answer) → length new ≡ length old → BoundsWithin l q old new r → r.number ≡ 0 → Given q new × InOrder (problem l q)
ready l q old new r n b z =
    let c = cleared (ltb (length old) q.jobs) q.bound l q (bound_found l q old new r b z).checks in
    ((c.few, omega (arith, n, at_most (length old) q.jobs c.room)), c.order)

said_no : (a : Answer) (text : List ℕ) → (a.number ≡ 0 → ⊥) → refused_line a.number a.place ≡ said a text
said_no a text n = simp (ne_eqb _ _ n)

-- a refusal prints the same whatever would be printed on success
pub said_any : (a : Answer) (t u : List ℕ) → (a.number ≡ 0 → ⊥) → said a t ≡ said a u
said_any a t u n = sym (said_no a t n) ∙ said_no a u n

said_yes : (a : Answer) (text : List ℕ) → a.number ≡ 0 → text ≡ said a text
said_yes a text z = simp (eq-eqb _ _ z)

module _ (l : Loaded) (q : Ask) (a : Answer) (ys : List ℕ) (b : BoundsWithin l q (replicate 24 65535) ys a) where
  pub shows_no : (a.number ≡ 0 → ⊥) → Shows l q (refused_line a.number a.place)
  shows_no n = record { a = a; ys = ys; bounds = b; shows = said_no a _ n }

  pub shows_plan : a.number ≡ 0 → Shows l q (plan_text (problem l q) a.value (starts ys))
  shows_plan z = record { a = a; ys = ys; bounds = b; shows = said_yes a _ z }

-- ── a file ──

module _ (file old : List ℕ) where
  -- the buffer is too short
  pub pages_short : {r : Answer} → length old < 8192 → r ≡ answer_of (refused 3 0) 0 0 → Pages file old old r
  pages_short {r} l e =
      let v : room_check (length old) ≡ refused 3 0 = if_hit (ltb (length old) 8192) 3 0 accepted (lt→ltb (length old) 8192 l) in
      record { text = []; prints = λ m. absurd (omega arith); says = e ∙ ap (λ (x : Verdict). answer_of x 0 0) (sym v); bytes = ap (λ (x : Verdict). changed x old old) (sym v) }

  long : 8192 ≤ length old → room_check (length old) ≡ accepted
  long m = if_pass (ltb (length old) 8192) 3 0 accepted (λ x. omega (arith, ltb→lt (length old) 8192 x))

  module _ (m : 8192 ≤ length old) {new : List ℕ} {n : ℕ} {r : Answer} (e : r ≡ answer_of accepted n 0) where
    all : (text : List ℕ) → Prints file text → Lays 8192 text 0 old new n → Pages file old new r
    all text p y =
        let k : n ≡ length text = omega (arith, y.next) in
        record {
          text = text;
          prints = λ x. p;
          says = e ∙ ap₂ (λ (x : Verdict) (i : ℕ). answer_of x i 0) (sym (long m)) k;
          bytes = y.bytes ∙ ap (λ (x : Verdict). changed x (at_front text old) old) (sym (long m));
        }

    -- the file is refused
    pub pages_no : ((reading file 255).answer.number ≡ 0 → ⊥) → Lays 8192 (refused_line (reading file 255).answer.number (reading file 255).answer.place) 0 old new n → Pages file old new r
    pages_no x y = all _ (record { of = []; shows = λ z. absurd (x z); prints = said_no (reading file 255).answer [] x }) y

    -- its table is printed
    pub pages_table : (reading file 255).answer.number ≡ 0 → LaysSome (Shows (reading file 255).table (reading file 255).ask) 8192 old new n → Pages file old new r
    pages_table z y = all y.text (record { of = y.text; shows = λ k. y.is; prints = said_yes (reading file 255).answer y.text z }) y.lays
