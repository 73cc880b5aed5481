-- Starts by value: the ways to them, what the answer says of them, and the ways from them to lent memory.
-- Assumes nothing.
use mathlib.Core.Path.{◌≡◌, refl, sym, ap, ◌∙◌}
use mathlib.Core.Logic.{inl, inr}
use mathlib.Core.List.{List}
use Prim.Native.Nat.{ℕ, ◌<◌}
use native.Mathlib.Omega.{arith}
use lib.ListN.{length}
use Rattle.refusals.specs.Refusals.{Verdict, accepted, refused}
use Rattle.refusals.proofs.Refused.{ruled_yes}
use Rattle.rules.specs.Plans.{starts}
use Rattle.rules.specs.Settling.{Settled}
use Rattle.rules.proofs.Settle.{settled_same}
use Rattle.tables.specs.declared.Loaded.{Loaded}
use Rattle.tables.specs.declared.Ask.{Ask}
use Rattle.tables.specs.declared.Answer.{Answer}
use Rattle.tables.specs.Tables.{problem, answer_of, filled}
use Rattle.tables.proofs.Laws.{said, numbered, changed_new, changed_old}
use Rattle.tables.proofs.Lent.{filled_at}
use Rattle.tables.proofs.Calls.{goes_behind, accepts_by}
use Rattle.tables.proofs.Fills.{Found, fills_found}
use Rattle.entries.specs.Entries.{entry}
use Rattle.times.specs.Times.{wanted}
use Rattle.times.specs.Steps.{Solved}
use Rattle.std.specs.Prelude.{Option, Some, None, ok_or}
use Rattle.settle.specs.Settle.{settling_checks, Settling}
use Rattle.settle.specs.Steps.{Settleable, SettledAs, Refuses, Settlements}
use Rattle.settle.proofs.Faults.{all_checks, settleable}

-- behind the answer of the checks
module _ (l : Loaded) (q : Ask) (bytes : List ℕ) (room : ℕ) {f : Answer} (e : f ≡ answer_of (settling_checks l q bytes room accepted) 0 0) where
  pub checks_refuse : (f.number ≡ 0 → ⊥) → Refuses l q bytes room f
  checks_refuse n = record { v = accepted; behind = λ c. absurd (n (numbered 0 0 e ∙ ap (λ (v : Verdict). v.number) c)); says = e; above = omega arith }

  -- they accept, and there are starts or none
  pub behind_checks : f.number ≡ 0 → {no : Answer} → no ≡ answer_of (refused 16 0) 0 0 → (s : Option (List ℕ)) → Solved (problem l q) (wanted l q bytes) s
      → Settlements l q bytes room (ok_or s no)
  behind_checks z d None x = record {
    v = refused 16 0;
    behind = λ c. (refl, x);
    says = d ∙ said 0 0 (goes_behind (all_checks l q bytes room) e z (refused 16 0));
    above = omega (arith, ap (λ (a : Answer). a.number) d);
  }
  behind_checks z d (Some s) x = record { checks = accepts_by (all_checks l q bytes room) e z; settled = x }

-- what is so where there are starts
module _ (l : Loaded) (q : Ask) (bytes : List ℕ) (room : ℕ) (z : List ℕ) (s : SettledAs l q bytes room z) where
  pub ready : Settleable l q bytes room
  ready = settleable l q bytes room s.checks

module _ (l : Loaded) (q : Ask) (bytes old : List ℕ) where
  pub not_filled : (a : Answer) → Refuses l q bytes (length old) a → Settling l q bytes old old a
  not_filled a s = record {
    v = s.v;
    value = 0;
    s = λ _. 0;
    behind = λ c. (refl, inr (s.behind c));
    says = s.says;
    leaves = sym (changed_old (settling_checks l q bytes (length old) s.v) _ old (λ z. (let m : 0 < a.number = s.above in omega (arith, numbered 0 0 s.says, z))));
  }

  pub all_filled : {new : List ℕ} (z : List ℕ) → SettledAs l q bytes (length old) z → {a : Answer} → a ≡ answer_of accepted 0 0 → new ≡ filled (entry z) q.jobs old → Settling l q bytes old new a
  all_filled z s d e = record {
    v = accepted;
    value = 0;
    s = entry z;
    behind = λ c. (refl, inl (refl, s.settled));
    says = d ∙ said 0 0 s.checks;
    leaves = e ∙ sym (changed_new (settling_checks l q bytes (length old) accepted) _ old (ap (λ (v : Verdict). v.number) s.checks));
  }

-- the starts that a call has filled are settled
module _ (l : Loaded) (q : Ask) (bytes : List ℕ) {old new : List ℕ} {r : Answer} (x : Settling l q bytes old new r) (done : r.number ≡ 0) where
  abbrev found : Found (all_checks l q bytes (length old)) _ 0 q.jobs old x
  found = fills_found (all_checks l q bytes (length old)) _ 0 q.jobs old x done

  pub checks_pass : settling_checks l q bytes (length old) accepted ≡ accepted
  checks_pass = found.checks

  pub are_settled : Settled (problem l q) (wanted l q bytes) (starts new)
  are_settled = settled_same (problem l q) (wanted l q bytes) x.s (starts new) same (ruled_yes 16 x.v (omega arith) (x.behind found.checks).1 found.zero).1
    where
      same : (i : ℕ) → i < q.jobs → x.s i ≡ starts new i
      same i m = sym (ap (λ (ys : List ℕ). starts ys i) found.table ∙ filled_at x.s q.jobs old i 0 m (omega (arith, (settleable l q bytes (length old) found.checks).wide)))
