-- Supports and binding pairs of an offered plan: what the calls say and write.
-- Assumes nothing.
use Rattle.std.specs.Prelude.{◌≡◌, List, ℕ, ◌+◌, ◌*◌, ◌/◌, ◌<◌, T, ltb, length, get_or}
use Rattle.refusals.specs.Refusals.{Verdict, accepted}
use Rattle.rules.specs.Table.{Problem}
use Rattle.rules.specs.Plans.{Plan, starts}
use Rattle.rules.specs.Supports.{support_byte}
use Rattle.rules.specs.Pairs.{binds, pair_bytes}
use Rattle.tables.specs.declared.Loaded.{Loaded}
use Rattle.tables.specs.declared.Ask.{Ask}
use Rattle.tables.specs.declared.Answer.{Answer}
use Rattle.tables.specs.Tables.{problem, answer_of, filled, written, changed}
use Rattle.verdict.specs.Offered.{offered}

-- the verdict on a call for supports: 64 bytes a job and 64 for End are wanted
abbrev pub support_verdict : Loaded → Ask → (s out : List ℕ) → Verdict
support_verdict l q s out = offered (ltb (length out) (64 * (q.jobs + 1))) l q s accepted

-- the answer to a call for supports, and the lent bytes after it
pub record Supports (l : Loaded) (q : Ask) (s old new : List ℕ) (r : Answer) : Type 0 where
  pub says : r ≡ answer_of (support_verdict l q s old) 0 0
  pub table : new ≡ changed (support_verdict l q s old) (filled (support_byte (problem l q) q.bound (starts s)) (64 * (q.jobs + 1)) old) old

-- job a, then job b, is one of the first n pairs of the bytes
abbrev pub InBytes : (bytes : List ℕ) (n a b : ℕ) → Type 0
InBytes bytes n a b = (i : ℕ) × (i < n) × (get_or bytes (2 * i) 0 ≡ a) × (get_or bytes (2 * i + 1) 0 ≡ b)

-- job a, then job b, both of the table, is a binding pair
abbrev pub BindsIn : Problem → Plan → (a b : ℕ) → Type 0
BindsIn P s a b = (a < P.count) × (b < P.count) × T (binds P s a b)

-- the verdict on a call for binding pairs: 552 bytes are wanted
abbrev pub pair_verdict : Loaded → Ask → (s out : List ℕ) → Verdict
pair_verdict l q s out = offered (ltb (length out) 552) l q s accepted

-- the answer to a call for binding pairs, with their count, and the lent bytes after it
pub record Pairs (l : Loaded) (q : Ask) (s old new : List ℕ) (r : Answer) : Type 0 where
  pub says : r ≡ answer_of (pair_verdict l q s old) (length (pair_bytes (problem l q) (starts s)) / 2) 0
  pub list : new ≡ changed (pair_verdict l q s old) (written (pair_bytes (problem l q) (starts s)) old) old
