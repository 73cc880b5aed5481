-- The bytes of a row and the jobs that feed another, from the row's words.
-- Assumes nothing.
use mathlib.Core.Path.{◌≡◌, refl, sym, ap, ap₂, ◌∙◌, subst, fun_ext}
use mathlib.Core.Bool.{Bool, true, false, not, ◌&&◌, ◌||◌, and_assoc, and-false}
use mathlib.Core.List.{List}
use Prim.Native.Nat.{ℕ, ◌+◌, ◌≤◌, ◌<◌}
use native.Mathlib.Omega.{arith}
use borrow.Author.Tests.{eq-eqb, ne_eqb, lt-ltb, le-ltb}
use lib.Dec.{T, eqb, leb, eqb→eq, eqb_refl}
use lib.ListN.{get_or}
use Rattle.facts.specs.Facts.{has}
use Rattle.facts.specs.Least.{least, any}
use Rattle.facts.proofs.Bools.{passes}
use Rattle.facts.proofs.Least.{least_is, any_of, least_hit, any_none, least_same, any_same}
use Rattle.rules.specs.Table.{Problem}
use Rattle.rules.specs.Clashes.{interfere}
use Rattle.rules.specs.Plans.{Plan, starts, in_plan}
use Rattle.rules.specs.Supports.{Consumer, job, end, start_fits, job_fits, name, named, byte_if, byte_of, wants, consumer, whose_row, task, goal}
use Rattle.rules.specs.Pairs.{is_job, feeds, binds}
use Rattle.tables.specs.declared.Loaded.{Loaded}
use Rattle.tables.specs.declared.Ask.{Ask}
use Rattle.tables.specs.Tables.{job_at, problem}
use Rattle.verdict.specs.Steps.{start_in}
use Rattle.named.specs.declared.Row.{Row}
use Rattle.named.specs.Named.{RowOf}
use Rattle.named.proofs.Tests.{fit_yes, fit_no, any_if}
use Rattle.bindings.specs.Steps.{pick_byte, row_byte}

-- ── the byte of a fact ──

byte_job : (A : Bool) (L n : ℕ) → (T A → L < n)
    → byte_if true (name false A L) ≡ pick_byte false (any (λ a. is_job a (name false A L)) n) (least (λ a. is_job a (name false A L)) n)
unfolding byte_if name is_job pick_byte
byte_job false L n l = ap (λ (b : Bool). pick_byte false b (least (λ a. false) n)) (any_none (λ a. false) n (λ i m h. h))
byte_job true L n l =
    ap₂ (λ (b : Bool) (a : ℕ). pick_byte false b a) (passes (any (λ a. eqb a L) n) (any_of (λ a. eqb a L) n L (l tt) (eqb_refl L)))
    (least_is (λ a. eqb a L) n L (record { within = omega (arith, l tt); hit = λ m. eqb_refl L; first = λ i m h. omega (arith, eqb→eq i L h) }))

byte_name : (w S : Bool) (J : ℕ → Bool) (n : ℕ)
    → byte_if w (name S (any J n) (least J n))
    ≡ pick_byte (w && S) (any (λ a. w && is_job a (name S (any J n) (least J n))) n) (least (λ a. w && is_job a (name S (any J n) (least J n))) n)
unfolding byte_if name pick_byte
byte_name false S J n = ap (λ (b : Bool). pick_byte false b (least (λ a. false) n)) (any_none (λ a. false) n (λ i m h. h))
byte_name true true J n = refl
byte_name true false J n = byte_job (any J n) (least J n) n (λ h. (least_hit J n h).0)

-- the row by words says the byte of the rules
pub byte_of_lem : (P : Problem) (s : Plan) (c : Consumer) (want : ℕ → Bool) (r : Row) (p : ℕ) → RowOf P s c want r → row_byte r P.count p ≡ byte_if (want p) (named P s p c)
unfolding row_byte named
byte_of_lem P s c want r p h = sym
    (byte_name (want p) (start_fits P s p c) (job_fits P s p c) P.count
    ∙ ap₂ (λ (b : Bool) (f : Bool × ℕ). pick_byte b f.0 f.1) (sym (h.start p))
    (ap₂ (λ (b : Bool) (a : ℕ). (b, a)) (sym (any_same _ _ P.count (λ a l. h.by a l p))) (sym (least_same _ _ P.count (λ a l. h.by a l p)))))

-- ── a row as the rules say it ──

-- the jobs that give a fact in a job's row are the named supports of its conditions, if it is in
pub feeds_of : (P : Problem) (bound : ℕ) (s : Plan) (b a : ℕ) (r : Row) (e : Bool) → e ≡ false → RowOf P s (consumer P bound s (whose_row e b)) (wants P s (whose_row e b)) r → a < P.count
    → any (has (get_or r.by a 0)) 64 ≡ (in_plan s b && feeds P s a b)
unfolding whose_row feeds
feeds_of P bound s b a r true z h l = absurd (subst T z tt)
feeds_of P bound s b a r false z h l =
    ap (λ (f : ℕ → Bool). any f 64) (fun_ext (λ p. h.by a l p ∙ and_assoc (in_plan s b) (has (P.conditions b) p) (is_job a (named P s p (job P s b)))))
    ∙ any_if (in_plan s b) (λ p. has (P.conditions b) p && is_job a (named P s p (job P s b))) 64

pub byte_row : (P : Problem) (bound : ℕ) (s : Plan) (b p : ℕ) (r : Row) (e : Bool) → RowOf P s (consumer P bound s (whose_row e b)) (wants P s (whose_row e b)) r → row_byte r P.count p ≡ byte_of P bound s (whose_row e b) p
unfolding whose_row byte_of
byte_row P bound s b p r true h = byte_of_lem P s (end P bound) (wants P s goal) r p h
byte_row P bound s b p r false h = byte_of_lem P s (job P s b) (wants P s (task b)) r p h

-- ── the byte that the code picks ──

pub pick_start : {b : Bool} (j : Bool) (a : ℕ) → b ≡ true → 254 ≡ pick_byte b j a
unfolding pick_byte
pick_start j a e = simp e

pub pick_job : {b : Bool} (f : ℕ → Bool) (n r : ℕ) → b ≡ false → r ≡ least f n → r < n → r ≡ pick_byte b (any f n) (least f n)
unfolding pick_byte any
pick_job f n r e h l = simp (e, sym h, lt-ltb r n l)

pub pick_none : {b : Bool} (f : ℕ → Bool) (n r : ℕ) → b ≡ false → r ≡ least f n → n ≤ r → 255 ≡ pick_byte b (any f n) (least f n)
unfolding pick_byte any
pick_none f n r e h l = simp (e, sym h, le-ltb r n l)

-- ── a binding pair as the code tests it ──

module _ (l : Loaded) (q : Ask) (s : List ℕ) (a b : ℕ) where
  -- a job that is out binds nothing
  pub binds_out : get_or s b 0 ≡ 65535 → false ≡ binds (problem l q) (starts s) a b
  unfolding binds in_plan
  binds_out e = simp (eq-eqb _ _ e) (sym (and-false (start_in (get_or s a 0))))

  -- the first job is over in time, with this gap behind it
  abbrev Over : (gap : ℕ) (y : Bool) → Type 0
  Over gap y = y ≡ (start_in (get_or s a 0) && leb (get_or s a 0 + (job_at l a).duration + gap) (get_or s b 0))

  pub over_gap : {g : ℕ} {y : Bool} → g ≡ (problem l q).gap → Over g y → Over (problem l q).gap y
  over_gap {y = y} z e = subst (λ (x : ℕ). Over x y) z e

  -- nor does a job that is not over in time
  pub binds_no : {y : Bool} → Over (problem l q).gap y → y ≡ false → false ≡ binds (problem l q) (starts s) a b
  unfolding binds in_plan
  binds_no e t = fit_no (start_in (get_or s a 0)) (start_in (get_or s b 0)) (leb (get_or s a 0 + (job_at l a).duration + (problem l q).gap) (get_or s b 0)) _ (sym e ∙ t)

  -- another binds where the jobs interfere or the first is a named support
  pub binds_yes : {y z : Bool} → (get_or s b 0 ≡ 65535 → ⊥) → Over (problem l q).gap y → y ≡ true
      → z ≡ (interfere (problem l q) a b || (in_plan (starts s) b && feeds (problem l q) (starts s) a b)) → z ≡ binds (problem l q) (starts s) a b
  unfolding binds in_plan
  binds_yes n e t h =
      h ∙ ap (λ (x : Bool). interfere (problem l q) a b || (not x && feeds (problem l q) (starts s) a b)) (ne_eqb _ _ n)
      ∙ simp (ne_eqb _ _ n)
      (fit_yes (start_in (get_or s a 0)) true (leb (get_or s a 0 + (job_at l a).duration + (problem l q).gap) (get_or s b 0)) (interfere (problem l q) a b || feeds (problem l q) (starts s) a b) (sym e ∙ t))
