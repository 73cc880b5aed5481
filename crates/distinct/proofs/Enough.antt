-- Rivals for a fact have different supports, so there are no fewer supports than rivals.
-- Assumes nothing.
use mathlib.Core.Path.{◌≡◌, sym, subst}
use mathlib.Core.Logic.{◌⊎◌, inl, inr, ◌≢◌, ⊎_elim}
use Prim.Native.Nat.{ℕ, ◌≤◌, ◌<◌, ◌^◌}
use native.Mathlib.Omega.{arith}
use lib.Count.{ones}
use lib.Dec.{T}
use Rattle.facts.specs.Facts.{has}
use Rattle.facts.proofs.Bools.{and_of, not_eqb}
use Rattle.rules.specs.Premises.{InOrder, deletes}
use Rattle.rules.specs.Plans.{Plan}
use Rattle.rules.specs.Supports.{Support, start, nobody, by, job, task}
use Rattle.rules.proofs.Supported.{Supports, backed}
use Rattle.states.specs.State.{Search, HasJob, Ahead, Good, St, Left, Must, Dead, May}
use Rattle.states.proofs.Rules as rules
use Rattle.distinct.specs.Rivals.{Parted, Rivals, Givers}
use Rattle.distinct.proofs.Holes.{tally, but, tally_but, hole, ones_tally}

module _ (P : Search) (wf : InOrder P.problem) (Q : Plan) (v : Good P Q) where
  -- the support is a job, and b is over before it
  abbrev Later : ℕ → Support → Type 0
  Later b start = ⊥
  Later b nobody = ⊥
  Later b (by a) = Ahead P Q b a

  behind_killer : (p b c : ℕ) → HasJob P Q b → HasJob P Q c → Ahead P Q b c → deletes P.problem b p → (x : Support) → Supports P.problem Q p (job P.problem Q c) x → Later b x
  behind_killer p b c ib ic o d = go
    where
      other : b ≢ c
      other e = let z : Q b ≡ Q c = rw e in omega (arith, o, wf.long b ib.below)

      turned : Ahead P Q c b → ⊥
      turned y = omega (arith, o, wf.long b ib.below, wf.long c ic.below)

      go : (x : Support) → Supports P.problem Q p (job P.problem Q c) x → Later b x
      go start (given, clear) = ⊎_elim (λ y. omega (arith, wf.long b ib.below)) turned (clear b ib d other)
      go nobody z = z
      go (by a) g = ⊎_elim (λ y. y) (λ y. absurd (turned y)) (g.clear b ib d other)

  later_through : (b e : ℕ) → HasJob P Q e → Ahead P Q b e → (x : Support) → Later e x → Later b x
  later_through b e ie o start z = z
  later_through b e ie o nobody z = z
  later_through b e ie o (by a) z = omega (arith, o, z, wf.long e ie.below)

  behind : (p b c : ℕ) → HasJob P Q b → HasJob P Q c → Ahead P Q b c → Parted P.problem p b c → (x : Support) → Supports P.problem Q p (job P.problem Q c) x → Later b x
  behind p b c ib ic o (inl d) x g = behind_killer p b c ib ic o d x g
  behind p b c ib ic o (inr (q, n, d, h)) x g = let y = (backed P.problem wf P.bound Q v).ready c q ic n in through y.0 y.1 (behind_killer q b c ib ic o d y.0 y.1)
    where
      through : (y : Support) → Supports P.problem Q q (job P.problem Q c) y → Later b y → Later b x
      through start k z = absurd z
      through nobody k z = absurd z
      through (by e) k z = later_through b e k.there z x (behind_killer p e c k.there ic k.before (h e k.there.below k.gives) x g)

  -- a support as a number: that of the job, 24 for Start
  abbrev code : Support → ℕ
  code start = 24
  code nobody = 25
  code (by a) = a

  -- a support of b and one of c, which is behind b
  unlike : (p b c : ℕ) → P.problem.count ≤ 24 → HasJob P Q b → (x y : Support) → Supports P.problem Q p (job P.problem Q b) x → Supports P.problem Q p (job P.problem Q c) y → Later b y → code x ≢ code y
  unlike p b c few ib x start g k z e = z
  unlike p b c few ib x nobody g k z e = z
  unlike p b c few ib start (by a) g k z e = omega (arith, k.there.below)
  unlike p b c few ib nobody (by a) g k z e = g
  unlike p b c few ib (by d) (by a) g k z e = let s : Q d ≡ Q a = rw e in omega (arith, g.before, z, wf.long b ib.below, wf.long d g.there.below)

module _ (P : Search) (wf : InOrder P.problem) (few : P.problem.count ≤ 24) (s : St) (p m w : ℕ) (r : Rivals P s p m) (g : Givers P s p w) where
  module _ (Q : Plan) (l : Left P s Q) where
    there : (c : ℕ) → T (has m c) → HasJob P Q c
    there c h = l.fits.stays.inside c (r.inside c h)

    abbrev Claim : ℕ → Type 0
    Claim c = (x : Support) × Supports P.problem Q p (job P.problem Q c) x × May P s p (task c) x

    claim : (c : ℕ) → T (has m c) → Claim c
    claim c h = rules.some P wf s Q l (task c) p (there c h) (r.wants c h)

    number : (c : ℕ) → T (has m c) → ℕ
    number c h = code P wf Q l.first.ok (claim c h).0

    -- two rivals have different supports, whichever is first
    apart : (b c : ℕ) (h : T (has m b)) (k : T (has m c)) → b ≢ c → number b h ≢ number c k
    unfolding number
    apart b c h k n = pick (l.first.ok.apart c b (there c k) (there b h) (r.each b c h k n).meet) (claim b h) (claim c k)
      where
        pick : Ahead P Q c b ⊎ Ahead P Q b c → (x : Claim b) (y : Claim c) → code P wf Q l.first.ok x.0 ≢ code P wf Q l.first.ok y.0
        pick (inr o) x y = unlike P wf Q l.first.ok p b c few (there b h) x.0 y.0 x.1 y.1 (behind P wf Q l.first.ok p b c (there b h) (there c k) o (r.each b c h k n).parted y.0 y.1)
        pick (inl o) x y =
            let z = unlike P wf Q l.first.ok p c b few (there c k) y.0 x.0 y.1 x.1 (behind P wf Q l.first.ok p c b (there c k) (there b h) o (r.each c b k h (λ e. n (sym e))).parted x.0 x.1) in
            λ e. z (sym e)

    -- the number of a claim is of the word, and the job of that number is in the plan
    into : (c : ℕ) → (x : Support) → Supports P.problem Q p (job P.problem Q c) x → May P s p (task c) x → (code P wf Q l.first.ok x < 32) × T (has w (code P wf Q l.first.ok x)) × (code P wf Q l.first.ok x < 24 → HasJob P Q (code P wf Q l.first.ok x))
    into c start z y = (omega arith, g.opening c y, λ h. absurd (omega arith))
    into c nobody z y = absurd z
    into c (by a) z y = (omega (arith, z.there.below), g.jobs a c y, λ h. z.there)

    in_word : (c : ℕ) (h : T (has m c)) → (number c h < 32) × T (has w (number c h)) × (number c h < 24 → HasJob P Q (number c h))
    unfolding number
    in_word c h = let x = claim c h in into c x.0 x.1 x.2

    pub enough : m < 2 ^ 32 → w < 2 ^ 32 → ones m ≤ ones w
    enough a b = omega (arith, ones_tally 32 m a, ones_tally 32 w b, hole 32 32 (has m) (has w) number (λ c h k. ((in_word c h).0, (in_word c h).1)) (λ i j h k x y n. apart i j h k n))

    -- where there are just enough, a support that is not in the plan is one too many
    pub all_there : m < 2 ^ 32 → w < 2 ^ 32 → ones w ≤ ones m → (a : ℕ) → T (has w a) → a < 24 → HasJob P Q a
    all_there x y e a h k = ⊎_elim (λ i. i) (λ n. absurd (short n)) (rules.in? P wf Q a)
      where
        short : (HasJob P Q a → ⊥) → ⊥
        short n =
            let fewer : tally (has m) 32 ≤ tally (but (has w) a) 32 = hole 32 32 (has m) (but (has w) a) number
            (λ c i o. (let z = in_word c i in (z.0, and_of (has w (number c i)) _ z.1 (not_eqb (number c i) a (λ q. n (subst (λ (d : ℕ). HasJob P Q d) q (z.2 (omega arith))))))))
            (λ i j b c u v d. apart i j b c d) in
            omega (arith, ones_tally 32 m x, ones_tally 32 w y, tally_but (has w) 32 a (omega arith) h)

  pub too_few : m < 2 ^ 32 → w < 2 ^ 32 → ones w < ones m → Dead P s
  too_few a b e Q l = omega (arith, enough Q l a b)

  pub just_enough : m < 2 ^ 32 → w < 2 ^ 32 → ones w ≤ ones m → (a : ℕ) → T (has w a) → a < 24 → Must P s a
  just_enough x y e a h k Q l = all_there Q l x y e a h k
