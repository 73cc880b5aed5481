-- What a job that leads another in the first plan tells of the plan left.
-- Assumes nothing.
use Prim.Native.Nat.{ℕ}
use native.Mathlib.Omega.{arith}
use lib.Dec.{T}
use Rattle.rules.specs.Premises.{InOrder}
use Rattle.states.specs.State.{Search, Leads, St, Must, MustNot, Never, Low, High}

module _ {P : Search} (s : St) {m n : ℕ} (h : Leads P m n) where
  -- m is inside: so is n, and it starts no earlier
  pub lead_in : T (s.inside m) → Must P s n
  lead_in i Q l = h.joins Q l.first (l.fits.stays.inside m i)

  pub lead_low : T (s.inside m) → Low P s n (s.lo m)
  lead_low i Q l k = let im = l.fits.stays.inside m i in omega (arith, h.order Q l.first im, l.fits.stays.lo m im)

  -- n is out: so is m; m starts no later than n may, and n is not over before it
  pub lead_out : T (s.barred n) → MustNot P s m
  lead_out b Q l k = l.fits.stays.barred n b (h.joins Q l.first k)

  pub lead_high : High P s m (s.hi n)
  lead_high Q l k = omega (arith, h.order Q l.first k, l.fits.stays.hi n (h.joins Q l.first k))

  pub lead_never : InOrder P.problem → Never P s n m
  lead_never wf Q l k i o = omega (arith, h.order Q l.first i, wf.long n k.below)
