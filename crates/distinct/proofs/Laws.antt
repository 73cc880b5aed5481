-- Laws of the walk over the rivals for a fact.
-- Assumes nothing.
use mathlib.Core.Path.{◌≡◌, sym, subst, ◌∙◌}
use mathlib.Core.Logic.{◌⊎◌, inl, inr, ◌≢◌, ⊎_elim}
use mathlib.Core.Bool.{◌&&◌}
use mathlib.Core.List.{List}
use Prim.Native.Nat.{ℕ, ◌<◌, ◌-◌, ◌^◌}
use native.Mathlib.Omega.{arith}
use lib.Bits.{bit_and, bit_or}
use lib.Dec.{T, not_T}
use Rattle.facts.specs.Facts.{has}
use Rattle.facts.specs.Words.{Covers}
use Rattle.facts.proofs.Bools.{and_l, and_r, and_of}
use Rattle.facts.proofs.Sets.{has_zero, has_and, has_less}
use Rattle.rules.specs.Table.{needs}
use Rattle.rules.specs.Premises.{adds, deletes}
use Rattle.states.specs.State.{Search, More, JobMay}
use Rattle.rules.specs.Supports.{task}
use Rattle.states.proofs.Keep.{left_back}
use Rattle.cells.specs.View.{view, word_at, outs}
use Rattle.jobs.proofs.Laws.{bits_keep, bits_cases, bit_new, bit_cases}
use Rattle.lent.specs.Lent.{Lent, wants_of, adders_of, killers_of, hits_of, opening_of}
use Rattle.distinct.specs.Rivals.{Rival, Givers, Pinned, WithPin, RivalWord, Wanting, Banded, AllMust}
use Rattle.distinct.specs.declared.Band.{Band}

-- ── behind which jobs c wants another support ──

pub pin_more : {L : List ℕ} (w : ℕ) {q kills : ℕ} → q < 64 → Covers kills (adders_of L q) → WithPin L w q kills (bit_or w (killers_of L q))
pin_more {L} w {q} l c = record { of = λ all b k h. ⊎_elim inl (λ x. inr (record { q = q; short = l; wanted = k; lost = x; back = c })) (bits_cases w (killers_of L q) b h) }

pub behind_all : {L : List ℕ} {c kills : ℕ} (w hits : ℕ) → ((b : ℕ) → T (has w b) → T (has kills b) ⊎ Pinned L kills (wants_of L c) b) → ((b : ℕ) → T (has hits b) → T (has (hits_of L c) b)) → RivalWord L c kills (bit_and w hits)
behind_all w hits f g = record {
  meet = λ b h. g b (and_r (has w b) _ (subst T (has_and w hits b) h));
  parted = λ b h. f b (and_l (has w b) _ (subst T (has_and w hits b) h));
}

module _ {L : List ℕ} {P : Search} (e : Lent L P) (p : ℕ) (lp : p < 64) (c : ℕ) (lc : c < 24) where
  pub behind_rival : {r : ℕ} → RivalWord L c (killers_of L p) r → (b : ℕ) → T (has r b) → Rival P.problem p b c
  behind_rival x b h = record { meet = e.listed.clash c b lc (x.meet b h); parted = ⊎_elim (λ k. inl (kills b k)) (λ k. inr (k.q, wants k.q k.wanted, ((e.listed.killers k.q k.short).of b k.lost).1.1, back k)) (x.parted b h) }
    where
      kills : (d : ℕ) → T (has (killers_of L p) d) → deletes P.problem d p
      kills d k = ((e.listed.killers p lp).of d k).1.1

      wants : (q : ℕ) → T (has (wants_of L c) q) → needs P.problem c q
      wants q k = subst (λ (w : ℕ). T (has w q)) (sym (e.listed.conds c lc)) k

      back : (k : Pinned L (killers_of L p) (wants_of L c) b) → (x : ℕ) → x < P.problem.count → adds P.problem x k.q → deletes P.problem x p
      back k x l a = kills x (k.back x ((e.listed.adders k.q k.short).at x (omega (arith, e.listed.few)) (l, a)))

-- ── the members ──

pub band_none : {P : Search} {s : List ℕ} {p common : ℕ} → Banded P s p (record { members = 0; common = common })
band_none = record {
  rivals = record { inside = λ c h. absurd (has_zero c h); wants = λ c h. absurd (has_zero c h); each = λ b c h. absurd (has_zero b h) };
  common = λ j c i h. absurd (has_zero c h);
}

pub band_join : {L s : List ℕ} {P : Search} → Lent L P → (p : ℕ) → p < 64 → (b : Band) (j w : ℕ) → j < 24 → Wanting s L p b.common j → RivalWord L j (killers_of L p) w → Covers w b.members
    → Banded P s p b → Banded P s p (record { members = bit_or b.members (2 ^ j); common = bit_and b.common w })
band_join {L} {s} {P} e p lp b j w l f x k y = record {
  rivals = record {
    inside = λ c h. ⊎_elim (y.rivals.inside c) (λ q. subst (λ (d : ℕ). T ((view s).inside d)) (sym q) f.inside) (new c h);
    wants = λ c h. ⊎_elim (y.rivals.wants c) (λ q. subst (λ (d : ℕ). needs P.problem d p) (sym q) (subst (λ (v : ℕ). T (has v p)) (sym (e.listed.conds j l)) f.wants)) (new c h);
    each = λ a c h i n. pair a c n (new a h) (new c i);
  };
  common = λ i c h k. ⊎_elim (λ z. y.common i c (and_l (has b.common i) _ (both i h)) z) (λ q. subst (λ (d : ℕ). Rival P.problem p i d) (sym q) (behind_rival e p lp j l x i (and_r (has b.common i) _ (both i h)))) (new c k);
}
  where
    new : (c : ℕ) → T (has (bit_or b.members (2 ^ j)) c) → T (has b.members c) ⊎ (c ≡ j)
    new c h = bit_cases b.members j c h

    both : (i : ℕ) → T (has (bit_and b.common w) i) → T (has b.common i && has w i)
    both i h = subst T (has_and b.common w i) h

    pair : (a c : ℕ) → a ≢ c → T (has b.members a) ⊎ (a ≡ j) → T (has b.members c) ⊎ (c ≡ j) → Rival P.problem p a c
    pair a c n (inl h) (inl i) = y.rivals.each a c h i n
    pair a c n (inl h) (inr q) = subst (λ (d : ℕ). Rival P.problem p a d) (sym q) (behind_rival e p lp j l x a (k a h))
    pair a c n (inr q) (inl i) = subst (λ (d : ℕ). Rival P.problem p d c) (sym q) (y.common j c f.common? i)
    pair a c n (inr q) (inr r) = absurd (n (q ∙ sym r))

-- ── who may support ──

module _ {L : List ℕ} (s : List ℕ) {P : Search} (e : Lent L P) (p : ℕ) (l : p < 64) (a : adders_of L p < 2 ^ 32) (o : word_at s outs < 2 ^ 32) where
  abbrev free : ℕ
  free = bit_and (adders_of L p) (2 ^ 32 - 1 - word_at s outs)

  free_job : (d c : ℕ) → JobMay P (view s) p (task c) d → T (has free d)
  free_job d c m = subst T (sym (has_less 32 (adders_of L p) (word_at s outs) d a o)) (and_of (has (adders_of L p) d) _ ((e.listed.adders p l).at d (omega (arith, m.below, e.listed.few)) (m.below, m.gives)) (not_T (has (word_at s outs) d) m.free))

  pub givers_open : Givers P (view s) p (bit_or free 16777216)
  givers_open = record { jobs = λ d c m. bits_keep free 16777216 d (free_job d c m); opening = λ c m. bit_new free 24 }

  pub givers_not : (T (has (opening_of L) p) → ⊥) → Givers P (view s) p free
  givers_not n = record { jobs = free_job; opening = λ c m. absurd (n (subst (λ (w : ℕ). T (has w p)) e.listed.opening m.given)) }

pub must_more : (s t : List ℕ) (w : ℕ) (P : Search) → AllMust s w P → More (view s) (view t) → AllMust t w P
must_more s t w P x m a h l Q left = x a h l Q (left_back m left)
