-- One word of a state is changed: what the state then says of a plan.
-- Assumes nothing.
use mathlib.Core.Path.{◌≡◌, refl, sym, ap, subst, ◌∙◌}
use mathlib.Core.Logic.{◌⊎◌, inl, inr, ◌≢◌, ⊎_elim}
use mathlib.Core.List.{List}
use Prim.Native.Nat.{ℕ, zero, suc, ◌+◌, ◌*◌, ◌/◌, ◌%◌, ◌≤◌, ◌<◌, ◌^◌}
use native.Mathlib.Nat.{le_refl}
use native.Mathlib.Omega.{arith}
use native.Mathlib.Decide.{ℕ_discrete, dec_lt}
use lib.Bits.{bit_or}
use lib.Dec.{T}
use lib.ListN.{get_or, set, length, replicate, get_or-replicate, length-replicate}
use lib.Seq.{get_or-set_same, get_or-set_other}
use Rattle.facts.specs.Facts.{has}
use Rattle.facts.proofs.Bools.{below_suc}
use Rattle.facts.proofs.Lists.{get_d_past}
use Rattle.rules.specs.Plans.{Plan}
use Rattle.rules.specs.Premises.{InOrder}
use Rattle.states.specs.State.{Search, Left, Fits, More, Keeps}
use Rattle.states.proofs.Keep.{left_back, fits_more, keeps_refl, keeps_trans, more_refl, more_trans}
use Rattle.cells.specs.View.{Place, ins, outs, sures, nevers, los, his, at, word_at, view, Prunes, Says, NoneLeft, Sets, Puts, PutsBit, IsIn, IsOut, IsAhead, AllAhead, NotAhead, From, Till, Blank}
use Rattle.jobs.proofs.Laws.{bits_keep, bits_cases, bit_new, bit_cases}

-- ── bits ──

-- ── no two places are one ──

named : ℕ → ℕ → Place
named zero zero = ins
named zero (suc k) = outs
named (suc b) zero = sures b
named (suc b) (suc zero) = nevers b
named (suc b) (suc (suc zero)) = los b
named (suc b) (suc (suc (suc k))) = his b

which : ℕ → Place
which n = named (n / 4) (n % 4)

which_at : (p : Place) → which (at p) ≡ p
unfolding which named
which_at ins = refl
which_at outs = refl
which_at (sures b) = let d : (4 * b + 4) / 4 ≡ suc b = omega arith in let m : (4 * b + 4) % 4 ≡ 0 = omega arith in rw (d, m)
which_at (nevers b) = let d : (4 * b + 5) / 4 ≡ suc b = omega arith in let m : (4 * b + 5) % 4 ≡ 1 = omega arith in rw (d, m)
which_at (los b) = let d : (4 * b + 6) / 4 ≡ suc b = omega arith in let m : (4 * b + 6) % 4 ≡ 2 = omega arith in rw (d, m)
which_at (his b) = let d : (4 * b + 7) / 4 ≡ suc b = omega arith in let m : (4 * b + 7) % 4 ≡ 3 = omega arith in rw (d, m)

one_place : (p q : Place) → at p ≡ at q → p ≡ q
one_place p q e = sym (which_at p) ∙ (ap which e ∙ which_at q)

-- ── the word at a place says at least what it said; what it says beyond that is so in the plan ──

abbrev Bigger : Place → ℕ → ℕ → Type 0
Bigger ins w x = (j : ℕ) → T (has w j) → T (has x j)
Bigger outs w x = (j : ℕ) → T (has w j) → T (has x j)
Bigger (sures b) w x = (j : ℕ) → T (has w j) → T (has x j)
Bigger (nevers b) w x = (j : ℕ) → T (has w j) → T (has x j)
Bigger (los j) w x = w ≤ x
Bigger (his j) w x = x ≤ w

abbrev True : Search → Plan → Place → ℕ → ℕ → Type 0
True P Q ins w x = (j : ℕ) → T (has x j) → T (has w j) ⊎ IsIn j P Q
True P Q outs w x = (j : ℕ) → T (has x j) → T (has w j) ⊎ IsOut j P Q
True P Q (sures b) w x = (a : ℕ) → T (has x a) → T (has w a) ⊎ IsAhead a b P Q
True P Q (nevers b) w x = (a : ℕ) → T (has x a) → T (has w a) ⊎ NotAhead a b P Q
True P Q (los j) w x = (x ≤ w) ⊎ From j x P Q
True P Q (his j) w x = (w ≤ x) ⊎ Till j x P Q

bigger_refl : (p : Place) (w : ℕ) → Bigger p w w
bigger_refl ins w = λ j h. h
bigger_refl outs w = λ j h. h
bigger_refl (sures b) w = λ j h. h
bigger_refl (nevers b) w = λ j h. h
bigger_refl (los j) w = le_refl w
bigger_refl (his j) w = le_refl w

true_refl : (P : Search) (Q : Plan) (p : Place) (w : ℕ) → True P Q p w w
true_refl P Q ins w = λ j h. inl h
true_refl P Q outs w = λ j h. inl h
true_refl P Q (sures b) w = λ j h. inl h
true_refl P Q (nevers b) w = λ j h. inl h
true_refl P Q (los j) w = inl (le_refl w)
true_refl P Q (his j) w = inl (le_refl w)

-- ── the one law of all changes ──

module _ (q : Place) (x : ℕ) (s : List ℕ) (room : at q < length s) where
  abbrev after : List ℕ
  after = set s (at q) x

  word_set : (p : Place) → ((p ≡ q) × (word_at after p ≡ x)) ⊎ (word_at after p ≡ word_at s p)
  word_set p = go (ℕ_discrete (at p) (at q))
    where
      go : Dec (at p ≡ at q) → ((p ≡ q) × (word_at after p ≡ x)) ⊎ (word_at after p ≡ word_at s p)
      go (yes e) = inl (one_place p q e, subst (λ (k : ℕ). get_or after k 0 ≡ x) (sym e) (get_or-set_same s (at q) x 0 room))
      go (no e) = inr (get_or-set_other s (at q) (at p) x 0 e)

  bigger_set : Bigger q (word_at s q) x → (p : Place) → Bigger p (word_at s p) (word_at after p)
  bigger_set h p = ⊎_elim (λ e. rw (e.1, e.0) h) (λ e. rw e (bigger_refl p (word_at s p))) (word_set p)

  true_set : (P : Search) (Q : Plan) → True P Q q (word_at s q) x → (p : Place) → True P Q p (word_at s p) (word_at after p)
  true_set P Q h p = ⊎_elim (λ e. rw (e.1, e.0) h) (λ e. rw e (true_refl P Q p (word_at s p))) (word_set p)

  pub puts : {r : List ℕ} (A : Search → Plan → Type 0) → Bigger q (word_at s q) x → ((P : Search) (Q : Plan) → A P Q → True P Q q (word_at s q) x) → r ≡ after → Puts A q x s r
  puts A g t e = rw e (
      let b = bigger_set g in
      record {
        sets = record { is = refl; room = room };
        more = record { inside = b ins; barred = b outs; sure = λ a c. b (sures c) a; never = λ a c. b (nevers c) a; lo = λ j. b (los j); hi = λ j. b (his j) };
        fits = λ P Q f h. (let d = true_set P Q (t P Q h) in fits_more f (record { inside = d ins; barred = d outs; sure = λ a c. d (sures c) a; never = λ a c. d (nevers c) a; lo = λ j. d (los j); hi = λ j. d (his j) }));
      })

-- the seven changes
pub puts_inside : {s r : List ℕ} (j : ℕ) → Sets s 0 (bit_or (word_at s ins) (2 ^ j)) r → Puts (IsIn j) ins (bit_or (word_at s ins) (2 ^ j)) s r
puts_inside {s} j d = puts ins _ s d.room (IsIn j) (bits_keep _ _) (λ P Q h i k. ⊎_elim inl (λ e. inr (rw e h)) (bit_cases _ j i k)) d.is

pub puts_barred : {s r : List ℕ} (j : ℕ) → Sets s 1 (bit_or (word_at s outs) (2 ^ j)) r → Puts (IsOut j) outs (bit_or (word_at s outs) (2 ^ j)) s r
puts_barred {s} j d = puts outs _ s d.room (IsOut j) (bits_keep _ _) (λ P Q h i k. ⊎_elim inl (λ e. inr (rw e h)) (bit_cases _ j i k)) d.is

pub puts_sure : {s r : List ℕ} (a b : ℕ) → Sets s (4 * b + 4) (bit_or (word_at s (sures b)) (2 ^ a)) r → Puts (IsAhead a b) (sures b) (bit_or (word_at s (sures b)) (2 ^ a)) s r
puts_sure {s} a b d = puts (sures b) _ s d.room (IsAhead a b) (bits_keep _ _) (λ P Q h i k. ⊎_elim inl (λ e. inr (rw e h)) (bit_cases _ a i k)) d.is

pub puts_sures : {s r : List ℕ} (b v : ℕ) → Sets s (4 * b + 4) (bit_or (word_at s (sures b)) v) r → Puts (AllAhead v b) (sures b) (bit_or (word_at s (sures b)) v) s r
puts_sures {s} b v d = puts (sures b) _ s d.room _ (bits_keep _ _) (λ P Q h i k. ⊎_elim inl (λ e. inr (h i e)) (bits_cases _ v i k)) d.is

pub puts_never : {s r : List ℕ} (a b : ℕ) → Sets s (4 * b + 5) (bit_or (word_at s (nevers b)) (2 ^ a)) r → Puts (NotAhead a b) (nevers b) (bit_or (word_at s (nevers b)) (2 ^ a)) s r
puts_never {s} a b d = puts (nevers b) _ s d.room (NotAhead a b) (bits_keep _ _) (λ P Q h i k. ⊎_elim inl (λ e. inr (rw e h)) (bit_cases _ a i k)) d.is

pub puts_lo : {s r : List ℕ} (j x : ℕ) → word_at s (los j) ≤ x → Sets s (4 * j + 6) x r → Puts (From j x) (los j) x s r
puts_lo {s} j x g d = puts (los j) x s d.room (From j x) g (λ P Q h. inr h) d.is

pub puts_hi : {s r : List ℕ} (j x : ℕ) → x ≤ word_at s (his j) → Sets s (4 * j + 7) x r → Puts (Till j x) (his j) x s r
puts_hi {s} j x g d = puts (his j) x s d.room (Till j x) g (λ P Q h. inr h) d.is

-- the word that was put, and the others
pub new_word : {A : Search → Plan → Type 0} {p : Place} {x : ℕ} {s r : List ℕ} → Puts A p x s r → word_at r p ≡ x
new_word {p = p} {x} {s} d = rw d.sets.is (get_or-set_same s (at p) x 0 d.sets.room)

pub new_bit : {A : Search → Plan → Type 0} (p : Place) (j : ℕ) {s r : List ℕ} → PutsBit A p j s r → T (has (word_at r p) j)
new_bit p j {s} {r} d = subst (λ (w : ℕ). T (has w j)) (sym (new_word d)) (bit_new (word_at s p) j)

pub old_word : {A : Search → Plan → Type 0} {p : Place} {x : ℕ} {s r : List ℕ} → Puts A p x s r → (q : Place) → at q ≢ at p → word_at r q ≡ word_at s q
old_word {p = p} {x} {s} d q n = rw d.sets.is (get_or-set_other s (at p) (at q) x 0 n)

-- what is so in the plan left may be said
pub said : {P : Search} {A : Search → Plan → Type 0} {p : Place} {x : ℕ} {s r : List ℕ} → Puts A p x s r → ((Q : Plan) → Left P (view s) Q → A P Q) → Keeps P (view s) (view r)
said {P} d h = record { more = d.more; keep = λ Q l. d.fits P Q l.fits (h Q l) }

-- ── rules ──

pub says : {Ok : Search → Type 0} {A : Search → Plan → Type 0} {p : Place} {x : ℕ} {s r : List ℕ} → Puts A p x s r → ((P : Search) → InOrder P.problem → Ok P → (Q : Plan) → Left P (view s) Q → A P Q) → Prunes Ok s r
says d h = record { more = d.more; keeps = λ P wf e. said d (h P wf e) }

-- nothing is said; what one change says follows from A
pub mute : {A : Search → Plan → Type 0} {s : List ℕ} → Says A s s
mute {s = s} = record { more = more_refl (view s); fits = λ P Q f a. f }

pub says_as : {A B : Search → Plan → Type 0} {p : Place} {x : ℕ} {s r : List ℕ} → Puts B p x s r → ((P : Search) (Q : Plan) → Fits P Q (view s) → A P Q → B P Q) → Says A s r
says_as d h = record { more = d.more; fits = λ P Q f a. d.fits P Q f (h P Q f a) }

pub says_under : {A B : Search → Plan → Type 0} {s r : List ℕ} → Says B s r → ((P : Search) (Q : Plan) → A P Q → B P Q) → Says A s r
says_under d h = record { more = d.more; fits = λ P Q f a. d.fits P Q f (h P Q a) }

pub says_then : {A : Search → Plan → Type 0} {s t r : List ℕ} → Says A s t → Says A t r → Says A s r
says_then d e = record { more = more_trans d.more e.more; fits = λ P Q f a. e.fits P Q (d.fits P Q f a) a }

-- the same of a rule that says what is told of the plan left
pub say : {Ok : Search → Type 0} {A : Search → Plan → Type 0} {s r : List ℕ} → Says A s r → ((P : Search) → InOrder P.problem → Ok P → (Q : Plan) → Left P (view s) Q → A P Q) → Prunes Ok s r
say d h = record { more = d.more; keeps = λ P wf e. record { more = d.more; keep = λ Q l. d.fits P Q l.fits (h P wf e Q l) } }

pub none : {Ok : Search → Type 0} {s : List ℕ} → Prunes Ok s s
none {s = s} = record { more = more_refl (view s); keeps = λ P wf e. keeps_refl (view s) }

pub then : {Ok : Search → Type 0} {s t u : List ℕ} → Prunes Ok s t → Prunes Ok t u → Prunes Ok s u
then k m = record { more = more_trans k.more m.more; keeps = λ P wf e. keeps_trans (k.keeps P wf e) (m.keeps P wf e) }

-- under another condition
pub under : {Ok U : Search → Type 0} {s t : List ℕ} → ((P : Search) → InOrder P.problem → U P → Ok P) → Prunes Ok s t → Prunes U s t
under f k = record { more = k.more; keeps = λ P wf e. k.keeps P wf (f P wf e) }

-- one rule after another whose condition follows from the first's
pub follows : {Ok U : Search → Type 0} {s t u : List ℕ} → Prunes Ok s t → ((P : Search) → Ok P → More (view s) (view t) → U P) → Prunes U t u → Prunes Ok s u
follows k f m = record { more = more_trans k.more m.more; keeps = λ P wf e. keeps_trans (k.keeps P wf e) (m.keeps P wf (f P e k.more)) }

pub killed : {s t r : List ℕ} → PutsBit (IsIn 0) ins 0 s t → PutsBit (IsOut 0) outs 0 t r → Prunes (NoneLeft s) s r
killed {t = t} d e = follows {U = NoneLeft t} (says d (λ P wf h Q l. absurd (h Q l))) (λ P h m Q l. h Q (left_back m l)) (says e (λ P wf h Q l. absurd (h Q l)))

-- ── words of jobs ──

-- ── the state that says nothing ──

pub zeros : (n k : ℕ) → ◌≡◌ {A = ℕ} (get_or (replicate n 0) k 0) 0
zeros n k = go (dec_lt k n)
  where
    go : Dec (k < n) → ◌≡◌ {A = ℕ} (get_or (replicate n 0) k 0) 0
    go (yes l) = get_or-replicate n k 0 0 l
    go (no h) = get_d_past (replicate n 0) k 0 (omega (arith, length-replicate {A = ℕ} n 0))

pub blank_none : {s : List ℕ} → ((k : ℕ) → get_or s k 0 ≡ 0) → Blank s 0
blank_none h = record { ins = h 0; outs = h 1; sures = λ b. h (4 * b + 4); nevers = λ b. h (4 * b + 5); los = λ j. h (4 * j + 6); his = λ j l. absurd (omega arith) }

pub blank_next : {s : List ℕ} {n : ℕ} → Blank s n → 4 * n + 7 < length s → Blank (set s (4 * n + 7) 65535) (n + 1)
blank_next {s} {n} b l = record {
  ins = other 0 (λ e. omega arith) ∙ b.ins;
  outs = other 1 (λ e. omega arith) ∙ b.outs;
  sures = λ k. other (4 * k + 4) (λ e. omega arith) ∙ b.sures k;
  nevers = λ k. other (4 * k + 5) (λ e. omega arith) ∙ b.nevers k;
  los = λ j. other (4 * j + 6) (λ e. omega arith) ∙ b.los j;
  his = λ j h. ⊎_elim (λ k. other (4 * j + 7) (λ e. omega arith) ∙ b.his j k) (λ e. subst (λ (k : ℕ). get_or (set s (4 * n + 7) 65535) (4 * k + 7) 0 ≡ 65535) (sym e) (get_or-set_same s (4 * n + 7) 65535 0 l)) (below_suc j n (omega arith));
}
  where
    other : (k : ℕ) → k ≢ 4 * n + 7 → get_or (set s (4 * n + 7) 65535) k 0 ≡ get_or s k 0
    other k e = get_or-set_other s (4 * n + 7) k 65535 0 e
