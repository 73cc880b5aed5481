-- The state of the code, one list of words, as a state of the theory; its places and its changes.
-- Assumes nothing.
use Rattle.std.specs.Prelude.{◌≡◌, List, ℕ, ◌+◌, ◌*◌, ◌≤◌, ◌<◌, ◌^◌, get_or, set, length, T}
use Rattle.std.specs.Int.Bits.{bit_or}
use Rattle.facts.specs.Facts.{has}
use Rattle.rules.specs.Plans.{Plan}
use Rattle.rules.specs.Premises.{InOrder}
use Rattle.states.specs.State.{Search, St, More, Keeps, Fits, Dead, HasJob, Ahead}

-- the words: the jobs inside, the jobs barred; of each job those over before it, those not over before it, its window
pub data Place : Type 0 where
  ins : Place
  outs : Place
  sures : ℕ → Place
  nevers : ℕ → Place
  los : ℕ → Place
  his : ℕ → Place

-- where they stand: 100 words for 24 jobs (the words 2 and 3 are free), and no two places are one, whatever the job
abbrev pub at : Place → ℕ
at ins = 0
at outs = 1
at (sures b) = 4 * b + 4
at (nevers b) = 4 * b + 5
at (los j) = 4 * j + 6
at (his j) = 4 * j + 7

-- the word at a place
abbrev pub word_at : List ℕ → Place → ℕ
word_at s p = get_or s (at p) 0

-- the state that the words are
abbrev pub view : List ℕ → St
view s = record {
  inside = λ j. has (word_at s ins) j;
  barred = λ j. has (word_at s outs) j;
  sure = λ a b. has (word_at s (sures b)) a;
  never = λ a b. has (word_at s (nevers b)) a;
  lo = λ j. word_at s (los j);
  hi = λ j. word_at s (his j);
}

-- no less is said, and the first plan of a problem of which Ok is so is kept
pub record Prunes (Ok : Search → Type 0) (s r : List ℕ) : Type 0 where
  pub more : More (view s) (view r)
  pub keeps : (P : Search) → InOrder P.problem → Ok P → Keeps P (view s) (view r)

-- no less is said, and every plan of which A is so is kept
pub record Says (A : Search → Plan → Type 0) (s r : List ℕ) : Type 0 where
  pub more : More (view s) (view r)
  pub fits : (P : Search) (Q : Plan) → Fits P Q (view s) → A P Q → Fits P Q (view r)

-- a rule that asks nothing of the problem
abbrev pub Always : Search → Type 0
Always P = Unit {0}

-- no plan is left in the state
abbrev pub NoneLeft : List ℕ → Search → Type 0
NoneLeft s P = Dead P (view s)

-- one word is another
pub record Sets (s : List ℕ) (i x : ℕ) (r : List ℕ) : Type 0 where
  pub is : r ≡ set s i x
  pub room : i < length s

-- the word at p is x, and that says A of a plan
pub record Puts (A : Search → Plan → Type 0) (p : Place) (x : ℕ) (s r : List ℕ) : Type 0 where
  pub sets : Sets s (at p) x r
  pub more : More (view s) (view r)
  pub fits : (P : Search) (Q : Plan) → Fits P Q (view s) → A P Q → Fits P Q (view r)

-- the word at p with one bit more
abbrev pub PutsBit : (Search → Plan → Type 0) → Place → ℕ → List ℕ → List ℕ → Type 0
PutsBit A p j s r = Puts A p (bit_or (word_at s p) (2 ^ j)) s r

-- the state says nothing: every word is 0 but for the latest starts of the first n jobs, which are 65,535
pub record Blank (s : List ℕ) (n : ℕ) : Type 0 where
  pub ins : word_at s ins ≡ 0
  pub outs : word_at s outs ≡ 0
  pub sures : (b : ℕ) → word_at s (sures b) ≡ 0
  pub nevers : (b : ℕ) → word_at s (nevers b) ≡ 0
  pub los : (j : ℕ) → word_at s (los j) ≡ 0
  pub his : (j : ℕ) → j < n → word_at s (his j) ≡ 65535

-- ── what a word can say of a plan ──

-- job x is in
abbrev pub IsIn : ℕ → Search → Plan → Type 0
IsIn x P Q = HasJob P Q x

-- job x is out
abbrev pub IsOut : ℕ → Search → Plan → Type 0
IsOut x P Q = HasJob P Q x → ⊥

-- a is over before b, where both are in
abbrev pub IsAhead : ℕ → ℕ → Search → Plan → Type 0
IsAhead a b P Q = HasJob P Q a → HasJob P Q b → Ahead P Q a b

-- every job of the word is over before b
abbrev pub AllAhead : (jobs b : ℕ) → Search → Plan → Type 0
AllAhead v b P Q = (a : ℕ) → T (has v a) → IsAhead a b P Q

-- a is not over before b, where both are in
abbrev pub NotAhead : ℕ → ℕ → Search → Plan → Type 0
NotAhead a b P Q = HasJob P Q a → HasJob P Q b → Ahead P Q a b → ⊥

-- job j starts at x or later
abbrev pub From : ℕ → ℕ → Search → Plan → Type 0
From j x P Q = HasJob P Q j → x ≤ Q j

-- job j starts at x or earlier
abbrev pub Till : ℕ → ℕ → Search → Plan → Type 0
Till j x P Q = HasJob P Q j → Q j ≤ x
