-- What a case can claim, and what that says of the rules.
-- Assumes nothing.
use Rattle.std.specs.Prelude.{◌≡◌, ◌↔◌, List, [], ◌∷◌, ℕ, ◌/◌, ◌≤◌, ◌<◌, T, Float, length, ℤ}
use Prim.Native.String.{String}
use Rattle.refusals.specs.Refusals.{Verdict, accepted, refused, refused_for}
use Rattle.rules.specs.Table.{Problem, table_checks, bound_check}
use Rattle.rules.specs.Clashes.{clash_in, numbers, interfere}
use Rattle.rules.specs.Plans.{Plan, starts, In, finish, Valid}
use Rattle.rules.specs.Verdicts.{plan_checks}
use Rattle.rules.specs.Pairs.{pair_bytes}
use Rattle.rules.specs.Estimates.{Estimates}
use Rattle.rules.specs.Settling.{Asked, asked_by, Settled}
use Rattle.rules.specs.declared.Hindrance.{Hindrance}
use Rattle.rules.specs.Reasons.{Chain, Explained, hindrance_of}
use Rattle.rules.specs.Lateness.{LatestFinish, overrun_check}
use Rattle.rules.specs.Order.{First, LeastBound, NoPlan, Planned, Bounded}
use Rattle.tables.specs.declared.Action.{Action}
use Rattle.tables.specs.Tables.{record_at}
use Rattle.times.specs.Times.{pair_first, pair_second}
use Rattle.tenths.specs.Tenths.{in_range, AreTenths}
use Rattle.batches.specs.Batches.{BatchTable, batch_checks}
use Rattle.lines.specs.Letters.{letters}
use Rattle.plantext.specs.Names.{names_check}
use Rattle.plantext.specs.Reading.{plan_said, lines_read, text_checks}
use Rattle.plantext.specs.Writing.{steps_text}
use Rattle.cases.specs.Jobs.{facts, name_table}

-- the kinds of claim
pub data Claim : Type 0 where
  -- planning within the bound gives these starts
  plans : Problem → (bound : ℕ) → (starts : List ℕ) → Claim
  -- refusal 10: there is no valid plan within the bound
  no_plan : Problem → (bound : ℕ) → Claim
  -- this is the least bound, and these are the starts that come with it
  least : Problem → (bound : ℕ) → (starts : List ℕ) → Claim
  -- the offered plan is valid, with the second job starting just where the first finishes, although they interfere
  touching : Problem → (bound : ℕ) → (starts : List ℕ) → (first second : ℕ) → Claim
  -- the offered plan is refused with this number, second number and place
  offered : Problem → (bound : ℕ) → (starts : List ℕ) → (number second place : ℕ) → Claim
  -- the two jobs clash like this, by kind and fact
  clashing : Problem → (i j kind fact : ℕ) → Claim
  -- these are the binding pairs of the plan, two bytes a pair
  binding : Problem → (starts bytes : List ℕ) → Claim
  -- the reading has these tenths
  tenths : Float → ℤ → Claim
  -- these are the earliest estimates
  estimates : Problem → (numbers : List ℕ) → Claim
  -- settled over these pairs, two numbers a pair, these jobs have these starts, and this is the chain that ends at the job
  explains : Problem → (set pairs : List ℕ) → (bound job : ℕ) → (starts chain : List ℕ) → Claim
  -- this is why there is no plan within the bound, as far as the estimates tell
  hinders : Problem → (bound : ℕ) → Hindrance → Claim
  -- the plan is valid, and where each of its jobs runs up to k quarter hours over this is the latest finish
  finishes : Problem → (bound : ℕ) → (starts : List ℕ) → (k latest : ℕ) → Claim
  -- of an overrun of k this is said
  overruns : (k : ℕ) → Verdict → Claim
  -- batches of these groups make exactly this table
  makes : (groups : List ℕ) → (jobs : List Action) → (atoms : ℕ) → (goals : List ℕ) → Claim
  -- of batches of these groups this is said to a caller that lends so many records
  entered : (groups : List ℕ) → (room : ℕ) → Verdict → Claim
  -- with these names this is the text of the plan, and it has so many letters
  tells : Problem → (names : List String) → (bound : ℕ) → (starts : List ℕ) → (text : String) → (long : ℕ) → Claim
  -- with these names the lines of the text say these starts
  says : Problem → (names : List String) → (text : String) → (starts : List ℕ) → Claim
  -- with these names the text is refused with this number at this line
  misses : Problem → (names : List String) → (text : String) → (number line : ℕ) → Claim
  -- a name table of these names is refused with 33 at this place
  misnames : (names : List String) → (place : ℕ) → Claim
  -- checks 4 to 9 and 20 take the table and the bound
  takes : Problem → (bound : ℕ) → Claim
  -- checks 4 to 9 and 20 refuse the table or the bound with this number and place
  refuses : Problem → (bound : ℕ) → (number place : ℕ) → Claim

-- ── what the claims say ──

-- checks 4 to 9 and 20 of a call, and what is said behind them
abbrev pub table_and_bound : Problem → (bound : ℕ) → Verdict → Verdict
table_and_bound P bound next = table_checks P (bound_check bound next)

-- they take the table and the bound: what comes behind them is what is said
pub record Taken (P : Problem) (bound : ℕ) : Type 0 where
  pub goes_on : (next : Verdict) → table_and_bound P bound next ≡ next

-- they refuse: this is what is said, whatever would come behind them
pub record RefusedWith (P : Problem) (bound number place : ℕ) : Type 0 where
  pub stops : (next : Verdict) → table_and_bound P bound next ≡ refused number place

-- z has the starts of s
abbrev pub SameStarts : Problem → (z s : Plan) → Type 0
SameStarts P z s = (i : ℕ) → i < P.count → z i ≡ s i

-- s is the first valid plan, and every answer that the rules allow gives its starts
pub record Plans (P : Problem) (bound : ℕ) (s : Plan) : Type 0 where
  pub taken : Taken P bound
  pub first : First P bound s
  pub answer : (v : Verdict) (z : Plan) → Planned P bound v z → (v ≡ accepted) × SameStarts P z s

-- no plan at all is valid: to planning the rules allow one answer, 10 with place 0, and to the least bound 10 with 65,535
pub record Refuses10 (P : Problem) (bound : ℕ) : Type 0 where
  pub taken : Taken P bound
  pub none : (z : Plan) → Valid P bound z → ⊥
  pub answer : (v : Verdict) (z : Plan) → Planned P bound v z ↔ (v ≡ refused 10 0)
  pub least : (v : Verdict) (b : ℕ) (z : Plan) → Bounded P bound v b z ↔ ((v ≡ refused 10 0) × (b ≡ 65535))

-- b is the least bound under every given bound from b on, and every answer that the rules allow gives it with the starts of s
pub record LeastIs (P : Problem) (b : ℕ) (s : Plan) : Type 0 where
  pub taken : (given : ℕ) → given ≤ 2880 → Taken P given
  pub least : (given : ℕ) → b ≤ given → LeastBound P given b s
  pub none : (given : ℕ) → given < b → NoPlan P given
  pub answer : (given : ℕ) → b ≤ given → (v : Verdict) (c : ℕ) (z : Plan) → Bounded P given v c z → (v ≡ accepted) × (c ≡ b) × SameStarts P z s

-- what is said of an offered plan is v, and it is accepted exactly where the plan is valid
pub record Judged (P : Problem) (bound : ℕ) (s : Plan) (v : Verdict) : Type 0 where
  pub said : table_and_bound P bound (plan_checks P bound s accepted) ≡ v
  pub valid : (v ≡ accepted) ↔ Valid P bound s

-- jobs a and b of the plan interfere, and b starts at the quarter hour in which a finishes
pub record Touch (P : Problem) (s : Plan) (a b : ℕ) : Type 0 where
  pub there : In P s a × In P s b
  pub clash : T (interfere P a b)
  pub touch : finish P s a ≡ s b

-- the float is in range, and t is the nearest whole number to ten times its exact value, halves going up
pub record HasTenths (x : Float) (t : ℤ) : Type 0 where
  pub ranged : T (in_range x)
  pub are : AreTenths x t

-- the numbers solve the rules of the estimates, and no others do
pub record EstimatesAre (P : Problem) (est : ℕ → ℕ) : Type 0 where
  pub solved : Estimates P est
  pub only : (e : ℕ → ℕ) → Estimates P e → (i : ℕ) → i < P.count → e i ≡ est i

-- what is asked of settling with this set and these pairs
abbrev pub asking : Problem → (set pairs : List ℕ) → (bound : ℕ) → Asked
asking P set pairs bound = asked_by P (facts set) (pair_first pairs) (pair_second pairs) (length pairs / 2) bound

-- z is settled, l is the chain of job j, and every answer that the rules allow gives it
pub record ExplainedBy (P : Problem) (q : Asked) (j : ℕ) (z : Plan) (l : List ℕ) : Type 0 where
  pub settled : Settled P q z
  pub chain : Chain P q z j l
  pub answer : (v : Verdict) (m : List ℕ) → Explained P q j v m → (v ≡ accepted) × (m ≡ l)

-- h is what the estimates tell, whichever solution they are
pub record HinderedBy (P : Problem) (bound : ℕ) (h : Hindrance) : Type 0 where
  pub tells : (est : ℕ → ℕ) → Estimates P est → hindrance_of P est bound ≡ h

-- the plan is valid, t is its latest finish, and no other number is
pub record FinishesAt (P : Problem) (bound : ℕ) (s : Plan) (k t : ℕ) : Type 0 where
  pub valid : Valid P bound s
  pub latest : LatestFinish P bound s k t
  pub only : (u : ℕ) → LatestFinish P bound s k u → u ≡ t

-- the batches make a table with these jobs and numbers, open {0}, and none with others
pub record MakesTable (gs : List ℕ) (jobs : List Action) (atoms : ℕ) (goals : List ℕ) : Type 0 where
  pub table : BatchTable gs (length jobs) atoms (facts (0 ∷ [])) (facts goals) (record_at jobs)
  pub only : (n a o g : ℕ) (job : ℕ → Action) → BatchTable gs n a o g job
      → (n ≡ length jobs) × (a ≡ atoms) × (o ≡ facts (0 ∷ [])) × (g ≡ facts goals) × ((k : ℕ) → k < n → job k ≡ record_at jobs k)

-- no line of the text is refused, and the lines say s
pub record SaysStarts (P : Problem) (names text : List ℕ) (s : Plan) : Type 0 where
  pub good : (next : Verdict) → text_checks P names text next ≡ next
  pub said : SameStarts P (plan_said P names text (lines_read P names text)) s

-- the text is refused for a line, whatever would come behind
pub record MissesLine (P : Problem) (names text : List ℕ) (number line : ℕ) : Type 0 where
  pub refuses : (next : Verdict) → text_checks P names text next ≡ refused number line

-- what a case claims of the rules
abbrev pub IsSo : Claim → Type 0
IsSo (plans P bound l) = Plans P bound (starts l)
IsSo (no_plan P bound) = Refuses10 P bound
IsSo (least P b l) = LeastIs P b (starts l)
IsSo (touching P bound l a b) = Judged P bound (starts l) accepted × Touch P (starts l) a b
IsSo (offered P bound l number second place) = Judged P bound (starts l) (refused_for number second place)
IsSo (clashing P i j kind fact) = numbers (clash_in P i j) ≡ record { kind = kind; fact = fact }
IsSo (binding P l bytes) = pair_bytes P (starts l) ≡ bytes
IsSo (tenths x t) = HasTenths x t
IsSo (estimates P l) = EstimatesAre P (starts l)
IsSo (explains P set pairs bound j l m) = ExplainedBy P (asking P set pairs bound) j (starts l) m
IsSo (hinders P bound h) = HinderedBy P bound h
IsSo (finishes P bound l k t) = FinishesAt P bound (starts l) k t
IsSo (overruns k v) = overrun_check k accepted ≡ v
IsSo (makes gs jobs atoms goals) = MakesTable gs jobs atoms goals
IsSo (entered gs room v) = batch_checks gs room ≡ v
IsSo (tells P names bound l text long) = (steps_text (name_table names) P bound (starts l) ≡ letters text) × (length (letters text) ≡ long)
IsSo (says P names text l) = SaysStarts P (name_table names) (letters text) (starts l)
IsSo (misses P names text number line) = MissesLine P (name_table names) (letters text) number line
IsSo (misnames names place) = names_check (name_table names) (length names) accepted ≡ refused 33 place
IsSo (takes P bound) = Taken P bound
IsSo (refuses P bound number place) = RefusedWith P bound number place

-- every case of the list holds
abbrev pub AllHold : List Claim → Type 0
AllHold [] = Unit {0}
AllHold (c ∷ cs) = IsSo c × AllHold cs
