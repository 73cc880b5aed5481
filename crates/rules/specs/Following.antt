-- Following the house as it works: one event at a time for a given plan; started and finished jobs come as two words of bits.
-- Assumes nothing.
use Rattle.std.specs.Prelude.{◌≡◌, ◌⊎◌, ◌↔◌, ◌∷◌, ℕ, T}
use Rattle.facts.specs.Facts.{has}
use Rattle.refusals.specs.Refusals.{Verdict, accepted, refused}
use Rattle.rules.specs.Table.{Problem}
use Rattle.rules.specs.Plans.{Plan}
use Rattle.rules.specs.Execution.{Event, began, finished, Log, Logged, held, MayStart, Allowed}

-- the events of the log are allowed and give the two words: the jobs that have started and those that have finished
pub record WordsOf (P : Problem) (s : Plan) (h : Log) (started ended : ℕ) : Type 0 where
  pub allowed : Allowed P s h
  pub starts : (j : ℕ) → T (has started j) ↔ Logged (began j) h
  pub finishes : (j : ℕ) → T (has ended j) ↔ Logged (finished j) h

-- the event that number k says of job j: 0 is its start, 1 its finish; no other number is an event
abbrev pub EventOf : (k j : ℕ) → Event → Type 0
EventOf k j e = ((k ≡ 0) × (e ≡ began j)) ⊎ ((k ≡ 1) × (e ≡ finished j))

-- the event is one and is allowed after the events of the log
abbrev pub MayCome : Problem → Plan → Log → (k j : ℕ) → Type 0
MayCome P s h k j = (e : Event) × EventOf k j e × Allowed P s (e ∷ h)

-- what the screen shows after the events of the log: the facts now, and the jobs that may start
pub record Shown (P : Problem) (s : Plan) (h : Log) (now next : ℕ) : Type 0 where
  pub facts : (p : ℕ) → T (has now p) ↔ T (held P h p)
  pub free : (j : ℕ) → T (has next j) ↔ MayStart P s h j

-- the answer v to event k of job j, with the words after it and the screen: 19 at 65,535 for words that no allowed events give, then 19 at the job for
-- an event that is not allowed after events that give them; else the words of those events with this one, and the screen of all allowed events that give these
pub record Answered (P : Problem) (s : Plan) (started ended k j : ℕ) (v : Verdict) (started' ended' now next : ℕ) : Type 0 where
  pub strange : ((h : Log) → WordsOf P s h started ended → ⊥) → v ≡ refused 19 65535
  pub barred : (h : Log) → WordsOf P s h started ended → (MayCome P s h k j → ⊥) → v ≡ refused 19 j
  pub comes : (h : Log) → WordsOf P s h started ended → (m : MayCome P s h k j) → (v ≡ accepted) × WordsOf P s (m.0 ∷ h) started' ended'
  pub shows : v ≡ accepted → (h : Log) → WordsOf P s h started' ended' → Shown P s h now next
