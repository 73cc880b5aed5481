-- One row of the table of supports, by words.
-- Assumes nothing.
use Rattle.std.specs.Prelude.{Bool, ◌&&◌, ℕ, ◌<◌, eqb, get_or}
use Rattle.facts.specs.Words.{Word}
use Rattle.rules.specs.Table.{Problem}
use Rattle.rules.specs.Plans.{Plan}
use Rattle.rules.specs.Supports.{Consumer, start_fits, named, wants, consumer, whose_row}
use Rattle.rules.specs.Pairs.{is_job}
use Rattle.named.specs.declared.Holder.{Holder}
use Rattle.named.specs.declared.Row.{Row}

-- who has a condition, as the code says it
abbrev pub consumer_of : Holder → Consumer
consumer_of c = record { me = c.me; at = c.at; till = c.till; lag = c.lag }

-- the row by words: the wanted facts of which Start is the named support, and of which job a is
pub record RowOf (P : Problem) (s : Plan) (c : Consumer) (want : ℕ → Bool) (r : Row) : Type 0 where
  pub start : Word (λ p. want p && start_fits P s p c) r.start
  pub by : (a : ℕ) → a < P.count → Word (λ p. want p && is_job a (named P s p c)) (get_or r.by a 0)

-- row b of the table, by words
abbrev pub RowAt : Problem → (bound : ℕ) → Plan → ℕ → Row → Type 0
RowAt P bound s b r = RowOf P s (consumer P bound s (whose_row (eqb b P.count) b)) (wants P s (whose_row (eqb b P.count) b)) r
