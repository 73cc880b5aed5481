-- Opening facts from a bench reading, refusals included.
-- Assumes nothing.
use Rattle.std.specs.Prelude.{◌≡◌, Bool, not, cond, ℕ, zero, suc, ◌^◌, eqb, ltb, ℤ}
use Rattle.std.specs.Int.Bits.{bit_or}
use Rattle.facts.specs.Facts.{has}
use Rattle.refusals.specs.Refusals.{Verdict, accepted, refuse_if, refuse_at}
use Rattle.tenths.specs.Tenths.{in_range, tenths}
use Rattle.readings.specs.declared.BenchReading.{BenchReading}
use Rattle.readings.specs.declared.Opening.{Opening}
use Rattle.readings.specs.Marks.{Marks, bad, marked, met}

-- a marked fact is set if every mark on it is reached, else cleared; other facts stay as given
abbrev pub opened : (temperature humidity : ℤ) → Marks → (given : ℕ) → ℕ → Bool
opened temperature humidity m given p = cond (marked m p) (met temperature humidity m p) (has given p)

-- the word of the facts below n that pass the test
unfoldable pub word_of : (ℕ → Bool) → ℕ → ℕ
word_of f zero = 0
word_of f (suc p) = bit_or (word_of f p) (cond (f p) (2 ^ p) 0)

-- check 18 of each mark: the lowest out of range
unfoldable pub mark_checks : Marks → Verdict → Verdict
mark_checks m next = refuse_at (λ i. bad (m.mark i)) m.count 18 next

-- checks 3, 17 and 18 in this order
unfoldable pub opening_checks : BenchReading → Marks → Verdict → Verdict
opening_checks r m next =
    refuse_if (ltb m.room m.count) 3 0
    (refuse_if (not (in_range r.temperature)) 17 0
    (refuse_if (not (in_range r.humidity)) 17 1
    (refuse_if (ltb 16 m.count) 18 16
    (mark_checks m next))))

-- what comes back: the verdict, and the facts opened, or those given on refusal
abbrev pub opening_answer : Verdict → (opened given : ℕ) → Opening
opening_answer v facts given = record { number = v.number; second = v.second; place = v.place; facts = cond (eqb v.number 0) facts given }

-- the promise of `opening_facts`
abbrev pub Opens : BenchReading → Marks → (given : ℕ) → Opening → Type 0
Opens r m given a = a ≡ opening_answer (opening_checks r m accepted) (word_of (opened (tenths r.temperature) (tenths r.humidity) m given) 64) given
