-- Marks: when one is in range, when it is reached, and what they say of a fact. Definitions only.
use Rattle.std.specs.Prelude.{Bool, not, ◌&&◌, ◌||◌, cond, List, ℕ, min, eqb, leb, ltb, ℤ, pos, neg_ℤ, length, get_or}
use Rattle.std.specs.Int.Signed.{le_z, lt_z}
use Rattle.facts.specs.Least.{any}
use Rattle.readings.specs.declared.Mark.{Mark}

-- the marks lent: how many count, how many the shortest of the three tables holds, and each
pub record Marks : Type 0 where
  pub count : ℕ
  pub room : ℕ
  pub mark : ℕ → Mark

-- mark i of the three tables
abbrev pub mark_at : (channels : List ℕ) (levels : List ℤ) (facts : List ℕ) → ℕ → Mark
mark_at channels levels facts i = record { channel = get_or channels i 0; level = get_or levels i (pos 0); fact = get_or facts i 0 }

-- the marks of three tables that stand side by side
abbrev pub marks_of : (channels : List ℕ) (levels : List ℤ) (facts : List ℕ) (count : ℕ) → Marks
marks_of channels levels facts count = record {
  count = count;
  room = min (length channels) (min (length levels) (length facts));
  mark = mark_at channels levels facts;
}

-- no channel 0 or 1, no level from -1,000 to 1,000, or no fact below 64
abbrev pub outside : (channel : ℕ) (level : ℤ) (fact : ℕ) → Bool
outside channel level fact = ltb 1 channel || (lt_z level (neg_ℤ (pos 1000)) || (lt_z (pos 1000) level || leb 64 fact))

-- a mark out of range
abbrev pub bad : Mark → Bool
bad k = outside k.channel k.level k.fact

-- the tenths of a channel: 0 temperature, 1 humidity
abbrev pub on_channel : (temperature humidity : ℤ) (channel : ℕ) → ℤ
on_channel temperature humidity channel = cond (eqb channel 0) temperature humidity

-- a mark is reached when the tenths are at or above its level
abbrev pub reached : (temperature humidity : ℤ) → Mark → Bool
reached temperature humidity k = le_z k.level (on_channel temperature humidity k.channel)

-- a mark on fact p
abbrev pub on : ℕ → Mark → Bool
on p k = eqb p k.fact

-- a mark on fact p that is missed
abbrev pub missed : (temperature humidity : ℤ) → ℕ → Mark → Bool
missed temperature humidity p k = on p k && not (reached temperature humidity k)

-- fact p is marked
abbrev pub marked : Marks → ℕ → Bool
marked m p = any (λ i. on p (m.mark i)) m.count

-- every mark on fact p is reached: none is missed
abbrev pub met : (temperature humidity : ℤ) → Marks → ℕ → Bool
met temperature humidity m p = not (any (λ i. missed temperature humidity p (m.mark i)) m.count)
