-- Tidying: what is read is what was read before, a second tidying changes nothing, and what stands behind the bytes in use stays.
-- Assumes nothing.
use mathlib.Core.Path.{◌≡◌, sym, ap, ap₂, ◌∙◌}
use mathlib.Core.Logic.{⊎_elim}
use mathlib.Core.List.{List, ◌++◌}
use Prim.Native.Nat.{ℕ, ◌+◌, ◌-◌, ◌*◌, ◌≤◌, ◌<◌}
use native.Mathlib.Decide.{ℕ_discrete}
use native.Mathlib.Omega.{arith}
use lib.Dec.{ltb, ltb→lt}
use lib.ListN.{length, get_or, take, drop, replicate, length-append, length-drop, length-replicate, get_or-replicate, take-append-drop, get_or-append}
use lib.Seq.{length-take-le, take_at, drop_at, take-add, drop-drop, get_or-append-add}
use Rattle.facts.proofs.Bools.{or_cases, at_most}
use Rattle.refusals.specs.Refusals.{Verdict, accepted}
use Rattle.refusals.proofs.Refused.{if_checks, then_checks, if_pass, if_zero}
use Rattle.tables.specs.declared.Answer.{Answer}
use Rattle.tables.specs.Tables.{answer_of, changed}
use Rattle.tables.proofs.Laws.{accepts, changed_old, numbered}
use Rattle.jobfile.specs.Format.{trailer_at, trailer_in, ask_in, distance_in, save_length, records_in, table_in}
use Rattle.jobfile.specs.Calls.{record_checks, save_checks, read_checks, handed, handed_from, reading}
use Rattle.jobfile.specs.Tidy.{pulled, tidy_checks, Tidies}
use Rattle.jobfile.proofs.Checks.{read_checks_lem}
use Rattle.jobfile.proofs.Form.{Fine, fine}

-- ── a file and its last save ──

-- where the distance is in range, the records are what is checked
checks_records : (file : List ℕ) (room : ℕ) → length file ≤ 65536 → 24 ≤ length file → 32 * (ask_in (trailer_in file)).jobs ≤ distance_in (trailer_in file) → distance_in (trailer_in file) ≤ trailer_at file
    → read_checks file room ≡ record_checks (records_in file) (ask_in (trailer_in file)) room
unfolding read_checks save_checks
checks_records file room short long far near =
    if_pass _ 1 0 _ (λ h. omega (arith, ltb→lt 65536 (length file) h, short))
    ∙ if_pass _ 2 0 _ (λ h. omega (arith, ltb→lt (length file) 24 h, long))
    ∙ if_pass _ 2 0 _
    (λ h. ⊎_elim (λ x. omega (arith, ltb→lt (distance_in (trailer_in file)) (32 * (ask_in (trailer_in file)).jobs) x, far))
    (λ x. omega (arith, ltb→lt (trailer_at file) (distance_in (trailer_in file)) x, near))
    (or_cases (ltb (distance_in (trailer_in file)) (32 * (ask_in (trailer_in file)).jobs)) _ h))

module _ (file : List ℕ) (f : Fine file) where
  -- the last save by itself
  abbrev pub last_save : List ℕ
  last_save = drop (length file - save_length file) file

  pub last_long : length last_save ≡ save_length file
  last_long = omega (arith, length-drop (length file - save_length file) file, f.near, f.long)

  pub same_trailer : trailer_in last_save ≡ trailer_in file
  same_trailer =
      let e : length file - save_length file + trailer_at last_save ≡ trailer_at file = omega (arith, last_long, f.near, f.long) in
      drop-drop (trailer_at last_save) (length file - save_length file) file ∙ ap (λ (n : ℕ). drop n file) e

  same_records : records_in last_save ≡ records_in file
  same_records =
      let z : trailer_at last_save - distance_in (trailer_in file) ≡ 0 = omega (arith, last_long) in
      let e : length file - save_length file ≡ trailer_at file - distance_in (trailer_in file) = omega (arith, f.near, f.long) in
      ap (λ (t : List ℕ). take (32 * (ask_in t).jobs) (drop (trailer_at last_save - distance_in t) last_save)) same_trailer
      ∙ ap (λ (n : ℕ). take (32 * (ask_in (trailer_in file)).jobs) (drop n last_save)) z
      ∙ ap (λ (n : ℕ). take (32 * (ask_in (trailer_in file)).jobs) (drop n file)) e

  same_checks : (room : ℕ) → read_checks last_save room ≡ read_checks file room
  same_checks room =
      let n = ap (λ (t : List ℕ). (ask_in t).jobs) same_trailer in
      let d = ap distance_in same_trailer in
      checks_records last_save room (omega (arith, last_long, f.short, f.near, f.long)) (omega (arith, last_long)) (omega (arith, n, d, f.far)) (omega (arith, d, last_long))
      ∙ ap₂ (λ (rs : List ℕ) (t : List ℕ). record_checks rs (ask_in t) room) same_records same_trailer
      ∙ sym (checks_records file room f.short f.long f.far f.near)

  -- it is read as the file is, for every number of records lent
  pub same_reading : (room : ℕ) → reading last_save room ≡ reading file room
  same_reading room =
      ap (λ (v : Verdict). handed_from v last_save room) (same_checks room)
      ∙ ap₂ (λ (rs : List ℕ) (t : List ℕ). handed (read_checks file room) (ask_in t) (table_in rs (ask_in t).jobs room)) same_records same_trailer

-- ── bytes moved to the front ──

module _ (n used : ℕ) (xs : List ℕ) (l : n ≤ used) (m : used ≤ length xs) where
  abbrev front : List ℕ
  front = take n (drop (used - n) xs)

  front_long : length front ≡ n
  front_long = length-take-le n (drop (used - n) xs) (omega (arith, length-drop (used - n) xs))

  abbrev rest : List ℕ
  rest = replicate (used - n) 0 ++ drop used xs

  pub length_pulled : length (pulled n used xs) ≡ length xs
  length_pulled = omega (arith, length-append front rest, front_long, length-append (replicate (used - n) 0) (drop used xs), length-replicate {A = ℕ} (used - n) 0, length-drop used xs)

  -- the last of the bytes in use
  pub pulled_front : take n (pulled n used xs) ≡ drop (used - n) (take used xs)
  pulled_front =
      let e : used ≡ used - n + n = omega arith in
      take_at front rest n front_long
      ∙ sym (ap (λ (k : ℕ). drop (used - n) (take k xs)) e ∙ ap (drop (used - n)) (take-add (used - n) n xs) ∙ drop_at (take (used - n) xs) front (used - n) (length-take-le (used - n) xs (omega arith)))

  pub pulled_zeros : (i : ℕ) → n ≤ i → i < used → get_or (pulled n used xs) i 0 ≡ 0
  pulled_zeros i a b =
      let e : i ≡ length front + (i - n) = omega (arith, front_long) in
      ap (λ (k : ℕ). get_or (pulled n used xs) k 0) e
      ∙ get_or-append-add front rest (i - n) 0
      ∙ get_or-append (replicate (used - n) 0) (drop used xs) 0 (i - n) (omega (arith, length-replicate {A = ℕ} (used - n) 0))
      ∙ get_or-replicate (used - n) (i - n) 0 0 (omega arith)

  pub pulled_behind : drop used (pulled n used xs) ≡ drop used xs
  pulled_behind =
      let e : used ≡ n + (used - n) = omega arith in
      ap (λ (k : ℕ). drop k (pulled n used xs)) e
      ∙ sym (drop-drop (used - n) n (pulled n used xs))
      ∙ ap (drop (used - n)) (drop_at front rest n front_long)
      ∙ drop_at (replicate (used - n) 0) (drop used xs) (used - n) (length-replicate {A = ℕ} (used - n) 0)

  -- moved once more, they are where they were
  pub pulled_again : pulled n n (pulled n used xs) ≡ pulled n used xs
  pulled_again =
      let z : n - n ≡ 0 = omega arith in
      ap (λ (k : ℕ). take n (drop k (pulled n used xs)) ++ (replicate k 0 ++ drop n (pulled n used xs))) z ∙ take-append-drop n (pulled n used xs)

-- ── what the checks passed ──

pub tidy_accepts : (used : ℕ) (buf : List ℕ) → (tidy_checks used buf).number ≡ 0 → tidy_checks used buf ≡ accepted
unfolding tidy_checks read_checks save_checks
tidy_accepts used buf z = accepts (then_checks (if_checks (ltb 65536 used) 1 0 (omega arith)) (then_checks (if_checks (ltb (length buf) used) 3 0 (omega arith)) (read_checks_lem (take used buf) 255))) z

record Took (used : ℕ) (buf : List ℕ) : Type 0 where
  short : used ≤ 65536
  room : used ≤ length buf
  reads : read_checks (take used buf) 255 ≡ accepted

took : (used : ℕ) (buf : List ℕ) → tidy_checks used buf ≡ accepted → Took used buf
unfolding tidy_checks
took used buf h =
    let a = if_zero (ltb 65536 used) 1 0 _ (omega arith) h in
    let b = if_zero (ltb (length buf) used) 3 0 _ (omega arith) a.1 in
    record { short = at_most 65536 used a.0; room = at_most (length buf) used b.0; reads = b.1 }

-- so the bytes in use are a file in form
pub tidy_fine : (used : ℕ) (buf : List ℕ) → tidy_checks used buf ≡ accepted → Fine (take used buf)
tidy_fine used buf h = fine (take used buf) 255 (took used buf h).reads

-- where as many bytes are there as are said to be in use, the checks are those of a reader
pub tidy_reads : (used : ℕ) (buf : List ℕ) → used ≤ 65536 → used ≤ length buf → tidy_checks used buf ≡ read_checks (take used buf) 255
unfolding tidy_checks
tidy_reads used buf short room = if_pass _ 1 0 _ (λ h. omega (arith, ltb→lt 65536 used h, short)) ∙ if_pass _ 3 0 _ (λ h. omega (arith, ltb→lt (length buf) used h, room))

-- ── a buffer that was tidied ──

module _ (used : ℕ) (old new : List ℕ) (r : Answer) (x : Tidies used old new r) where
  -- a refusal changes no byte
  pub refused_same : (r.number ≡ 0 → ⊥) → new ≡ old
  refused_same n = x.bytes ∙ changed_old (tidy_checks used old) _ old (λ z. n (numbered (save_length (take used old)) 0 x.says ∙ z))

  module _ (z : r.number ≡ 0) where
    abbrev file : List ℕ
    file = take used old

    passes : tidy_checks used old ≡ accepted
    passes = tidy_accepts used old (sym (numbered (save_length file) 0 x.says) ∙ z)

    checked : Took used old
    checked = took used old passes

    in_form_lem : Fine file
    in_form_lem = tidy_fine used old passes

    long : length file ≡ used
    long = length-take-le used old checked.room

    answer_is : r ≡ answer_of accepted (save_length file) 0
    answer_is = x.says ∙ ap (λ (v : Verdict). answer_of v (save_length file) 0) passes

    new_is : new ≡ pulled (save_length file) used old
    new_is = x.bytes ∙ ap (λ (v : Verdict). changed v (pulled (save_length file) used old) old) passes

    -- the value is the length of the last save, which is no longer than what was in use
    pub value_is : r.value ≡ save_length file
    value_is = ap (λ (a : Answer). a.value) answer_is

    pub no_longer : r.value ≤ used
    no_longer = omega (arith, value_is, in_form_lem.near, in_form_lem.long, long)

    within : save_length file ≤ used
    within = omega (arith, value_is, no_longer)

    -- the first bytes, up to the value, are the last save
    pub front_is : take r.value new ≡ drop (length file - save_length file) file
    front_is =
        ap₂ (λ (n : ℕ) (ys : List ℕ). take n ys) value_is new_is
        ∙ pulled_front (save_length file) used old within checked.room
        ∙ ap (λ (n : ℕ). drop (n - save_length file) file) (sym long)

    -- reading after is reading before, however many records are lent
    pub read_as_before : (room : ℕ) → reading (take r.value new) room ≡ reading file room
    read_as_before room = ap (λ (ys : List ℕ). reading ys room) front_is ∙ same_reading file in_form_lem room

    -- zeros from there up to where the bytes in use ended
    pub zeros_behind : (i : ℕ) → r.value ≤ i → i < used → get_or new i 0 ≡ 0
    zeros_behind i a b = ap (λ (ys : List ℕ). get_or ys i 0) new_is ∙ pulled_zeros (save_length file) used old within checked.room i (omega (arith, value_is, a)) b

    length_new : length new ≡ length old
    length_new = ap length new_is ∙ length_pulled (save_length file) used old within checked.room

    -- a second tidying says the same
    again_reads : tidy_checks r.value new ≡ accepted
    again_reads =
        tidy_reads r.value new (omega (arith, no_longer, checked.short)) (omega (arith, no_longer, length_new, checked.room))
        ∙ ap (λ (ys : List ℕ). read_checks ys 255) front_is
        ∙ same_checks file in_form_lem 255
        ∙ checked.reads

    again_long : save_length (take r.value new) ≡ save_length file
    again_long = ap save_length front_is ∙ ap (λ (t : List ℕ). distance_in t + 24) (same_trailer file in_form_lem)

    -- and changes nothing
    pub tidied_twice : (new' : List ℕ) (r' : Answer) → Tidies r.value new new' r' → (r' ≡ r) × (new' ≡ new)
    tidied_twice new' r' y = (
      y.says ∙ ap₂ (λ (v : Verdict) (n : ℕ). answer_of v n 0) again_reads again_long ∙ sym answer_is,
      y.bytes
          ∙ ap₂ (λ (v : Verdict) (n : ℕ). changed v (pulled n r.value new) new) again_reads again_long
          ∙ ap₂ (λ (n : ℕ) (ys : List ℕ). pulled (save_length file) n ys) value_is new_is
          ∙ pulled_again (save_length file) used old within checked.room
          ∙ sym new_is,
    )

  -- what stood behind the bytes in use is untouched, on refusal too
  pub behind_stays : drop used new ≡ drop used old
  behind_stays = go (ℕ_discrete r.number 0)
    where
      go : Dec (r.number ≡ 0) → drop used new ≡ drop used old
      go (yes z) = ap (drop used) (new_is z) ∙ pulled_behind (save_length (take used old)) used old (within z) (checked z).room
      go (no n) = ap (drop used) (refused_same n)
