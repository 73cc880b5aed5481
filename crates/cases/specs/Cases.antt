-- P1 to P11 of 01 and the numbers of 02 as one table. What a line claims of the rules is said in Claims.
-- Assumes nothing.
use Rattle.std.specs.Prelude.{List, [], ◌∷◌, ℕ, ◌+◌, pos, neg_ℤ}
use Prim.Native.String.{String}
use Rattle.refusals.specs.Refusals.{accepted, refused}
use Rattle.rules.specs.declared.Hindrance.TheVariants.{Never, TooDear, Neither}
use Rattle.rules.specs.Table.{Problem}
use Rattle.tenths.specs.Rounding.{float}
use Rattle.cases.specs.Jobs.{action, problem_of, lasting, landing}
use Rattle.cases.specs.Claims.{Claim, plans, no_plan, least, touching, offered, clashing, binding, tenths, estimates, explains, hinders, finishes, overruns, makes, entered, tells, says, misses, misnames, takes, refuses}
use Rattle.tables.specs.declared.Action.{Action}

-- ── jobs U ──

-- job 0
abbrev pub unpack : Action
unpack = action (0 ∷ []) (1 ∷ []) (0 ∷ []) 4

-- job 1
abbrev pub drench : Action
drench = action (1 ∷ []) (2 ∷ []) [] 2

-- job 2
abbrev pub warm : Action
warm = action (1 ∷ []) (3 ∷ []) [] 8

-- job 3
abbrev pub wash : Action
wash = action (1 ∷ []) (4 ∷ []) (2 ∷ []) 3

-- all four jobs with this atom count, open {0}
abbrev pub counting : (atoms : ℕ) (goals : List ℕ) → Problem
counting atoms goals = problem_of (unpack ∷ drench ∷ warm ∷ wash ∷ []) atoms (0 ∷ []) goals

-- their names
abbrev pub names_u : List String
names_u = "unpack" ∷ "drench" ∷ "warm" ∷ "wash" ∷ []

-- five facts, by rule 1
abbrev pub U : (goals : List ℕ) → Problem
U goals = counting 5 goals

-- the same by rule 2
abbrev pub gapped : (goals : List ℕ) → Problem
gapped goals = counting (128 + 5) goals

-- the same with warm this long
abbrev pub warming : (long : ℕ) → Problem
warming long = problem_of (unpack ∷ drench ∷ lasting long warm ∷ wash ∷ []) 5 (0 ∷ []) (3 ∷ [])

-- jobs U, goals {2, 3, 4}, with warm released then
abbrev pub warm_from : (release : ℕ) → Problem
warm_from release = problem_of (unpack ∷ drench ∷ landing release warm ∷ wash ∷ []) 5 (0 ∷ []) (2 ∷ 3 ∷ 4 ∷ [])

-- ── the jobs of P8, in the order of their numbers ──

-- job 0 of P8
abbrev pub go : Action
go = action (0 ∷ []) (1 ∷ []) (0 ∷ []) 1

-- job 1
abbrev pub back : Action
back = action (1 ∷ []) (0 ∷ []) (1 ∷ []) 1

-- job 2
abbrev pub drop : Action
drop = action (1 ∷ []) (2 ∷ []) [] 1

-- job 3
abbrev pub pick : Action
pick = action (0 ∷ 2 ∷ []) (3 ∷ []) [] 1

-- the table of P8: four facts, open {0}, goals {1, 3}
abbrev pub trolley : Problem
trolley = problem_of (go ∷ back ∷ drop ∷ pick ∷ []) 4 (0 ∷ []) (1 ∷ 3 ∷ [])

-- a job that needs fact 3 and adds fact 0, and one that deletes both
abbrev pub both : Problem
both = problem_of (action (3 ∷ []) (0 ∷ []) [] 1 ∷ action [] [] (0 ∷ 3 ∷ []) 1 ∷ []) 4 [] []

-- two jobs with the record of go, which deletes its own condition
abbrev pub twice : Problem
twice = problem_of (go ∷ go ∷ []) 4 [] []

-- a job that is out
abbrev pub out : ℕ
out = 65535

-- ── the table ──

-- every P case, in the order of 01, then those of 02
unfoldable pub cases : List Claim
cases =
    -- P1: goals {2, 3}, bound 12: starts 0, 4, 4, out
    plans (U (2 ∷ 3 ∷ [])) 12 (0 ∷ 4 ∷ 4 ∷ out ∷ [])
    -- P2: the same, bound 11: refusal 10
    ∷ no_plan (U (2 ∷ 3 ∷ [])) 11
    -- P3: goals {2, 3, 4}: least bound 12, starts 0, 7, 4, 4
    ∷ least (U (2 ∷ 3 ∷ 4 ∷ [])) 12 (0 ∷ 7 ∷ 4 ∷ 4 ∷ [])
    -- P3: drench touches wash, and the plan is valid
    ∷ touching (U (2 ∷ 3 ∷ 4 ∷ [])) 12 (0 ∷ 7 ∷ 4 ∷ 4 ∷ []) 3 1
    -- P4: that plan with drench at 6: refusal 12, place 1; Three: the fact is 2
    ∷ offered (U (2 ∷ 3 ∷ 4 ∷ [])) 12 (0 ∷ 6 ∷ 4 ∷ 4 ∷ []) 12 2 1
    -- P5: goals {0}, bound 0: all out
    ∷ plans (U (0 ∷ [])) 0 (out ∷ out ∷ out ∷ out ∷ [])
    -- P6: goals {0, 1}, bound 2,880: refusal 10
    ∷ no_plan (U (0 ∷ 1 ∷ [])) 2880
    -- P7: no jobs, two facts, bound 0, goals empty: the empty plan
    ∷ plans (problem_of [] 2 (0 ∷ []) []) 0 []
    -- P7: goals {1}, open {0}: refusal 10
    ∷ no_plan (problem_of [] 2 (0 ∷ []) (1 ∷ [])) 0
    -- P8: bound 12: refusal 10, since go is wanted twice
    ∷ no_plan trolley 12
    -- P9, as Two amends it: 24.000000000000004 and 23.999999999999996 have 240 tenths
    ∷ tenths (float 0x4038_0000_0000_0001) (pos 240)
    ∷ tenths (float 0x4037_ffff_ffff_ffff) (pos 240)
    -- P10: negative zero has 0
    ∷ tenths (float 0x8000_0000_0000_0000) (pos 0)
    -- P10: -0.05 has -1
    ∷ tenths (float 0xbfa9_9999_9999_999a) (neg_ℤ (pos 1))
    -- P10, as Two amends it: the negative float nearest zero has 0
    ∷ tenths (float 0x8000_0000_0000_0001) (pos 0)
    -- P11: duration 960 is taken
    ∷ takes (warming 960) 12
    -- P11: 961 is refused with 6 and the job's place
    ∷ refuses (warming 961) 12 6 2
    -- P11: bound 2,880 is taken
    ∷ takes (U (2 ∷ 3 ∷ [])) 2880
    -- P11: 2,881 is refused with 9
    ∷ refuses (U (2 ∷ 3 ∷ [])) 2881 9 0
    -- Two: 2.3 has 23
    ∷ tenths (float 0x4002_6666_6666_6666) (pos 23)
    -- Two: 0.25 has 3, -0.25 has -2: halves go up
    ∷ tenths (float 0x3fd0_0000_0000_0000) (pos 3)
    ∷ tenths (float 0xbfd0_0000_0000_0000) (neg_ℤ (pos 2))
    -- Five: warm released at 6: least bound 14, starts 0, 7, 6, 4
    ∷ least (warm_from 6) 14 (0 ∷ 7 ∷ 6 ∷ 4 ∷ [])
    -- Five: the estimates are 0, 4, 6, 4
    ∷ estimates (warm_from 6) (0 ∷ 4 ∷ 6 ∷ 4 ∷ [])
    -- Five: that plan with warm at 5: refusal 21, place 2
    ∷ offered (warm_from 6) 14 (0 ∷ 7 ∷ 5 ∷ 4 ∷ []) 21 0 2
    -- Five: release 2,880 is taken
    ∷ takes (warm_from 2880) 12
    -- Five: 2,881 is refused with 20 and the job's place
    ∷ refuses (warm_from 2881) 12 20 2
    -- Nine: P3 by rule 2: least bound 13, starts 0, 9, 5, 5
    ∷ least (gapped (2 ∷ 3 ∷ 4 ∷ [])) 13 (0 ∷ 9 ∷ 5 ∷ 5 ∷ [])
    -- Nine: within 12 there is no plan
    ∷ no_plan (gapped (2 ∷ 3 ∷ 4 ∷ [])) 12
    -- Nine: the pairs that bind are those of P3: 0-1, 0-2, 0-3, 3-1
    ∷ binding (U (2 ∷ 3 ∷ 4 ∷ [])) (0 ∷ 7 ∷ 4 ∷ 4 ∷ []) (0 ∷ 1 ∷ 0 ∷ 2 ∷ 0 ∷ 3 ∷ 3 ∷ 1 ∷ [])
    ∷ binding (gapped (2 ∷ 3 ∷ 4 ∷ [])) (0 ∷ 9 ∷ 5 ∷ 5 ∷ []) (0 ∷ 1 ∷ 0 ∷ 2 ∷ 0 ∷ 3 ∷ 3 ∷ 1 ∷ [])
    -- Nine: the estimates are 0, 5, 5, 5
    ∷ estimates (gapped (2 ∷ 3 ∷ 4 ∷ [])) (0 ∷ 5 ∷ 5 ∷ 5 ∷ [])
    -- Nine: that plan with drench at 8, where it touches wash: refusal 12, place 1, and the fact of P4
    ∷ offered (gapped (2 ∷ 3 ∷ 4 ∷ [])) 13 (0 ∷ 8 ∷ 5 ∷ 5 ∷ []) 12 2 1
    -- Nine: the atom counts 128, 193 and 255 are refused with 4, 192 is 64 facts by rule 2
    ∷ refuses (counting 128 []) 12 4 0
    ∷ refuses (counting 193 []) 12 4 0
    ∷ refuses (counting 255 []) 12 4 0
    ∷ takes (counting 192 []) 12
    -- Three: wash deletes fact 2, which drench adds; the same the other way round
    ∷ clashing (U []) 1 3 2 2
    ∷ clashing (U []) 3 1 2 2
    -- Three: unpack and warm do not clash: kind 0, fact 64
    ∷ clashing (U []) 0 2 0 64
    -- Three: a condition comes first, though the fact of the addition is lower
    ∷ clashing both 0 1 1 3
    -- Three: two jobs with one record that deletes its own condition clash over it
    ∷ clashing twice 0 1 1 0
    -- Ten: settled with the pairs of P3, drench starts at 7 behind wash, which is behind unpack
    ∷ explains (U []) (0 ∷ 1 ∷ 2 ∷ 3 ∷ []) (0 ∷ 1 ∷ 0 ∷ 2 ∷ 0 ∷ 3 ∷ 3 ∷ 1 ∷ []) 12 1 (0 ∷ 7 ∷ 4 ∷ 4 ∷ []) (0 ∷ 3 ∷ 1 ∷ [])
    -- Ten: by rule 2 at 9, for the same reason
    ∷ explains (gapped []) (0 ∷ 1 ∷ 2 ∷ 3 ∷ []) (0 ∷ 1 ∷ 0 ∷ 2 ∷ 0 ∷ 3 ∷ 3 ∷ 1 ∷ []) 13 1 (0 ∷ 9 ∷ 5 ∷ 5 ∷ []) (0 ∷ 3 ∷ 1 ∷ [])
    -- Ten: warm released at 4 starts there, and unpack, behind which it is asked, is not named
    ∷ explains (warm_from 4) (0 ∷ 2 ∷ []) (0 ∷ 2 ∷ []) 12 2 (0 ∷ out ∷ 4 ∷ out ∷ []) (2 ∷ [])
    -- Ten: go and back both fit before drop: the lowest is named, though it is asked last
    ∷ explains trolley (0 ∷ 1 ∷ 2 ∷ []) (1 ∷ 2 ∷ 0 ∷ 2 ∷ []) 12 2 (0 ∷ 0 ∷ 1 ∷ out ∷ []) (0 ∷ 2 ∷ [])
    -- Ten: P2: fact 3 is too dear
    ∷ hinders (U (2 ∷ 3 ∷ [])) 11 (TooDear 3)
    -- Ten: P6: neither
    ∷ hinders (U (0 ∷ 1 ∷ [])) 2880 Neither
    -- Ten: P7: fact 1 is never reachable
    ∷ hinders (problem_of [] 2 (0 ∷ []) (1 ∷ [])) 0 (Never 1)
    -- Twelve: P3's plan: 12, with one quarter hour each 15, with 96 each 300; the longest chain is unpack, wash, drench
    ∷ finishes (U (2 ∷ 3 ∷ 4 ∷ [])) 12 (0 ∷ 7 ∷ 4 ∷ 4 ∷ []) 0 12
    ∷ finishes (U (2 ∷ 3 ∷ 4 ∷ [])) 12 (0 ∷ 7 ∷ 4 ∷ 4 ∷ []) 1 15
    ∷ finishes (U (2 ∷ 3 ∷ 4 ∷ [])) 12 (0 ∷ 7 ∷ 4 ∷ 4 ∷ []) 96 300
    -- Twelve: by rule 2 its plan is finished by 13, with one quarter hour each by 16
    ∷ finishes (gapped (2 ∷ 3 ∷ 4 ∷ [])) 13 (0 ∷ 9 ∷ 5 ∷ 5 ∷ []) 1 16
    -- Twelve: with warm from 6 on by 14, though no pair asks for more than 12
    ∷ finishes (warm_from 6) 20 (0 ∷ 7 ∷ 6 ∷ 4 ∷ []) 0 14
    -- Twelve: a plan that itself ends at 18 is settled by 12
    ∷ finishes (U (2 ∷ 3 ∷ 4 ∷ [])) 20 (1 ∷ 9 ∷ 10 ∷ 5 ∷ []) 0 12
    -- Twelve: unpack alone is a chain of one, and the empty plan of P5 finishes at 0
    ∷ finishes (U (1 ∷ [])) 4 (0 ∷ out ∷ out ∷ out ∷ []) 1 5
    ∷ finishes (U (0 ∷ [])) 0 (out ∷ out ∷ out ∷ out ∷ []) 96 0
    -- Twelve: 96 quarter hours are taken, 97 refused with 34
    ∷ overruns 96 accepted
    ∷ overruns 97 (refused 34 0)
    -- Thirteen: a batch of group 1 and one of group 0: a stage, a stage that holds the bay, its clearing job, and the other batch's stage
    ∷ makes (1 ∷ 0 ∷ []) (action [] (1 ∷ []) [] 4 ∷ action (1 ∷ 0 ∷ []) (2 ∷ []) (0 ∷ []) 3 ∷ action (2 ∷ []) (0 ∷ []) [] 1 ∷ action [] (3 ∷ []) [] 4 ∷ []) 4 (3 ∷ 2 ∷ [])
    -- Thirteen: no batches
    ∷ makes [] [] 1 []
    -- Thirteen: four of group 7 have 24 jobs and are taken with a record for each, 10 10 10 1 have more and are refused with 30
    ∷ entered (7 ∷ 7 ∷ 7 ∷ 7 ∷ []) 24 accepted
    ∷ entered (7 ∷ 7 ∷ 7 ∷ 7 ∷ []) 23 (refused 3 0)
    ∷ entered (10 ∷ 10 ∷ 10 ∷ 1 ∷ []) 0 (refused 30 0)
    -- Thirteen: five batches are refused with 29, with an unknown group among them, also as the fifth, with 28
    ∷ entered (0 ∷ 0 ∷ 0 ∷ 0 ∷ 0 ∷ []) 0 (refused 29 4)
    ∷ entered (0 ∷ 0 ∷ 0 ∷ 0 ∷ 12 ∷ []) 0 (refused 28 4)
    ∷ entered (10 ∷ 255 ∷ 12 ∷ 10 ∷ []) 0 (refused 28 1)
    -- Eight: the text of P3's plan with the names of 01 has 92 letters
    ∷ tells (U (2 ∷ 3 ∷ 4 ∷ [])) names_u 12 (0 ∷ 7 ∷ 4 ∷ 4 ∷ []) "0.000: (unpack) [4.000]\n4.000: (warm) [8.000]\n4.000: (wash) [3.000]\n7.000: (drench) [2.000]\n" 92
    -- Eight: 04 and 4.0 are 4, no lines are the empty plan, and 2,880 is taken
    ∷ says (U []) names_u "04: (warm) [8.0]\n" (out ∷ out ∷ 4 ∷ out ∷ [])
    ∷ says (U []) names_u "" (out ∷ out ∷ out ∷ out ∷ [])
    ∷ says (U []) names_u "2880: (warm) [8]\n" (out ∷ out ∷ 2880 ∷ out ∷ [])
    -- Eight: 2,881, five digits, `4.`, `.0`, a line without its newline and an empty line are refused with 23
    ∷ misses (U []) names_u "2881: (warm) [8]\n" 23 0
    ∷ misses (U []) names_u "00004: (warm) [8]\n" 23 0
    ∷ misses (U []) names_u "4.: (warm) [8]\n" 23 0
    ∷ misses (U []) names_u ".0: (warm) [8]\n" 23 0
    ∷ misses (U []) names_u "4: (warm) [8]" 23 0
    ∷ misses (U []) names_u "\n" 23 0
    -- Eight: a name of 17 letters and one with a capital are outside the form, another name is unknown
    ∷ misses (U []) names_u "4: (warmwarmwarmwarmw) [8]\n" 23 0
    ∷ misses (U []) names_u "4: (Warm) [8]\n" 23 0
    ∷ misses (U []) names_u "4: (rinse) [8]\n" 24 0
    -- Eight: another duration
    ∷ misses (U []) names_u "4: (warm) [9]\n" 26 0
    -- Eight: of two names alike the lower is told; an empty name, a capital
    ∷ misnames ("wash" ∷ "warm" ∷ "drench" ∷ "warm" ∷ []) 1
    ∷ misnames ("wash" ∷ "" ∷ []) 1
    ∷ misnames ("wash" ∷ "Warm" ∷ []) 1
    ∷ []
