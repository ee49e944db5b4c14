-- The questions of document 01, in its order.
use Rattle.std.specs.Prelude.{ℕ, suc, ◌+◌, ◌^◌, min, ◌-◌, Bool, true, false, not, ◌&&◌, List, [], ◌∷◌, ℤ, pos, length, get_or, take, drop, eqb, leb, ltb, Option, Some, None}
use Rattle.std.specs.Int.Signed.{le_z, lt_z}
use Rattle.num.specs.Numbers.{saturated, larger_of}
use Rattle.column.specs.Lists.{any, parts}
use Rattle.column.specs.Runs.{Sequence, to_nat}
use Rattle.column.specs.Asking.{Question, refusal, ◌unless◌, first_no, each, refused_in_key}

-- ---- 1 UnknownCode

-- is the code one of those from low to high?
unfoldable pub listed : ℕ → ℕ → ℕ → Question
listed low high code = refusal 1 (pos code ∷ []) unless leb low code && leb code high

-- is every mask byte 0 or 1? "lowest index"
unfoldable pub mask_listed : List ℕ → Question
mask_listed mask = each (λ i. listed 0 1) mask

-- ---- 2 LengthMismatch

-- do two lengths that belong together agree?
unfoldable pub agree : ℕ → ℕ → ℕ → Question
agree what left right = refusal 2 (pos what ∷ pos left ∷ pos right ∷ []) unless eqb left right

-- what 3: ends, values
unfoldable pub paired : Sequence → Question
paired s = agree 3 (length s.ends) (length s.values)

-- what 6: mask, runs − 1 ("0 for no runs")
unfoldable pub mask_agrees : List ℕ → List ℤ → Question
mask_agrees mask ends = agree 6 (length mask) (length ends - 1)

-- what 5: used count, shorter buffer ("no only if the count is larger")
unfoldable pub used_within : ℕ → ℕ → ℕ → Question
used_within used ends values = refusal 2 (pos 5 ∷ pos used ∷ pos (min ends values) ∷ []) unless leb used (min ends values)

-- ---- 3 InvalidOffsets

-- from a on the offsets never fall
abbrev pub rise : ℕ → List ℕ → Bool
rise a [] = true
rise a (b ∷ os) = leb a b && rise b os

-- do offsets exist, start at 0 and never fall?
abbrev pub start_and_rise : List ℕ → Bool
start_and_rise [] = false
start_and_rise (a ∷ os) = eqb a 0 && rise a os

-- the last, or a
abbrev pub last_offset : ℕ → List ℕ → ℕ
last_offset a [] = a
last_offset a (b ∷ os) = last_offset b os

-- as far as that where a call is handed no ends
unfoldable pub offsets_rise : List ℕ → Question
offsets_rise os = refusal 3 [] unless start_and_rise os

-- and finish at the number of ends?
unfoldable pub offsets_valid : List ℕ → ℕ → Question
offsets_valid os n = refusal 3 [] unless start_and_rise os && eqb (last_offset 0 os) n

-- ---- 4 InvalidEnds

-- is each end, from index i on, above the one before it?
unfoldable pub ends_from : ℕ → ℤ → List ℤ → Question
ends_from i before [] = None
ends_from i before (e ∷ es) = first_no ((refusal 4 (pos i ∷ []) unless lt_z before e) ∷ ends_from (suc i) e es ∷ [])

-- are ends valid, "the first above 0, each above the one before"?
unfoldable pub ends_valid : List ℤ → Question
ends_valid es = ends_from 0 (pos 0) es

-- of the sequence at position p
abbrev pub sequence_at : ℕ → List ℤ → Question
sequence_at p es = refused_in_key p (ends_valid es)

-- of sequences laid flat: the lowest position, and the "index within its sequence"
unfoldable pub sequences_valid : List ℕ → List ℤ → Question
sequences_valid os es = each sequence_at (parts os es)

-- ---- 5 TooMany

-- has a many_way call at most so many sequences?
unfoldable pub at_most : ℕ → ℕ → Question
at_most limit k = refusal 5 (pos k ∷ []) unless leb k limit

-- ---- 6 NegativeRun, 7 Overflow

-- is the run not negative?
unfoldable pub not_negative : ℕ → ℤ → Question
not_negative i run = refusal 6 (pos i ∷ run ∷ []) unless le_z (pos 0) run

-- does the new length fit i64?
unfoldable pub fits : ℕ → Question
fits n = refusal 7 [] unless ltb n (2 ^ 63)

-- "In `from_runs` 6 and 7 are asked run by run": from run i on, the length so far being p
unfoldable pub run_by_run : ℕ → ℕ → List ℤ → Question
run_by_run i p [] = None
run_by_run i p (run ∷ rs) = first_no (not_negative i run ∷ fits (p + to_nat run) ∷ run_by_run (suc i) (p + to_nat run) rs ∷ [])

-- ---- 8 DuplicateKey

-- does the key at i not stand before it too?
unfoldable pub distinct_at : List ℕ → ℕ → ℕ → Question
distinct_at ks i k = refusal 8 (pos i ∷ []) unless not (any (eqb k) (take i ks))

-- is no key given twice? "position of the second"
unfoldable pub distinct_keys : List ℕ → Question
distinct_keys ks = each (distinct_at ks) ks

-- ---- 9 InvalidInterval

-- is the interval at i 0 ≤ start ≤ end? "index, start, end"
unfoldable pub interval_at : List ℤ → ℕ → ℤ → Question
interval_at ends i start = let end = get_or ends i (pos 0) in refusal 9 (pos i ∷ start ∷ end ∷ []) unless le_z (pos 0) start && le_z start end

-- is each interval?
unfoldable pub intervals : List ℤ → List ℤ → Question
intervals starts ends = each (interval_at ends) starts

-- ---- 10 UnequalLength

-- a side: its length, and what stands where it has ended
pub record Side : Type 0 where
  pub length : ℤ
  pub fill : Option ℤ

abbrev pub side : ℤ → Option ℤ → Side
side n fill = record { length = n; fill = fill }

abbrev pub is_missing : Option ℤ → Bool
is_missing None = true
is_missing (Some v) = false

-- the greatest length
abbrev pub longest : List Side → ℤ
longest [] = pos 0
longest (s ∷ ss) = larger_of s.length (longest ss)

-- is a side shorter than n that lacks its fill
abbrev pub lacking : ℤ → List Side → Bool
lacking n sides = any (λ (s : Side). lt_z s.length n && is_missing s.fill) sides

-- is there a fill for every shorter side? The two lengths are those that the refusal shows
unfoldable pub filled : ℤ → ℤ → List Side → Question
filled left right sides = refusal 10 (left ∷ right ∷ []) unless not (lacking (longest sides) sides)

-- ---- 11 LengthTooShort

-- is the requested length at least the present one?
unfoldable pub long_enough : ℤ → ℤ → Question
long_enough requested present = refusal 11 (requested ∷ present ∷ []) unless le_z present requested

-- ---- 12 ShortBuffer

-- is a buffer as long as needed? "at most 2^64 − 1 is shown"
unfoldable pub room_at : ℕ → ℕ → ℕ → Question
room_at which needed given = refusal 12 (pos which ∷ pos (saturated needed) ∷ pos given ∷ []) unless leb needed given

-- each buffer, from number i on, of which `given` are the lengths
unfoldable pub room_from : ℕ → List ℕ → List ℕ → Question
room_from i [] given = None
room_from i (n ∷ ns) given = first_no (room_at i n (get_or given 0 0) ∷ room_from (suc i) ns (drop 1 given) ∷ [])

-- what each output or scratch buffer needs, and how long each is, in argument order
unfoldable pub room : List ℕ → List ℕ → Question
room needed given = room_from 0 needed given

-- a buffer for ends and one for values, each as long
abbrev pub both : ℕ → List ℕ
both n = n ∷ n ∷ []

-- ---- of a call that makes a sequence out of one: what 3, 4, and 12 for so many entries

unfoldable pub sequence_asked : Sequence → ℕ → List ℕ → Question
sequence_asked s needed buffers = first_no (paired s ∷ ends_valid s.ends ∷ room (both needed) buffers ∷ [])
