-- Demand 3: cutting a job never shows. A single claim about the list of cut points, over the definitions that the contracts cite.
use Rattle.std.specs.Prelude.{ℕ, ◌+◌, ◌<◌, true, List, [], ◌∷◌, ◌++◌, map, ◌≡◌, ℤ, pos, length, get_or, None, Option}
use Rattle.column.specs.Asking.{first_no}
use Rattle.column.specs.Flat.{Flat, sequences, columns, flat_asked}
use Rattle.column.specs.Paper.{Outcome, answers}
use Rattle.column.specs.Questions.{paired, ends_valid, room, both}
use Rattle.column.specs.Runs.{Sequence, Runs, runs, ends_of, values_of}
use Rattle.slice.specs.Calls as slice
use Rattle.transform.specs.Calls as transform
use Rattle.reduce.specs.Calls as reduce
use Rattle.ops.specs.Calls as ops
use Rattle.zip_many.specs.Calls as zip-many
use Rattle.batch.specs.Batch.{Batch, Entry, entries, keys_of, columns_of, batch_valid, batch_needs}
use Rattle.batch_map_rles.specs.Calls as each
use Rattle.batch_zip_with.specs.Calls as join
use Rattle.cutting.specs.Cut.{longest, cut_points, Span, spans, numbered, sequence_of, flat_of, batch_of, ◌then◌, in_turn, refused_with, some_refused_with}
use Rattle.cutting.specs.Cut.{add_wrapping}

-- ---- "valid columns": "as many values as ends, ends as at the top and offsets as under 2 and 3"

abbrev pub ValidSequence : Sequence → Type 0
ValidSequence s = first_no (paired s ∷ ends_valid s.ends ∷ []) ≡ None

abbrev pub ValidFlat : Flat → Type 0
ValidFlat f = first_no (flat_asked f) ≡ None

abbrev pub ValidBatch : Batch → Type 0
ValidBatch b = batch_valid b ≡ None

-- ---- what is claimed of a whole's outcome and of its pieces'

-- "every set of pieces answers", and the parts that they answer join up to x
pub record Answered {X : Type 0} (Joins : X → List X → Type 0) (x : X) (pieces : List (Outcome X)) : Type 0 where
  pub parts : List X
  pub every : pieces ≡ map answers parts
  pub joins : Joins x parts

-- "refused .. exactly when the whole is": by its number, 10 or any other; so that no other refusal is met
pub record NeverShows {X : Type 0} (Joins : X → List X → Type 0) (whole : Outcome X) (pieces : List (Outcome X)) : Type 0 where
  pub refused : (number : ℕ) → some_refused_with number pieces ≡ refused_with number whole
  pub answered : (x : X) → whole ≡ answers x → Answered Joins x pieces

-- `sum` "is of each result"
abbrev pub sum : Runs → Outcome ℤ
sum rs = reduce.sum (sequence_of rs)

-- the sequence of the k-th key
abbrev pub runs_at : ℕ → List Entry → Runs
runs_at k es = get_or (columns_of es) k []

-- ---- the calls, each with the buffers that it is lent, by the lengths that it needs

module _ (lent : List ℕ → List ℕ) where
  -- "Its cut is `slice` .., in a batch of every key alike"
  abbrev pub cut : Span → Sequence → Outcome Runs
  cut z s = slice.slice s z.start z.end (lent (both (length (slice.slice_runs z.start z.end (runs s)))))

  abbrev pub cut_batch : Span → Batch → Outcome (List Entry)
  cut_batch z b = each.map_rles_slice b z.start z.end (lent (batch_needs (length b.keys) (length b.flat.ends)))

  abbrev pub zip_with : Option ℤ → Option ℤ → ℕ → Sequence → Sequence → Outcome Runs
  zip_with fa fb code a b = ops.zip_with a b fa fb code (lent (both (length a.ends + length b.ends)))

  abbrev pub zip_many : Option ℤ → ℕ → Flat → Outcome Runs
  zip_many fill code f = zip-many.zip_many f fill code (lent (both (length f.ends)))

  abbrev pub zip_batches : ℕ → Option ℤ → Option ℤ → ℕ → Batch → Batch → Outcome (List Entry)
  zip_batches how fa fb code a b = join.zip_with a b how fa fb code (lent (join.zip_needs a b (join.pairs how (entries a) (entries b))))

  -- "Its joining is `concat` in cut order, in a batch key by key"
  abbrev pub concat : List Runs → Outcome Runs
  concat parts = let f = flat_of parts in transform.concat f (lent (both (length f.ends)))

  -- ---- how parts join up to a whole

  pub record JoinsUp (whole : Runs) (parts : List Runs) : Type 0 where
    -- "the concatenated result has as many runs as the whole's, with equal ends and equal values"
    pub result : Runs
    pub concatenated : concat parts ≡ answers result
    pub count : length result ≡ length whole
    pub ends : ends_of result ≡ ends_of whole
    pub values : values_of result ≡ values_of whole
    -- "The sums of the pieces' results then add, wrapping, to the sum of the whole's"
    pub sums : List ℤ
    pub summed : map sum parts ≡ map answers sums
    pub added : sum whole ≡ answers (add_wrapping (pos 0) sums)

-- ---- which call it is: the whole combined, a column of a set of pieces cut, a set of pieces combined, the parts of a key joined

pub data Call : Type 0 where
  combines_whole : Call
  cuts : (set column : ℕ) → Call
  combines : (set : ℕ) → Call
  joins : (key : ℕ) → Call

-- "buffers as long as document 01 asks", or longer, for each call its own
module _ (lends : Call → List ℕ → List ℕ) where
  -- ---- "Cut every column at the same points, combine each set of pieces": set number i, from a cut point to the next

  abbrev pub zip_pieces : Option ℤ → Option ℤ → ℕ → Sequence → Sequence → ℕ → Span → Outcome Runs
  zip_pieces fa fb code a b i z =
      cut (lends (cuts i 0)) z a then λ pa. cut (lends (cuts i 1)) z b then λ pb.
      zip_with (lends (combines i)) fa fb code (sequence_of pa) (sequence_of pb)

  abbrev pub zip_many_pieces : Option ℤ → ℕ → Flat → ℕ → Span → Outcome Runs
  zip_many_pieces fill code f i z =
      in_turn (numbered (λ c. cut (lends (cuts i c)) z) 0 (sequences f)) then λ ps. zip_many (lends (combines i)) fill code (flat_of ps)

  abbrev pub zip_batch_pieces : ℕ → Option ℤ → Option ℤ → ℕ → Batch → Batch → ℕ → Span → Outcome (List Entry)
  zip_batch_pieces how fa fb code a b i z =
      cut_batch (lends (cuts i 0)) z a then λ pa. cut_batch (lends (cuts i 1)) z b then λ pb.
      zip_batches (lends (combines i)) how fa fb code (batch_of pa) (batch_of pb)

  -- "in a batch this holds key by key, with equal keys in the same order"
  pub record JoinsUpByKey (whole : List Entry) (parts : List (List Entry)) : Type 0 where
    pub keys : map keys_of parts ≡ map (λ (part : List Entry). keys_of whole) parts
    pub each_key : (k : ℕ) → k < length whole → JoinsUp (lends (joins k)) (runs_at k whole) (map (runs_at k) parts)

  -- ---- the claim, "for two_way, many_way and keyed batch combination, with every operation, whichever fills are given or missing"

  pub record CuttingNeverShows (points : List ℤ) : Type 0 where
    pub two_way : (fa fb : Option ℤ) (code : ℕ) (a b : Sequence) → ValidSequence a → ValidSequence b
        → cut_points (longest (runs a ∷ runs b ∷ [])) points ≡ true
        → NeverShows (JoinsUp (lends (joins 0))) (zip_with (lends combines_whole) fa fb code a b) (numbered (zip_pieces fa fb code a b) 0 (spans points))
    pub many_way : (fill : Option ℤ) (code : ℕ) (f : Flat) → ValidFlat f
        → cut_points (longest (columns f)) points ≡ true
        → NeverShows (JoinsUp (lends (joins 0))) (zip_many (lends combines_whole) fill code f) (numbered (zip_many_pieces fill code f) 0 (spans points))
    pub batch : (how : ℕ) (fa fb : Option ℤ) (code : ℕ) (a b : Batch) → ValidBatch a → ValidBatch b
        → cut_points (longest (columns a.flat ++ columns b.flat)) points ≡ true
        → NeverShows JoinsUpByKey (zip_batches (lends combines_whole) how fa fb code a b) (numbered (zip_batch_pieces how fa fb code a b) 0 (spans points))

-- for all buffers that are long enough, and every list of cut points
abbrev pub Demand3 : Type 0
Demand3 = (lends : Call → List ℕ → List ℕ) → ((call : Call) (needed : List ℕ) → room needed (lends call needed) ≡ None)
    → (points : List ℤ) → CuttingNeverShows lends points
