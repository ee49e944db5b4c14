-- Parts that show, one after the other, what the whole shows: they concatenate to the whole, and their sums add up.
-- Assumes nothing.
use Prim.Native.Nat.{ℕ, ◌<◌, ◌^◌}
use Rattle.std.specs.Prelude.{None}
use mathlib.Core.List.{List, [], ◌∷◌, map}
use mathlib.Core.Path.{◌≡◌, refl, ap, sym, ◌∙◌}
use lib.IntN.{ℤ, pos, ◌+ℤ◌, +ℤ_assoc, +ℤ_idl, +ℤ_idr}
use lib.ListN.{length, length-append}
use Rattle.num.specs.Numbers.{wrap}
use Rattle.num.proofs.Wrap.{wrap-add}
use Rattle.column.specs.Lists.{total}
use Rattle.column.specs.Paper.{answers}
use Rattle.column.specs.Questions.{room, both}
use Rattle.column.specs.Runs.{Runs, length_of, dense, encode}
use Rattle.column.proofs.All.{All}
use Rattle.column.proofs.Dense.{length-dense}
use Rattle.column.proofs.Encoded.{dense-encode, valid-encode}
use Rattle.column.proofs.Ends.{valid-ends}
use Rattle.column.proofs.Rising.{Valid}
use Rattle.column.proofs.Sequences.{runs-flat}
use Rattle.column.proofs.YesNo.{fits-yes}
use Rattle.transform.specs.Calls.{shown, concat_asked, concat}
use Rattle.reduce.specs.Calls.{sum_runs}
use Rattle.reduce.specs.Calls as reduce
use Rattle.reduce.proofs.Sums.{adds, adds-append, sum-dense}
use Rattle.cutting.specs.Cut.{flat_of, add_wrapping}
use Rattle.cutting.specs.Claim.{sum, JoinsUp}
use Rattle.cutting.proofs.Laid.{columns-flat, paired-runs, paired-flat, offsets-flat, ends-flat}

-- ---- concat and sum of valid columns

concat-answers : (cs : List Runs) (given : List ℕ) → All Valid cs → total (map length_of cs) < 2 ^ 63 → room (both (length (flat_of cs).ends)) given ≡ None
    → concat (flat_of cs) given ≡ answers (encode (shown cs))
unfolding concat concat_asked
concat-answers cs given v l r = rw (columns-flat cs, paired-flat cs, offsets-flat cs, ends-flat cs v, fits-yes (total (map length_of cs)) l, r)

sum-answers : (rs : Runs) → Valid rs → sum rs ≡ answers (sum_runs rs)
unfolding reduce.sum
sum-answers rs v = rw (paired-runs rs, valid-ends rs v, runs-flat rs)

length-shown : (cs : List Runs) → All Valid cs → length (shown cs) ≡ total (map length_of cs)
unfolding shown
length-shown [] v = refl
length-shown (c ∷ cs) v = rw (length-append, length-dense c v.0, length-shown cs v.1)

-- ---- the sums

wrapped-sums : (a : ℤ) (cs : List Runs) → add_wrapping (wrap a) (map sum_runs cs) ≡ wrap (a +ℤ adds (shown cs))
unfolding add_wrapping shown
wrapped-sums a [] = ap wrap (sym (+ℤ_idr a))
wrapped-sums a (c ∷ cs) =
    rw (sum-dense c, wrap-add, adds-append) (wrapped-sums (a +ℤ adds (dense c)) cs ∙ ap wrap (+ℤ_assoc a (adds (dense c)) (adds (shown cs))))

all-sums : (cs : List Runs) → All Valid cs → map sum cs ≡ map answers (map sum_runs cs)
all-sums [] v = refl
all-sums (c ∷ cs) v = rw (sum-answers c v.0, all-sums cs v.1)

module _ (lent : List ℕ → List ℕ) (enough : (needed : List ℕ) → room needed (lent needed) ≡ None)
    (xs : List ℤ) (parts : List Runs) (v : All Valid parts) (e : shown parts ≡ xs) (l : length xs < 2 ^ 63) where
  fits : total (map length_of parts) < 2 ^ 63
  fits = rw (← length-shown parts v, e) l

  pub joins_up : JoinsUp lent (encode xs) parts
  unfolding wrap
  joins_up =
      let needed = both (length (flat_of parts).ends) in
      record {
        result = encode xs;
        concatenated = concat-answers parts (lent needed) v fits (enough needed) ∙ ap (λ ys. answers (encode ys)) e;
        count = refl;
        ends = refl;
        values = refl;
        sums = map sum_runs parts;
        summed = all-sums parts v;
        added = sum-answers (encode xs) (valid-encode xs)
            ∙ ap answers (sum-dense (encode xs) ∙ ap (λ ys. wrap (adds ys)) (dense-encode xs) ∙ sym (wrapped-sums (pos 0) parts ∙ rw (e, +ℤ_idl)));
      }
