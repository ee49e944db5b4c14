-- What the searches leave and require.
use Rattle.std.specs.Prelude.{ℕ, zero, suc, ◌+◌, ◌*◌, ◌-◌, ◌≤◌, ◌<◌, ◌^◌, ◌/◌, ◌%◌, min, Bool, true, false, cond, List, ◌≡◌, eqb, ltb, length, get_or, take, drop}
use Rattle.column.specs.Lists.{any}
use Rattle.batch_index.specs.declared.inner.links.Links.{Links}
use Rattle.batch_index.specs.declared.inner.links.Member.{Member}
use Rattle.batch_index.specs.Calls.{lowest}

-- ---- one key after another

-- from n up to i all are others than the key
abbrev pub Others : ℕ → List ℕ → ℕ → ℕ → Type 0
Others key ks n i = (j : ℕ) → n ≤ j → j < i → eqb key (get_or ks j 0) ≡ false

pub record Skipped (key : ℕ) (ks : List ℕ) (n i : ℕ) : Type 0 where
  pub after : n ≤ i
  pub within : i ≤ length ks
  pub before : Others key ks n i

-- r is the lowest position from n on of the key, or the number of keys
pub record NextPosition (key : ℕ) (ks : List ℕ) (n r : ℕ) : Type 0 where
  pub after : n ≤ r
  pub within : r ≤ length ks
  pub before : Others key ks n r
  pub here : r < length ks → get_or ks r 0 ≡ key

-- ---- double keys

-- does the key at i stand before it too
abbrev pub doubled : List ℕ → ℕ → Bool
doubled ks i = any (eqb (get_or ks i 0)) (take i ks)

-- r is the lowest position of a key that stands before it too, or how many keys there are
pub record FirstDouble (ks : List ℕ) (r : ℕ) : Type 0 where
  pub within : r ≤ length ks
  pub before : (i : ℕ) → i < r → doubled ks i ≡ false
  pub here : r < length ks → doubled ks r ≡ true

-- ---- a table of the positions of keys, with a filter in front of it

-- a number with its bits mixed, below 2^32
abbrev pub mixed : ℕ → ℕ
mixed x = x * 2891336453 % 2 ^ 32

-- the place of a mixed number among n
abbrev pub place_of : ℕ → ℕ → ℕ
place_of n x = x * n / 2 ^ 32

-- is the bit of a mixed number set
abbrev pub in_filter : List ℕ → ℕ → Bool
in_filter filter x = let bit = place_of (length filter * 64) x in eqb (get_or filter (bit / 64) 0 / 2 ^ (bit % 64) % 2) 1

-- the position of the key that the next n slots give, up to one that holds no position; or how many keys there are
unfoldable pub probed : ℕ → List ℕ → List ℕ → ℕ → ℕ → ℕ
probed zero table ks key x = length ks
probed (suc n) table ks key x =
    let at = get_or table (place_of (length table) (mixed x)) 0 in
    cond (ltb at (length ks)) (cond (eqb (get_or ks at 0) key) at (probed n table ks key (mixed x))) (length ks)

unfoldable pub looked_up : List ℕ → List ℕ → List ℕ → ℕ → ℕ
looked_up table filter ks key = cond (in_filter filter (mixed key)) (probed 32 table ks key (mixed key)) (length ks)

pub record Sized (table filter : List ℕ) : Type 0 where
  pub slots : 0 < length table
  pub few_slots : length table < 2 ^ 32
  pub words : 0 < length filter
  pub few_words : length filter < 2 ^ 26

-- what a table finds, another finds, too
abbrev pub Kept : List ℕ → List ℕ → List ℕ → Type 0
Kept ks table table' =
    (filter : List ℕ) (key : ℕ) → looked_up table filter ks key < length ks → looked_up table' filter ks key ≡ looked_up table filter ks key

-- a key is put into a table: where r is a position its slots give it then, where not they gave none before
pub record Put (ks : List ℕ) (key from : ℕ) (table table' : List ℕ) (r : ℕ) : Type 0 where
  pub within : r ≤ length ks
  pub here : r < length ks → r ≡ probed 32 table' ks key from
  pub none : length ks ≤ r → length ks ≡ probed 32 table ks key from
  pub kept : Kept ks table table'

-- the key at i is entered: where r is a position it is found there then, where not it was not found before
pub record Entered (filter ks : List ℕ) (i : ℕ) (table table' : List ℕ) (r : ℕ) : Type 0 where
  pub within : r ≤ length ks
  pub here : r < length ks → r ≡ looked_up table' filter ks (get_or ks i 0)
  pub none : length ks ≤ r → length ks ≡ looked_up table filter ks (get_or ks i 0)
  pub kept : Kept ks table table'

-- ---- the first double key, by blocks: f is a search in the keys from n up to m

abbrev pub part : ℕ → ℕ → List ℕ → List ℕ
part n m ks = take (m - n) (drop n ks)

-- is the key at i found at its own position
abbrev pub Own : (ℕ → ℕ) → List ℕ → ℕ → ℕ → Type 0
Own f ks n i = n + f (get_or ks i 0) ≡ i

-- is no key from i up to j the one at i
abbrev pub Alone : List ℕ → ℕ → ℕ → Type 0
Alone ks i r = (j : ℕ) → i < j → j < r → get_or ks j 0 ≡ get_or ks i 0 → ⊥

-- r is a limit that is not above the one before it, and if it is another a key that stands before it too
pub record Limited (ks : List ℕ) (limit r : ℕ) : Type 0 where
  pub within : r ≤ limit
  pub here : r < limit → doubled ks r ≡ true

-- the lower of a limit and the next position of the key at i
pub record NextLimit (ks : List ℕ) (i limit r : ℕ) : Type 0 where
  pub next : ℕ
  pub position : NextPosition (get_or ks i 0) ks (i + 1) next
  pub lower : r ≡ min next limit

-- of those below the limit no two in the block are equal, and each that is not found at its own position stands alone
pub record CheckedBlock (f : ℕ → ℕ) (ks : List ℕ) (n m limit r : ℕ) : Type 0 where
  pub limited : Limited ks limit r
  pub single : (i : ℕ) → n ≤ i → i < m → (j : ℕ) → i < j → j < m → j < r → get_or ks j 0 ≡ get_or ks i 0 → ⊥
  pub known : m ≤ r → (i : ℕ) → n ≤ i → i < m → (Own f ks n i → ⊥) → Alone ks i r

-- none below the limit from m on is found
pub record PassedRest (f : ℕ → ℕ) (ks : List ℕ) (n m limit r : ℕ) : Type 0 where
  pub limited : Limited ks limit r
  pub other : (j : ℕ) → m ≤ j → j < r → m - n ≤ f (get_or ks j 0)

-- no key of the block stands after it below the limit
pub record PassedBlock (ks : List ℕ) (n m limit r : ℕ) : Type 0 where
  pub limited : Limited ks limit r
  pub single : (i : ℕ) → n ≤ i → i < m → Alone ks i r

-- ---- where wanted keys stand

-- each stands nowhere
pub record Unfound (ks ws fs : List ℕ) : Type 0 where
  pub each : (j : ℕ) → j < length ws → get_or fs j 0 ≡ length ks

-- each that a search f in the wanted keys finds at its own position has its lowest position
pub record FoundOnce (f : ℕ → ℕ) (ks ws fs : List ℕ) : Type 0 where
  pub own : (j : ℕ) → j < length ws → f (get_or ws j 0) ≡ j → get_or fs j 0 ≡ lowest (get_or ws j 0) ks

abbrev pub FoundAll : List ℕ → List ℕ → List ℕ → Type 0
FoundAll ks ws fs = (j : ℕ) → j < length ws → get_or fs j 0 ≡ lowest (get_or ws j 0) ks

-- ---- links from each position of a key to the next: those of a block, from n up to r, by a search f

-- how many entries there may be; a greater number is no entry
abbrev pub capacity : ℕ
capacity = 2048

-- what stands for a key that begins before the block
abbrev pub dropped : ℕ
dropped = 65534

-- each is found at its own position, or before it
pub record CheckedEnd (f : ℕ → ℕ) (ks : List ℕ) (n m r : ℕ) : Type 0 where
  pub after : n ≤ r
  pub within : r ≤ m
  pub low : (i : ℕ) → n ≤ i → i < r → n + f (get_or ks i 0) ≤ i

-- no entry is made
pub record Cleared (size : ℕ) (fs : List ℕ) : Type 0 where
  pub each : (w : ℕ) → w < size → get_or fs w 0 ≡ 65535

-- a key before i is found at w
pub record FoundBefore (f : ℕ → ℕ) (ks : List ℕ) (i w : ℕ) : Type 0 where
  pub position : ℕ
  pub before : position < i
  pub found : f (get_or ks position 0) ≡ w

-- x says of w whether a key before i is found there
pub record Mark (f : ℕ → ℕ) (ks : List ℕ) (i w x : ℕ) : Type 0 where
  pub none : (x ≡ dropped → ⊥) → (j : ℕ) → j < i → f (get_or ks j 0) ≡ w → ⊥
  pub some : x ≡ dropped → FoundBefore f ks i w
  pub unlinked : capacity ≤ x

pub record Marks (f : ℕ → ℕ) (ks : List ℕ) (size i : ℕ) (fs : List ℕ) : Type 0 where
  pub each : (w : ℕ) → w < size → Mark f ks i w (get_or fs w 0)

-- the position of an entry; there is none after the last one
unfoldable pub entry_position : List ℕ → List ℕ → ℕ → ℕ
entry_position ks ps e = cond (ltb e capacity) (get_or ps e 0) (length ks)

-- an entry at i, one of `count`, with the next one
pub record Entry (ks ps : List ℕ) (count i next : ℕ) : Type 0 where
  pub within : i < length ks
  pub position : NextPosition (get_or ks i 0) ks (i + 1) (entry_position ks ps next)
  pub made : next < capacity → next < count

pub record Entries (ks ns ps : List ℕ) (count : ℕ) : Type 0 where
  pub each : (e : ℕ) → e < count → Entry ks ps count (get_or ps e 0) (get_or ns e 0)

-- x is the entry of the key at i, if that does not stand before it too
pub record Head (ks ps : List ℕ) (count i x : ℕ) : Type 0 where
  pub made : x < capacity → x < count
  pub here : x < capacity → get_or ps x 0 ≡ i
  pub single : x < capacity → doubled ks i ≡ false
  pub again : capacity ≤ x → doubled ks i ≡ true

pub record Heads (ks fs ps : List ℕ) (n r count : ℕ) : Type 0 where
  pub each : (i : ℕ) → n ≤ i → i < r → Head ks ps count i (get_or fs (i - n) 0)

-- the entries of linked keys, and the lists that hold them
pub record Chains (ks ns ps : List ℕ) (l : Links) : Type 0 where
  pub entries : l.linked ≡ true → Entries ks ns ps l.count
  pub nexts : l.linked ≡ true → capacity ≤ length ns
  pub positions : l.linked ≡ true → capacity ≤ length ps

-- a member is at the position of its entry
pub record Listed (ks ps : List ℕ) (l : Links) (m : Member) : Type 0 where
  pub made : l.linked ≡ true → m.at < length ks → m.entry < l.count
  pub few : l.linked ≡ true → m.at < length ks → m.entry < capacity
  pub here : l.linked ≡ true → m.at < length ks → get_or ps m.entry 0 ≡ m.at

-- what is known of the keys that begin in a block, if they are linked
pub record Linked (ks fs ns ps : List ℕ) (l : Links) : Type 0 where
  pub ordered : l.from ≤ l.to
  pub within : l.to ≤ length ks
  pub heads : l.linked ≡ true → Heads ks fs ps l.from l.to l.count
  pub firsts : l.linked ≡ true → l.to ≤ l.from + length fs
  pub chains : Chains ks ns ps l

-- and the block is one that begins at n or before it, and is not empty if it is linked
pub record LinkedFrom (n : ℕ) (ks fs ns ps : List ℕ) (l : Links) : Type 0 where
  pub known : Linked ks fs ns ps l
  pub begun : l.from ≤ n
  pub some : l.linked ≡ true → n < l.to

-- i is in the block
pub record LinkedAt (i : ℕ) (ks fs ns ps : List ℕ) (l : Links) : Type 0 where
  pub known : Linked ks fs ns ps l
  pub begun : l.from ≤ i
  pub ended : i < l.to

-- what is lent for links
pub record LinkRoom (ks fs ns ps : List ℕ) : Type 0 where
  pub few : length ks < 2 ^ 32
  pub firsts : 2048 ≤ length fs
  pub nexts : capacity ≤ length ns
  pub positions : capacity ≤ length ps

-- it is lent if there is room for the first entries of a block
pub record LinkLent (ks fs ns ps : List ℕ) : Type 0 where
  pub room : 2048 ≤ length fs → LinkRoom ks fs ns ps

-- the block from n up to m
pub record Block (ks : List ℕ) (n m : ℕ) : Type 0 where
  pub begun : n ≤ m
  pub within : m ≤ length ks
  pub short : m ≤ n + 2048
