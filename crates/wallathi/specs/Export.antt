-- What a C host gets of an answer: the number returned, the out-parameters and the output after the call. Assumes nothing.
use Rattle.std.specs.Prelude.{Bool, true, false, List, [], ◌∷◌, ℕ, length}
use Rattle.stream.specs.Command.{Answer, refused, done, given, counted, written, entry, reported, no_integers, moved, nothing, absent, not_moved, code_of}
use Rattle.stream.specs.Report.{pattern_by}
use Rattle.stream.specs.Reply.{output_by}

pub record Seen : Type 0 where
  pub code : ℕ
  pub values : List ℕ  -- the out-parameters, in the header's order
  pub output : List ℕ

abbrev pub seen : ℕ → List ℕ → List ℕ → Seen
seen code values output = record { code = code; values = values; output = output }

abbrev pub bit : Bool → ℕ
bit true = 1
bit false = 0

-- what an answer gives in numbers: an ID, a count, the length of what was written, a pending entry and whether its message lives,
-- a report; with no integer the first four of a report's
abbrev pub numbers_of : Answer → List ℕ
numbers_of (refused r) = []
numbers_of done = []
numbers_of (given i) = i.ms ∷ (i.seq ∷ [])
numbers_of (counted n) = n ∷ []
numbers_of (written bs) = length bs ∷ []
numbers_of (entry p lives) = p.id.ms ∷ (p.id.seq ∷ (p.time ∷ (p.count ∷ (bit lives ∷ []))))
numbers_of (reported l o x) =
    l ∷ (o ∷ (x.count ∷ (pattern_by x.sum ∷ (pattern_by x.smallest ∷ (pattern_by x.largest ∷ [])))))
numbers_of (no_integers l o) = l ∷ (o ∷ (0 ∷ (0 ∷ [])))
numbers_of moved = []
numbers_of nothing = []
numbers_of absent = []
numbers_of not_moved = []

-- the answer's numbers over the first out-parameters; the others, and all where there are none, keep what they held
abbrev pub over : List ℕ → List ℕ → List ℕ
over [] olds = olds
over (n ∷ ns) [] = []
over (n ∷ ns) (o ∷ olds) = n ∷ over ns olds

-- with these out-parameters and this output before
abbrev pub tell_to : List ℕ → List ℕ → Answer → Seen
tell_to values output a = seen (code_of a) (over (numbers_of a) values) (output_by output a)
