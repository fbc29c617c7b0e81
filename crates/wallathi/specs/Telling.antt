-- What a C host gets of the engine's reply, as the functions inside promise it; proofs/Told: it is what specs/Export says of the answer.
-- Assumes nothing.
use Rattle.std.specs.Prelude.{◌≡◌, List, [], ◌∷◌, ℕ, Option, Some, None, Result, Ok, Err}
use Rattle.refusal.specs.declared.Refusal.{Refusal}
use Rattle.refusal.specs.Number.{number_of}
use Rattle.stream.specs.declared.Reply.{Reply}
use Rattle.stream.specs.declared.Reply.TheVariants as reply
use Rattle.resp_read.specs.declared.reading.ReplyRead.{ReplyRead}
use Rattle.resp_read.specs.declared.reading.ReplyRead.TheVariants as read
use Rattle.resp_read.specs.declared.message.Picked.{Picked}
use Rattle.wallathi.specs.Export.{Seen, seen, bit, over}

abbrev pub code_by : Reply → ℕ
code_by (reply.Refused r) = number_of r
code_by reply.Done = 0
code_by (reply.Given i) = 0
code_by (reply.Counted n) = 0
code_by (reply.Written n) = 0
code_by (reply.Entry i time count lives) = 0
code_by (reply.Reported l o n sum smallest largest) = 0
code_by (reply.NoIntegers l o) = 35
code_by reply.Moved = 0
code_by reply.Nothing = 32
code_by reply.Absent = 33
code_by reply.NotMoved = 34

abbrev pub numbers_by : Reply → List ℕ
numbers_by (reply.Refused r) = []
numbers_by reply.Done = []
numbers_by (reply.Given i) = i.ms ∷ (i.seq ∷ [])
numbers_by (reply.Counted n) = n ∷ []
numbers_by (reply.Written n) = n ∷ []
numbers_by (reply.Entry i time count lives) = i.ms ∷ (i.seq ∷ (time ∷ (count ∷ (bit lives ∷ []))))
numbers_by (reply.Reported l o n sum smallest largest) = l ∷ (o ∷ (n ∷ (sum ∷ (smallest ∷ (largest ∷ [])))))
numbers_by (reply.NoIntegers l o) = l ∷ (o ∷ (0 ∷ (0 ∷ [])))
numbers_by reply.Moved = []
numbers_by reply.Nothing = []
numbers_by reply.Absent = []
numbers_by reply.NotMoved = []

-- a reply as it is told: the number returned, and the out-parameters that held `olds`
pub record Tells (r : Reply) (olds : List ℕ) (code : ℕ) (values : List ℕ) : Type 0 where
  pub code_is : code ≡ code_by r
  pub values_are : values ≡ over (numbers_by r) olds

-- of a reply from a number alone: the number returned, and the length that was held
abbrev pub code_in : Result ℕ Refusal → ℕ
code_in (Ok n) = 0
code_in (Err r) = number_of r

abbrev pub length_in : Result ℕ Refusal → ℕ → ℕ
length_in (Ok n) old = n
length_in (Err r) old = old

-- of a reply that was read
abbrev pub seen_by : Option ReplyRead → List ℕ → Seen
seen_by (Some (read.Range n)) olds = seen 0 (over (1 ∷ (n ∷ [])) olds) []
seen_by (Some (read.Integer n)) olds = seen 0 (over (2 ∷ (n ∷ [])) olds) []
seen_by (Some (read.Error n)) olds = seen 0 (over (3 ∷ (n ∷ [])) olds) []
seen_by None olds = seen 3 olds []

-- of a message of it, with the output after it
abbrev pub picked_seen : Result (Option Picked) Refusal → List ℕ → List ℕ → Seen
picked_seen (Ok (Some p)) olds output = seen 0 (over (p.id.ms ∷ (p.id.seq ∷ (p.size ∷ []))) olds) output
picked_seen (Ok None) olds output = seen 32 olds output
picked_seen (Err r) olds output = seen (number_of r) olds output
