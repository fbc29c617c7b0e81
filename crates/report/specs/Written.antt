-- What the functions promise: the engine's reply to a finding, and its texts as they are written. Assumes nothing.
use Rattle.std.specs.Prelude.{◌≡◌, Bool, true, false, List, [], ◌∷◌, ℕ, ◌+◌, ◌*◌, ◌≤◌, length}
use Rattle.refusal.specs.Number.{number_of}
use Rattle.octets.specs.Place.{put}
use Rattle.decimal.specs.Text.{text_of}
use Rattle.stream.specs.declared.Reply.{Reply}
use Rattle.stream.specs.declared.Reply.TheVariants as reply
use Rattle.stream.specs.Command.{Answer, refused}
use Rattle.stream.specs.LedgerStep.{report_reply}
use Rattle.report.specs.Printed.{Finding, refusal, found, none_text, lines_of}

abbrev pub answer_of : Finding → Answer
answer_of (refusal r) = refused r
answer_of (found r) = report_reply r

-- the texts of a reply, whose signed numbers are 64-bit patterns; a finding has no other replies
abbrev pub reply_texts : Reply → List (List ℕ)
reply_texts (reply.Refused r) = text_of (number_of r) ∷ []
reply_texts (reply.Reported l o n sum a z) = text_of l ∷ (text_of o ∷ (text_of n ∷ (text_of sum ∷ (text_of a ∷ (text_of z ∷ [])))))
reply_texts (reply.NoIntegers l o) = text_of l ∷ (text_of o ∷ (text_of 0 ∷ (text_of 0 ∷ (none_text ∷ (none_text ∷ [])))))
reply_texts reply.Done = []
reply_texts (reply.Given i) = []
reply_texts (reply.Counted n) = []
reply_texts (reply.Written n) = []
reply_texts (reply.Entry i time n lives) = []
reply_texts reply.Moved = []
reply_texts reply.Nothing = []
reply_texts reply.Absent = []
reply_texts reply.NotMoved = []

-- a load that is accepted
abbrev pub is_done : Reply → Bool
is_done reply.Done = true
is_done (reply.Refused r) = false
is_done (reply.Given i) = false
is_done (reply.Counted n) = false
is_done (reply.Written n) = false
is_done (reply.Entry i time n lives) = false
is_done (reply.Reported l o n sum a z) = false
is_done (reply.NoIntegers l o) = false
is_done reply.Moved = false
is_done reply.Nothing = false
is_done reply.Absent = false
is_done reply.NotMoved = false

-- texts of at most 20 bytes were written into d from a place on, each on a line; then d is e, and the next line goes to the place `next`
pub record Writes (d : List ℕ) (at : ℕ) (ts : List (List ℕ)) (e : List ℕ) (next : ℕ) : Type 0 where
  pub bytes : e ≡ put d at (lines_of ts)
  pub next_is : next ≡ at + length (lines_of ts)
  pub few : next ≤ at + 21 * length ts
