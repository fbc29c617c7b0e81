-- What the functions that write replies from a number answer. Assumes nothing.
use Rattle.std.specs.Prelude.{Bool, List, ℕ, leb, length, Result, Ok, Err}
use Rattle.refusal.specs.declared.Refusal.{Refusal}
use Rattle.refusal.specs.declared.Refusal.TheVariants.{BadArgument, ShortOutput}
use Rattle.octets.specs.Pick.{pick}
use Rattle.octets.specs.Place.{put}

-- a reply whose number keeps its rule, or not: 3, another number; 8, the output is shorter
unfoldable pub replied_by : Bool → List ℕ → ℕ → Result ℕ Refusal
replied_by rule bs room = pick rule (pick (leb (length bs) room) (Ok (length bs)) (Err ShortOutput)) (Err BadArgument)

-- a reply starts the output; the bytes after it stay, and so do all where it is refused
unfoldable pub output_by : Bool → List ℕ → List ℕ → List ℕ
output_by rule bs out = pick rule (pick (leb (length bs) (length out)) (put out 0 bs) out) out
