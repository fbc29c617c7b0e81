-- Range replies computed (02, CR 4). Assumes nothing.
use mathlib.Core.Path.{◌≡◌, refl}
use mathlib.Core.Bool.{true}
use mathlib.Core.List.{List, [], ◌∷◌, ◌++◌, map}
use Rattle.std.proofs.Common.{Some}
use Prim.Native.Nat.{ℕ, ◌+◌}
use Rattle.refusal.specs.declared.Refusal.TheVariants.{ShortOutput}
use Rattle.id.specs.declared.Id.{Id}
use Rattle.id.specs.Id.{id_of, least, greatest, id_order}
use Rattle.decimal.specs.Text.{natural_text, digits_of}
use Rattle.node.specs.Message.{live, pair, live_in}
use Rattle.resp.specs.Reply.{head, bulk, id_text, bulks, opening, entry, entries, range_bytes}
use Rattle.stream.specs.Ledger.{empty_ledger, with_last}
use Rattle.stream.specs.Cut.{Model, model_of, node_at, entries_of}
use Rattle.stream.specs.Report.{between}
use Rattle.stream.specs.Command.{Answer, refused, written, asks, range_reply}
use Rattle.stream.specs.Run.{answers}
use Rattle.stream.specs.Step.{step}
use Rattle.snapshot.specs.Command.{Command, on_stream, answers_all}
use Rattle.examples.specs.Case.{message}

-- 5-0 with a=1, 6-0 with b empty, and 7-0, which is deleted
abbrev model : Model
model =
    model_of
    (node_at 0 (live (message 5 0 (97 ∷ []) (49 ∷ [])) ∷ live (message 6 0 (98 ∷ []) []) ∷ record { deleted = true; id = id_of 7 0; pairs = pair (99 ∷ []) (51 ∷ []) ∷ [] } ∷ []) ∷ [])
    (with_last empty_ledger (id_of 7 0))

-- "*2", "$3", "5-0", "*2", "$1", "a", "$1", "1", each with CR LF
five : List ℕ
five =
    42 ∷ 50 ∷ 13 ∷ 10 ∷ 36 ∷ 51 ∷ 13 ∷ 10 ∷ 53 ∷ 45 ∷ 48 ∷ 13 ∷ 10 ∷ 42 ∷ 50 ∷ 13 ∷ 10 ∷ 36 ∷ 49 ∷ 13 ∷ 10 ∷ 97 ∷ 13 ∷ 10 ∷ 36 ∷ 49 ∷ 13 ∷ 10 ∷ 49 ∷ 13 ∷ 10 ∷ []

-- "*2", "$3", "6-0", "*2", "$1", "b", "$0", ""
six : List ℕ
six =
    42 ∷ 50 ∷ 13 ∷ 10 ∷ 36 ∷ 51 ∷ 13 ∷ 10 ∷ 54 ∷ 45 ∷ 48 ∷ 13 ∷ 10 ∷ 42 ∷ 50 ∷ 13 ∷ 10 ∷ 36 ∷ 49 ∷ 13 ∷ 10 ∷ 98 ∷ 13 ∷ 10 ∷ 36 ∷ 48 ∷ 13 ∷ 10 ∷ 13 ∷ 10 ∷ []

-- "*" and how many
some_of : ℕ → List ℕ → List ℕ
some_of n bs = 42 ∷ (48 + n) ∷ 13 ∷ 10 ∷ bs

pub record Asked : Type 0 where
  pub first : Id
  pub last : Id
  pub room : ℕ
  pub answer : Answer

abbrev asked : Id → Id → ℕ → Answer → Asked
asked first last room x = record { first = first; last = last; room = room; answer = x }

pub ranges : List Asked
ranges =
    asked least greatest 65 (written (some_of 2 (five ++ six)))
    ∷ asked least greatest 64 (refused ShortOutput)
    ∷ asked (id_of 5 0) (id_of 5 0) 99 (written (some_of 1 five))  -- ends included
    ∷ asked (id_of 5 1) (id_of 6 0) 99 (written (some_of 1 six))
    ∷ asked (id_of 7 0) greatest 4 (written (some_of 0 []))  -- deleted
    ∷ asked (id_of 6 0) (id_of 5 0) 4 (written (some_of 0 []))  -- the first above the last
    ∷ asked (id_of 6 0) (id_of 5 0) 3 (refused ShortOutput)
    ∷ []

abbrev commands : List Command
commands = map (λ (x : Asked). on_stream (asks (range_reply x.first x.last x.room))) ranges

pub computed : answers_all 1 commands (Some model) ≡ map (λ (x : Asked). x.answer) ranges
unfolding ranges five six some_of answers step entries_of live_in between id_order range_bytes entries entry opening bulks bulk id_text head natural_text digits_of
computed = refl
