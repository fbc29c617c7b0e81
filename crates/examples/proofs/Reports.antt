-- Channel reports computed (02, CR 2). Assumes nothing.
use mathlib.Core.Path.{◌≡◌, refl}
use mathlib.Core.Bool.{true}
use mathlib.Core.List.{List, [], ◌∷◌, map}
use Rattle.std.proofs.Common.{Some}
use Prim.Native.Nat.{ℕ, ◌-◌, ◌^◌}
use lib.IntN.{ℤ, pos, negsuc}
use lib.ListN.{replicate}
use Rattle.refusal.specs.declared.Refusal.TheVariants.{BadArgument}
use Rattle.octets.specs.Compare.{same}
use Rattle.id.specs.declared.Id.{Id}
use Rattle.id.specs.Id.{id_of, least, greatest, id_order}
use Rattle.decimal.specs.Integer.{digits_after, positive_of, unsigned_of, negative_of, signed_of, pattern_of}
use Rattle.node.specs.Message.{Entry, live, pair, live_in}
use Rattle.node.specs.Step.{value_of}
use Rattle.stream.specs.Ledger.{empty_ledger, with_last}
use Rattle.stream.specs.Cut.{Model, model_of, node_at, entries_of, messages_of}
use Rattle.stream.specs.Report.{between, integer_of, pattern_by, Integers, Report, no_messages, report_on, joined}
use Rattle.stream.specs.Command.{Answer, refused, reported, no_integers, asks, report}
use Rattle.stream.specs.Run.{answers}
use Rattle.stream.specs.Step.{step}
use Rattle.snapshot.specs.Command.{Command, on_stream, answers_all}
use Rattle.examples.specs.Case.{message}

abbrev t : List ℕ
t = 116 ∷ []

abbrev u : List ℕ
u = 117 ∷ []

-- 1-0 lacks t; four hold something other; four hold integers, the first of them twice; the last is deleted
abbrev entries : List Entry
entries =
    live (message 1 0 u (49 ∷ []))
    ∷ live (message 2 0 t (48 ∷ 48 ∷ 55 ∷ []))  -- "007"
    ∷ live (message 3 0 t (49 ∷ 48 ∷ 48 ∷ 48 ∷ 48 ∷ 48 ∷ 48 ∷ 48 ∷ 48 ∷ 49 ∷ []))  -- "1000000001"
    ∷ live (message 4 0 t (119 ∷ 97 ∷ 114 ∷ 109 ∷ []))  -- "warm"
    ∷ live (message 5 0 t [])
    ∷ live (record { id = id_of 6 0; pairs = pair u (56 ∷ []) ∷ pair t (53 ∷ []) ∷ pair t (55 ∷ []) ∷ [] })  -- u = "8", t = "5", t = "7"
    ∷ live (message 7 0 t (45 ∷ 49 ∷ 48 ∷ 48 ∷ 48 ∷ 48 ∷ 48 ∷ 48 ∷ 48 ∷ 48 ∷ 48 ∷ []))  -- "-1000000000"
    ∷ live (message 7 1 t (49 ∷ 48 ∷ 48 ∷ 48 ∷ 48 ∷ 48 ∷ 48 ∷ 48 ∷ 48 ∷ 48 ∷ []))  -- "1000000000"
    ∷ live (message 8 0 t (45 ∷ 55 ∷ []))  -- "-7"
    ∷ record { deleted = true; id = id_of 9 0; pairs = pair t (51 ∷ []) ∷ [] }
    ∷ []

abbrev model : Model
model = model_of (node_at 0 entries ∷ []) (with_last empty_ledger (id_of 9 0))

abbrev integers : ℕ → ℤ → ℤ → ℤ → Integers
integers n sum smallest largest = record { count = n; sum = sum; smallest = smallest; largest = largest }

pub record Asked : Type 0 where
  pub name : List ℕ
  pub first : Id
  pub last : Id
  pub answer : Answer

abbrev asked : List ℕ → Id → Id → Answer → Asked
asked name first last x = record { name = name; first = first; last = last; answer = x }

pub reports : List Asked
reports =
    asked t least greatest (reported 1 4 (integers 4 (negsuc 1) (negsuc 999999999) (pos 1000000000)))
    ∷ asked t (id_of 8 0) (id_of 8 0) (reported 0 0 (integers 1 (negsuc 6) (negsuc 6) (negsuc 6)))
    ∷ asked t (id_of 5 1) (id_of 7 0) (reported 0 0 (integers 2 (negsuc 999999994) (negsuc 999999999) (pos 5)))
    ∷ asked t least (id_of 5 9) (no_integers 1 4)  -- none of them an integer that counts
    ∷ asked t (id_of 8 0) (id_of 1 0) (no_integers 0 0)  -- the first above the last
    ∷ asked t (id_of 9 0) greatest (no_integers 0 0)
    ∷ asked u least greatest (reported 7 0 (integers 2 (pos 9) (pos 1) (pos 8)))
    ∷ asked [] least greatest (no_integers 9 0)
    ∷ asked (replicate 1000 120) least greatest (no_integers 9 0)
    ∷ asked (replicate 1001 120) least greatest (refused BadArgument)
    ∷ []

abbrev commands : List Command
commands = map (λ (x : Asked). on_stream (asks (report x.name x.first x.last))) reports

abbrev over : Id → Id → Report
over first last = report_on t no_messages (between first last (messages_of model.nodes))

-- what is computed
pub record Computed : Type 0 where
  pub answered : answers_all 1 commands (Some model) ≡ map (λ (x : Asked). x.answer) reports
  -- a range cut in two
  pub halves : joined (over least (id_of 6 7)) (over (id_of 6 8) greatest) ≡ over least greatest
  pub empty_half : joined (over least (id_of 4 0)) (over (id_of 4 1) (id_of 5 0)) ≡ over least (id_of 5 0)
  -- the patterns that a host gets
  pub patterns : map pattern_by (pos 5 ∷ negsuc 1 ∷ negsuc 6399999999999 ∷ []) ≡ 5 ∷ (2 ^ 64 - 2) ∷ (2 ^ 64 - 6400000000000) ∷ []

pub computed : Computed
unfolding reports answers step entries_of live_in between id_order report_on value_of same pattern_of signed_of negative_of unsigned_of positive_of digits_after integer_of pattern_by
computed = record { answered = refl; halves = refl; empty_half = refl; patterns = refl }
