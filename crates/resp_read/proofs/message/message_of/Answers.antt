-- Assumes nothing.
use mathlib.Core.Path.{◌≡◌, refl, sym, ap, ◌∙◌}
use Rattle.std.proofs.Common.{List, Option}
use native.Mathlib.Omega.{arith}
use lib.ListN.{length, drop}
use Rattle.octets.specs.Place.{put}
use Rattle.slip.specs.Pair.{Pair}
use Rattle.slip.specs.Slip.{slip}
use Rattle.resp.specs.Parse.{Got, cut_pairs}
use Rattle.resp_read.specs.Answer.{pairs_by}
use Rattle.resp_read.proofs.Messages.{is_there, IsRange, is_range, First, first_some, first_at_lem, entries_some, opening_some, Opened, opened, pairs_some, slip_size, picked_nothing, picked_short, picked_message_lem}
use Rattle.resp_read.proofs.message.message_of.Goals as goal
use Rattle.resp_read.proofs.message.message_of.Goals.{After-unwrap-first, After-unwrap-o, After-unwrap-p, Start}

-- the reply, its head, and the entry at the place
abbrev messages : (c : Start) → IsRange c.args.reply.now c.args.count
messages c = is_range _ _ c.requires

abbrev first : (c : After-unwrap-first) → First c.args.reply.now c.args.place (is_range _ _ c.requires).messages c.unwrap-first.result
first c = first_at_lem _ _ _ (is_range _ _ c.requires) (omega arith) _ (sym c.unwrap-first.ensures ∙ c.head.ensures)

abbrev entry : (c : After-unwrap-o) → Opened c.args.reply.now c.args.place (is_range _ _ c.requires).messages c.unwrap-o.result
entry c =
    opened _ _ _ _ (first_at_lem _ _ _ (is_range _ _ c.requires) (omega arith) _ (sym c.unwrap-first.ensures ∙ c.head.ensures)) _ (sym c.unwrap-from.ensures ∙ c.entries.ensures) _
    (sym c.unwrap-o.ensures ∙ c.opening.ensures)

-- how many bytes its slip takes, and that it is what is written
size : (c : After-unwrap-p) → (x : Opened c.args.reply.now c.args.place (is_range _ _ c.requires).messages c.unwrap-o.result) → c.unwrap-p.result.slip ≡ length (slip x.some_pairs.got)
size c x = slip_size _ _ _ _ x _ (sym c.unwrap-p.ensures ∙ c.pairs.ensures)

slip_is : (c : After-unwrap-o) → slip (pairs_by (cut_pairs c.unwrap-o.result.pairs (drop c.unwrap-o.result.next c.args.reply.now))) ≡ slip (entry c).some_pairs.got
slip_is c = ap (λ (o : Option (Got (List Pair))). slip (pairs_by o)) (entry c).pairs_are

pub returns-then-count-place : goal.returns-then-count-place
returns-then-count-place c = let m = messages (goal.at.returns-then-count-place c).Start in picked_nothing _ _ _ _ m.parsed (omega (arith, m.count))

pub unwrap-first-requires : goal.unwrap-first-requires
unwrap-first-requires c = is_there _ _ c.head.ensures (first_some _ _ c.args.place (messages (goal.at.unwrap-first-requires c).Start))

pub entries-requires : goal.entries-requires
entries-requires c = (first (goal.at.entries-requires c).After-unwrap-first).within

pub unwrap-from-requires : goal.unwrap-from-requires
unwrap-from-requires c = is_there _ _ c.entries.ensures (entries_some _ _ _ _ (first (goal.at.unwrap-from-requires c).After-unwrap-first))

pub unwrap-o-requires : goal.unwrap-o-requires
unwrap-o-requires c = is_there _ _ c.opening.ensures (opening_some _ _ _ _ (first (goal.at.unwrap-o-requires c).After-unwrap-first) _ (sym c.unwrap-from.ensures ∙ c.entries.ensures))

pub pairs-requires : goal.pairs-requires
pairs-requires c = let x = entry (goal.at.pairs-requires c).After-unwrap-o in (x.within, x.few)

pub unwrap-p-requires : goal.unwrap-p-requires
unwrap-p-requires c = is_there _ _ c.pairs.ensures (pairs_some _ _ _ _ (entry (goal.at.unwrap-p-requires c).After-unwrap-o))

pub returns-then-out-p : goal.returns-then-out-p
returns-then-out-p c =
    let x = entry (goal.at.returns-then-out-p c).After-unwrap-o in
    picked_short _ _ _ _ (messages (goal.at.returns-then-out-p c).Start).parsed _ _ x.message_is (omega (arith, size (goal.at.returns-then-out-p c).After-unwrap-p x))

pub write_slip-requires : goal.write_slip-requires
write_slip-requires c =
    let x = entry (goal.at.write_slip-requires c).After-unwrap-o in
    (rw x.pairs_are refl, x.few, omega (arith, size (goal.at.write_slip-requires c).After-unwrap-p x, ap length (slip_is (goal.at.write_slip-requires c).After-unwrap-o)))

pub returns : goal.returns
returns c =
    let x = entry (goal.at.returns c).After-unwrap-o in
    let y = size (goal.at.returns c).After-unwrap-p x in
    picked_message_lem _ _ _ _ (messages (goal.at.returns c).Start).parsed _ _ x.message_is (omega (arith, y)) _ y _
    (c.write_slip.ensures ∙ ap (put c.args.out.now 0) (slip_is (goal.at.returns c).After-unwrap-o))
