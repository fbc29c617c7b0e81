-- `make_consumer` meets its contract: a known consumer changes nothing, a new one is put in at its place. Assumes nothing.
use mathlib.Core.Path.{◌≡◌, sym, ap, ◌∙◌}
use Prim.Native.Nat.{◌<◌}
use borrow.Author.Tests.{leb-false}
use native.Mathlib.Nat.{zero-add}
use native.Mathlib.Omega.{arith}
use lib.ListN.{length}
use Rattle.groups.specs.declared.Spot.TheVariants.{New}
use Rattle.groups.specs.Bytes.{place_of_name, region_bytes}
use Rattle.groups.specs.Parse.{group_in}
use Rattle.groups.specs.Answer.{spot_from}
use Rattle.groups.proofs.Laws.{KnownSpot, known_spot, placed, rules, with_known}
use Rattle.groups_change.proofs.Changes.{lacks_unknown}
use Rattle.groups_change.proofs.Members.{made_place, known_made, spot_within, unknown_spot}
use Rattle.groups_change.proofs.consumers.make_consumer.Goals as goal
use Rattle.groups_change.proofs.consumers.make_consumer.Goals.{In-Known, In-New}

-- a consumer is to be made, and there is room
new : (c : In-New) → let x = c.args in spot_from 0 x.name.now (group_in x.region.now).consumers ≡ New c.in-New.k
new c = sym c.spot_of.ensures ∙ c.in-New.is

room : (c : In-New) → length (group_in c.args.region.now).consumers < 16
room c =
    let g = group_in c.args.region.now in
    leb-false 16 (length g.consumers)
    (sym (lacks_unknown c.args.name.now g (length g.consumers) (λ _. length g.consumers) (unknown_spot c.args.region.now c.requires.0 c.args.name.now c.in-New.k (new c))) ∙ c.requires.3)

known : (c : In-Known) → let x = c.args in KnownSpot 0 x.name.now (group_in x.region.now).consumers c.in-Known.k
known c =
    let x = c.args in
    known_spot 0 x.name.now (group_in x.region.now).consumers c.in-Known.k (sym c.spot_of.ensures ∙ c.in-Known.is)

pub insert_consumer-requires : goal.insert_consumer-requires
insert_consumer-requires c = (c.requires.0, c.requires.2, new (goal.at.insert_consumer-requires c).In-New, room (goal.at.insert_consumer-requires c).In-New)

pub returns-in-Known : goal.returns-in-Known
returns-in-Known c =
    let g = group_in c.args.region.now in
    let r = rules g c.requires.0.rules_kept in
    let f = known (goal.at.returns-in-Known c).In-Known in
    let n = c.args.name.now in (
      f.place ∙ zero-add (place_of_name n g.consumers) ∙ ap (place_of_name n) (sym (with_known n _ g.consumers r.rising f.among)),
      omega (arith, f.place, (placed n g.consumers f.among).within, r.few),
      c.requires.0.laid ∙ ap region_bytes (known_made c.args.region.now c.requires.0 n f.among),
    )

pub returns-in-New : goal.returns-in-New
returns-in-New c =
    let g = group_in c.args.region.now in (
      made_place c.args.region.now c.requires.0 c.args.name.now _ c.requires.1 (new (goal.at.returns-in-New c).In-New),
      omega (arith, room (goal.at.returns-in-New c).In-New, spot_within c.args.region.now c.requires.0 c.args.name.now _ (new (goal.at.returns-in-New c).In-New)),
      c.insert_consumer.ensures,
    )
