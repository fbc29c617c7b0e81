-- `is_next` meets its contract. Assumes nothing.
use mathlib.Core.Path.{◌≡◌, sym, ap, ◌∙◌}
use mathlib.Core.Bool.{Bool, true, false}
use borrow.Author.Tests.{eq-eqb, ne_eqb}
use Prim.Native.Nat.{◌-◌}
use native.Mathlib.Omega.{arith}
use lib.Dec.{eqb}
use lib.ListN.{drop, get_or}
use lib.Seq.{get_or-drop}
use Rattle.octets.specs.Pick.{both}
use Rattle.id.specs.Id.{below}
use Rattle.groups.specs.Parse.{entry_id}
use Rattle.groups.proofs.Turns.{id_at_lem}
use Rattle.groups.proofs.reading.is_next.Goals as goal

pub returns-then-place-consumer : goal.returns-then-place-consumer
returns-then-place-consumer c =
    let x = c.args in
    let s = x.region.now in
    let e : eqb (get_or (drop x.at s) 16 0) x.consumer ≡ false =
    ne_eqb (get_or (drop x.at s) 16 0) x.consumer (λ q. c.if-place-consumer.true (c.wide-place.ensures.0 ∙ sym (get_or-drop x.at s 16 0) ∙ q)) in
    sym (ap (λ (b : Bool). both b (below x.after (entry_id (drop x.at s)))) e)

pub returns : goal.returns
returns c =
    let x = c.args in
    let s = x.region.now in
    let e : eqb (get_or (drop x.at s) 16 0) x.consumer ≡ true =
    eq-eqb (get_or (drop x.at s) 16 0) x.consumer (omega (arith, get_or-drop x.at s 16 0, c.wide-place.ensures.0, c.if-place-consumer.false)) in
    c.is_below.ensures
    ∙ ap (below x.after) (c.read_id.ensures ∙ sym (id_at_lem x.at s))
    ∙ sym (ap (λ (b : Bool). both b (below x.after (entry_id (drop x.at s)))) e)
