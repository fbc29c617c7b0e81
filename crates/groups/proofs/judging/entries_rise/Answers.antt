use mathlib.Core.Path.{◌≡◌, refl, sym, ap₂, ◌∙◌}
use Prim.Native.Nat.{ℕ, ◌+◌, ◌-◌}
use native.Mathlib.Omega.{arith}
use lib.ListN.{drop}
use Rattle.id.specs.declared.Id.{Id}
use Rattle.groups.specs.Parse.{are_entries}
use Rattle.groups.proofs.Turns.{entries_bad, entries_next, entries_done}
use Rattle.groups.proofs.judging.entries_rise.Goals as goal

pub loop-init : goal.loop-init
loop-init c =
    let none : c.args.count - 0 ≡ c.args.count = omega arith in
    rw none (omega arith, refl)

pub returns-then-not-is_entry : goal.returns-then-not-is_entry
returns-then-not-is_entry c =
    let l = c.loop in
    let x = c.args in
    sym (entries_bad x.consumers l.above x.most (c.args.count - l.counter) l.i x.s.now (omega arith) (sym c.is_entry.ensures ∙ c.if-not-is_entry.true)) ∙ l.invariant.1

pub loop-preserved : goal.loop-preserved
loop-preserved c =
    let l = c.loop in
    let x = c.args in
    let e : x.count - (l.counter + 1) ≡ x.count - l.counter - 1 = omega arith in (
      omega arith,
      ap₂ (λ (j : Id) (m : ℕ). are_entries x.consumers j x.most m (drop (l.i + 27) x.s.now)) c.read_id-above.ensures e
          ∙ sym (entries_next x.consumers l.above x.most (c.args.count - l.counter) l.i x.s.now (omega arith) (sym c.is_entry.ensures ∙ c.if-not-is_entry.false))
          ∙ l.invariant.1,
    )

pub returns : goal.returns
returns c =
    let l = c.loop in
    let x = c.args in
    sym (entries_done x.consumers l.above x.most (c.args.count - l.counter) (drop l.i x.s.now) (omega arith)) ∙ l.invariant.1
