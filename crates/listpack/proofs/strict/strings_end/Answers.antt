use mathlib.Core.Path.{◌≡◌, refl, sym, ap, ◌∙◌}
use Prim.Native.Nat.{◌+◌, ◌≤◌}
use native.Mathlib.Omega.{arith}
use lib.ListN.{length}
use Rattle.octets.specs.Bytes.{Bytes}
use Rattle.octets.proofs.Laws.{part_rest}
use Rattle.listpack.specs.Read.{read_element}
use Rattle.listpack.specs.AtPlace.{string_size, string_size_at}
use Rattle.listpack.proofs.AtPlace.{string_by_lem, string_within, end_none, end_stop, end_next}
use Rattle.listpack.proofs.strict.strings_end.Goals as goal
use Rattle.listpack.proofs.strict.strings_end.Goals.{After-string_size-size}

size : (c : After-string_size-size) → string_size_at c.args.s.now c.loop-k.at ≡ c.string_size-size.result
size c =
    let s = c.args.s.now in
    let at = c.loop-k.at in
    sym (c.string_size-size.ensures ∙ ap (λ t. string_size (read_element t)) (part_rest s at) ∙ sym (string_by_lem s at))

-- it lies within the bytes
within : (c : After-string_size-size) → c.loop-k.at + c.string_size-size.result ≤ length c.args.s.now
within c =
    let s = c.args.s.now in
    let bytes : Bytes s = record { byte = λ j. (c.type_inv.s j).fits } in
    omega (arith, string_within s c.loop-k.at bytes, size c, c.loop-k.invariant.1)

pub loop-k-init : goal.loop-k-init
loop-k-init c = (refl, omega arith)

pub returns-then-size-eq0 : goal.returns-then-size-eq0
returns-then-size-eq0 c = let l = c.loop-k in sym (l.invariant.0 ∙ end_stop _ _ _ (omega arith) (size (goal.at.returns-then-size-eq0 c).After-string_size-size ∙ c.if-size-eq0.true))

pub overflow_add-at : goal.overflow_add-at
overflow_add-at c = omega (arith, within (goal.at.overflow_add-at c).After-string_size-size)

pub loop-k-preserved : goal.loop-k-preserved
loop-k-preserved c = let l = c.loop-k in (l.invariant.0 ∙ end_next _ _ _ _ (omega arith) (size (goal.at.loop-k-preserved c).After-string_size-size) (omega arith), within (goal.at.loop-k-preserved c).After-string_size-size)

pub returns : goal.returns
returns c = let l = c.loop-k in sym (l.invariant.0 ∙ end_none _ _ _ (omega arith))
