-- Assumes nothing.
use Rattle.std.proofs.Common.{Some}
use mathlib.Core.Path.{sym, ap, ◌∙◌}
use native.Mathlib.Omega.{arith}
use mathlib.Core.List.{List}
use Prim.Native.Nat.{ℕ}
use Rattle.octets.specs.Bytes.{Bytes}
use Rattle.octets.specs.Compare.{same}
use Rattle.listpack.proofs.There.{integer_string, text_within, text_part}
use Rattle.listpack.proofs.known.known_is.Goals as goal
use Rattle.listpack.proofs.known.known_is.Goals.{After-shared_slice_known-1}

bytes : (c : After-shared_slice_known-1) → Bytes c.args.s.now
bytes c = record { byte = λ j. (c.type_inv.s j).fits }

pub known_element-requires : goal.known_element-requires
known_element-requires c = c.requires

pub overflow_add-from : goal.overflow_add-from
overflow_add-from c = omega (arith, text_within _ _ (bytes (goal.at.overflow_add-from c).After-shared_slice_known-1) c.requires _ c.known_element.ensures _ _ _ (ap Some c.in-Text.is))

pub overflow_add-end : goal.overflow_add-end
overflow_add-end c = omega (arith, text_within _ _ (bytes (goal.at.overflow_add-end c).After-shared_slice_known-1) c.requires _ c.known_element.ensures _ _ _ (ap Some c.in-Text.is))

pub slice_bounds-equal-end : goal.slice_bounds-equal-end
slice_bounds-equal-end c = omega (arith, text_within _ _ (bytes (goal.at.slice_bounds-equal-end c).After-shared_slice_known-1) c.requires _ c.known_element.ensures _ _ _ (ap Some c.in-Text.is))

pub returns-in-Integer : goal.returns-in-Integer
returns-in-Integer c =
    let x = c.args.x.now in
    c.integer_is.ensures ∙ ap (λ (l : List ℕ). same l x) (sym (integer_string _ _ (bytes (goal.at.returns-in-Integer c).After-shared_slice_known-1) c.requires _ c.known_element.ensures _ _ (ap Some c.in-Integer.is)))

pub returns-in-Text : goal.returns-in-Text
returns-in-Text c =
    let x = c.args.x.now in
    c.equal.ensures ∙ ap (λ (l : List ℕ). same l x) (text_part _ _ (bytes (goal.at.returns-in-Text c).After-shared_slice_known-1) c.requires _ c.known_element.ensures _ _ _ (ap Some c.in-Text.is))
