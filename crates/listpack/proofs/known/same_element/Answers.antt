-- Assumes nothing.
use mathlib.Core.Path.{◌≡◌, sym, ◌∙◌}
use native.Mathlib.Omega.{arith}
use Prim.Native.Nat.{◌+◌, ◌≤◌}
use lib.ListN.{length}
use Rattle.octets.specs.Bytes.{Bytes}
use Rattle.listpack.specs.Known.{after_at}
use Rattle.listpack.proofs.OneForm.{ElementIs, element_is, after_is, same_there, two_bytes, ends_differ}
use Rattle.listpack.proofs.known.same_element.Goals as goal
use Rattle.listpack.proofs.known.same_element.Goals.{After-known_size, After-known_size-2, After-shared_slice_known-1}

bytes : (c : After-shared_slice_known-1) → Bytes c.args.s.now
bytes c = record { byte = λ j. (c.type_inv.s j).fits }

-- the two elements, and the places after them
first : (c : After-shared_slice_known-1) → ElementIs c.args.s.now c.args.a
first c = element_is _ _ (bytes c) c.requires.0

second : (c : After-shared_slice_known-1) → ElementIs c.args.s.now c.args.b
second c = element_is _ _ (bytes c) c.requires.1

first_end : (c : After-known_size) → c.args.a + c.known_size.result ≡ after_at c.args.s.now c.args.a
first_end c = after_is _ _ _ c.known_size.ensures

second_end : (c : After-known_size-2) → c.args.b + c.known_size-2.result ≡ after_at c.args.s.now c.args.b
second_end c = after_is _ _ _ c.known_size-2.ensures

first_two : (c : After-known_size) → let x = c.args in let e = x.a + c.known_size.result in (x.a + 2 ≤ e) × (e ≤ length x.s.now)
first_two c = let the_first : ElementIs c.args.s.now c.args.a = let the_bytes : Bytes c.args.s.now = record { byte = λ j. (c.type_inv.s j).fits } in element_is _ _ (the_bytes) c.requires.0 in two_bytes _ _ _ (the_first) (first_end c)

second_two : (c : After-known_size-2) → let x = c.args in let e = x.b + c.known_size-2.result in (x.b + 2 ≤ e) × (e ≤ length x.s.now)
second_two c = let the_second : ElementIs c.args.s.now c.args.b = let the_bytes : Bytes c.args.s.now = record { byte = λ j. (c.type_inv.s j).fits } in element_is _ _ (the_bytes) c.requires.1 in two_bytes _ _ _ (the_second) (second_end c)

pub overflow_add-x : goal.overflow_add-x
overflow_add-x c = omega (arith, first_two (goal.at.overflow_add-x c).After-known_size)

pub overflow_add-y : goal.overflow_add-y
overflow_add-y c = omega (arith, second_two (goal.at.overflow_add-y c).After-known_size-2)

pub overflow_sub-x : goal.overflow_sub-x
overflow_sub-x c = omega (arith, first_two (goal.at.overflow_sub-x c).After-known_size)

pub bounds-s-x : goal.bounds-s-x
bounds-s-x c = omega (arith, first_two (goal.at.bounds-s-x c).After-known_size)

pub overflow_sub-y : goal.overflow_sub-y
overflow_sub-y c = omega (arith, second_two (goal.at.overflow_sub-y c).After-known_size-2)

pub bounds-s-y : goal.bounds-s-y
bounds-s-y c = omega (arith, second_two (goal.at.bounds-s-y c).After-known_size-2)

pub returns-then-s-x : goal.returns-then-s-x
returns-then-s-x c = sym (ends_differ _ _ _ _ _ (first (goal.at.returns-then-s-x c).After-shared_slice_known-1) (second (goal.at.returns-then-s-x c).After-shared_slice_known-1) (first_end (goal.at.returns-then-s-x c).After-known_size) (second_end (goal.at.returns-then-s-x c).After-known_size-2) c.if-s-x.true)

pub slice_bounds-equal-end : goal.slice_bounds-equal-end
slice_bounds-equal-end c = omega (arith, first_two (goal.at.slice_bounds-equal-end c).After-known_size)

pub slice_bounds-equal-end-2 : goal.slice_bounds-equal-end-2
slice_bounds-equal-end-2 c = omega (arith, second_two (goal.at.slice_bounds-equal-end-2 c).After-known_size-2)

pub returns : goal.returns
returns c = c.equal.ensures ∙ same_there _ _ _ _ _ _ (first (goal.at.returns c).After-shared_slice_known-1) (second (goal.at.returns c).After-shared_slice_known-1) (first_end (goal.at.returns c).After-known_size) (second_end (goal.at.returns c).After-known_size-2)
