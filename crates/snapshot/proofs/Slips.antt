-- A message of a ledger is a short slip, though an integer's text may be longer than its element. Assumes nothing.
use mathlib.Core.Path.{◌≡◌, refl, ap}
use mathlib.Core.Bool.{true}
use mathlib.Core.List.{List, [], ◌∷◌}
use Rattle.std.proofs.Common.{Option, Some, None}
use Prim.Native.Nat.{ℕ, ◌+◌, ◌*◌, ◌≤◌, ◌<◌}
use native.Mathlib.Omega.{arith}
use lib.Dec.{leb}
use lib.ListN.{length, length-append}
use borrow.Author.Tests.{lt-ltb, leb-true}
use Rattle.octets.proofs.Laws.{both_true}
use Rattle.id.specs.Id.{is_id}
use Rattle.decimal.specs.Integer.{pattern_of}
use Rattle.decimal.proofs.Laws.{text_of_pattern, text_length}
use Rattle.listpack.specs.Element.{element, element_size}
use Rattle.listpack.specs.Listpack.{elements}
use Rattle.listpack.proofs.Laws.{element_bounds, size_text, text_bounds}
use Rattle.slip.specs.Pair.{Pair, is_string, are_strings, is_pair_count, are_pairs}
use Rattle.slip.specs.Slip.{slip, slip_pairs}
use Rattle.slip.proofs.Laws.{is_string_lem, strings_first, length_pairs, length_slip}
use Rattle.node.specs.Message.{Message, live, fields_of, values_of, is_message}
use Rattle.node.specs.Bytes.{node_size}
use Rattle.node.specs.Step.{fits_alone}
use Rattle.node.specs.Answer.{size_of}
use Rattle.node.proofs.Laws.{size_alone}

-- a text is shorter than its element; the text of an integer has 20 bytes at most
element_size_lem : (x : List ℕ) → length x < 4096 → element_size x ≡ length (element x)
unfolding element_size
element_size_lem x h = rw (lt-ltb (length x) 4096 h)

element_least : (x : List ℕ) → is_string x ≡ true → length x ≤ length (element x) + 18
element_least x s = by (pattern_of x) refl
  where
    short : length x < 4096
    short = omega (arith, is_string_lem x s)

    by : (o : Option ℕ) → pattern_of x ≡ o → length x ≤ length (element x) + 18
    by None e = omega (arith, element_size_lem x short, size_text x short e, text_bounds (length x))
    by (Some p) e = omega (arith, element_bounds x, text_length p, ap length (text_of_pattern x p e))

pairs_most : (ps : List Pair) → are_strings ps ≡ true → length (slip_pairs ps) ≤ size_of (fields_of ps) + size_of (values_of ps) + 40 * length ps
unfolding size_of elements
pairs_most [] s = unfold slip_pairs in omega arith
pairs_most (p ∷ ps) s =
    let t = strings_first p ps s in
    omega (
      arith,
      length_pairs p ps,
      pairs_most ps t.2,
      element_least p.field t.0,
      element_least p.value t.1,
      length-append (element p.field) (elements (fields_of ps)),
      length-append (element p.value) (elements (values_of ps)),
    )

pub slip_most : (m : Message) → is_message m ≡ true → fits_alone m ≡ true → length (slip m.pairs) ≤ 5353
unfolding is_message fits_alone are_pairs
slip_most m h f =
    let p = both_true (is_id m.id) (are_pairs m.pairs) h in
    let q = both_true (is_pair_count (length m.pairs)) (are_strings m.pairs) p.1 in
    let r = both_true (leb 1 (length m.pairs)) (leb (length m.pairs) 32) q.0 in
    omega (
      arith,
      length_slip m.pairs,
      pairs_most m.pairs q.1,
      size_alone m h,
      leb-true (node_size (live m ∷ [])) 4095 f,
      leb-true (length m.pairs) 32 r.1,
    )
