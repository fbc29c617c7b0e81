-- The walk over elements: what a cursor passes, and the end byte. Assumes nothing.
use mathlib.Core.Path.{◌≡◌, refl, ap}
use mathlib.Core.List.{List, [], ◌∷◌}
use Rattle.std.proofs.Common.{Some, None, Option}
use mathlib.Core.Bool.{false}
use Prim.Native.Nat.{ℕ, suc, ◌+◌, ◌-◌, ◌≤◌, ◌<◌}
use native.Mathlib.Omega.{arith}
use lib.Dec.{eqb}
use lib.ListN.{length, get_or, drop, length-drop, drop_of_length-le}
use lib.Seq.{drop-cons}
use Rattle.octets.specs.Bytes.{Bytes}
use Rattle.octets.specs.Place.{area}
use Rattle.octets.specs.Compare.{same}
use Rattle.octets.proofs.Laws.{same_length, bytes_drop}
use Rattle.decimal.specs.Text.{text_of}
use Rattle.listpack.specs.Read.{parsed_by, parse, read_element}
use Rattle.listpack.specs.AtPlace.{size_of}
use Rattle.listpack.specs.declared.cursor.Cursor.{Cursor}
use Rattle.listpack.proofs.Sound.{Sound, sound}
use Rattle.listpack.proofs.Leaves.{pick_self}
use Rattle.listpack.proofs.Strings.{parse_by}
use Rattle.listpack.proofs.Sizes.{integer_bounds}
use Rattle.listpack.specs.declared.Element.{Element}
use Rattle.listpack.specs.declared.Element.TheVariants.{Integer, Text}

-- an element lies within the bytes
pub size_within : (s : List ℕ) → Bytes s → size_of (read_element s) ≤ length s
size_within s b = by (read_element s) (sound s b)
  where
    by : (e : Option Element) → Sound s e → size_of e ≤ length s
    by (Some (Integer p n)) k = k.starts.within
    by (Some (Text at l n)) k = k.starts.within
    by None k = omega arith

-- an element that takes no bytes is none, and any other is parsed
record Found (s : List ℕ) (n : ℕ) : Type 0 where
  string : List ℕ
  is : parse s ≡ Some (record { string = string; size = n })

found : (s : List ℕ) (e : Option Element) → read_element s ≡ e → (size_of e ≡ 0 → ⊥) → Found s (size_of e)
found s (Some (Integer p n)) f h = record { string = text_of p; is = parse_by s _ f }
found s (Some (Text at l n)) f h = record { string = area at l s; is = parse_by s _ f }
found s None f h = absurd (h refl)

pub found_none : (s : List ℕ) → Bytes s → size_of (read_element s) ≡ 0 → parse s ≡ None
unfolding parse
found_none s b = by (read_element s) (sound s b)
  where
    by : (e : Option Element) → Sound s e → size_of e ≡ 0 → parsed_by s e ≡ None
    by (Some (Integer p n)) k h = absurd (omega (arith, k.starts.size, integer_bounds p))
    by (Some (Text at l n)) k h = absurd (omega (arith, k.inside))
    by None k h = refl

-- the element e where a cursor stands, and the cursor after it
pub record Passed (s : List ℕ) (c : Cursor) (e : Option Element) (next : Cursor) : Type 0 where
  pub string : List ℕ
  pub parsed : parse (drop c.at s) ≡ Some (record { string = string; size = size_of e })
  pub read : read_element (drop c.at s) ≡ e
  pub next_at : next.at ≡ c.at + size_of e
  pub next_left : c.left ≡ suc next.left
  pub within : next.at ≤ length s

pub passed : (s : List ℕ) (c : Cursor) → Bytes s → (c.left ≡ 0 → ⊥) → (e : Option Element) → read_element (drop c.at s) ≡ e → (size_of e ≡ 0 → ⊥)
    → Passed s c e (record { at = c.at + size_of e; left = c.left - 1 })
passed s c b more e f h =
    let t : List ℕ = drop c.at s in
    let k = found t e f h in
    record {
      string = k.string;
      parsed = k.is;
      read = f;
      next_at = refl;
      next_left = omega arith;
      within = omega (arith, size_within t (bytes_drop c.at b), ap size_of f, length-drop c.at s);
    }

-- the end byte alone
module _ (s : List ℕ) (at : ℕ) where
  pub end_other : (length (drop at s) ≡ 1 → ⊥) → same (drop at s) (255 ∷ []) ≡ false
  end_other h = same_length (drop at s) (255 ∷ []) h

  pub end_byte_lem : length s ≡ at + 1 → same (drop at s) (255 ∷ []) ≡ eqb (get_or s at 0) 255
  unfolding same
  end_byte_lem h =
      let k : at < length s = omega arith in
      let e : drop (suc at) s ≡ [] = drop_of_length-le s {i = suc at} (omega arith) in
      simp (drop-cons s at 0 k, e) (pick_self (eqb (get_or s at 0) 255))
