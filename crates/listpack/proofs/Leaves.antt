-- What each definition of the reader says at each answer of the code. Assumes nothing.
use mathlib.Core.Path.{◌≡◌, refl, ◌∙◌}
use mathlib.Core.Bool.{Bool, true, false}
use mathlib.Core.List.{List}
use Prim.Native.Nat.{ℕ, suc, ◌+◌, ◌-◌, ◌*◌, ◌/◌, ◌%◌, ◌≤◌, ◌<◌}
use native.Mathlib.Numerals.{add-one}
use native.Mathlib.Omega.{arith}
use lib.Dec.{eqb}
use lib.ListN.{length, get_or, length-take, length-drop}
use lib.Seq.{drop-cons}
use borrow.Author.Tests.{lt-ltb, le-ltb, eq-eqb, ne_eqb}
use Rattle.octets.specs.Bytes.{le_value}
use Rattle.octets.specs.Place.{area}
use Rattle.octets.specs.Compare.{same}
use Rattle.octets.specs.Pick.{pick}
use Rattle.std.proofs.Common.{is_none, Some, None}
use Rattle.decimal.specs.Integer.{pattern_of}
use Rattle.octets.proofs.Laws.{same_length}
use Rattle.listpack.specs.Width.{extend, half_of}
use Rattle.listpack.specs.Element.{integer_body, text_head, back_length}
use Rattle.listpack.specs.Read.{back_at, integer_stands, as_integer, close_integer, text_stands, as_text, close_text, tag_width, read_wide, read_by, read_element}
use Rattle.octets.proofs.Laws.{pick_same}
use Rattle.listpack.proofs.Forms.{back_size}
use Rattle.listpack.specs.declared.Element.TheVariants.{Integer, Text}

pub pick_self : (t : Bool) → pick t true false ≡ t
pick_self true = refl
pick_self false = refl

module _ (n : ℕ) (s : List ℕ) where
  -- the list ends before it
  pub back_none : length s < n + length (back_length n) → back_at n s ≡ false
  unfolding back_at area
  back_none h = same_length _ _ (λ e. omega (arith, simp (length-take, length-drop) at e, back_size n))

  pub back_1 : n < 128 → n < length s → back_at n s ≡ eqb (get_or s n 0) n
  unfolding back_at back_length area same
  back_1 h k = simp (lt-ltb, drop-cons s n 0 k) (pick_self _)

  pub back_other : 128 ≤ n → n < length s → (get_or s n 0 ≡ n / 128 → ⊥) → back_at n s ≡ false
  unfolding back_at back_length area same
  back_other h k e = simp (le-ltb, drop-cons s n 0 k, ne_eqb)

  pub back_2 : 128 ≤ n → n + 1 < length s → get_or s n 0 ≡ n / 128 → back_at n s ≡ eqb (get_or s (n + 1) 0) (128 + n % 128)
  unfolding back_at back_length area same
  back_2 h k e =
      let i : n < length s = omega arith in
      let j : suc n < length s = omega arith in
      simp (le-ltb, drop-cons s n 0 i, drop-cons s (suc n) 0 j, eq-eqb, add-one) (pick_self _)

-- an integer that is closed, or refused at either test
module _ (s : List ℕ) (p n : ℕ) where
  pub integer_other : (length (integer_body p) ≡ n → ⊥) → integer_stands s p n ≡ false
  unfolding integer_stands
  integer_other h = simp ne_eqb

  pub integer_last : length (integer_body p) ≡ n → integer_stands s p n ≡ back_at n s
  unfolding integer_stands
  integer_last h = simp eq-eqb

  pub integer_closed : length (integer_body p) ≡ n → back_at n s ≡ true → close_integer s p n ≡ Some (Integer p (n + length (back_length n)))
  unfolding close_integer as_integer
  integer_closed h e = rw (integer_last h, e)

pub integer_made : (p n : ℕ) → as_integer p n true ≡ Some (Integer p (n + length (back_length n)))
unfolding as_integer
integer_made p n = refl

pub integer_bad : (p n : ℕ) → as_integer p n false ≡ None
unfolding as_integer
integer_bad p n = refl

-- a text, likewise
module _ (s : List ℕ) (at l : ℕ) where
  pub text_other : (length (text_head l) ≡ at → ⊥) → text_stands s at l ≡ false
  unfolding text_stands
  text_other h = simp ne_eqb

  pub text_open : back_at (at + l) s ≡ false → text_stands s at l ≡ false
  unfolding text_stands
  text_open e = simp (e, pick_same)

  pub text_last : length (text_head l) ≡ at → back_at (at + l) s ≡ true → text_stands s at l ≡ is_none (pattern_of (area at l s))
  unfolding text_stands
  text_last h e = simp (eq-eqb, e)

  pub text_closed : text_stands s at l ≡ true → close_text s at l ≡ Some (Text at l (at + l + length (back_length (at + l))))
  unfolding close_text as_text
  text_closed e = rw e

pub text_made : (at l : ℕ) → as_text at l true ≡ Some (Text at l (at + l + length (back_length (at + l))))
unfolding as_text
text_made at l = refl

pub text_bad : (at l : ℕ) → as_text at l false ≡ None
unfolding as_text
text_bad at l = refl

-- a number of w bytes
module _ (w : ℕ) (s : List ℕ) where
  pub wide_no : w ≡ 0 → read_wide w s ≡ None
  unfolding read_wide
  wide_no h = simp eq-eqb

  pub wide_none : (w ≡ 0 → ⊥) → length s ≤ w → read_wide w s ≡ None
  unfolding read_wide
  wide_none k h = simp (ne_eqb, le-ltb)

  pub wide_some : (v : ℕ) → v ≡ extend (half_of w) (le_value (area 1 w s)) → (w ≡ 0 → ⊥) → w < length s → read_wide w s ≡ as_integer v (1 + w) (integer_stands s v (1 + w))
  unfolding read_wide close_integer
  wide_some v e k h = rw (e, ne_eqb w 0 k, lt-ltb w (length s) h)

-- by the first byte
pub read_none : (s : List ℕ) → length s < 2 → read_element s ≡ None
unfolding read_element
read_none s h = simp lt-ltb

module _ (s : List ℕ) (b c : ℕ) (two : 2 ≤ length s) (x : get_or s 0 0 ≡ b) (y : get_or s 1 0 ≡ c) where
  by_first : read_element s ≡ read_by b c s
  unfolding read_element
  by_first = rw (le-ltb (length s) 2 two, x, y)

  pub read_tiny : b < 128 → read_element s ≡ as_integer b 1 (integer_stands s b 1)
  unfolding read_by close_integer
  read_tiny h = by_first ∙ simp lt-ltb

  pub read_text : 128 ≤ b → b < 192 → read_element s ≡ as_text 1 (b - 128) (text_stands s 1 (b - 128))
  unfolding read_by close_text
  read_text h k = by_first ∙ simp (le-ltb, lt-ltb)

  pub read_short : (v : ℕ) → v ≡ extend 4096 (256 * (b - 192) + c) → 192 ≤ b → b < 224 → read_element s ≡ as_integer v 2 (integer_stands s v 2)
  unfolding read_by close_integer
  read_short v e h k = by_first ∙ rw (e, le-ltb b 128 (omega arith), le-ltb b 192 h, lt-ltb b 224 k)

  pub read_long : 224 ≤ b → b < 240 → read_element s ≡ as_text 2 (256 * (b - 224) + c) (text_stands s 2 (256 * (b - 224) + c))
  unfolding read_by close_text
  read_long h k = by_first ∙ simp (le-ltb b 128 (omega arith), le-ltb b 192 (omega arith), le-ltb, lt-ltb)

  pub read_tagged : 240 ≤ b → read_element s ≡ read_wide (tag_width b) s
  unfolding read_by
  read_tagged h =
      by_first ∙ simp (le-ltb b 128 (omega arith), le-ltb b 192 (omega arith), le-ltb b 224 (omega arith), le-ltb)

-- F1 to F4, and any other
module _ (b : ℕ) where
  pub tag_16 : b ≡ 241 → tag_width b ≡ 2
  unfolding tag_width
  tag_16 e = simp eq-eqb

  module _ (x : b ≡ 241 → ⊥) where
    pub tag_24 : b ≡ 242 → tag_width b ≡ 3
    unfolding tag_width
    tag_24 e = simp (ne_eqb b 241 x, eq-eqb)

    module _ (y : b ≡ 242 → ⊥) where
      pub tag_32 : b ≡ 243 → tag_width b ≡ 4
      unfolding tag_width
      tag_32 e = simp (ne_eqb b 241 x, ne_eqb b 242 y, eq-eqb)

      module _ (z : b ≡ 243 → ⊥) where
        pub tag_64 : b ≡ 244 → tag_width b ≡ 8
        unfolding tag_width
        tag_64 e = simp (ne_eqb b 241 x, ne_eqb b 242 y, ne_eqb b 243 z, eq-eqb)

        pub tag_none : (b ≡ 244 → ⊥) → tag_width b ≡ 0
        unfolding tag_width
        tag_none u = simp (ne_eqb b 241 x, ne_eqb b 242 y, ne_eqb b 243 z, ne_eqb b 244 u)
