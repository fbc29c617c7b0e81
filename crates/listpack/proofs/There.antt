-- An element that is there, by its first bytes alone. Assumes nothing.
use mathlib.Core.Path.{◌≡◌, refl, sym, ap, ap₂, ◌∙◌, subst}
use mathlib.Core.Bool.{Bool, true, false, not}
use mathlib.Core.List.{List}
use Prim.Native.Nat.{ℕ, zero, suc, ◌+◌, ◌-◌, ◌*◌, ◌^◌, ◌≤◌, ◌<◌}
use native.Mathlib.Omega.{arith}
use lib.Dec.{ltb, eqb}
use lib.ListN.{length, get_or, take, drop, length-drop}
use lib.Seq.{get_or-drop, drop-drop}
use borrow.Author.Tests.{lt-ltb, le-ltb, eq-eqb, ltb-false, eqb-true, eqb-false}
use Rattle.octets.specs.Pick.{pick}
use Rattle.octets.specs.Bytes.{Bytes, le_value}
use Rattle.octets.specs.Place.{area}
use Rattle.std.proofs.Common.{is_none, Option, Some, None}
use Rattle.octets.proofs.Laws.{both_true, both_of, bytes_drop, area_drop, length_area, never, pick_by}
use Rattle.decimal.specs.Text.{text_of}
use Rattle.listpack.specs.Width.{extend, half_of}
use Rattle.listpack.specs.Element.{back_length}
use Rattle.listpack.specs.Read.{parse, as_integer, close_integer, integer_stands, as_text, close_text, text_stands, tag_width, read_wide, read_by, read_element}
use Rattle.listpack.specs.AtPlace.{size_of}
use Rattle.listpack.specs.Known.{ElementAt, ElementsAt, string_by, string_at, pattern_in, size_at, pattern_at, after_at, end_at, are_there, text_in, text_at, start_in, start_at}
use Rattle.listpack.proofs.Sound.{Sound, sound}
use Rattle.listpack.proofs.Strings.{parse_by}
use Rattle.listpack.proofs.Leaves.{tag_16, tag_24, tag_32, tag_64, tag_none}
use Rattle.listpack.proofs.Walks.{size_within}
use Rattle.listpack.specs.declared.Element.{Element}
use Rattle.listpack.specs.declared.Element.TheVariants.{Integer, Text}

-- an element whose tests all hold
abbrev closed_integer : ℕ → ℕ → Option Element
closed_integer p n = Some (Integer p (n + length (back_length n)))

abbrev closed_text : ℕ → ℕ → Option Element
closed_text at l = Some (Text at l (at + l + length (back_length (at + l))))

unfoldable pub loose_by : ℕ → ℕ → List ℕ → Option Element
loose_by b c s =
    pick (ltb b 128) (closed_integer b 1)
    (pick (ltb b 192) (closed_text 1 (b - 128))
    (pick (ltb b 224) (closed_integer (extend 4096 (256 * (b - 192) + c)) 2)
    (pick (ltb b 240) (closed_text 2 (256 * (b - 224) + c))
    (closed_integer (extend (half_of (tag_width b)) (le_value (area 1 (tag_width b) s))) (1 + tag_width b)))))

abbrev stands : Option Element → Bool
stands (Some (Integer p n)) = true
stands (Some (Text at l n)) = true
stands None = false

-- a choice of which each way is known where it stands
by_each : (t : Bool) (x u y v : Option Element) → (stands x ≡ true → x ≡ u) → (stands y ≡ true → y ≡ v) → stands (pick t x y) ≡ true → pick t x y ≡ pick t u v
by_each true x u y v f g = f
by_each false x u y v f g = g

bad_else : (t : Bool) (x u : Option Element) → (stands x ≡ true → x ≡ u) → stands (pick t x None) ≡ true → pick t x None ≡ u
bad_else true x u f e = f e
bad_else false x u f e = absurd (never e refl)

bad_first : (t : Bool) (y v : Option Element) → (stands y ≡ true → y ≡ v) → stands (pick t None y) ≡ true → pick t None y ≡ v
bad_first true y v f e = absurd (never e refl)
bad_first false y v f e = f e

integer_known : (s : List ℕ) (p n : ℕ) → stands (close_integer s p n) ≡ true → close_integer s p n ≡ closed_integer p n
unfolding close_integer as_integer
integer_known s p n = bad_else (integer_stands s p n) (closed_integer p n) (closed_integer p n) (λ e. refl)

text_known : (s : List ℕ) (at l : ℕ) → stands (close_text s at l) ≡ true → close_text s at l ≡ closed_text at l
unfolding close_text as_text
text_known s at l = bad_else (text_stands s at l) (closed_text at l) (closed_text at l) (λ e. refl)

wide_known : (s : List ℕ) (w : ℕ) → stands (read_wide w s) ≡ true → read_wide w s ≡ closed_integer (extend (half_of w) (le_value (area 1 w s))) (1 + w)
unfolding read_wide
wide_known s w = bad_first (eqb w 0) _ _ (bad_else (ltb w (length s)) _ _ (integer_known s _ (1 + w)))

loose_known : (s : List ℕ) → stands (read_element s) ≡ true → read_element s ≡ loose_by (get_or s 0 0) (get_or s 1 0) s
unfolding read_element read_by loose_by
loose_known s =
    let b : ℕ = get_or s 0 0 in
    bad_first (ltb (length s) 2) _ _
    (by_each (ltb b 128) _ _ _ _ (integer_known s b 1)
    (by_each (ltb b 192) _ _ _ _ (text_known s 1 (b - 128))
    (by_each (ltb b 224) _ _ _ _ (integer_known s _ 2)
    (by_each (ltb b 240) _ _ _ _ (text_known s 2 _) (wide_known s (tag_width b))))))

-- two bytes at least
two_known : (s : List ℕ) → stands (read_element s) ≡ true → 2 ≤ length s
unfolding read_element
two_known s = by (ltb (length s) 2) refl
  where
    by : (t : Bool) → ltb (length s) 2 ≡ t → stands (pick t None (read_by (get_or s 0 0) (get_or s 1 0) s)) ≡ true → 2 ≤ length s
    by true q e = absurd (never e refl)
    by false q e = ltb-false (length s) 2 q

-- one of the four tags
no_tag : (s : List ℕ) (w : ℕ) → stands (read_wide w s) ≡ true → w ≡ 0 → ⊥
unfolding read_wide
no_tag s w e z = never e (rw (eq-eqb w 0 z))

module _ (s : List ℕ) (at : ℕ) (k : ElementAt s at) where
  is_there_lem : stands (read_element (drop at s)) ≡ true
  is_there_lem = by (read_element (drop at s)) refl
    where
      by : (e : Option Element) → read_element (drop at s) ≡ e → stands e ≡ true
      by (Some (Integer p n)) q = refl
      by (Some (Text a l n)) q = refl
      by None q = absurd (never (ap is_none (parse_by (drop at s) None q)) k.there)

  pub two_there : at + 1 < length s
  two_there = omega (arith, two_known (drop at s) is_there_lem, length-drop at s)

  loose_there : read_element (drop at s) ≡ loose_by (get_or (drop at s) 0 0) (get_or (drop at s) 1 0) (drop at s)
  loose_there = loose_known (drop at s) is_there_lem

  module _ (b : ℕ) (first : b ≡ get_or s at 0) where
    first_there : get_or (drop at s) 0 0 ≡ b
    first_there =
        let q : at + 0 ≡ at = omega arith in
        get_or-drop at s 0 0 ∙ ap (λ (i : ℕ). get_or s i 0) q ∙ sym first

    by_first : read_element (drop at s) ≡ loose_by b (get_or s (at + 1) 0) (drop at s)
    by_first = loose_there ∙ ap₂ (λ (x y : ℕ). loose_by x y (drop at s)) first_there (get_or-drop at s 1 0)

    -- by the first byte, and the second, which is c
    pub tiny_there : b < 128 → read_element (drop at s) ≡ Some (Integer b 2)
    unfolding loose_by back_length
    tiny_there h = by_first ∙ rw (lt-ltb b 128 h)

    pub text_there : 128 ≤ b → b < 192 → read_element (drop at s) ≡ Some (Text 1 (b - 128) (b - 126))
    unfolding loose_by back_length
    text_there h i =
        let q : 1 + (b - 128) + 1 ≡ b - 126 = omega arith in
        by_first ∙ rw (le-ltb b 128 h, lt-ltb b 192 i, lt-ltb (1 + (b - 128)) 128 (omega arith)) (ap (λ (i : ℕ). Some (Text 1 (b - 128) i)) q)

    module _ (c : ℕ) (second : c ≡ get_or s (at + 1) 0) where
      pub short_there : 192 ≤ b → b < 224 → read_element (drop at s) ≡ Some (Integer (extend 4096 (256 * (b - 192) + c)) 3)
      unfolding loose_by back_length
      short_there h i = by_first ∙ rw (le-ltb b 128 (omega arith), le-ltb b 192 h, lt-ltb b 224 i, second)

      pub long_there : 224 ≤ b → b < 240
          → read_element (drop at s) ≡ Some (Text 2 (256 * (b - 224) + c) (2 + (256 * (b - 224) + c) + length (back_length (2 + (256 * (b - 224) + c)))))
      unfolding loose_by
      long_there h i = by_first ∙ rw (le-ltb b 128 (omega arith), le-ltb b 192 (omega arith), le-ltb b 224 h, lt-ltb b 240 i, second)

    module _ (h : 240 ≤ b) where
      tagged : read_element (drop at s) ≡ closed_integer (extend (half_of (tag_width b)) (le_value (area 1 (tag_width b) (drop at s)))) (1 + tag_width b)
      unfolding loose_by
      tagged = by_first ∙ rw (le-ltb b 128 (omega arith), le-ltb b 192 (omega arith), le-ltb b 224 (omega arith), le-ltb b 240 h)

      -- the number in w bytes
      pub wide_there : (w : ℕ) → tag_width b ≡ w → w ≤ 8 → read_element (drop at s) ≡ Some (Integer (extend (half_of w) (le_value (area (at + 1) w s))) (w + 2))
      unfolding back_length
      wide_there w e m =
          let q : 1 + w + 1 ≡ w + 2 = omega arith in
          let l : length (back_length (1 + w)) ≡ 1 = rw (lt-ltb (1 + w) 128 (omega arith)) in
          tagged ∙ ap (λ (x : ℕ). closed_integer (extend (half_of x) (le_value (area 1 x (drop at s)))) (1 + x)) e
          ∙ ap₂ (λ (i j : ℕ). Some (Integer i j)) (ap (λ (x : List ℕ). extend (half_of w) (le_value x)) (area_drop at 1 w s)) (ap (λ (x : ℕ). 1 + w + x) l ∙ q)

      pub tag_there : (b ≡ 241 → ⊥) → (b ≡ 242 → ⊥) → (b ≡ 243 → ⊥) → b ≡ 244
      unfolding read_element read_by
      tag_there x y z = by (eqb b 244) refl
        where
          reads : stands (read_wide (tag_width b) (drop at s)) ≡ true
          reads =
              let n = two_known (drop at s) is_there_lem in
              rw (le-ltb (length (drop at s)) 2 n, first_there, le-ltb b 128 (omega arith), le-ltb b 192 (omega arith), le-ltb b 224 (omega arith), le-ltb b 240 h) at is_there_lem

          by : (t : Bool) → eqb b 244 ≡ t → b ≡ 244
          by true e = eqb-true b 244 e
          by false e = absurd (no_tag (drop at s) (tag_width b) reads (tag_none b x y z (eqb-false b 244 e)))

-- size, pattern and text by what the reader says
pub size_by : (s : List ℕ) (at : ℕ) (e : Option Element) → read_element (drop at s) ≡ e → size_of e ≡ size_at s at
unfolding size_at
size_by s at e q = ap size_of (sym q)

pub pattern_by_lem : (s : List ℕ) (at : ℕ) (e : Option Element) → read_element (drop at s) ≡ e → pattern_in e ≡ pattern_at s at
unfolding pattern_at
pattern_by_lem s at e q = ap pattern_in (sym q)

pub text_by : (s : List ℕ) (at : ℕ) (e : Option Element) → read_element (drop at s) ≡ e → text_in e ≡ text_at s at
unfolding text_at
text_by s at e q = ap text_in (sym q)

pub start_by : (s : List ℕ) (at : ℕ) (e : Option Element) → read_element (drop at s) ≡ e → start_in e ≡ start_at s at
unfolding start_at
start_by s at e q = ap start_in (sym q)

pub sized_integer : (s : List ℕ) (at p n m : ℕ) → read_element (drop at s) ≡ Some (Integer p n) → m ≡ size_at s at → Some (Integer p m) ≡ read_element (drop at s)
sized_integer s at p n m q h = ap (λ (i : ℕ). Some (Integer p i)) (h ∙ sym (size_by s at (Some (Integer p n)) q)) ∙ sym q

pub sized_text : (s : List ℕ) (at a l n m : ℕ) → read_element (drop at s) ≡ Some (Text a l n) → m ≡ size_at s at → Some (Text a l m) ≡ read_element (drop at s)
sized_text s at a l n m q h = ap (λ (i : ℕ). Some (Text a l i)) (h ∙ sym (size_by s at (Some (Text a l n)) q)) ∙ sym q

-- an integer whose pattern and size are known
pub integer_there : (s : List ℕ) (at p n q m : ℕ) → read_element (drop at s) ≡ Some (Integer p n) → q ≡ pattern_at s at → m ≡ size_at s at → Some (Integer q m) ≡ read_element (drop at s)
integer_there s at p n q m e f g = ap₂ (λ (i j : ℕ). Some (Integer i j)) (f ∙ sym (pattern_by_lem s at (Some (Integer p n)) e)) (g ∙ sym (size_by s at (Some (Integer p n)) e)) ∙ sym e

-- the size of an integer of three bytes or more, by its tag; of those the last has eight
module _ (s : List ℕ) (at : ℕ) (k : ElementAt s at) (b : ℕ) (first : b ≡ get_or s at 0) (h : 240 ≤ b) where
  pub wide_8 : (b ≡ 241 → ⊥) → (b ≡ 242 → ⊥) → (b ≡ 243 → ⊥) → read_element (drop at s) ≡ Some (Integer (extend (half_of 8) (le_value (area (at + 1) 8 s))) 10)
  wide_8 x y z = wide_there s at k b first h 8 (tag_64 b x y z (tag_there s at k b first h x y z)) (omega arith)

  pub last_tag : 244 ≤ b → 10 ≡ size_at s at
  last_tag l = size_by s at _ (wide_8 (λ e. omega arith) (λ e. omega arith) (λ e. omega arith))

  pub tagged_there : (q m : ℕ) → q ≡ pattern_at s at → m ≡ size_at s at → Some (Integer q m) ≡ read_element (drop at s)
  tagged_there q m f g = integer_there s at _ _ q m (tagged s at k b first h) f g

  by_tag : (w : ℕ) → tag_width b ≡ w → w ≤ 8 → w + 2 ≡ size_at s at
  by_tag w e m = size_by s at _ (wide_there s at k b first h w e m)

  pub known_tag : b < 244 → b - 237 ≡ size_at s at
  known_tag l = by (eqb b 241) refl (eqb b 242) refl (eqb b 243) refl
    where
      by : (t : Bool) → eqb b 241 ≡ t → (u : Bool) → eqb b 242 ≡ u → (v : Bool) → eqb b 243 ≡ v → b - 237 ≡ size_at s at
      by true x u y v z = omega (arith, eqb-true b 241 x, by_tag 2 (tag_16 b (eqb-true b 241 x)) (omega arith))
      by false x true y v z =
          omega (arith, eqb-true b 242 y, by_tag 3 (tag_24 b (eqb-false b 241 x) (eqb-true b 242 y)) (omega arith))
      by false x false y true z =
          omega (arith, eqb-true b 243 z, by_tag 4 (tag_32 b (eqb-false b 241 x) (eqb-false b 242 y) (eqb-true b 243 z)) (omega arith))
      by false x false y false z =
          absurd (omega (arith, tag_there s at k b first h (eqb-false b 241 x) (eqb-false b 242 y) (eqb-false b 243 z)))

-- a form of 64 bits has every pattern
pub extend_all : (v : ℕ) → v ≡ extend (half_of 8) v
unfolding extend
extend_all v = pick_by (λ (x : ℕ). v ≡ x) (ltb v (half_of 8)) v (v + (2 ^ 64 - 2 * half_of 8)) (λ e. refl) (λ e. omega arith)

-- an element that is there, taken apart
module _ (s : List ℕ) (at : ℕ) (b : Bytes s) (k : ElementAt s at) where
  pub size_there : at + size_at s at ≤ length s
  unfolding size_at
  size_there = omega (arith, size_within (drop at s) (bytes_drop at b), length-drop at s, two_there s at k)

  module _ (e : Option Element) (q : e ≡ read_element (drop at s)) where
    pub integer_string : (p n : ℕ) → e ≡ Some (Integer p n) → string_at s at ≡ text_of p
    unfolding string_at
    integer_string p n f = ap string_by (parse_by (drop at s) (Some (Integer p n)) (sym q ∙ f))

    module _ (a l n : ℕ) (f : e ≡ Some (Text a l n)) where
      text_sound : Sound (drop at s) (Some (Text a l n))
      text_sound = subst (Sound (drop at s)) (sym q ∙ f) (sound (drop at s) (bytes_drop at b))

      pub text_string : string_at s at ≡ area a l (drop at s)
      unfolding string_at
      text_string = ap string_by (parse_by (drop at s) (Some (Text a l n)) (sym q ∙ f))

      pub text_within : at + a + l ≤ length s
      text_within =
          let y = text_sound in
          omega (arith, y.inside, y.starts.within, length-drop at s, two_there s at k)

      pub text_length_is : (l ≡ length (string_at s at)) × (l < 4096)
      text_length_is =
          let y = text_sound in
          (sym (ap length text_string ∙ length_area a l (drop at s) (omega (arith, y.inside, y.starts.within))), y.short)

      pub text_part : take (at + a + l - (at + a)) (drop (at + a) s) ≡ string_at s at
      unfolding area
      text_part =
          let i : at + a + l - (at + a) ≡ l = omega arith in
          ap₂ (λ (j : ℕ) (t : List ℕ). take j t) i (sym (drop-drop a at s)) ∙ sym text_string

    pub no_bad : e ≡ None → ⊥
    no_bad f = never (is_there_lem s at k) (ap stands (sym q ∙ f))

  -- by the length of a text, plus 1: an integer, or a text
  pub number_there : text_at s at ≡ 0 → string_at s at ≡ text_of (pattern_at s at)
  unfolding text_at pattern_at
  number_there z = by (read_element (drop at s)) refl z
    where
      by : (e : Option Element) → e ≡ read_element (drop at s) → text_in e ≡ 0 → string_at s at ≡ text_of (pattern_in e)
      by (Some (Integer p n)) q z = integer_string (Some (Integer p n)) q p n refl
      by (Some (Text a l n)) q z = absurd (omega arith)
      by None q z = absurd (no_bad None q refl)

  pub string_there : (l : ℕ) → text_at s at ≡ l + 1
      → (l ≡ length (string_at s at)) × (l < 4096) × (at + start_at s at + l ≤ length s) × (area (at + start_at s at) l s ≡ string_at s at)
  unfolding text_at start_at
  string_there l z = by (read_element (drop at s)) refl z
    where
      by : (e : Option Element) → e ≡ read_element (drop at s) → text_in e ≡ l + 1
          → (l ≡ length (string_at s at)) × (l < 4096) × (at + start_in e + l ≤ length s) × (area (at + start_in e) l s ≡ string_at s at)
      by (Some (Integer p n)) q z = absurd (omega arith)
      by (Some (Text a m n)) q z =
          let i : m ≡ l = omega arith in
          let k = text_length_is (Some (Text a m n)) q a m n refl in
          (omega (arith, k.0), omega (arith, k.1), omega (arith, text_within (Some (Text a m n)) q a m n refl), ap (λ (x : ℕ). area (at + a) x s) (sym i) ∙ sym (area_drop at a m s) ∙ sym (text_string (Some (Text a m n)) q a m n refl))
      by None q z = absurd (no_bad None q refl)

-- the bytes of an integer of three bytes or more are there
module _ (s : List ℕ) (at : ℕ) (y : Bytes s) (k : ElementAt s at) (b : ℕ) (first : b ≡ get_or s at 0) (h : 240 ≤ b) where
  pub wide_room : (w : ℕ) → tag_width b ≡ w → w ≤ 8 → at + 1 + w ≤ length s
  wide_room w e m = omega (arith, size_there s at y k, size_by s at _ (wide_there s at k b first h w e m))

  pub wide_room_8 : (b ≡ 241 → ⊥) → (b ≡ 242 → ⊥) → (b ≡ 243 → ⊥) → at + 1 + 8 ≤ length s
  wide_room_8 x z u = omega (arith, size_there s at y k, size_by s at _ (wide_8 s at k b first h x z u))

-- so many elements: the first, and the others
pub first_element : (n : ℕ) (s : List ℕ) (at : ℕ) → 0 < n → are_there n s at ≡ true → ElementAt s at
unfolding are_there
first_element zero s at h e = absurd (omega arith)
first_element (suc n) s at h e = record { there = by (is_none (parse (drop at s))) (both_true (not (is_none (parse (drop at s)))) (are_there n s (after_at s at)) e).0 }
  where
    by : (t : Bool) → not t ≡ true → t ≡ false
    by true q = absurd (never q refl)
    by false q = refl

pub other_elements : (n : ℕ) (s : List ℕ) (at m : ℕ) → 0 < n → are_there n s at ≡ true → m ≡ size_at s at
    → (are_there (n - 1) s (at + m) ≡ true) × (end_at n s at ≡ end_at (n - 1) s (at + m))
unfolding are_there end_at after_at
other_elements zero s at m h e q = absurd (omega arith)
other_elements (suc n) s at m h e q =
    let z : suc n - 1 ≡ n = omega arith in
    rw (z, q) ((both_true (not (is_none (parse (drop at s)))) (are_there n s (at + size_at s at)) e).1, refl)

pub end_none : (n : ℕ) (s : List ℕ) (at : ℕ) → n ≡ 0 → end_at n s at ≡ at
unfolding end_at
end_none n s at h = rw h

-- the first k of them, and those after
pub elements_split : (k n : ℕ) (s : List ℕ) (at : ℕ) → k ≤ n → ElementsAt n s at → (ElementsAt k s at) × (ElementsAt (n - k) s (end_at k s at))
unfolding are_there end_at
elements_split zero n s at h e = let z : n - 0 ≡ n = omega arith in (record { there = refl }, rw z e)
elements_split (suc k) zero s at h e = absurd (omega arith)
elements_split (suc k) (suc n) s at h e =
    let z : suc n - suc k ≡ n - k = omega arith in
    let p = both_true (not (is_none (parse (drop at s)))) (are_there n s (after_at s at)) e.there in
    let r = elements_split k n s (after_at s at) (omega arith) (record { there = p.1 }) in
    (record { there = both_of p.0 r.0.there }, rw z r.1)

pub end_split : (k n : ℕ) (s : List ℕ) (at : ℕ) → k ≤ n → end_at (n - k) s (end_at k s at) ≡ end_at n s at
unfolding end_at
end_split zero n s at h = let z : n - 0 ≡ n = omega arith in rw z
end_split (suc k) zero s at h = absurd (omega arith)
end_split (suc k) (suc n) s at h =
    let z : suc n - suc k ≡ n - k = omega arith in
    rw z (end_split k n s (after_at s at) (omega arith))
