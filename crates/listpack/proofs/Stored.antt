-- An element's kind is that of its string: an integer's is recognised with the integer's pattern, a text's is not. Assumes nothing.
use mathlib.Core.Path.{◌≡◌, refl, sym, ap, ap₂, ◌∙◌, subst}
use mathlib.Core.List.{List}
use Rattle.std.proofs.Common.{Some, None}
use Prim.Native.Nat.{ℕ, ◌+◌, ◌≤◌, ◌<◌}
use lib.ListN.{get_or, drop}
use Rattle.octets.specs.Bytes.{Bytes}
use Rattle.octets.proofs.Laws.{bytes_drop}
use Rattle.decimal.specs.Integer.{pattern_of}
use Rattle.decimal.proofs.Laws.{pattern_of_text}
use Rattle.listpack.specs.Read.{read_element}
use Rattle.listpack.specs.Known.{ElementAt, string_at, size_at, pattern_at, after_at, number_at}
use Rattle.listpack.specs.declared.value.Number.{Number}
use Rattle.listpack.proofs.Sound.{Sound, sound}
use Rattle.listpack.proofs.There.{size_by, pattern_by_lem, tiny_there, text_there, short_there, long_there, integer_there, tagged_there, integer_string, text_string}
use Rattle.listpack.specs.declared.Element.TheVariants.{Integer, Text}

module _ (s : List ℕ) (at : ℕ) (b : Bytes s) (k : ElementAt s at) where
  stored_integer : (p n : ℕ) → read_element (drop at s) ≡ Some (Integer p n) → pattern_of (string_at s at) ≡ Some p
  stored_integer p n e =
      let y = subst (Sound (drop at s)) e (sound (drop at s) (bytes_drop at b)) in
      ap pattern_of (integer_string s at b k _ refl p n e) ∙ pattern_of_text p y.below

  stored_text : (a l n : ℕ) → read_element (drop at s) ≡ Some (Text a l n) → pattern_of (string_at s at) ≡ None
  stored_text a l n e =
      let y = subst (Sound (drop at s)) e (sound (drop at s) (bytes_drop at b)) in
      ap pattern_of (text_string s at b k _ refl a l n e) ∙ y.other

  -- by the first byte
  module _ (f : ℕ) (first : f ≡ get_or s at 0) where
    pub tiny_stored : f < 128 → pattern_of (string_at s at) ≡ Some f
    tiny_stored h = stored_integer f 2 (tiny_there s at k f first h)

    pub text_stored : 128 ≤ f → f < 192 → pattern_of (string_at s at) ≡ None
    text_stored h i = stored_text _ _ _ (text_there s at k f first h i)

    pub short_stored : 192 ≤ f → f < 224 → pattern_of (string_at s at) ≡ Some (pattern_at s at)
    short_stored h i =
        stored_integer _ _ (sym (integer_there s at _ _ _ _ (short_there s at k f first _ refl h i) refl refl))

    pub long_stored : 224 ≤ f → f < 240 → pattern_of (string_at s at) ≡ None
    long_stored h i = stored_text _ _ _ (long_there s at k f first _ refl h i)

    pub wide_stored : 240 ≤ f → pattern_of (string_at s at) ≡ Some (pattern_at s at)
    wide_stored h = stored_integer _ _ (sym (tagged_there s at k f first h _ _ refl refl))

-- an integer and the place after it, by its first byte where it is of 7 bits
abbrev number_of : ℕ → ℕ → Number
number_of p next = record { pattern = p; next = next }

pub tiny_number : (s : List ℕ) (at : ℕ) → ElementAt s at → (b : ℕ) → b ≡ get_or s at 0 → b < 128 → number_of b (at + 2) ≡ number_at s at
unfolding number_at after_at
tiny_number s at k b f h =
    let e = tiny_there s at k b f h in
    ap₂ (λ (p n : ℕ). number_of p (at + n)) (pattern_by_lem s at _ e) (size_by s at _ e)

pub wide_number : (s : List ℕ) (at p n : ℕ) → p ≡ pattern_at s at → n ≡ size_at s at → number_of p (at + n) ≡ number_at s at
unfolding number_at after_at
wide_number s at p n e f = ap₂ (λ (i j : ℕ). number_of i (at + j)) e f
