-- What the writers leave behind, part by part. Assumes nothing.
use mathlib.Core.Path.{◌≡◌, sym, ap, ◌∙◌}
use mathlib.Core.List.{List, [], ◌∷◌}
use Prim.Native.Nat.{ℕ, ◌+◌, ◌≤◌, ◌<◌}
use native.Mathlib.Omega.{arith}
use lib.ListN.{length, set, length-append, length-set}
use Rattle.octets.specs.Bytes.{le}
use Rattle.octets.specs.Place.{put}
use Rattle.octets.proofs.Laws.{set_put, put_append, length_le}
use Rattle.listpack.specs.Width.{narrow, half_of}
use Rattle.listpack.specs.Listpack.{header}
use Rattle.listpack.specs.Element.{IsWide, Item, text, body_of, integer_body, text_head, back_length, encode_item}

module _ (d : List ℕ) (at : ℕ) where
  pub stored_two : (a b : ℕ) → at + 1 < length d → set (set d at a) (at + 1) b ≡ put d at (a ∷ b ∷ [])
  stored_two a b h =
      set_put (set d at a) (at + 1) b (omega (arith, length-set d at a))
      ∙ ap (λ (l : List ℕ). put l (at + 1) (b ∷ [])) (set_put d at a (omega arith))
      ∙ put_append d at (a ∷ []) (b ∷ []) (omega arith)

  pub stored_wide : (p tag w half : ℕ) → IsWide p tag w half → at ≤ length d
      → put (put d at (tag ∷ [])) (at + 1) (le w (narrow half p)) ≡ put d at (integer_body p)
  stored_wide p tag w half k h =
      ap (λ (x : ℕ). put (put d at (tag ∷ [])) (at + 1) (le w (narrow x p))) k.range
      ∙ put_append d at (tag ∷ []) (le w (narrow (half_of w) p)) h
      ∙ ap (put d at) (sym k.body)

  -- a body, and its back length after it
  pub stored_closed : (i : Item) (n : ℕ) → length (body_of i) ≡ n → at ≤ length d → put (put d at (body_of i)) (at + n) (back_length n) ≡ put d at (encode_item i)
  unfolding encode_item
  stored_closed i n e h =
      ap (λ (k : ℕ). put (put d at (body_of i)) (at + k) (back_length k)) (sym e) ∙ put_append d at (body_of i) (back_length (length (body_of i))) h

  -- a head, its text, and the back length
  pub stored_text : (x : List ℕ) (h : ℕ) → h ≡ length (text_head (length x)) → at ≤ length d
      → put (put (put d at (text_head (length x))) (at + h) x) (at + (h + length x)) (back_length (h + length x)) ≡ put d at (encode_item (text x))
  stored_text x h e k =
      let t : List ℕ = text_head (length x) in
      let n : ℕ = h + length x in
      ap (λ (l : List ℕ). put l (at + n) (back_length n)) (ap (λ (i : ℕ). put (put d at t) (at + i) x) e ∙ put_append d at t x k)
      ∙ stored_closed (text x) n (length-append t x ∙ ap (λ (i : ℕ). i + length x) (sym e)) k

pub stored_header : (d : List ℕ) (total count : ℕ) → put (put d 0 (le 4 total)) 4 (le 2 count) ≡ put d 0 (header total count)
unfolding header
stored_header d total count =
    let q : 4 ≡ 0 + length (le 4 total) = omega (arith, length_le 4 total) in
    ap (λ (k : ℕ). put (put d 0 (le 4 total)) k (le 2 count)) q ∙ put_append d 0 (le 4 total) (le 2 count) (omega arith)

-- what was written is the same list by another name
pub next_as : (n : ℕ) (x d : List ℕ) (at : ℕ) (u v : List ℕ) → v ≡ u → (n ≡ at + length u) × (x ≡ put d at u) → (n ≡ at + length v) × (x ≡ put d at v)
next_as n x d at u v e k = (k.0 ∙ ap (λ (l : List ℕ). at + length l) (sym e), k.1 ∙ ap (put d at) (sym e))
