-- What the writers put down: CR LF, a head, a reply from a number alone. Assumes nothing.
use mathlib.Core.Path.{◌≡◌, refl, sym, ap, ap₂, ◌∙◌}
use mathlib.Core.Bool.{Bool, true, false}
use mathlib.Core.List.{List, [], ◌∷◌, ◌++◌}
use Prim.Native.Nat.{ℕ, ◌+◌, ◌≤◌, ◌<◌}
use native.Mathlib.Omega.{arith}
use borrow.Author.Tests.{le-leb, lt-leb}
use lib.ListN.{length, set, length-append, length-set}
use Rattle.std.proofs.Common.{Ok, Err}
use Rattle.refusal.specs.declared.Refusal.TheVariants.{BadArgument, ShortOutput}
use Rattle.octets.specs.Place.{put}
use Rattle.octets.proofs.Laws.{put_first, put_append, length_put, both_of}
use Rattle.decimal.specs.Text.{natural_text}
use Rattle.resp.specs.Reply.{crlf, head, integer_bytes, error_bytes, is_refusal_number}
use Rattle.resp.specs.Answer.{replied_by, output_by}

pub length_head : (b n : ℕ) → length (head b n) ≡ 3 + length (natural_text n)
unfolding head
length_head b n = omega (arith, length-append (natural_text n) crlf)

-- a head is written in turns: the byte, the number, CR LF
module _ (d : List ℕ) (at b n : ℕ) (h : at + length (head b n) ≤ length d) where
  pub number_room : at + 1 + length (natural_text n) ≤ length (set d at b)
  number_room = omega (arith, length_head b n, length-set d at b)

  module _ (size : ℕ) (k : size ≡ length (natural_text n)) (e : List ℕ) (p : e ≡ put (set d at b) (at + 1) (natural_text n)) where
    pub end_room : at + 1 + size + 2 ≤ length e
    end_room = omega (arith, length_head b n, length-set d at b, ap length p, length_put (set d at b) (at + 1) (natural_text n) number_room)

    pub put_head : (f : List ℕ) → f ≡ put e (at + 1 + size) crlf → f ≡ put d at (head b n)
    unfolding head
    put_head f q =
        q ∙ ap₂ (λ (x : List ℕ) (i : ℕ). put x (at + 1 + i) crlf) p k
        ∙ put_append (set d at b) (at + 1) (natural_text n) crlf (omega (arith, number_room))
        ∙ sym (put_first d at b (natural_text n ++ crlf) (omega (arith, number_room, length-set d at b)))

-- "-ERR" before the head
pub put_error : (d : List ℕ) (n : ℕ) (e f : List ℕ) → e ≡ put d 0 (45 ∷ 69 ∷ 82 ∷ 82 ∷ []) → f ≡ put e 4 (head 32 n) → f ≡ put d 0 (error_bytes n)
unfolding error_bytes
put_error d n e f p q = q ∙ ap (λ (x : List ℕ). put x 4 (head 32 n)) p ∙ put_append d 0 (45 ∷ 69 ∷ 82 ∷ 82 ∷ []) (head 32 n) (omega arith)

pub length_integer : (n : ℕ) → length (integer_bytes n) ≡ length (head 58 n)
unfolding integer_bytes
length_integer n = refl

pub put_integer : (d : List ℕ) (n : ℕ) (e : List ℕ) → e ≡ put d 0 (head 58 n) → e ≡ put d 0 (integer_bytes n)
unfolding integer_bytes
put_integer d n e p = p

pub length_error : (n : ℕ) → length (error_bytes n) ≡ 4 + length (head 32 n)
unfolding error_bytes
length_error n = omega arith

pub is_refusal_lem : (n : ℕ) → 1 ≤ n → n ≤ 18 → is_refusal_number n ≡ true
is_refusal_lem n h k = both_of (le-leb 1 n h) (le-leb n 18 k)

pub none_low : (n : ℕ) → n < 1 → is_refusal_number n ≡ false
none_low n h = simp (lt-leb 1 n h)

pub none_high : (n : ℕ) → 18 < n → is_refusal_number n ≡ false
none_high n h = simp (le-leb 1 n (omega arith), lt-leb n 18 h)

-- a reply, or its refusals
module _ (rule : Bool) (bs out : List ℕ) where
  pub replied_other : rule ≡ false → (Err BadArgument ≡ replied_by rule bs (length out)) × (out ≡ output_by rule bs out)
  unfolding replied_by output_by
  replied_other e = (simp e, simp e)

  pub replied_short : rule ≡ true → length out < length bs → (Err ShortOutput ≡ replied_by rule bs (length out)) × (out ≡ output_by rule bs out)
  unfolding replied_by output_by
  replied_short e h = (simp (e, lt-leb (length bs) (length out) h), simp (e, lt-leb (length bs) (length out) h))

  pub replied : rule ≡ true → length bs ≤ length out → (n : ℕ) (d : List ℕ) → n ≡ length bs → d ≡ put out 0 bs
      → (Ok n ≡ replied_by rule bs (length out)) × (d ≡ output_by rule bs out)
  unfolding replied_by output_by
  replied e h n d p q = (ap Ok p ∙ simp (e, le-leb (length bs) (length out) h), q ∙ simp (e, le-leb (length bs) (length out) h))
