-- Lists of bytes: what is made of bytes is bytes. Assumes nothing.
use mathlib.Core.Path.{◌≡◌, refl}
use mathlib.Core.Bool.{Bool, true, false, ◌&&◌}
use mathlib.Core.List.{List, [], ◌∷◌, ◌++◌}
use Prim.Native.Nat.{ℕ, zero, suc, ◌+◌, ◌/◌, ◌<◌}
use native.Mathlib.Omega.{arith}
use lib.Dec.{ltb}
use lib.ListN.{length, get_or, take, drop, set}
use lib.Pow.{are_bytes}
use lib.Seq.{get_or-drop}
use borrow.Author.Tests.{lt-ltb, ltb-true}
use Rattle.octets.specs.Bytes.{Bytes, le, be, zeros}
use Rattle.octets.specs.Place.{area, put}

pub bytes_nil : Bytes []
bytes_nil = record { byte = λ i. omega arith }

pub bytes_cons : {b : ℕ} {l : List ℕ} → b < 256 → Bytes l → Bytes (b ∷ l)
bytes_cons {b} {l} h k = record { byte = go }
  where
    go : (i : ℕ) → get_or (b ∷ l) i 0 < 256
    go zero = h
    go (suc i) = k.byte i

pub bytes_head : {b : ℕ} {l : List ℕ} → Bytes (b ∷ l) → b < 256
bytes_head h = h.byte 0

pub bytes_tail : {b : ℕ} {l : List ℕ} → Bytes (b ∷ l) → Bytes l
bytes_tail h = record { byte = λ i. h.byte (suc i) }

pub bytes_take : (n : ℕ) {l : List ℕ} → Bytes l → Bytes (take n l)
bytes_take zero h = bytes_nil
bytes_take (suc n) {l = []} h = bytes_nil
bytes_take (suc n) {l = x ∷ l} h = bytes_cons (bytes_head h) (bytes_take n (bytes_tail h))

pub bytes_drop : (n : ℕ) {l : List ℕ} → Bytes l → Bytes (drop n l)
bytes_drop n {l} h = record { byte = λ i. rw get_or-drop (h.byte (n + i)) }

pub bytes_append : {xs ys : List ℕ} → Bytes xs → Bytes ys → Bytes (xs ++ ys)
bytes_append {xs = []} h k = k
bytes_append {xs = x ∷ xs} h k = bytes_cons (bytes_head h) (bytes_append (bytes_tail h) k)

pub bytes_set : {l : List ℕ} (i : ℕ) {b : ℕ} → Bytes l → b < 256 → Bytes (set l i b)
bytes_set {l = []} i h k = h
bytes_set {l = x ∷ l} zero h k = bytes_cons k (bytes_tail h)
bytes_set {l = x ∷ l} (suc i) h k = bytes_cons (bytes_head h) (bytes_set i (bytes_tail h) k)

pub bytes_zeros : (n : ℕ) → Bytes (zeros n)
bytes_zeros zero = bytes_nil
bytes_zeros (suc n) = bytes_cons (omega arith) (bytes_zeros n)

pub bytes_area : (at n : ℕ) {s : List ℕ} → Bytes s → Bytes (area at n s)
unfolding area
bytes_area at n h = bytes_take n (bytes_drop at h)

pub bytes_put : {s : List ℕ} (at : ℕ) {bs : List ℕ} → Bytes s → Bytes bs → Bytes (put s at bs)
unfolding put
bytes_put {s} at {bs} h k = bytes_append (bytes_take at h) (bytes_append k (bytes_drop (at + length bs) h))

pub bytes_le : (w v : ℕ) → Bytes (le w v)
unfolding le
bytes_le zero v = bytes_nil
bytes_le (suc w) v = bytes_cons (omega arith) (bytes_le w (v / 256))

pub bytes_be : (w v : ℕ) → Bytes (be w v)
unfolding be
bytes_be zero v = bytes_nil
bytes_be (suc w) v = bytes_append (bytes_be w (v / 256)) (bytes_cons (omega arith) bytes_nil)

-- the test on bytes
and_true : (a b : Bool) → (a && b) ≡ true → (a ≡ true) × (b ≡ true)
and_true true b e = (refl, e)
and_true false b e = absurd (let z : ◌≡◌ {A = ℕ} 0 1 = cc in omega arith)

pub are_bytes_lem : (l : List ℕ) → Bytes l → are_bytes l ≡ true
are_bytes_lem [] h = refl
are_bytes_lem (x ∷ l) h = rw (lt-ltb x 256 (bytes_head h)) (are_bytes_lem l (bytes_tail h))

pub bytes_are : (l : List ℕ) → are_bytes l ≡ true → Bytes l
bytes_are [] e = bytes_nil
bytes_are (x ∷ l) e = let p = and_true (ltb x 256) (are_bytes l) e in bytes_cons (ltb-true x 256 p.0) (bytes_are l p.1)
