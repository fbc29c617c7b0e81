-- A name's field as it is made, an entry's row as it is written, and one place moved. Assumes nothing.
use mathlib.Core.Path.{◌≡◌, refl, ap, ap₂, ◌∙◌}
use mathlib.Core.List.{List, [], ◌∷◌, ◌++◌, append_assoc}
use Prim.Native.Nat.{ℕ, suc, ◌+◌, ◌-◌, ◌%◌, ◌≤◌, ◌<◌}
use native.Mathlib.Omega.{arith}
use lib.ListN.{length, set, length-append}
use borrow.Author.Tests.{lt-ltb, le-ltb}
use Rattle.octets.specs.Bytes.{le, zeros}
use Rattle.octets.specs.Place.{put}
use Rattle.octets.proofs.Laws.{length_le, length_put, put_append, set_put, drop_zeros, put_at}
use Rattle.id.specs.declared.Id.{Id}
use Rattle.id.specs.Bytes.{id_bytes}
use Rattle.id.proofs.Laws.{length_id_bytes}
use Rattle.groups.specs.Bytes.{name_field}
use Rattle.groups_change.specs.Places.{moved_place}
use Rattle.groups_change.specs.Change.{row_of}

pub field_made : (n : List ℕ) → length n ≤ 16 → put (length n ∷ zeros 16) 1 n ≡ name_field n
field_made n h =
    let e : 16 - length n ≡ 17 - suc (length n) = omega arith in
    put_at (length n ∷ []) (zeros 16) n 1 refl ∙ ap (λ (l : List ℕ). length n ∷ (n ++ l)) (drop_zeros (length n) 16 ∙ ap zeros e)

pub row_put_lem : (s : List ℕ) (at : ℕ) (i : Id) (k t c : ℕ) → at + 27 ≤ length s
    → put (put (set (put s at (id_bytes i)) (at + 16) k) (at + 17) (le 8 t)) (at + 25) (le 2 c) ≡ put s at (row_of i k t c)
row_put_lem s at i k t c h =
    let a : List ℕ = id_bytes i in
    let b : List ℕ = k ∷ [] in
    let d : List ℕ = le 8 t in
    let la : length a ≡ 16 = length_id_bytes i in
    let ld : length d ≡ 8 = length_le 8 t in
    let n1 : at + 16 ≡ at + length a = omega arith in
    let n2 : at + 17 ≡ at + length (a ++ b) = omega (arith, length-append a b) in
    let n3 : at + 25 ≡ at + length ((a ++ b) ++ d) = omega (arith, length-append (a ++ b) d, length-append a b) in
    let e1 : set (put s at a) (at + 16) k ≡ put s at (a ++ b) =
    set_put (put s at a) (at + 16) k (omega (arith, length_put s at a (omega arith))) ∙ ap (λ (m : ℕ). put (put s at a) m b) n1 ∙ put_append s at a b (omega arith) in
    let e2 : put (set (put s at a) (at + 16) k) (at + 17) d ≡ put s at ((a ++ b) ++ d) =
    ap₂ (λ (l : List ℕ) (m : ℕ). put l m d) e1 n2 ∙ put_append s at (a ++ b) d (omega arith) in
    ap₂ (λ (l : List ℕ) (m : ℕ). put l m (le 2 c)) e2 n3
    ∙ put_append s at ((a ++ b) ++ d) (le 2 c) (omega arith)
    ∙ simp append_assoc

-- a place before the first that moves, and another
module _ (from add sub place x : ℕ) (e : place ≡ x) where
  pub place_stays : place < from → moved_place from add sub x ≡ x
  unfolding moved_place
  place_stays h = rw (lt-ltb x from (omega arith))

  pub place_moves : from ≤ place → moved_place from add sub x ≡ (place + add - sub) % 256
  unfolding moved_place
  place_moves h = rw (le-ltb x from (omega arith), e)
