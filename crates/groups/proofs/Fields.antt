-- Names in fields of 17 bytes: what is written is read back, and what is read was so written. Assumes nothing.
use mathlib.Core.Path.{◌≡◌, refl, sym, ap, ap₂, ◌∙◌}
use mathlib.Core.Bool.{true}
use mathlib.Core.List.{List, [], ◌∷◌, ◌++◌, append_assoc}
use Prim.Native.Nat.{ℕ, zero, suc, ◌+◌, ◌-◌, ◌*◌, ◌≤◌}
use native.Mathlib.Numerals.{one-add}
use native.Mathlib.Omega.{arith}
use lib.Dec.{leb}
use lib.ListN.{length, take, drop, get_or, length-replicate, length-append, length-drop}
use lib.Seq.{take_at, drop_at, take-add, length-take-le}
use borrow.Author.Tests.{leb-true, le-leb}
use Rattle.octets.specs.Pick.{both}
use Rattle.octets.specs.Bytes.{Bytes, zeros}
use Rattle.octets.specs.Place.{area}
use Rattle.octets.specs.Compare.{all_zero, comes_before}
use Rattle.octets.proofs.Laws.{both_true, zero_all, all_zero_lem, bytes_area, bytes_drop, both_of}
use Rattle.groups.specs.Group.{is_name, are_names, names_above}
use Rattle.groups.specs.Bytes.{name_field, all_name_fields}
use Rattle.groups.specs.Parse.{name_in, is_field, names_in, are_fields}
use Rattle.groups.proofs.Names.{named, is_name_lem}

pub length_field : (n : List ℕ) → length n ≤ 16 → length (name_field n) ≡ 17
length_field n h = omega (arith, length-append n (zeros (17 - suc (length n))), length-replicate {A = ℕ} (17 - suc (length n)) 0)

-- a field that was written
module _ (n t : List ℕ) (h : is_name n ≡ true) where
  few : length n ≤ 16
  few = (named n h).few_bytes

  pub name_of_field : name_in (name_field n ++ t) ≡ n
  unfolding name_in area
  name_of_field =
      let z : List ℕ = zeros (17 - suc (length n)) in
      ap (take (length n)) (append_assoc n z t) ∙ take_at n (z ++ t) (length n) refl

  zero_rest : area (1 + length n) (16 - length n) (name_field n ++ t) ≡ zeros (17 - suc (length n))
  unfolding area
  zero_rest =
      let z : List ℕ = zeros (17 - suc (length n)) in
      rw (one-add (length n), append_assoc n z t, drop_at n (z ++ t) (length n) refl)
      (take_at z t (16 - length n) (omega (arith, few, length-replicate {A = ℕ} (17 - suc (length n)) 0)))

  pub field_of_name : is_field (name_field n ++ t) ≡ true
  unfolding is_field
  field_of_name =
      both_of (both_of (le-leb 1 (length n) (named n h).some_bytes) (le-leb (length n) 16 few)) (rw zero_rest (zero_all (17 - suc (length n))))

-- a field that is read
pub record FieldRead (s : List ℕ) : Type 0 where
  pub size : length (name_in s) ≡ get_or s 0 0
  pub some_bytes : 1 ≤ get_or s 0 0
  pub few_bytes : get_or s 0 0 ≤ 16
  pub bytes : take 17 s ≡ name_field (name_in s)

pub field_read : (s : List ℕ) → is_field s ≡ true → 17 ≤ length s → FieldRead s
unfolding is_field name_in area
field_read [] e h = absurd (omega arith)
field_read (x ∷ t) e h =
    let p = both_true (both (leb 1 x) (leb x 16)) (all_zero (take (16 - x) (drop (1 + x) (x ∷ t)))) e in
    let q = both_true (leb 1 x) (leb x 16) p.0 in
    let k : x ≤ 16 = leb-true x 16 q.1 in
    let l : length (take x t) ≡ x = length-take-le x t (omega arith) in
    let z : all_zero (take (16 - x) (drop x t)) ≡ true = rw (one-add x) at p.1 in
    let w : take (16 - x) (drop x t) ≡ zeros (16 - x) =
    all_zero_lem (take (16 - x) (drop x t)) z ∙ ap zeros (length-take-le (16 - x) (drop x t) (omega (arith, length-drop x t))) in
    let j : 16 ≡ x + (16 - x) = omega arith in
    let i : 16 - x ≡ 17 - suc x = omega arith in
    record {
      size = l;
      some_bytes = leb-true 1 x q.0;
      few_bytes = k;
      bytes = ap₂ (λ (y : ℕ) (r : List ℕ). y ∷ r) (sym l)
          (ap (λ (m : ℕ). take m t) j
          ∙ take-add x (16 - x) t
          ∙ ap (λ (r : List ℕ). take x t ++ r) (w ∙ ap zeros (i ∙ ap (λ (m : ℕ). 17 - suc m) (sym l))));
    }

pub field_named : (s : List ℕ) → is_field s ≡ true → 17 ≤ length s → Bytes s → is_name (name_in s) ≡ true
unfolding name_in
field_named s e h b =
    let f = field_read s e h in
    is_name_lem (name_in s) (omega (arith, f.size, f.some_bytes)) (omega (arith, f.size, f.few_bytes)) (bytes_area 1 (get_or s 0 0) b)

pub length_names_in : (n : ℕ) (s : List ℕ) → length (names_in n s) ≡ n
unfolding names_in
length_names_in zero s = refl
length_names_in (suc n) s = ap suc (length_names_in n (drop 17 s))

pub length_fields : (ns : List (List ℕ)) → are_names ns ≡ true → length (all_name_fields ns) ≡ length ns * 17
unfolding all_name_fields are_names
length_fields [] e = refl
length_fields (n ∷ ns) e =
    let p = both_true (is_name n) (are_names ns) e in
    omega (arith, length-append (name_field n) (all_name_fields ns), length_field n (named n p.0).few_bytes, length_fields ns p.1)

-- fields that were written
pub record FieldsKept (above : List ℕ) (ns : List (List ℕ)) (s : List ℕ) : Type 0 where
  pub names : names_in (length ns) s ≡ ns
  pub fields : are_fields above (length ns) s ≡ true

pub fields_kept : (above : List ℕ) (ns : List (List ℕ)) (t : List ℕ) → are_names ns ≡ true → names_above above ns ≡ true
    → FieldsKept above ns (all_name_fields ns ++ t)
unfolding all_name_fields names_in are_fields are_names names_above
fields_kept above [] t e r = record { names = refl; fields = refl }
fields_kept above (n ∷ ns) t e r =
    let p = both_true (is_name n) (are_names ns) e in
    let q = both_true (comes_before above n) (names_above n ns) r in
    let u : List ℕ = all_name_fields ns ++ t in
    let a : (name_field n ++ all_name_fields ns) ++ t ≡ name_field n ++ u = append_assoc (name_field n) (all_name_fields ns) t in
    let d : drop 17 ((name_field n ++ all_name_fields ns) ++ t) ≡ u =
    ap (drop 17) a ∙ drop_at (name_field n) u 17 (length_field n (named n p.0).few_bytes) in
    let m : name_in ((name_field n ++ all_name_fields ns) ++ t) ≡ n = ap name_in a ∙ name_of_field n u p.0 in
    let k = fields_kept n ns t p.1 q.1 in
    record {
      names = ap₂ (λ (x : List ℕ) (l : List (List ℕ)). x ∷ l) m (ap (names_in (length ns)) d ∙ k.names);
      fields = both_of (both_of (ap is_field a ∙ field_of_name n u p.0) (ap (comes_before above) m ∙ q.0))
          (ap₂ (λ (x l : List ℕ). are_fields x (length ns) l) m d ∙ k.fields);
    }

-- fields that are read
pub record FieldsRead (above : List ℕ) (n : ℕ) (s : List ℕ) : Type 0 where
  pub bytes : take (n * 17) s ≡ all_name_fields (names_in n s)
  pub names : are_names (names_in n s) ≡ true
  pub rising : names_above above (names_in n s) ≡ true

pub fields_read : (above : List ℕ) (n : ℕ) (s : List ℕ) → are_fields above n s ≡ true → n * 17 ≤ length s → Bytes s → FieldsRead above n s
unfolding all_name_fields names_in are_fields are_names names_above
fields_read above zero s e h b = record { bytes = refl; names = refl; rising = refl }
fields_read above (suc n) s e h b =
    let p = both_true (both (is_field s) (comes_before above (name_in s))) (are_fields (name_in s) n (drop 17 s)) e in
    let q = both_true (is_field s) (comes_before above (name_in s)) p.0 in
    let l : 17 ≤ length s = omega arith in
    let k = fields_read (name_in s) n (drop 17 s) p.1 (omega (arith, length-drop 17 s)) (bytes_drop 17 b) in
    let j : suc n * 17 ≡ 17 + n * 17 = omega arith in
    record {
      bytes = ap (λ (i : ℕ). take i s) j ∙ take-add 17 (n * 17) s ∙ ap₂ (λ (x y : List ℕ). x ++ y) (field_read s q.0 l).bytes k.bytes;
      names = both_of (field_named s q.0 l b) k.names;
      rising = both_of q.1 k.rising;
    }
