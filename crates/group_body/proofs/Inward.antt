-- The parts of a body that make the region: its name, its last delivered ID and number of consumers, their names, its entries.
-- Assumes nothing.
use mathlib.Core.Path.{◌≡◌, refl, sym, ap, ap₂, ◌∙◌, subst}
use mathlib.Core.Bool.{true, not}
use mathlib.Core.List.{List, [], ◌∷◌, ◌++◌, append_assoc}
use Prim.Native.Nat.{ℕ, zero, suc, ◌+◌, ◌-◌, ◌*◌, ◌≤◌, ◌<◌}
use native.Mathlib.Numerals.{one-add}
use native.Mathlib.Omega.{arith}
use lib.ListN.{length, take, drop, get_or, length-append, length-drop}
use lib.Seq.{take_at, drop_at, drop-drop, get_or_at}
use borrow.Author.Tests.{le-leb}
use Rattle.octets.specs.Pick.{both}
use Rattle.std.proofs.Common.{is_none, Option, Some, None}
use Rattle.octets.specs.Bytes.{Bytes, le, zeros}
use Rattle.octets.specs.Place.{area, put}
use Rattle.octets.proofs.Laws.{both_true, length_le, area_first, area_left, area_middle, length_area, get_d_area, put_append, put_all, both_of}
use Rattle.id.specs.Bytes.{id_bytes}
use Rattle.id.proofs.Laws.{length_id_bytes}
use Rattle.groups.specs.Group.{Group, is_name, are_names}
use Rattle.groups.specs.Bytes.{name_bytes, name_field, all_names, all_name_fields, all_pending, padded, body_bytes, region_bytes}
use Rattle.groups.specs.Parse.{name_in, parse_body}
use Rattle.group_body.specs.Answer.{is_name_at, names_at, are_names_at}
use Rattle.group_body.proofs.Packed.{name_stands}
use Rattle.group_body.proofs.Outward.{four_puts, length_body, body_parts}
use Rattle.groups.proofs.Laws.{named, length_field, length_fields, Rules, rules, length_region, body_bytes_lem, length_padded, first_byte_lem, name_at}

-- names at a place
names_step : (s : List ℕ) (left i n : ℕ) → 0 < left → n ≡ 1 + get_or s i 0 → names_at left (drop i s) ≡ name_in (drop i s) ∷ names_at (left - 1) (drop (i + n) s)
unfolding names_at
names_step s zero i n h e = absurd (omega arith)
names_step s (suc m) i n h e =
    let q : suc m - 1 ≡ m = omega arith in
    let j : 1 + get_or (drop i s) 0 0 ≡ n = omega (arith, first_byte_lem i s) in
    let d : drop (1 + get_or (drop i s) 0 0) (drop i s) ≡ drop (i + n) s = ap (λ (k : ℕ). drop k (drop i s)) j ∙ drop-drop n i s in
    rw q (ap (λ (l : List ℕ). name_in (drop i s) ∷ names_at m l) d)

are_step : (s : List ℕ) (left i n : ℕ) → 0 < left → n ≡ 1 + get_or s i 0 → are_names_at left (drop i s) ≡ both (is_name_at (drop i s)) (are_names_at (left - 1) (drop (i + n) s))
unfolding are_names_at
are_step s zero i n h e = absurd (omega arith)
are_step s (suc m) i n h e =
    let q : suc m - 1 ≡ m = omega arith in
    let j : 1 + get_or (drop i s) 0 0 ≡ n = omega (arith, first_byte_lem i s) in
    let d : drop (1 + get_or (drop i s) 0 0) (drop i s) ≡ drop (i + n) s = ap (λ (k : ℕ). drop k (drop i s)) j ∙ drop-drop n i s in
    rw q (ap (λ (l : List ℕ). both (is_name_at (drop i s)) (are_names_at m l)) d)

-- one name, a turn later
pub record NameTurn (s : List ℕ) (left i n : ℕ) : Type 0 where
  pub few_bytes : n ≤ 17
  pub within : i + n ≤ length s
  pub size : length (area i n s) ≡ n
  pub sum : length (all_names (names_at left (drop i s))) ≡ n + length (all_names (names_at (left - 1) (drop (i + n) s)))
  pub fields : all_name_fields (names_at left (drop i s)) ≡ padded 17 (area i n s) ++ all_name_fields (names_at (left - 1) (drop (i + n) s))
  pub others : are_names_at (left - 1) (drop (i + n) s) ≡ true

pub name_turn : (s : List ℕ) (left i n : ℕ) → 0 < left → n ≡ 1 + get_or s i 0 → i ≤ length s → are_names_at left (drop i s) ≡ true → NameTurn s left i n
unfolding all_names all_name_fields
name_turn s left i n h e k a =
    let m : List ℕ = name_in (drop i s) in
    let p = both_true (is_name_at (drop i s)) (are_names_at (left - 1) (drop (i + n) s)) (sym (are_step s left i n h e) ∙ a) in
    let t = name_stands (drop i s) p.0 in
    let f = first_byte_lem i s in
    let w : i + n ≤ length s = omega (arith, t.within, length-drop i s, t.some_bytes) in
    let q : name_in (drop i s) ≡ area (i + 1) (get_or s i 0) s = name_at i (get_or s i 0) s refl in
    let l : length m ≡ get_or s i 0 = t.size ∙ f in
    let j : get_or s i 0 + 1 ≡ n = omega arith in
    let b : name_bytes m ≡ area i n s =
    ap₂ (λ (x : ℕ) (y : List ℕ). x ∷ y) l q ∙ sym (area_first i (get_or s i 0) s (omega arith)) ∙ ap (λ (x : ℕ). area i x s) j in
    let r : List (List ℕ) = names_at (left - 1) (drop (i + n) s) in
    let o = names_step s left i n h e in
    record {
      few_bytes = omega (arith, t.few_bytes);
      within = w;
      size = length_area i n s w;
      sum = ap (λ (x : List (List ℕ)). length (all_names x)) o ∙ length-append (name_bytes m) (all_names r) ∙ ap (λ (x : List ℕ). length x + length (all_names r)) b ∙ ap (λ (x : ℕ). x + length (all_names r)) (length_area i n s w);
      fields = ap all_name_fields o ∙ ap (λ (x : List ℕ). padded 17 x ++ all_name_fields r) b;
      others = p.1;
    }

-- no name is left
pub no_names : (left : ℕ) (l : List ℕ) → left ≤ 0 → all_names (names_at left l) ≡ []
unfolding names_at all_names
no_names zero l h = refl
no_names (suc n) l h = absurd (omega arith)

pub no_fields : (left : ℕ) (l : List ℕ) → left ≤ 0 → all_name_fields (names_at left l) ≡ []
unfolding names_at all_name_fields
no_fields zero l h = refl
no_fields (suc n) l h = absurd (omega arith)

pub fields_size : (n : ℕ) (l : List ℕ) → are_names_at n l ≡ true → length (all_name_fields (names_at n l)) ≡ n * 17
unfolding names_at are_names_at all_name_fields
fields_size zero l e = refl
fields_size (suc n) l e =
    let m : List ℕ = drop (1 + get_or l 0 0) l in
    let p = both_true (is_name_at l) (are_names_at n m) e in
    let t = name_stands l p.0 in
    omega (
      arith,
      length-append (name_field (name_in l)) (all_name_fields (names_at n m)),
      length_field (name_in l) (omega (arith, t.size, t.few_bytes)),
      fields_size n m p.1,
    )

-- zeros to the end of the consumers' fields
pub fields_padded : (d f : List ℕ) (to : ℕ) → to ≡ 34 + length f → 34 ≤ length d → put (put d 34 f) to (zeros (306 - to)) ≡ put d 34 (padded 272 f)
fields_padded d f to e h =
    let q : 306 - to ≡ 272 - length f = omega arith in
    ap₂ (λ (i j : ℕ). put (put d 34 f) i (zeros j)) e q ∙ put_append d 34 f (zeros (272 - length f)) h

-- the names of a body
after_name : (n : List ℕ) (ns : List (List ℕ)) (t : List ℕ) → drop (1 + length n) (length n ∷ ((n ++ all_names ns) ++ t)) ≡ all_names ns ++ t
after_name n ns t =
    ap (λ (k : ℕ). drop k (length n ∷ ((n ++ all_names ns) ++ t))) (one-add (length n))
    ∙ ap (drop (length n)) (append_assoc n (all_names ns) t)
    ∙ drop_at n (all_names ns ++ t) (length n) refl

pub names_stand : (ns : List (List ℕ)) (t : List ℕ) → names_at (length ns) (all_names ns ++ t) ≡ ns
unfolding names_at all_names name_in area
names_stand [] t = refl
names_stand (n ∷ ns) t =
    let x : take (length n) ((n ++ all_names ns) ++ t) ≡ n = ap (take (length n)) (append_assoc n (all_names ns) t) ∙ take_at n (all_names ns ++ t) (length n) refl in
    ap₂ (λ (l : List ℕ) (m : List (List ℕ)). l ∷ m) x (ap (names_at (length ns)) (after_name n ns t) ∙ names_stand ns t)

pub names_are : (ns : List (List ℕ)) (t : List ℕ) → are_names ns ≡ true → are_names_at (length ns) (all_names ns ++ t) ≡ true
unfolding are_names_at is_name_at all_names are_names
names_are [] t e = refl
names_are (n ∷ ns) t e =
    let p = both_true (is_name n) (are_names ns) e in
    let k = named n p.0 in
    let l : List ℕ = length n ∷ ((n ++ all_names ns) ++ t) in
    let w : 1 + length n ≤ length l = omega (arith, length-append (n ++ all_names ns) t, length-append n (all_names ns)) in
    both_of (both_of (both_of (le-leb 1 (length n) k.some_bytes) (le-leb (length n) 16 k.few_bytes)) (le-leb (1 + length n) (length l) w))
    (ap (are_names_at (length ns)) (after_name n ns t) ∙ names_are ns t p.1)

-- where the parts of a body lie
pub record BodyAt (s : List ℕ) (g : Group) (n : ℕ) : Type 0 where
  pub first_size : n ≡ 1 + get_or s 0 0
  pub few_bytes : n ≤ 17
  pub size : length s ≡ n + 17 + length (all_names g.consumers) + (2 + length g.pending * 27)
  pub name : area 0 n s ≡ name_bytes g.name
  pub middle : area n 17 s ≡ id_bytes g.delivered ++ (length g.consumers ∷ [])
  pub count : get_or s (n + 16) 0 ≡ length g.consumers
  pub names : names_at (length g.consumers) (drop (n + 17) s) ≡ g.consumers
  pub are : are_names_at (length g.consumers) (drop (n + 17) s) ≡ true
  pub rows : drop (n + 17 + length (all_names g.consumers)) s ≡ le 2 (length g.pending) ++ all_pending g.consumers g.pending
  pub few : length g.consumers ≤ 16
  pub room : length g.pending ≤ 256

module _ (g : Group) (r : Rules g) where
  abbrev n : ℕ
  n = 1 + length g.name

  abbrev mid : List ℕ
  mid = id_bytes g.delivered ++ (length g.consumers ∷ [])

  abbrev names : List ℕ
  names = all_names g.consumers

  abbrev rows : List ℕ
  rows = le 2 (length g.pending) ++ all_pending g.consumers g.pending

  mid_size : length mid ≡ 17
  mid_size = omega (arith, length-append (id_bytes g.delivered) (length g.consumers ∷ []), length_id_bytes g.delivered)

  name_size : length (name_bytes g.name) ≡ n
  name_size = omega arith

  after_middle : drop (n + 17) (body_bytes g) ≡ names ++ rows
  after_middle =
      ap (drop (n + 17)) (body_parts g ∙ sym (append_assoc (name_bytes g.name) mid (names ++ rows)))
      ∙ drop_at (name_bytes g.name ++ mid) (names ++ rows) (n + 17) (omega (arith, length-append (name_bytes g.name) mid, mid_size))

  middle_at : area n 17 (body_bytes g) ≡ mid
  middle_at = ap (area n 17) (body_parts g) ∙ area_middle (name_bytes g.name) mid (names ++ rows) n 17 name_size mid_size

  body_size : length (body_bytes g) ≡ n + 17 + length names + (2 + length g.pending * 27)
  body_size = omega (arith, length_body g)

  body_first : n ≡ 1 + get_or (body_bytes g) 0 0
  unfolding body_bytes
  body_first = refl

  pub body_at : BodyAt (body_bytes g) g (1 + length g.name)
  body_at =
      let k = named g.name r.named in
      record {
        first_size = body_first;
        few_bytes = omega (arith, k.few_bytes);
        size = body_size;
        name = ap (area 0 n) (body_parts g) ∙ area_left (name_bytes g.name) (mid ++ (names ++ rows)) n name_size;
        middle = middle_at;
        count =
            sym (get_d_area n 17 (body_bytes g) 16 (omega arith))
            ∙ ap (λ (l : List ℕ). get_or l 16 0) middle_at
            ∙ get_or_at (id_bytes g.delivered) (length g.consumers) [] 0 16 (length_id_bytes g.delivered);
        names = ap (names_at (length g.consumers)) after_middle ∙ names_stand g.consumers rows;
        are = ap (are_names_at (length g.consumers)) after_middle ∙ names_are g.consumers rows r.names;
        rows = sym (drop-drop (length names) (n + 17) (body_bytes g)) ∙ ap (drop (length names)) after_middle ∙ drop_at names rows (length names) refl;
        few = r.few;
        room = r.room;
      }

-- the region that the parts make, one after the other
module _ (g : Group) (r : Rules g) where
  abbrev entries : List ℕ
  entries = all_pending g.consumers g.pending

  rest_padded : padded 6914 (le 2 (length g.pending) ++ entries) ≡ le 2 (length g.pending) ++ padded 6912 entries
  rest_padded =
      let l : List ℕ = le 2 (length g.pending) in
      let e : 6914 - length (l ++ entries) ≡ 6912 - length entries = omega (arith, length-append l entries, length_le 2 (length g.pending)) in
      append_assoc l entries (zeros (6914 - length (l ++ entries))) ∙ ap (λ (k : ℕ). l ++ (entries ++ zeros k)) e

  region_parts : region_bytes g
      ≡ name_field g.name
      ++ ((id_bytes g.delivered ++ (length g.consumers ∷ []))
      ++ (padded 272 (all_name_fields g.consumers) ++ (le 2 (length g.pending) ++ padded 6912 entries)))
  unfolding region_bytes
  region_parts =
      ap (λ (l : List ℕ). name_field g.name ++ l)
      (sym (append_assoc (id_bytes g.delivered) (length g.consumers ∷ []) (padded 272 (all_name_fields g.consumers) ++ (le 2 (length g.pending) ++ padded 6912 entries))))

  pub region_filled : (d : List ℕ) → length d ≡ 7220
      → put (put (put (put d 0 (name_field g.name)) 17 (id_bytes g.delivered ++ (length g.consumers ∷ []))) 34 (padded 272 (all_name_fields g.consumers))) 306 (padded 6914 (le 2 (length g.pending) ++ entries))
      ≡ region_bytes g
  region_filled d h =
      let a : List ℕ = name_field g.name in
      let b : List ℕ = id_bytes g.delivered ++ (length g.consumers ∷ []) in
      let c : List ℕ = padded 272 (all_name_fields g.consumers) in
      let p : List ℕ = le 2 (length g.pending) ++ padded 6912 entries in
      let la : length a ≡ 17 = length_field g.name (named g.name r.named).few_bytes in
      let lb : length b ≡ 17 = omega (arith, length-append (id_bytes g.delivered) (length g.consumers ∷ []), length_id_bytes g.delivered) in
      let lc : length c ≡ 272 = length_padded 272 (all_name_fields g.consumers) (omega (arith, length_fields g.consumers r.names, r.few)) in
      ap (put (put (put (put d 0 a) 17 b) 34 c) 306) rest_padded
      ∙ four_puts d 0 a b c p 17 34 306 (omega arith) (omega arith) (omega arith) (omega arith)
      ∙ ap (put d 0) (sym region_parts)
      ∙ put_all d (region_bytes g) (length_region g r ∙ sym h)

-- a body that is one
pub record BodyHeld (s : List ℕ) : Type 0 where
  pub group : Group
  pub parsed : parse_body s ≡ Some group
  pub rules_kept : Rules group
  pub parts : BodyAt s group (1 + get_or s 0 0)

held_case : (s : List ℕ) (o : Option Group) → Bytes s → parse_body s ≡ o → not (is_none o) ≡ true → BodyHeld s
held_case s None b e h = absurd (let z : ◌≡◌ {A = ℕ} 0 1 = cc in omega arith)
held_case s (Some g) b e h =
    let q = body_bytes_lem s g b e in
    let r = rules g q.rules_kept in
    let x : BodyAt s g (1 + length g.name) = subst (λ (l : List ℕ). BodyAt l g (1 + length g.name)) (sym q.bytes) (body_at g r) in
    record { group = g; parsed = e; rules_kept = r; parts = subst (λ (k : ℕ). BodyAt s g k) x.first_size x }

pub body_held : (s : List ℕ) → Bytes s → not (is_none (parse_body s)) ≡ true → BodyHeld s
body_held s b h = held_case s (parse_body s) b refl h
