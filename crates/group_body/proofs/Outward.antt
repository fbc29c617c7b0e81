-- The parts of a region that make the body: its name, its last delivered ID and number of consumers, their names, its entries.
-- Assumes nothing.
use mathlib.Core.Path.{◌≡◌, refl, sym, ap, ap₂, ◌∙◌, subst}
use mathlib.Core.Bool.{true}
use mathlib.Core.List.{List, [], ◌∷◌, ◌++◌, append_assoc}
use Prim.Native.Nat.{ℕ, zero, suc, ◌+◌, ◌-◌, ◌*◌, ◌≤◌, ◌<◌}
use native.Mathlib.Omega.{arith}
use lib.ListN.{length, take, drop, get_or, length-append}
use lib.Seq.{take_at, drop-drop}
use Rattle.octets.specs.Bytes.{le, zeros}
use Rattle.octets.specs.Place.{area, put}
use Rattle.octets.proofs.Laws.{both_true, length_le, area_first, area_none, area_add, area_left, length_area, put_append}
use Rattle.id.specs.Bytes.{id_bytes}
use Rattle.id.proofs.Laws.{length_id_bytes}
use Rattle.groups.specs.Group.{Group, is_name, are_names}
use Rattle.groups.specs.Bytes.{name_bytes, name_field, all_names, all_name_fields, all_pending, padded, body_bytes, region_bytes}
use Rattle.groups.specs.Parse.{name_in, names_in, group_in}
use Rattle.groups.specs.Answer.{SoundRegion}
use Rattle.groups.proofs.Laws.{named, length_field, length_fields, length_entries, Rules, rules, length_padded, part_delivered, part_count, part_number, part_entries, name_at}

-- a body in four parts
pub body_parts : (g : Group)
    → body_bytes g
    ≡ name_bytes g.name
    ++ ((id_bytes g.delivered ++ (length g.consumers ∷ []))
    ++ (all_names g.consumers ++ (le 2 (length g.pending) ++ all_pending g.consumers g.pending)))
unfolding body_bytes
body_parts g =
    ap (λ (l : List ℕ). name_bytes g.name ++ l)
    (sym (append_assoc (id_bytes g.delivered) (length g.consumers ∷ [])
    (all_names g.consumers ++ (le 2 (length g.pending) ++ all_pending g.consumers g.pending))))

-- the same parts of the region
pub record BodyIn (s : List ℕ) (g : Group) : Type 0 where
  pub size : length s ≡ 7220
  pub name_size : get_or s 0 0 ≡ length g.name
  pub some_bytes : 1 ≤ length g.name
  pub few_bytes : length g.name ≤ 16
  pub name : area 0 (1 + length g.name) s ≡ name_bytes g.name
  pub middle : area 17 17 s ≡ id_bytes g.delivered ++ (length g.consumers ∷ [])
  pub entries : area 306 (2 + length g.pending * 27) s ≡ le 2 (length g.pending) ++ all_pending g.consumers g.pending
  pub few : length g.consumers ≤ 16
  pub room : length g.pending ≤ 256
  pub names : are_names g.consumers ≡ true

module _ (g : Group) (r : Rules g) where
  abbrev fields : List ℕ
  fields = padded 272 (all_name_fields g.consumers)

  abbrev rows : List ℕ
  rows = all_pending g.consumers g.pending

  abbrev number : List ℕ
  number = le 2 (length g.pending)

  hn : length (name_field g.name) ≡ 17
  hn = length_field g.name (named g.name r.named).few_bytes

  hd : length (id_bytes g.delivered) ≡ 16
  hd = length_id_bytes g.delivered

  hf : length fields ≡ 272
  hf = length_padded 272 (all_name_fields g.consumers) (omega (arith, length_fields g.consumers r.names, r.few))

  hc : length number ≡ 2
  hc = length_le 2 (length g.pending)

  hp : length (padded 6912 rows) ≡ 6912
  hp = length_padded 6912 rows (omega (arith, length_entries g.consumers g.pending, r.room))

  whole : length (region_bytes g) ≡ 7220
  unfolding region_bytes
  whole =
      omega (
        arith,
        hn,
        hd,
        hf,
        hc,
        hp,
        length-append (name_field g.name) (id_bytes g.delivered ++ (length g.consumers ∷ (fields ++ (number ++ padded 6912 rows)))),
        length-append (id_bytes g.delivered) (length g.consumers ∷ (fields ++ (number ++ padded 6912 rows))),
        length-append fields (number ++ padded 6912 rows),
        length-append number (padded 6912 rows),
      )

  region_middle : area 17 17 (region_bytes g) ≡ id_bytes g.delivered ++ (length g.consumers ∷ [])
  unfolding region_bytes
  region_middle =
      let s : List ℕ = region_bytes g in
      let l : 33 < length s = omega (arith, whole) in
      area_add 17 16 1 s
      ∙ ap₂ (λ (x y : List ℕ). x ++ y)
      (part_delivered (name_field g.name) (id_bytes g.delivered) (length g.consumers) fields number (padded 6912 rows) hn hd hf hc)
      (area_first 33 0 s l
      ∙ ap₂ (λ (x : ℕ) (y : List ℕ). x ∷ y)
      (part_count (name_field g.name) (id_bytes g.delivered) (length g.consumers) fields number (padded 6912 rows) hn hd hf hc) (area_none 34 s))

  region_rows : area 306 (2 + length g.pending * 27) (region_bytes g) ≡ number ++ rows
  unfolding region_bytes area
  region_rows =
      let s : List ℕ = region_bytes g in
      area_add 306 2 (length g.pending * 27) s
      ∙ ap₂ (λ (x y : List ℕ). x ++ y)
      (part_number (name_field g.name) (id_bytes g.delivered) (length g.consumers) fields number (padded 6912 rows) hn hd hf hc)
      (ap (take (length g.pending * 27)) (part_entries (name_field g.name) (id_bytes g.delivered) (length g.consumers) fields number (padded 6912 rows) hn hd hf hc)
      ∙ take_at rows (zeros (6912 - length rows)) (length g.pending * 27) (length_entries g.consumers g.pending))

  region_name : area 0 (1 + length g.name) (region_bytes g) ≡ name_bytes g.name
  unfolding region_bytes
  region_name =
      let n : List ℕ = name_bytes g.name in
      let z : List ℕ = zeros (17 - length n) in
      let t : List ℕ = id_bytes g.delivered ++ (length g.consumers ∷ (fields ++ (number ++ padded 6912 rows))) in
      let e : length n ≡ 1 + length g.name = omega arith in
      ap (area 0 (1 + length g.name)) (append_assoc n z t) ∙ area_left n (z ++ t) (1 + length g.name) e

  first_size : get_or (region_bytes g) 0 0 ≡ length g.name
  unfolding region_bytes
  first_size = refl

  body_in_lem : BodyIn (region_bytes g) g
  body_in_lem =
      let n = named g.name r.named in
      record {
        size = whole;
        name_size = first_size;
        some_bytes = n.some_bytes;
        few_bytes = n.few_bytes;
        name = region_name;
        middle = region_middle;
        entries = region_rows;
        few = r.few;
        room = r.room;
        names = r.names;
      }

pub body_of_lem : (s : List ℕ) → SoundRegion s → BodyIn s (group_in s)
body_of_lem s h = subst (λ (l : List ℕ). BodyIn l (group_in s)) (sym h.laid) (body_in_lem (group_in s) (rules (group_in s) h.rules_kept))

-- the size of a body
pub length_body : (g : Group) → length (body_bytes g) ≡ length g.name + 20 + length (all_names g.consumers) + length g.pending * 27
unfolding body_bytes
length_body g =
    let p : List ℕ = le 2 (length g.pending) ++ all_pending g.consumers g.pending in
    omega (
      arith,
      length-append (name_bytes g.name) (id_bytes g.delivered ++ (length g.consumers ∷ (all_names g.consumers ++ p))),
      length-append (id_bytes g.delivered) (length g.consumers ∷ (all_names g.consumers ++ p)),
      length-append (all_names g.consumers) p,
      length-append (le 2 (length g.pending)) (all_pending g.consumers g.pending),
      length_id_bytes g.delivered,
      length_le 2 (length g.pending),
      length_entries g.consumers g.pending,
    )

-- a field's name, a turn later
pub record FieldTurn (s : List ℕ) (left i : ℕ) : Type 0 where
  pub few_bytes : get_or s i 0 ≤ 16
  pub first_name : all_names (names_in left (drop i s)) ≡ area i (1 + get_or s i 0) s ++ all_names (names_in (left - 1) (drop (i + 17) s))
  pub others : are_names (names_in (left - 1) (drop (i + 17) s)) ≡ true

step : (s : List ℕ) (left i : ℕ) → 0 < left → names_in left (drop i s) ≡ name_in (drop i s) ∷ names_in (left - 1) (drop (i + 17) s)
unfolding names_in
step s zero i h = absurd (omega arith)
step s (suc n) i h =
    let e : suc n - 1 ≡ n = omega arith in
    rw e (ap (λ (l : List ℕ). name_in (drop i s) ∷ names_in n l) (drop-drop 17 i s))

pub field_turn : (s : List ℕ) (left i : ℕ) → 0 < left → get_or s i 0 < 256 → i + 257 ≤ length s → are_names (names_in left (drop i s)) ≡ true → FieldTurn s left i
unfolding are_names all_names
field_turn s left i h b k e =
    let n : ℕ = get_or s i 0 in
    let m : List ℕ = name_in (drop i s) in
    let q : name_in (drop i s) ≡ area (i + 1) n s = name_at i n s refl in
    let l : length m ≡ n = ap length q ∙ length_area (i + 1) n s (omega arith) in
    let p = both_true (is_name m) (are_names (names_in (left - 1) (drop (i + 17) s))) (ap are_names (sym (step s left i h)) ∙ e) in
    let w : name_bytes m ≡ area i (1 + n) s =
    ap₂ (λ (x : ℕ) (y : List ℕ). x ∷ y) l q ∙ sym (ap (λ (j : ℕ). area i j s) (one_is n) ∙ area_first i n s (omega arith)) in
    record {
      few_bytes = omega (arith, (named m p.0).few_bytes);
      first_name = ap all_names (step s left i h) ∙ ap (λ (x : List ℕ). x ++ all_names (names_in (left - 1) (drop (i + 17) s))) w;
      others = p.1;
    }
  where
    one_is : (n : ℕ) → 1 + n ≡ n + 1
    one_is n = omega arith

pub names_none : (s : List ℕ) (left i : ℕ) → left ≤ 0 → all_names (names_in left (drop i s)) ≡ []
unfolding names_in all_names
names_none s zero i h = refl
names_none s (suc n) i h = absurd (omega arith)

-- the parts written one after the other
pub four_puts : (d : List ℕ) (at : ℕ) (a b c p : List ℕ) (i j k : ℕ) → i ≡ at + length a → j ≡ i + length b → k ≡ j + length c → k ≤ length d
    → put (put (put (put d at a) i b) j c) k p ≡ put d at (a ++ (b ++ (c ++ p)))
four_puts d at a b c p i j k e f g h =
    let x : put (put d at a) i b ≡ put d at (a ++ b) = ap (λ (m : ℕ). put (put d at a) m b) e ∙ put_append d at a b (omega arith) in
    let m : j ≡ at + length (a ++ b) = omega (arith, length-append a b) in
    let y : put (put d at (a ++ b)) j c ≡ put d at ((a ++ b) ++ c) = ap (λ (n : ℕ). put (put d at (a ++ b)) n c) m ∙ put_append d at (a ++ b) c (omega arith) in
    let n : k ≡ at + length ((a ++ b) ++ c) = omega (arith, length-append (a ++ b) c) in
    ap (λ (l : List ℕ). put (put l j c) k p) x
    ∙ ap (λ (l : List ℕ). put l k p) y
    ∙ ap (λ (o : ℕ). put (put d at ((a ++ b) ++ c)) o p) n
    ∙ put_append d at ((a ++ b) ++ c) p (omega arith)
    ∙ ap (put d at) (append_assoc (a ++ b) c p ∙ append_assoc a b (c ++ p))

-- the steps of the code
module _ (s d : List ℕ) (at n p e : ℕ) (h : SoundRegion s) (k : at + length (body_bytes (group_in s)) ≤ length d) where
  abbrev g : Group
  g = group_in s

  pub written : n ≡ 1 + length (group_in s).name → p ≡ length (group_in s).pending → e ≡ at + n + 17 + length (all_names (group_in s).consumers)
      → put (put (put (put d at (area 0 n s)) (at + n) (area 17 17 s)) (at + n + 17) (all_names (group_in s).consumers)) e (area 306 (2 + p * 27) s)
      ≡ put d at (body_bytes (group_in s))
  written en ep ee =
      let b = body_of_lem s h in
      let a1 : List ℕ = area 0 n s in
      let a2 : List ℕ = area 17 17 s in
      let l1 : length a1 ≡ n = length_area 0 n s (omega (arith, b.size, b.few_bytes)) in
      let l2 : length a2 ≡ 17 = length_area 17 17 s (omega (arith, b.size)) in
      let e1 : a1 ≡ name_bytes g.name = ap (λ (j : ℕ). area 0 j s) en ∙ b.name in
      let e4 : area 306 (2 + p * 27) s ≡ le 2 (length g.pending) ++ all_pending g.consumers g.pending =
      ap (λ (j : ℕ). area 306 (2 + j * 27) s) ep ∙ b.entries in
      four_puts d at a1 a2 (all_names g.consumers) (area 306 (2 + p * 27) s) (at + n) (at + n + 17) e (omega arith) (omega arith) ee
      (omega (arith, length_body g))
      ∙ ap (put d at)
      (ap₂ (λ (x y : List ℕ). x ++ y) e1
      (ap₂ (λ (x y : List ℕ). x ++ y) b.middle (ap (λ (x : List ℕ). all_names g.consumers ++ x) e4))
      ∙ sym (body_parts g))
