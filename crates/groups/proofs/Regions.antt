-- A region is read as its group exactly when its bytes are the group's and the group keeps the rules. Assumes nothing.
use mathlib.Core.Path.{◌≡◌, refl, sym, ap, ap₂, ◌∙◌, subst}
use mathlib.Core.Bool.{Bool, true, false}
use mathlib.Core.List.{List, [], ◌++◌, append_assoc, append-nil}
use Rattle.std.proofs.Common.{Some}
use Prim.Native.Nat.{ℕ, ◌-◌, ◌*◌, ◌≤◌}
use native.Mathlib.Omega.{arith}
use lib.Dec.{leb, eqb}
use lib.ListN.{length, take, drop, length-drop}
use borrow.Author.Tests.{leb-true, le-leb, eqb-true, eq-eqb}
use Rattle.octets.specs.Pick.{both}
use Rattle.octets.specs.Maybe.{◌>>◌, need}
use Rattle.octets.specs.Bytes.{Bytes, le, le_value, zeros}
use Rattle.octets.specs.Place.{area}
use Rattle.octets.specs.Compare.{all_zero}
use Rattle.octets.proofs.Laws.{both_true, zero_all, bytes_area, bytes_drop, length_le, value_le, length_area, both_of, area_drop}
use Rattle.id.specs.declared.Id.{Id}
use Rattle.id.specs.Id.{least}
use Rattle.id.specs.Bytes.{id_bytes, id_from}
use Rattle.id.proofs.Laws.{length_id_bytes, from_bytes_of, bytes_of_from, from_fits}
use Rattle.groups.specs.Group.{Pending, Group, is_group}
use Rattle.groups.specs.Bytes.{name_field, all_name_fields, all_pending, padded, region_bytes}
use Rattle.groups.specs.Parse.{name_in, is_field, names_in, are_fields, are_entries, all_pending_in, rest_zero, consumer_count_in, pending_count_in, delivered_in, group_in, names_pass, entries_pass, is_region, parse_region}
use Rattle.groups.proofs.Names.{named}
use Rattle.groups.proofs.Fields.{length_field, name_of_field, field_of_name, field_read, field_named, length_names_in, length_fields, FieldsRead, fields_kept, fields_read}
use Rattle.groups.proofs.Entries.{length_pending_in, length_entries, EntriesRead, number_read, entries_kept, entries_read}
use Rattle.groups.proofs.Rules.{Rules, rules, is_group_lem}
use Rattle.groups.proofs.Parts.{length_padded, padded_rest, padded_read, six_parts, part_delivered, part_count, part_fields, part_number, part_entries, length_parts, parts}

-- the parts of a group's region
module _ (g : Group) (r : Rules g) where
  abbrev fields : List ℕ
  fields = all_name_fields g.consumers

  abbrev entries : List ℕ
  entries = all_pending g.consumers g.pending

  length_names : length fields ≡ length g.consumers * 17
  length_names = length_fields g.consumers r.names

  length_pending : length entries ≡ length g.pending * 27
  length_pending = length_entries g.consumers g.pending

  hn : length (name_field g.name) ≡ 17
  hn = length_field g.name (named g.name r.named).few_bytes

  hd : length (id_bytes g.delivered) ≡ 16
  hd = length_id_bytes g.delivered

  hf : length (padded 272 fields) ≡ 272
  hf = length_padded 272 fields (omega (arith, length_names, r.few))

  hc : length (le 2 (length g.pending)) ≡ 2
  hc = length_le 2 (length g.pending)

  hp : length (padded 6912 entries) ≡ 6912
  hp = length_padded 6912 entries (omega (arith, length_pending, r.room))

  abbrev number : List ℕ
  number = le 2 (length g.pending)

  abbrev after_fields : List ℕ
  after_fields = number ++ padded 6912 entries

  pub length_region : length (region_bytes g) ≡ 7220
  unfolding region_bytes
  length_region =
      length_parts (name_field g.name) (id_bytes g.delivered) (length g.consumers) (padded 272 fields) number (padded 6912 entries) hn hd hf hc hp

  pub region_name : name_in (region_bytes g) ≡ g.name
  unfolding region_bytes
  region_name = name_of_field g.name _ r.named

  pub region_delivered : delivered_in (region_bytes g) ≡ g.delivered
  unfolding region_bytes delivered_in
  region_delivered =
      ap id_from (part_delivered (name_field g.name) (id_bytes g.delivered) (length g.consumers) (padded 272 fields) number (padded 6912 entries) hn hd hf hc)
      ∙ from_bytes_of g.delivered r.fits

  pub region_count : consumer_count_in (region_bytes g) ≡ length g.consumers
  unfolding region_bytes
  region_count =
      part_count (name_field g.name) (id_bytes g.delivered) (length g.consumers) (padded 272 fields) number (padded 6912 entries) hn hd hf hc

  pub region_fields : drop 34 (region_bytes g) ≡ padded 272 fields ++ after_fields
  unfolding region_bytes
  region_fields =
      part_fields (name_field g.name) (id_bytes g.delivered) (length g.consumers) (padded 272 fields) number (padded 6912 entries) hn hd hf hc

  pub region_number : pending_count_in (region_bytes g) ≡ length g.pending
  unfolding region_bytes
  region_number =
      ap le_value (part_number (name_field g.name) (id_bytes g.delivered) (length g.consumers) (padded 272 fields) number (padded 6912 entries) hn hd hf hc)
      ∙ value_le 2 (length g.pending) (omega (arith, r.room))

  pub region_entries : drop 308 (region_bytes g) ≡ padded 6912 entries
  unfolding region_bytes
  region_entries =
      part_entries (name_field g.name) (id_bytes g.delivered) (length g.consumers) (padded 272 fields) number (padded 6912 entries) hn hd hf hc

  zeros_after : List ℕ
  zeros_after = zeros (272 - length fields) ++ after_fields

  names_at : drop 34 (region_bytes g) ≡ fields ++ zeros_after
  unfolding zeros_after
  names_at = region_fields ∙ append_assoc fields (zeros (272 - length fields)) after_fields

  pub region_consumers : names_in (consumer_count_in (region_bytes g)) (drop 34 (region_bytes g)) ≡ g.consumers
  region_consumers =
      ap₂ names_in region_count names_at ∙ (fields_kept [] g.consumers zeros_after r.names r.rising).names

  pub region_pending : all_pending_in (pending_count_in (region_bytes g)) g.consumers (drop 308 (region_bytes g)) ≡ g.pending
  region_pending =
      ap₂ (λ (n : ℕ) (l : List ℕ). all_pending_in n g.consumers l) region_number region_entries
      ∙ (entries_kept g.consumers least g.delivered g.pending (zeros (6912 - length entries)) r.entries r.above r.up_to_lem).pending

  pub group_of_region : group_in (region_bytes g) ≡ g
  unfolding group_in
  group_of_region =
      let a = region_name in
      let b = region_delivered in
      let c = region_consumers in
      let d : all_pending_in (pending_count_in (region_bytes g)) (names_in (consumer_count_in (region_bytes g)) (drop 34 (region_bytes g))) (drop 308 (region_bytes g)) ≡ g.pending =
      ap (λ (l : List (List ℕ)). all_pending_in (pending_count_in (region_bytes g)) l (drop 308 (region_bytes g))) c ∙ region_pending in
      λ i. record { name = a i; delivered = b i; consumers = c i; pending = d i }

  names_zero : rest_zero 34 (consumer_count_in (region_bytes g) * 17) 272 (region_bytes g) ≡ true
  names_zero =
      let u : ℕ = consumer_count_in (region_bytes g) * 17 in
      let e : length fields ≡ u = length_names ∙ ap (λ (n : ℕ). n * 17) (sym region_count) in
      ap all_zero (sym (area_drop 34 u (272 - u) (region_bytes g)) ∙ ap (area u (272 - u)) region_fields ∙ padded_rest 272 u fields after_fields e)
      ∙ zero_all (272 - u)

  entries_zero : rest_zero 308 (pending_count_in (region_bytes g) * 27) 6912 (region_bytes g) ≡ true
  entries_zero =
      let u : ℕ = pending_count_in (region_bytes g) * 27 in
      let e : length entries ≡ u = length_pending ∙ ap (λ (n : ℕ). n * 27) (sym region_number) in
      ap all_zero (sym (area_drop 308 u (6912 - u) (region_bytes g)) ∙ ap (area u (6912 - u)) (region_entries ∙ sym (append-nil (padded 6912 entries))) ∙ padded_rest 6912 u entries [] e)
      ∙ zero_all (6912 - u)

  pub is_region_lem : is_region (region_bytes g) ≡ true
  unfolding is_region names_pass entries_pass
  is_region_lem =
      both_of (eq-eqb (length (region_bytes g)) 7220 length_region)
      (both_of name_field_lem
      (both_of
      (both_of (le-leb (consumer_count_in (region_bytes g)) 16 (omega (arith, region_count, r.few)))
      (both_of (ap₂ (are_fields []) region_count names_at ∙ (fields_kept [] g.consumers zeros_after r.names r.rising).fields) names_zero))
      (both_of (le-leb (pending_count_in (region_bytes g)) 256 (omega (arith, region_number, r.room))) (both_of entries_pass_lem entries_zero))))
    where
      name_field_lem : is_field (region_bytes g) ≡ true
      name_field_lem = unfold region_bytes in field_of_name g.name _ r.named

      entries_pass_lem : are_entries (consumer_count_in (region_bytes g)) least (delivered_in (region_bytes g)) (pending_count_in (region_bytes g)) (drop 308 (region_bytes g)) ≡ true
      entries_pass_lem =
          ap₂ (λ (k : ℕ) (i : Id). are_entries k least i (pending_count_in (region_bytes g)) (drop 308 (region_bytes g))) region_count region_delivered
          ∙ ap₂ (are_entries (length g.consumers) least g.delivered) region_number region_entries
          ∙ (entries_kept g.consumers least g.delivered g.pending (zeros (6912 - length entries)) r.entries r.above r.up_to_lem).entries

-- the tests of a region
pub record Tested (s : List ℕ) : Type 0 where
  pub size : length s ≡ 7220
  pub field : is_field s ≡ true
  pub few : consumer_count_in s ≤ 16
  pub fields : are_fields [] (consumer_count_in s) (drop 34 s) ≡ true
  pub names_zero : rest_zero 34 (consumer_count_in s * 17) 272 s ≡ true
  pub room : pending_count_in s ≤ 256
  pub entries : are_entries (consumer_count_in s) least (delivered_in s) (pending_count_in s) (drop 308 s) ≡ true
  pub entries_zero : rest_zero 308 (pending_count_in s * 27) 6912 s ≡ true

pub tested : (s : List ℕ) → is_region s ≡ true → Tested s
unfolding is_region names_pass entries_pass
tested s e =
    let fields : Bool = are_fields [] (consumer_count_in s) (drop 34 s) in
    let fields_rest : Bool = rest_zero 34 (consumer_count_in s * 17) 272 s in
    let entries : Bool = are_entries (consumer_count_in s) least (delivered_in s) (pending_count_in s) (drop 308 s) in
    let entries_rest : Bool = rest_zero 308 (pending_count_in s * 27) 6912 s in
    let p = both_true (eqb (length s) 7220) (both (is_field s) (both (names_pass s) (entries_pass s))) e in
    let q = both_true (is_field s) (both (names_pass s) (entries_pass s)) p.1 in
    let r = both_true (names_pass s) (entries_pass s) q.1 in
    let x = both_true (leb (consumer_count_in s) 16) (both fields fields_rest) r.0 in
    let y = both_true fields fields_rest x.1 in
    let z = both_true (leb (pending_count_in s) 256) (both entries entries_rest) r.1 in
    let w = both_true entries entries_rest z.1 in
    record {
      size = eqb-true (length s) 7220 p.0;
      field = q.0;
      few = leb-true (consumer_count_in s) 16 x.0;
      fields = y.0;
      names_zero = y.1;
      room = leb-true (pending_count_in s) 256 z.0;
      entries = w.0;
      entries_zero = w.1;
    }

-- a region that is read
module _ (s : List ℕ) (b : Bytes s) (t : Tested s) where
  abbrev consumers : List (List ℕ)
  consumers = names_in (consumer_count_in s) (drop 34 s)

  names_read : FieldsRead [] (consumer_count_in s) (drop 34 s)
  names_read = fields_read [] (consumer_count_in s) (drop 34 s) t.fields (omega (arith, length-drop 34 s, t.size, t.few)) (bytes_drop 34 b)

  pending_read : EntriesRead consumers least (delivered_in s) (pending_count_in s) (drop 308 s)
  pending_read =
      entries_read consumers [] names_read.rising (delivered_in s) least (pending_count_in s) (drop 308 s)
      (ap (λ (k : ℕ). are_entries k least (delivered_in s) (pending_count_in s) (drop 308 s)) (length_names_in (consumer_count_in s) (drop 34 s)) ∙ t.entries)
      (omega (arith, length-drop 308 s, t.size, t.room))
      (bytes_drop 308 b)

  pub region_laid : s ≡ region_bytes (group_in s)
  unfolding region_bytes group_in delivered_in
  region_laid =
      let l = t.size in
      let ps : List Pending = all_pending_in (pending_count_in s) consumers (drop 308 s) in
      let n : take 17 s ≡ name_field (name_in s) = (field_read s t.field (omega arith)).bytes in
      let d : area 17 16 s ≡ id_bytes (id_from (area 17 16 s)) =
      sym (bytes_of_from (area 17 16 s) (bytes_area 17 16 b) (length_area 17 16 s (omega arith))) in
      let k : consumer_count_in s ≡ length consumers = sym (length_names_in (consumer_count_in s) (drop 34 s)) in
      let f : area 34 272 s ≡ padded 272 (all_name_fields consumers) =
      padded_read s 34 (consumer_count_in s * 17) 272 (all_name_fields consumers) (omega (arith, t.few)) (omega arith) t.names_zero names_read.bytes in
      let c : area 306 2 s ≡ le 2 (length ps) =
      sym (number_read s b 306 2 (omega arith)) ∙ ap (le 2) (sym (length_pending_in (pending_count_in s) consumers (drop 308 s))) in
      let p : area 308 6912 s ≡ padded 6912 (all_pending consumers ps) =
      padded_read s 308 (pending_count_in s * 27) 6912 (all_pending consumers ps) (omega (arith, t.room)) (omega arith) t.entries_zero pending_read.bytes in
      parts s l ∙ (λ i. six_parts (n i) (d i) (k i) (f i) (c i) (p i))

  pub region_rules : Rules (group_in s)
  unfolding group_in delivered_in
  region_rules =
      record {
        named = field_named s t.field (omega (arith, t.size)) b;
        fits = from_fits (area 17 16 s) (bytes_area 17 16 b) (length_area 17 16 s (omega (arith, t.size)));
        few = omega (arith, t.few, length_names_in (consumer_count_in s) (drop 34 s));
        names = names_read.names;
        rising = names_read.rising;
        room = omega (arith, t.room, length_pending_in (pending_count_in s) consumers (drop 308 s));
        entries = pending_read.entries;
        above = pending_read.rising;
        up_to_lem = pending_read.up_to_lem;
      }

-- a group's region is read as that group
pub region_parse : (g : Group) → is_group g ≡ true → parse_region (region_bytes g) ≡ Some g
unfolding parse_region
region_parse g e = let r = rules g e in rw (is_region_lem g r, group_of_region g r)

-- what is read as a group is its region
pub record RegionRead (s : List ℕ) (g : Group) : Type 0 where
  pub bytes : s ≡ region_bytes g
  pub rules_kept : is_group g ≡ true

read_case : (s : List ℕ) (g : Group) (t : Bool) → Bytes s → is_region s ≡ t → (need t >> Some (group_in s)) ≡ Some g → RegionRead s g
read_case s g false b e q = absurd (let z : ◌≡◌ {A = ℕ} 0 1 = cc in omega arith)
read_case s g true b e q =
    let p : group_in s ≡ g = cc in
    subst (RegionRead s) p (record { bytes = region_laid s b (tested s e); rules_kept = is_group_lem (group_in s) (region_rules s b (tested s e)) })

pub region_bytes_lem : (s : List ℕ) (g : Group) → Bytes s → parse_region s ≡ Some g → RegionRead s g
unfolding parse_region
region_bytes_lem s g b q = read_case s g (is_region s) b refl q
