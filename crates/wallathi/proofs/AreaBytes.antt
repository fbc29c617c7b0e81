-- The groups area of groups that keep the rules is bytes. Assumes nothing.
use mathlib.Core.Path.{◌≡◌}
use mathlib.Core.Bool.{Bool, true, false}
use mathlib.Core.List.{List, [], ◌∷◌}
use Prim.Native.Nat.{ℕ, suc, ◌+◌, ◌-◌, ◌*◌, ◌≤◌}
use native.Mathlib.Omega.{arith}
use lib.ListN.{length}
use Rattle.octets.specs.Pick.{pick}
use Rattle.octets.specs.Bytes.{Bytes}
use Rattle.octets.specs.Compare.{same}
use Rattle.octets.proofs.Laws.{both_true, bytes_nil, bytes_cons, bytes_append, bytes_zeros, bytes_le}
use Rattle.id.specs.declared.Id.{Id}
use Rattle.id.proofs.Laws.{bytes_id}
use Rattle.groups.specs.Group.{Pending, Group, is_name, are_names, is_group}
use Rattle.groups.specs.Bytes.{place_of_name, pending_bytes, all_pending, name_field, all_name_fields, region_bytes, region_size}
use Rattle.groups.specs.Area.{are_groups, is_groups, regions, area_bytes, area_size}
use Rattle.groups.proofs.Laws.{named, rules, first, sound}

name_bytes_lem : (n : List ℕ) → is_name n ≡ true → Bytes (name_field n)
name_bytes_lem n e = let k = named n e in bytes_append (bytes_cons (omega (arith, k.few_bytes)) k.bytes) (bytes_zeros (17 - suc (length n)))

names_bytes : (ns : List (List ℕ)) → are_names ns ≡ true → Bytes (all_name_fields ns)
unfolding all_name_fields are_names
names_bytes [] e = bytes_nil
names_bytes (n ∷ ns) e = let p = both_true (is_name n) (are_names ns) e in bytes_append (name_bytes_lem n p.0) (names_bytes ns p.1)

-- a place among so many names
place_most : (n : List ℕ) (ms : List (List ℕ)) → place_of_name n ms ≤ length ms
unfolding place_of_name
place_most n [] = omega arith
place_most n (m ∷ ms) = by (same n m) (place_most n ms)
  where
    by : (t : Bool) → place_of_name n ms ≤ length ms → pick t 0 (1 + place_of_name n ms) ≤ suc (length ms)
    by true h = omega arith
    by false h = omega arith

pending_bytes_lem : (cs : List (List ℕ)) (ps : List Pending) → length cs ≤ 16 → Bytes (all_pending cs ps)
unfolding all_pending pending_bytes
pending_bytes_lem cs [] h = bytes_nil
pending_bytes_lem cs (p ∷ ps) h =
    bytes_append (bytes_append (bytes_id p.id) (bytes_cons (omega (arith, place_most p.consumer cs)) (bytes_append (bytes_le 8 p.time) (bytes_le 2 p.count))))
    (pending_bytes_lem cs ps h)

region_is_bytes : (g : Group) → is_group g ≡ true → Bytes (region_bytes g)
unfolding region_bytes
region_is_bytes g e =
    let r = rules g e in
    bytes_append (name_bytes_lem g.name r.named)
    (bytes_append (bytes_id g.delivered)
    (bytes_cons (omega (arith, r.few))
    (bytes_append (bytes_append (names_bytes g.consumers r.names) (bytes_zeros (272 - length (all_name_fields g.consumers))))
    (bytes_append (bytes_le 2 (length g.pending))
    (bytes_append (pending_bytes_lem g.consumers g.pending r.few) (bytes_zeros (6912 - length (all_pending g.consumers g.pending))))))))

regions_are_bytes : (last : Id) (gs : List Group) → are_groups last gs ≡ true → Bytes (regions gs)
unfolding regions
regions_are_bytes last [] e = bytes_nil
regions_are_bytes last (g ∷ gs) e = let f = first last g gs e in bytes_append (region_is_bytes g f.is_group_lem) (regions_are_bytes last gs f.others)

pub area_is_bytes : (last : Id) (gs : List Group) → is_groups last gs ≡ true → Bytes (area_bytes gs)
unfolding area_bytes
area_is_bytes last gs e = bytes_append (regions_are_bytes last gs (sound last gs e).groups) (bytes_zeros (area_size - length gs * region_size))
