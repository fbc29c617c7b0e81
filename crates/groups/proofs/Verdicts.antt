-- What the whole tests of a region answer, return by return; and what a sound region is. Assumes nothing.
use mathlib.Core.Path.{◌≡◌, refl, sym, ap, ◌∙◌, subst}
use mathlib.Core.Bool.{Bool, true, false}
use mathlib.Core.List.{List, [], ◌∷◌}
use Rattle.std.proofs.Common.{Some}
use Prim.Native.Nat.{ℕ, ◌+◌, ◌-◌, ◌*◌, ◌≤◌, ◌<◌}
use native.Mathlib.Omega.{arith}
use lib.ListN.{length, take, drop, get_or}
use borrow.Author.Tests.{le-leb, lt-leb, eq-eqb, ne_eqb}
use Rattle.octets.specs.Pick.{pick, both}
use Rattle.octets.specs.Bytes.{Bytes}
use Rattle.octets.specs.Place.{area}
use Rattle.octets.specs.Compare.{all_zero}
use Rattle.octets.proofs.Laws.{part_area}
use Rattle.id.specs.declared.Id.{Id}
use Rattle.id.specs.Id.{least, at_most}
use Rattle.groups.specs.Group.{Group, pending_up_to, is_group}
use Rattle.groups.specs.Bytes.{region_bytes}
use Rattle.groups.specs.Parse.{is_field, are_fields, are_entries, consumer_count_in, pending_count_in, delivered_in, group_in, names_pass, entries_pass, is_region, parse_region, names_in, all_pending_in, rest_zero}
use Rattle.groups.specs.Answer.{SoundRegion}
use Rattle.groups.proofs.Rules.{rules}
use Rattle.groups.proofs.Regions.{Tested, tested, is_region_lem, group_of_region, region_parse, region_bytes_lem}
use Rattle.groups.proofs.Limits.{both_swap, entries_lesser}

-- the rest of a room, lent as a part
rest_part : (at used room end : ℕ) (s : List ℕ) → end ≡ at + room → used ≤ room
    → take (end - (at + used)) (drop (at + used) s) ≡ area (at + used) (room - used) s
rest_part at used room end s e h =
    let q : end - (at + used) ≡ room - used = omega arith in
    ap (λ (k : ℕ). take k (drop (at + used) s)) q ∙ part_area (at + used) (room - used) s

module _ (s : List ℕ) (n : ℕ) (e : n ≡ consumer_count_in s) where
  pub names_many : 16 < n → names_pass s ≡ false
  unfolding names_pass
  names_many h = rw (← e, lt-leb n 16 h)

  pub names_bad : n ≤ 16 → are_fields [] n (drop 34 s) ≡ false → names_pass s ≡ false
  unfolding names_pass
  names_bad h k = rw (← e, le-leb n 16 h, k)

  pub names_rest : n ≤ 16 → are_fields [] n (drop 34 s) ≡ true → names_pass s ≡ all_zero (drop 0 (take (306 - (34 + n * 17)) (drop (34 + n * 17) s)))
  unfolding names_pass
  names_rest h k = rw (← e, le-leb n 16 h, k) (ap all_zero (sym (rest_part 34 (n * 17) 272 306 s refl (omega arith))))

-- the entries, none of them above the last ID
module _ (last : Id) (s : List ℕ) (n : ℕ) (e : n ≡ pending_count_in s) where
  pub entries_many : 256 < n → both (entries_pass s) (pending_up_to last (group_in s).pending) ≡ false
  unfolding entries_pass
  entries_many h = rw (← e, lt-leb n 256 h)

  module _ (k : ℕ) (f : k ≡ consumer_count_in s) (i : Id) (d : i ≡ delivered_in s) where
    opened : n ≤ 256 → both (entries_pass s) (pending_up_to last (group_in s).pending)
        ≡ both (are_entries k least (pick (at_most i last) i last) n (drop 308 s)) (rest_zero 308 (n * 27) 6912 s)
    unfolding entries_pass group_in
    opened h =
        rw (← e, le-leb n 256 h, ← f, ← d)
        (both_swap (are_entries k least i n (drop 308 s)) (rest_zero 308 (n * 27) 6912 s) (pending_up_to last (all_pending_in n (names_in k (drop 34 s)) (drop 308 s)))
        ∙ ap (λ (b : Bool). both b (rest_zero 308 (n * 27) 6912 s)) (sym (entries_lesser k least i last n (names_in k (drop 34 s)) (drop 308 s))))

    module _ (m : Id) (q : m ≡ pick (at_most i last) i last) (h : n ≤ 256) where
      pub entries_refused : are_entries k least m n (drop 308 s) ≡ false → both (entries_pass s) (pending_up_to last (group_in s).pending) ≡ false
      entries_refused t = opened h ∙ rw (← q, t)

      pub entries_rest : are_entries k least m n (drop 308 s) ≡ true
          → both (entries_pass s) (pending_up_to last (group_in s).pending) ≡ all_zero (drop 0 (take (7220 - (308 + n * 27)) (drop (308 + n * 27) s)))
      entries_rest t = opened h ∙ rw (← q, t) (ap all_zero (sym (rest_part 308 (n * 27) 6912 7220 s refl (omega arith))))

module _ (s : List ℕ) (l : length s ≡ 7220) where
  pub region_unnamed : is_field s ≡ false → is_region s ≡ false
  unfolding is_region
  region_unnamed e = rw (eq-eqb (length s) 7220 l, e)

  pub region_names : is_field s ≡ true → names_pass s ≡ false → is_region s ≡ false
  unfolding is_region
  region_names e f = rw (eq-eqb (length s) 7220 l, e, f)

  pub region_last : is_field s ≡ true → names_pass s ≡ true → is_region s ≡ entries_pass s
  unfolding is_region
  region_last e f = rw (eq-eqb (length s) 7220 l, e, f)

-- a region that begins with 0 has no name, and one that does not is not free
pub zero_no_field : (s : List ℕ) → get_or s 0 0 ≡ 0 → is_field s ≡ false
unfolding is_field
zero_no_field s e = rw e

pub used_not_zero : (s : List ℕ) → (get_or s 0 0 ≡ 0 → ⊥) → all_zero s ≡ false
unfolding all_zero
used_not_zero [] h = absurd (h refl)
used_not_zero (x ∷ s) h = rw (ne_eqb x 0 h)

-- a sound region is read as its group
pub sound_tested : (s : List ℕ) → SoundRegion s → Tested s
sound_tested s h = tested s (subst (λ (l : List ℕ). is_region l ≡ true) (sym h.laid) (is_region_lem (group_in s) (rules (group_in s) h.rules_kept)))

pub sound_parse : (s : List ℕ) → SoundRegion s → parse_region s ≡ Some (group_in s)
sound_parse s h = subst (λ (l : List ℕ). parse_region l ≡ Some (group_in s)) (sym h.laid) (region_parse (group_in s) h.rules_kept)

-- the region of a group is sound, and is read as that group
pub group_in_lem : (g : Group) → is_group g ≡ true → group_in (region_bytes g) ≡ g
group_in_lem g e = group_of_region g (rules g e)

pub sound_region_lem : (g : Group) → is_group g ≡ true → SoundRegion (region_bytes g)
sound_region_lem g e =
    let q : group_in (region_bytes g) ≡ g = group_in_lem g e in
    record { laid = ap region_bytes (sym q); rules_kept = ap is_group q ∙ e }

-- what is read as a group is a sound region of that group
pub record ParsedSound (s : List ℕ) (g : Group) : Type 0 where
  pub group : group_in s ≡ g
  pub sound : SoundRegion s

pub parse_sound : (s : List ℕ) (g : Group) → Bytes s → parse_region s ≡ Some g → ParsedSound s g
parse_sound s g b e =
    let r = region_bytes_lem s g b e in
    record {
      group = ap group_in r.bytes ∙ group_in_lem g r.rules_kept;
      sound = subst SoundRegion (sym r.bytes) (sound_region_lem g r.rules_kept);
    }
