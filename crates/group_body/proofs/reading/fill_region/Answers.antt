-- `fill_region` meets its contract: the parts of the body make the region. Assumes nothing.
use mathlib.Core.Path.{◌≡◌, sym, ap, ap₂, ◌∙◌, subst}
use Rattle.std.proofs.Common.{Option}
use mathlib.Core.List.{List, [], ◌∷◌, ◌++◌}
use Prim.Native.Nat.{ℕ, ◌+◌, ◌-◌, ◌≤◌}
use native.Mathlib.Omega.{arith}
use lib.ListN.{length, take, drop, length-drop}
use lib.Seq.{take_all}
use Rattle.octets.specs.Bytes.{le}
use Rattle.octets.specs.Place.{area, put}
use Rattle.octets.proofs.Laws.{part_area, length_area, part_is}
use Rattle.id.specs.Bytes.{id_bytes}
use Rattle.groups.specs.Group.{Group}
use Rattle.groups.specs.Bytes.{padded, name_field, all_names, all_name_fields, all_pending}
use Rattle.group_body.specs.Answer.{read_into, names_at, are_names_at}
use Rattle.group_body.proofs.Inward.{BodyAt, BodyHeld, body_held, region_filled}
use Rattle.group_body.proofs.reading.fill_region.Goals as goal
use Rattle.group_body.proofs.reading.fill_region.Goals.{After-copy_in, After-copy_padded, After-read_names-end, After-slice_known-1, After-wide, After-wide-2}

abbrev held : (c : After-slice_known-1) → BodyHeld c.args.s.now
held c = body_held c.args.s.now (record { byte = λ j. (c.type_inv.s j).fits }) c.requires.1

-- the parts, once the length of the name is read
parts : (c : After-wide) → BodyAt c.args.s.now ((body_held c.args.s.now (record { byte = λ j. (c.shared_slice_known-1.given j).fits }) c.requires.1)).group (1 + c.wide.result)
parts c = let the_held : BodyHeld c.args.s.now = body_held c.args.s.now (record { byte = λ j. (c.shared_slice_known-1.given j).fits }) c.requires.1 in subst (λ (k : ℕ). BodyAt c.args.s.now (the_held).group (1 + k)) (sym c.wide.ensures.0) (the_held).parts

front : (c : After-wide) → take (1 + c.wide.result - 0) (drop 0 c.args.s.now) ≡ area 0 (1 + c.wide.result) c.args.s.now
front c =
    let n : ℕ = 1 + c.wide.result in
    let z : n - 0 ≡ n = omega arith in
    ap (λ (j : ℕ). take j (drop 0 c.args.s.now)) z ∙ part_area 0 n c.args.s.now

-- the region keeps its length
first : (c : After-copy_padded) → length c.copy_padded.new.d ≡ 7220
first c = c.copy_padded.auto.d ∙ c.requires.0

second : (c : After-copy_in) → length c.copy_in.new.d ≡ 7220
second c = let the_first : length c.copy_padded.new.d ≡ 7220 = c.copy_padded.auto.d ∙ c.requires.0 in c.copy_in.auto.d ∙ the_first

third : (c : After-read_names-end) → length c.read_names-end.new.region ≡ 7220
third c = let the_second : length c.copy_in.new.d ≡ 7220 = let the_first : length c.copy_padded.new.d ≡ 7220 = c.copy_padded.auto.d ∙ c.requires.0 in c.copy_in.auto.d ∙ the_first in c.read_names-end.auto.region ∙ the_second

-- the names, and the place after them
few_of : (c : After-wide-2) → c.wide-2.result ≡ length ((body_held c.args.s.now (record { byte = λ j. (c.shared_slice_known-1.given j).fits }) c.requires.1)).group.consumers
few_of c = let the_parts : BodyAt c.args.s.now ((body_held c.args.s.now (record { byte = λ j. (c.shared_slice_known-1.given j).fits }) c.requires.1)).group (1 + c.wide.result) = let the_held : BodyHeld c.args.s.now = body_held c.args.s.now (record { byte = λ j. (c.shared_slice_known-1.given j).fits }) c.requires.1 in subst (λ (k : ℕ). BodyAt c.args.s.now (the_held).group (1 + k)) (sym c.wide.ensures.0) (the_held).parts in let the_held : BodyHeld c.args.s.now = body_held c.args.s.now (record { byte = λ j. (c.shared_slice_known-1.given j).fits }) c.requires.1 in c.wide-2.ensures.0 ∙ (the_parts).count

names_of : (c : After-wide-2) → names_at c.wide-2.result (drop (1 + c.wide.result + 17) c.args.s.now) ≡ ((body_held c.args.s.now (record { byte = λ j. (c.shared_slice_known-1.given j).fits }) c.requires.1)).group.consumers
names_of c =
    let the_parts : BodyAt c.args.s.now ((body_held c.args.s.now (record { byte = λ j. (c.shared_slice_known-1.given j).fits }) c.requires.1)).group (1 + c.wide.result) = let the_held : BodyHeld c.args.s.now = body_held c.args.s.now (record { byte = λ j. (c.shared_slice_known-1.given j).fits }) c.requires.1 in subst (λ (k : ℕ). BodyAt c.args.s.now (the_held).group (1 + k)) (sym c.wide.ensures.0) (the_held).parts in let the_held : BodyHeld c.args.s.now = body_held c.args.s.now (record { byte = λ j. (c.shared_slice_known-1.given j).fits }) c.requires.1 in let n : ℕ = 1 + c.wide.result in
    ap (λ (k : ℕ). names_at k (drop (n + 17) c.args.s.now)) (few_of c) ∙ (the_parts).names

end_of : (c : After-read_names-end) → c.read_names-end.result ≡ 1 + c.wide.result + 17 + length (all_names ((body_held c.args.s.now (record { byte = λ j. (c.shared_slice_known-1.given j).fits }) c.requires.1)).group.consumers)
end_of c =
    let the_names_of : names_at c.wide-2.result (drop (1 + c.wide.result + 17) c.args.s.now) ≡ ((body_held c.args.s.now (record { byte = λ j. (c.shared_slice_known-1.given j).fits }) c.requires.1)).group.consumers = let the_few_of : c.wide-2.result ≡ length ((body_held c.args.s.now (record { byte = λ j. (c.shared_slice_known-1.given j).fits }) c.requires.1)).group.consumers = let the_parts : BodyAt c.args.s.now ((body_held c.args.s.now (record { byte = λ j. (c.shared_slice_known-1.given j).fits }) c.requires.1)).group (1 + c.wide.result) = let the_held : BodyHeld c.args.s.now = body_held c.args.s.now (record { byte = λ j. (c.shared_slice_known-1.given j).fits }) c.requires.1 in subst (λ (k : ℕ). BodyAt c.args.s.now (the_held).group (1 + k)) (sym c.wide.ensures.0) (the_held).parts in let the_held : BodyHeld c.args.s.now = body_held c.args.s.now (record { byte = λ j. (c.shared_slice_known-1.given j).fits }) c.requires.1 in c.wide-2.ensures.0 ∙ (the_parts).count in let the_parts : BodyAt c.args.s.now ((body_held c.args.s.now (record { byte = λ j. (c.shared_slice_known-1.given j).fits }) c.requires.1)).group (1 + c.wide.result) = let the_held : BodyHeld c.args.s.now = body_held c.args.s.now (record { byte = λ j. (c.shared_slice_known-1.given j).fits }) c.requires.1 in subst (λ (k : ℕ). BodyAt c.args.s.now (the_held).group (1 + k)) (sym c.wide.ensures.0) (the_held).parts in let the_held : BodyHeld c.args.s.now = body_held c.args.s.now (record { byte = λ j. (c.shared_slice_known-1.given j).fits }) c.requires.1 in let n : ℕ = 1 + c.wide.result in
    ap (λ (k : ℕ). names_at k (drop (n + 17) c.args.s.now)) (the_few_of) ∙ (the_parts).names in let the_held : BodyHeld c.args.s.now = body_held c.args.s.now (record { byte = λ j. (c.shared_slice_known-1.given j).fits }) c.requires.1 in let n : ℕ = 1 + c.wide.result in
    c.read_names-end.ensures.0 ∙ ap (λ (l : List (List ℕ)). n + 17 + length (all_names l)) (the_names_of)

-- what is after them
rest_of : (c : After-read_names-end) → let s = c.args.s.now in let e = c.read_names-end.result in
    take (length s - e) (drop e s) ≡ le 2 (length ((body_held c.args.s.now (record { byte = λ j. (c.shared_slice_known-1.given j).fits }) c.requires.1)).group.pending) ++ all_pending ((body_held c.args.s.now (record { byte = λ j. (c.shared_slice_known-1.given j).fits }) c.requires.1)).group.consumers ((body_held c.args.s.now (record { byte = λ j. (c.shared_slice_known-1.given j).fits }) c.requires.1)).group.pending
rest_of c =
    let the_parts : BodyAt c.args.s.now ((body_held c.args.s.now (record { byte = λ j. (c.shared_slice_known-1.given j).fits }) c.requires.1)).group (1 + c.wide.result) = let the_held : BodyHeld c.args.s.now = body_held c.args.s.now (record { byte = λ j. (c.shared_slice_known-1.given j).fits }) c.requires.1 in subst (λ (k : ℕ). BodyAt c.args.s.now (the_held).group (1 + k)) (sym c.wide.ensures.0) (the_held).parts in let the_held : BodyHeld c.args.s.now = body_held c.args.s.now (record { byte = λ j. (c.shared_slice_known-1.given j).fits }) c.requires.1 in let s = c.args.s.now in
    let e = c.read_names-end.result in
    take_all (length s - e) (drop e s) (omega (arith, length-drop e s)) ∙ ap (λ (k : ℕ). drop k s) (end_of c) ∙ (the_parts).rows

rest_size : (c : After-read_names-end) → let s = c.args.s.now in let e = c.read_names-end.result in length (take (length s - e) (drop e s)) ≤ 6914
rest_size c =
    let the_parts : BodyAt c.args.s.now ((body_held c.args.s.now (record { byte = λ j. (c.shared_slice_known-1.given j).fits }) c.requires.1)).group (1 + c.wide.result) = let the_held : BodyHeld c.args.s.now = body_held c.args.s.now (record { byte = λ j. (c.shared_slice_known-1.given j).fits }) c.requires.1 in subst (λ (k : ℕ). BodyAt c.args.s.now (the_held).group (1 + k)) (sym c.wide.ensures.0) (the_held).parts in let s = c.args.s.now in
    let e = c.read_names-end.result in
    let p = the_parts in
    let q : length (take (length s - e) (drop e s)) ≡ length s - e = ap length (take_all (length s - e) (drop e s) (omega (arith, length-drop e s))) ∙ length-drop e s in
    omega (arith, q, p.size, p.room, end_of c)

pub bounds-s-0 : goal.bounds-s-0
bounds-s-0 c = omega (arith, (held (goal.at.bounds-s-0 c).After-slice_known-1).parts.size)

pub slice_bounds-copy_padded-end : goal.slice_bounds-copy_padded-end
slice_bounds-copy_padded-end c = let p = parts (goal.at.slice_bounds-copy_padded-end c).After-wide in omega (arith, p.size)

pub copy_padded-requires : goal.copy_padded-requires
copy_padded-requires c =
    let p = parts (goal.at.copy_padded-requires c).After-wide in
    let n : ℕ = 1 + c.wide.result in
    let s = c.args.s.now in
    let q : length (take (n - 0) (drop 0 s)) ≡ n = ap length (front (goal.at.copy_padded-requires c).After-wide) ∙ length_area 0 n s (omega (arith, p.size)) in
    (omega (arith, q, p.few_bytes), omega (arith, c.requires.0))

pub slice_bounds-copy_in-end : goal.slice_bounds-copy_in-end
slice_bounds-copy_in-end c = let p = parts (goal.at.slice_bounds-copy_in-end c).After-wide in omega (arith, p.size)

pub copy_in-requires : goal.copy_in-requires
copy_in-requires c =
    let p = parts (goal.at.copy_in-requires c).After-wide in
    let n : ℕ = 1 + c.wide.result in
    let s = c.args.s.now in
    let q : length (take (n + 17 - n) (drop n s)) ≡ 17 = ap length (part_is n 17 s) ∙ length_area n 17 s (omega (arith, p.size)) in
    omega (arith, q, first (goal.at.copy_in-requires c).After-copy_padded)

pub bounds-s-n : goal.bounds-s-n
bounds-s-n c = let p = parts (goal.at.bounds-s-n c).After-wide in omega (arith, p.size)

pub read_names-end-requires : goal.read_names-end-requires
read_names-end-requires c =
    let p = parts (goal.at.read_names-end-requires c).After-wide in
    let n : ℕ = 1 + c.wide.result in
    let s = c.args.s.now in (
      second (goal.at.read_names-end-requires c).After-copy_in,
      omega (arith, few_of (goal.at.read_names-end-requires c).After-wide-2, p.few),
      omega (arith, p.size),
      ap (λ (k : ℕ). are_names_at k (drop (n + 17) s)) (few_of (goal.at.read_names-end-requires c).After-wide-2) ∙ p.are,
    )

pub slice_bounds-copy_padded-count-2 : goal.slice_bounds-copy_padded-count-2
slice_bounds-copy_padded-count-2 c = let p = parts (goal.at.slice_bounds-copy_padded-count-2 c).After-wide in omega (arith, p.size, end_of (goal.at.slice_bounds-copy_padded-count-2 c).After-read_names-end)

pub slice_bounds-copy_padded-start-2 : goal.slice_bounds-copy_padded-start-2
slice_bounds-copy_padded-start-2 c = let p = parts (goal.at.slice_bounds-copy_padded-start-2 c).After-wide in omega (arith, p.size, end_of (goal.at.slice_bounds-copy_padded-start-2 c).After-read_names-end)

pub copy_padded-requires-2 : goal.copy_padded-requires-2
copy_padded-requires-2 c = (rest_size (goal.at.copy_padded-requires-2 c).After-read_names-end, omega (arith, third (goal.at.copy_padded-requires-2 c).After-read_names-end))

pub shape_of-region : goal.shape_of-region
shape_of-region c = c.copy_padded-2.auto.d ∙ third (goal.at.shape_of-region c).After-read_names-end ∙ sym c.requires.0

pub returns : goal.returns
returns c =
    let s = c.args.s.now in
    let d = c.args.region.now in
    let n : ℕ = 1 + c.wide.result in
    let h = held (goal.at.returns c).After-slice_known-1 in
    let g = h.group in
    let p = parts (goal.at.returns c).After-wide in
    let d1 : c.copy_padded.new.d ≡ put d 0 (name_field g.name) =
    c.copy_padded.ensures ∙ ap (λ (l : List ℕ). put d 0 (padded 17 l)) (front (goal.at.returns c).After-wide ∙ p.name) in
    let d2 : c.copy_in.new.d ≡ put (put d 0 (name_field g.name)) 17 (id_bytes g.delivered ++ (length g.consumers ∷ [])) =
    c.copy_in.ensures ∙ ap₂ (λ (l m : List ℕ). put l 17 m) d1 (part_is n 17 s ∙ p.middle) in
    let d3 : c.read_names-end.new.region ≡ put (put (put d 0 (name_field g.name)) 17 (id_bytes g.delivered ++ (length g.consumers ∷ []))) 34 (padded 272 (all_name_fields g.consumers)) =
    c.read_names-end.ensures.1 ∙ ap₂ (λ (l : List ℕ) (m : List (List ℕ)). put l 34 (padded 272 (all_name_fields m))) d2 (names_of (goal.at.returns c).After-wide-2) in
    c.copy_padded-2.ensures
    ∙ ap₂ (λ (l m : List ℕ). put l 306 (padded 6914 m)) d3 (rest_of (goal.at.returns c).After-read_names-end)
    ∙ region_filled g h.rules_kept d c.requires.0
    ∙ sym (ap (λ (o : Option Group). read_into o d) h.parsed)
