-- IDs delivered into a sound region one after the other: a row for each, then the number of entries and the last ID. Assumes nothing.
use mathlib.Core.Path.{◌≡◌, refl, sym, ap, ap₂, ◌∙◌}
use mathlib.Core.Bool.{true, false}
use mathlib.Core.List.{List, [], ◌∷◌}
use Prim.Native.Nat.{ℕ, zero, suc, ◌+◌, ◌-◌, ◌*◌, ◌^◌, ◌≤◌, ◌<◌}
use native.Mathlib.Omega.{arith}
use lib.ListN.{length, take, drop}
use lib.Seq.{drop-drop}
use Rattle.octets.specs.Bytes.{le}
use Rattle.octets.specs.Place.{area, put}
use Rattle.octets.proofs.Laws.{both_of, area_drop}
use Rattle.id.specs.declared.Id.{Id}
use Rattle.id.specs.Id.{is_id, below}
use Rattle.id.specs.Bytes.{id_bytes, id_from}
use Rattle.groups.specs.Group.{Pending, Group, is_name, is_group, is_among}
use Rattle.groups.specs.Bytes.{place_of_name, pending_bytes, region_bytes}
use Rattle.groups.specs.Parse.{group_in}
use Rattle.groups.specs.Step.{with_name, deliver, deliver_all, lacks_consumer}
use Rattle.groups.specs.Answer.{SoundRegion, with_consumer, ids_above}
use Rattle.groups.proofs.Laws.{Rules, rules, rules_with, is_group_lem, named, put_last, with_known, among_new, above_first, deliver_turn, deliver_all_kept, deliver_all_length}
use Rattle.groups_change.specs.Change.{ids_in, row_of}
use Rattle.groups_change.proofs.Changes.{lacks_known}
use Rattle.groups_change.proofs.Shapes.{shape, region_shape, shape_append, shape_number, shape_delivered}

-- the IDs from the j-th on
abbrev pub ids_from : ℕ → List ℕ → ℕ → List Id
ids_from k ids j = ids_in (k - j) (drop (16 * j) ids)

abbrev pub id_at : List ℕ → ℕ → Id
id_at ids j = id_from (area (16 * j) 16 ids)

ids_next : (k : ℕ) (ids : List ℕ) (j : ℕ) → j < k → ids_from k ids j ≡ id_at ids j ∷ ids_from k ids (j + 1)
unfolding ids_in area
ids_next k ids j h =
    let e : k - j ≡ suc (k - (j + 1)) = omega arith in
    let f : 16 * j + 16 ≡ 16 * (j + 1) = omega arith in
    rw (e, drop-drop 16 (16 * j) ids, f)

pub ids_count : (k : ℕ) (ids : List ℕ) → length (ids_in k ids) ≡ k
unfolding ids_in
ids_count zero ids = refl
ids_count (suc k) ids = ap suc (ids_count k (drop 16 ids))

pub ids_none : (c : List ℕ) (now k : ℕ) (ids : List ℕ) (g : Group) → k ≡ 0 → g ≡ deliver_all c now (ids_in k ids) g
unfolding ids_in deliver_all
ids_none c now k ids g e = rw e

-- the last of them is then last delivered
pub ids_last : (c : List ℕ) (now k : ℕ) (ids : List ℕ) (g : Group) → 1 ≤ k → id_at ids (k - 1) ≡ (deliver_all c now (ids_in k ids) g).delivered
unfolding ids_in deliver_all deliver area
ids_last c now zero ids g h = absurd (omega arith)
ids_last c now (suc zero) ids g h = refl
ids_last c now (suc (suc k)) ids g h =
    let e : 16 * (suc (suc k) - 1) ≡ 16 + 16 * (suc k - 1) = omega arith in
    ap id_from (ap (λ (m : ℕ). area m 16 ids) e ∙ sym (area_drop 16 (16 * (suc k - 1)) 16 ids)) ∙ ids_last c now (suc k) (drop 16 ids) (deliver c now (id_from (take 16 ids)) g) (omega arith)

-- the row of the n-th entry; one for each ID, from the n-th on; the number of entries and the last delivered ID
abbrev pub row_put : ℕ → ℕ → List ℕ → ℕ → Id → List ℕ
row_put place now s n i = put s (308 + n * 27) (row_of i place now 1)

unfoldable pub rows_put : ℕ → ℕ → List ℕ → ℕ → List Id → List ℕ
rows_put place now s n [] = s
rows_put place now s n (i ∷ is) = rows_put place now (row_put place now s n i) (n + 1) is

abbrev pub noted : List ℕ → ℕ → Id → List ℕ
noted s n i = put (put s 306 (le 2 n)) 17 (id_bytes i)

-- the rows at the loop's start, at a turn, at its end
module _ (place now : ℕ) (s : List ℕ) (n k : ℕ) (ids : List ℕ) where
  pub rows_start : rows_put place now s (n + 0) (ids_from k ids 0) ≡ rows_put place now s n (ids_in k ids)
  rows_start = let e : n + 0 ≡ n = omega arith in let f : k - 0 ≡ k = omega arith in rw (e, f)

  pub rows_next : (j : ℕ) → j < k → rows_put place now (row_put place now s (n + j) (id_at ids j)) (n + (j + 1)) (ids_from k ids (j + 1)) ≡ rows_put place now s (n + j) (ids_from k ids j)
  unfolding rows_put
  rows_next j h =
      let e : n + (j + 1) ≡ n + j + 1 = omega arith in
      ap (λ (m : ℕ). rows_put place now (row_put place now s (n + j) (id_at ids j)) m (ids_from k ids (j + 1))) e ∙ ap (rows_put place now s (n + j)) (sym (ids_next k ids j h))

  pub rows_end : (j : ℕ) → k ≤ j → s ≡ rows_put place now s (n + j) (ids_from k ids j)
  unfolding rows_put ids_in
  rows_end j h = let e : k - j ≡ 0 = omega arith in rw e

-- a group's region but for the last delivered ID and the number of entries
abbrev rows : Id → ℕ → Group → List ℕ
rows d m g = shape g.name d (length g.consumers) g.consumers m g.consumers g.pending

rows_noted : (d : Id) (m n : ℕ) (i : Id) (g : Group) → is_group g ≡ true → n ≡ length g.pending → i ≡ g.delivered
    → noted (rows d m g) n i ≡ region_bytes g
rows_noted d m n i g kept e f =
    let r = rules g kept in
    let short = (named g.name r.named).few_bytes in
    let cs = g.consumers in
    ap (λ (s : List ℕ). put s 17 (id_bytes i)) (shape_number g.name d (length cs) short cs r.names r.few m n cs g.pending)
    ∙ shape_delivered g.name d (length cs) short i cs n cs g.pending
    ∙ ap₂ (λ (j : Id) (k : ℕ). rows j k g) f e
    ∙ sym (region_shape g)

module _ (c : List ℕ) (now place : ℕ) (name : is_name c ≡ true) (fits : now < 2 ^ 64) where
  -- one more row, for a known consumer
  row_next : (d : Id) (m : ℕ) (i : Id) (is : List Id) (g : Group) → is_group g ≡ true → is_among c g.consumers ≡ true → place ≡ place_of_name c g.consumers
      → ids_above g.delivered (i ∷ is) ≡ true → length g.pending < 256
      → row_put place now (rows d m g) (length g.pending) i ≡ rows d m (deliver c now i g)
  unfolding deliver pending_bytes
  row_next d m i is g kept known at above room =
      let r = rules g kept in
      let cs = g.consumers in
      let q : Pending = record { id = i; consumer = c; time = now; count = 1 } in
      ap (λ (k : ℕ). row_put k now (rows d m g) (length g.pending) i) at
      ∙ shape_append g.name d (length cs) (named g.name r.named).few_bytes cs r.names r.few m cs g.pending q room
      ∙ ap₂ (λ (l : List (List ℕ)) (qs : List Pending). shape g.name d (length l) l m l qs) (sym (with_known c [] cs r.rising known)) (sym (put_last q g.delivered (above_first g.delivered i is above).1 g.pending r.up_to_lem))

  rows_all : (d : Id) (m : ℕ) (is : List Id) (g : Group) → is_group g ≡ true → is_among c g.consumers ≡ true → place ≡ place_of_name c g.consumers
      → ids_above g.delivered is ≡ true → length g.pending + length is ≤ 256
      → rows_put place now (rows d m g) (length g.pending) is ≡ rows d m (deliver_all c now is g)
  unfolding rows_put deliver_all
  rows_all d m [] g kept known at above room = refl
  rows_all d m (i ∷ is) g kept known at above room =
      let t = deliver_turn c now i is g kept name fits (lacks_known c g known) above (omega arith) in
      let same : g.consumers ≡ (deliver c now i g).consumers = unfold deliver in sym (with_known c [] g.consumers (rules g kept).rising known) in
      ap₂ (λ (s : List ℕ) (n : ℕ). rows_put place now s n is) (row_next d m i is g kept known at above (omega arith)) (sym t.count)
      ∙ rows_all d m is (deliver c now i g) t.kept (ap (is_among c) (sym same) ∙ known) (at ∙ ap (place_of_name c) same) t.above (omega (arith, t.count))

  -- a batch: the consumer is made, which the first delivery would do as well
  module _ (s : List ℕ) (sound : SoundRegion s) (room : lacks_consumer c (group_in s) ≡ false) where
    abbrev g : Group
    g = group_in s

    made : Rules (with_consumer c (group_in s))
    made = rules_with c g (rules g sound.rules_kept) name room

    same_first : (is : List Id) → 1 ≤ length is → deliver_all c now is (with_consumer c (group_in s)) ≡ deliver_all c now is (group_in s)
    unfolding deliver_all deliver with_consumer
    same_first [] low = absurd (omega arith)
    same_first (i ∷ is) low = rw (with_known c [] (with_name c g.consumers) made.rising (among_new c g.consumers))

    pub batch_region : (is : List Id) → 1 ≤ length is → ids_above (group_in s).delivered is ≡ true → (n k : ℕ) (last : Id) → n ≡ length (group_in s).pending → k ≡ n + length is → k ≤ 256
        → place ≡ place_of_name c (with_name c (group_in s).consumers) → last ≡ (deliver_all c now is (group_in s)).delivered
        → noted (rows_put place now (region_bytes (with_consumer c (group_in s))) n is) k last ≡ region_bytes (deliver_all c now is (group_in s))
    unfolding with_consumer
    batch_region is low above n k last en ek few at el =
        let h : Group = with_consumer c g in
        let m : ℕ = length g.pending in
        let kept = is_group_lem h made in
        let known = among_new c g.consumers in
        let lacks = lacks_known c h known in
        let same = same_first is low in
        ap₂ (λ (l : List ℕ) (j : ℕ). noted (rows_put place now l j is) k last) (region_shape h) en
        ∙ ap (λ (l : List ℕ). noted l k last) (rows_all g.delivered m is h kept known at above (omega arith))
        ∙ rows_noted g.delivered m k last (deliver_all c now is h) (deliver_all_kept c now is h kept name fits lacks above (omega arith))
        (omega (arith, deliver_all_length c now is h kept name fits lacks above (omega arith))) (el ∙ ap (λ (x : Group). x.delivered) (sym same))
        ∙ ap region_bytes same

    pub delivered_region : (i : Id) → is_id i ≡ true → below (group_in s).delivered i ≡ true → (n : ℕ) → n ≡ length (group_in s).pending → n < 256 → place ≡ place_of_name c (with_name c (group_in s).consumers)
        → noted (row_put place now (region_bytes (with_consumer c (group_in s))) n i) (n + 1) i ≡ region_bytes (deliver c now i (group_in s))
    unfolding rows_put deliver_all deliver ids_above
    delivered_region i fit b n en few at = batch_region (i ∷ []) (omega arith) (both_of (both_of fit b) refl) n (n + 1) i en refl (omega arith) at refl
