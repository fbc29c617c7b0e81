-- A sound region with a consumer put in or taken out, and with an entry claimed. Assumes nothing.
use mathlib.Core.Path.{◌≡◌, refl, sym, ap, ap₂, ◌∙◌}
use mathlib.Core.Bool.{Bool, true, false}
use mathlib.Core.List.{List, [], ◌∷◌, ◌++◌}
use Rattle.std.proofs.Common.{Some}
use Prim.Native.Nat.{ℕ, suc, ◌+◌, ◌-◌, ◌*◌, ◌≤◌, ◌<◌, min}
use native.Mathlib.Omega.{arith}
use lib.ListN.{length, get_or, take, drop, set, length-append, length-drop, take-append-drop}
use lib.Seq.{split_at, length-take-le, get_or_at}
use Rattle.octets.specs.Pick.{pick, both}
use Rattle.octets.specs.Place.{put, spliced}
use Rattle.octets.specs.Compare.{same}
use Rattle.octets.proofs.Laws.{both_true, same_true, never, both_of}
use Rattle.id.specs.declared.Id.{Id}
use Rattle.id.specs.Id.{least}
use Rattle.groups.specs.declared.Spot.TheVariants.{New}
use Rattle.groups.specs.Group.{Pending, Group, is_name, are_names, is_among, is_pending, are_pending}
use Rattle.groups.specs.Bytes.{place_of_name, pending_bytes, all_pending, name_field, region_bytes}
use Rattle.groups.specs.Parse.{group_in}
use Rattle.groups.specs.Step.{with_name, without_name, find_pending, put_pending, pending_of, claim, lacks_consumer}
use Rattle.groups.specs.Answer.{SoundRegion, spot_from, place_of_id, with_consumer}
use Rattle.groups.proofs.Laws.{Rules, rules_with, named, same_swap, empty_before, placed, place_get_d, among_get_d, above_with, with_known, without_cut, all_of, all_more, entries_all, entry, put_found, stands, new_spot}
use Rattle.groups_change.specs.Places.{moved_place, places_moved}
use Rattle.groups_change.specs.Change.{without_consumer, row_of}
use Rattle.groups_change.proofs.Moves.{place_up, place_down, entries_moved}
use Rattle.groups_change.proofs.Shapes.{shape, region_shape, sound_rules, sound_short, sound_shape, shape_count, shape_insert, shape_cut, shape_replace, shape_moved}

-- a name that is among the others differs from one that is not
differs_case : (m c : List ℕ) (cs : List (List ℕ)) (t : Bool) → same m c ≡ t → is_among m cs ≡ true → is_among c cs ≡ false → t ≡ false
differs_case m c cs false e a b = refl
differs_case m c cs true e a b = absurd (never (ap (λ (n : List ℕ). is_among n cs) (sym (same_true m c e)) ∙ a) b)

differs : (m c : List ℕ) (cs : List (List ℕ)) → is_among m cs ≡ true → is_among c cs ≡ false → same m c ≡ false
differs m c cs a b = differs_case m c cs (same m c) refl a b

-- names without one of them, and that one
cut_names : (xs : List (List ℕ)) (c : List ℕ) (ys : List (List ℕ)) → are_names (xs ++ (c ∷ ys)) ≡ true → (are_names (xs ++ ys) ≡ true) × (length c ≤ 16)
unfolding are_names
cut_names [] c ys e = let q = both_true (is_name c) (are_names ys) e in (q.1, (named c q.0).few_bytes)
cut_names (x ∷ xs) c ys e =
    let q = both_true (is_name x) (are_names (xs ++ (c ∷ ys))) e in
    let t = cut_names xs c ys q.1 in
    (both_of q.0 t.0, t.1)

module _ (s : List ℕ) (h : SoundRegion s) where
  abbrev g : Group
  g = group_in s

  abbrev cs : List (List ℕ)
  cs = (group_in s).consumers

  abbrev ps : List Pending
  ps = (group_in s).pending

  r : Rules (group_in s)
  r = sound_rules s h

  short : length (group_in s).name ≤ 16
  short = sound_short s h

  low_place : (m : List ℕ) → is_among m cs ≡ true → place_of_name m cs < 16
  low_place m a = omega (arith, (placed m cs a).within, r.few)

  -- a new consumer at place k
  pub consumer_put : (c : List ℕ) (k n m : ℕ) → spot_from 0 c cs ≡ New k → length c ≤ 16 → length cs < 16 → n ≡ length cs → m ≡ length ps
      → set (spliced (take 308 s ++ places_moved k 1 0 m (drop 308 s)) (34 + n * 17) (34 + k * 17) 0 (name_field c)) 33 (n + 1) ≡ region_bytes (with_consumer c g)
  unfolding with_consumer
  consumer_put c k n m spot few room en em =
      let x = new_spot [] 0 c cs k r.rising spot in
      let z : k - 0 ≡ k = omega arith in
      let ds : List (List ℕ) = take k cs ++ (c ∷ drop k cs) in
      let made : with_name c cs ≡ ds = x.put_in ∙ ap (λ (j : ℕ). take j cs ++ (c ∷ drop j cs)) z in
      let within : k ≤ length cs = omega (arith, x.within) in
      let lx : length (take k cs) ≡ k = length-take-le k cs within in
      let ly : length (drop k cs) ≡ length cs - k = length-drop k cs in
      let up : (p : Pending) → is_pending cs p ≡ true → place_of_name p.consumer ds ≡ moved_place k 1 0 (place_of_name p.consumer cs) = λ p e.
      let a = (entry cs p e).among in
      place_up p.consumer c cs k (differs p.consumer c cs a x.unknown) within a (low_place p.consumer a) in
      let moved : (t : List ℕ) → places_moved k 1 0 m (all_pending cs ps ++ t) ≡ all_pending ds ps ++ t = λ t.
      ap (λ (j : ℕ). places_moved k 1 0 j (all_pending cs ps ++ t)) em ∙ entries_moved k 1 0 cs ds (is_pending cs) up ps t (sym (entries_all cs ps) ∙ r.entries) in
      let names : are_names (take k cs ++ drop k cs) ≡ true = ap are_names (take-append-drop k cs) ∙ r.names in
      let at : 34 + k * 17 ≡ 34 + length (take k cs) * 17 = omega arith in
      let ld : n + 1 ≡ length ds = omega (arith, length-append (take k cs) (c ∷ drop k cs)) in
      let e1 : take 308 s ++ places_moved k 1 0 m (drop 308 s) ≡ shape g.name g.delivered (length cs) (take k cs ++ drop k cs) (length ps) ds ps =
      ap (λ (l : List ℕ). take 308 l ++ places_moved k 1 0 m (drop 308 l)) (sound_shape s h)
      ∙ shape_moved g.name g.delivered (length cs) short cs r.names r.few (length ps) k 1 0 m cs ds ps moved
      ∙ ap (λ (l : List (List ℕ)). shape g.name g.delivered (length cs) l (length ps) ds ps) (sym (take-append-drop k cs)) in
      ap₂ (λ (l : List ℕ) (j : ℕ). set (spliced l (34 + n * 17) j 0 (name_field c)) 33 (n + 1)) e1 at
      ∙ ap (λ (l : List ℕ). set l 33 (n + 1)) (shape_insert g.name g.delivered (length cs) short (take k cs) (drop k cs) names c few (omega arith) (length ps) ds ps (34 + n * 17) (omega arith))
      ∙ shape_count g.name g.delivered (length cs) short (n + 1) ds (length ps) ds ps
      ∙ ap (λ (j : ℕ). shape g.name g.delivered j ds (length ps) ds ps) ld
      ∙ ap (λ (l : List (List ℕ)). shape g.name g.delivered (length l) l (length ps) l ps) (sym made)
      ∙ sym (region_shape (with_consumer c g))

  -- the consumer at place k, which has no entries, taken out
  good : ℕ → Pending → Bool
  good k p = both (is_pending cs p) (pick (same (get_or cs k []) p.consumer) false true)

  good_case : (k : ℕ) (p : Pending) (qs xs : List Pending) (t : Bool) → same (get_or cs k []) p.consumer ≡ t → is_pending cs p ≡ true
      → pick t (p ∷ xs) xs ≡ [] → (xs ≡ [] → all_of (good k) qs ≡ true) → all_of (good k) (p ∷ qs) ≡ true
  unfolding good
  good_case k p qs xs true d e z f = absurd (let y : ◌≡◌ {A = ℕ} 0 1 = cc in omega arith)
  good_case k p qs xs false d e z f = all_more (good k) p qs (both_of e (rw d)) (f z)

  all_good : (k : ℕ) (qs : List Pending) → are_pending cs qs ≡ true → pending_of (get_or cs k []) qs ≡ [] → all_of (good k) qs ≡ true
  unfolding pending_of are_pending
  all_good k [] e z = unfold all_of in refl
  all_good k (p ∷ qs) e z =
      let q = both_true (is_pending cs p) (are_pending cs qs) e in
      good_case k p qs (pending_of (get_or cs k []) qs) (same (get_or cs k []) p.consumer) refl q.0 z (all_good k qs q.1)

  not_this : (k : ℕ) (p : Pending) → good k p ≡ true → (is_pending cs p ≡ true) × (same p.consumer (get_or cs k []) ≡ false)
  unfolding good
  not_this k p e =
      let c : List ℕ = get_or cs k [] in
      let q = both_true (is_pending cs p) (pick (same c p.consumer) false true) e in
      (q.0, same_swap c p.consumer false (off (same c p.consumer) q.1))
    where
      off : (t : Bool) → pick t false true ≡ true → t ≡ false
      off false f = refl
      off true f = absurd (never refl (sym f))

  pub consumer_cut : (k n m : ℕ) → k < length cs → pending_of (get_or cs k []) ps ≡ [] → n ≡ length cs → m ≡ length ps
      → set (spliced (take 308 s ++ places_moved (k + 1) 0 1 m (drop 308 s)) (34 + n * 17) (34 + k * 17) 17 []) 33 (n - 1) ≡ region_bytes (without_consumer (get_or cs k []) g)
  unfolding without_consumer
  consumer_cut k n m low idle_one en em =
      let c : List ℕ = get_or cs k [] in
      let xs : List (List ℕ) = take k cs in
      let ys : List (List ℕ) = drop (suc k) cs in
      let ds : List (List ℕ) = xs ++ ys in
      let few = r.few in
      let made : without_name c cs ≡ ds =
      without_cut c cs (among_get_d cs k low) ∙ ap (λ (j : ℕ). take j cs ++ drop (suc j) cs) (place_get_d [] cs k r.rising low) in
      let lx : length xs ≡ k = length-take-le k cs (omega arith) in
      let ly : length ys ≡ length cs - suc k = length-drop (suc k) cs in
      let down : (p : Pending) → good k p ≡ true → place_of_name p.consumer ds ≡ moved_place (k + 1) 0 1 (place_of_name p.consumer cs) = λ p e.
      let q = not_this k p e in
      let a = (entry cs p q.0).among in
      place_down p.consumer cs k low q.1 a (low_place p.consumer a) in
      let moved : (t : List ℕ) → places_moved (k + 1) 0 1 m (all_pending cs ps ++ t) ≡ all_pending ds ps ++ t = λ t.
      ap (λ (j : ℕ). places_moved (k + 1) 0 1 j (all_pending cs ps ++ t)) em ∙ entries_moved (k + 1) 0 1 cs ds (good k) down ps t (all_good k ps r.entries idle_one) in
      let whole : cs ≡ xs ++ (c ∷ ys) = split_at cs k [] low in
      let all_names_lem : are_names (xs ++ (c ∷ ys)) ≡ true = ap are_names (sym whole) ∙ r.names in
      let names = cut_names xs c ys all_names_lem in
      let at : 34 + k * 17 ≡ 34 + length xs * 17 = omega arith in
      let ld : n - 1 ≡ length ds = omega (arith, length-append xs ys) in
      let e1 : take 308 s ++ places_moved (k + 1) 0 1 m (drop 308 s) ≡ shape g.name g.delivered (length cs) (xs ++ (c ∷ ys)) (length ps) ds ps =
      ap (λ (l : List ℕ). take 308 l ++ places_moved (k + 1) 0 1 m (drop 308 l)) (sound_shape s h)
      ∙ shape_moved g.name g.delivered (length cs) short cs r.names r.few (length ps) (k + 1) 0 1 m cs ds ps moved
      ∙ ap (λ (l : List (List ℕ)). shape g.name g.delivered (length cs) l (length ps) ds ps) whole in
      ap₂ (λ (l : List ℕ) (j : ℕ). set (spliced l (34 + n * 17) j 17 []) 33 (n - 1)) e1 at
      ∙ ap (λ (l : List ℕ). set l 33 (n - 1))
      (shape_cut g.name g.delivered (length cs) short xs ys names.0 c names.1 (omega arith) (length ps) ds ps (34 + n * 17) (omega arith))
      ∙ shape_count g.name g.delivered (length cs) short (n - 1) ds (length ps) ds ps
      ∙ ap (λ (j : ℕ). shape g.name g.delivered j ds (length ps) ds ps) ld
      ∙ ap (λ (l : List (List ℕ)). shape g.name g.delivered (length l) l (length ps) l ps) (sym made)
      ∙ sym (region_shape (without_consumer c g))

  -- the place of a consumer that is made if new
  pub made_place : (c : List ℕ) (k : ℕ) → 1 ≤ length c → spot_from 0 c cs ≡ New k → k ≡ place_of_name c (with_name c cs)
  made_place c k some_bytes spot =
      let x = new_spot [] 0 c cs k r.rising spot in
      let z : k - 0 ≡ k = omega arith in
      let made : with_name c cs ≡ take k cs ++ (c ∷ drop k cs) = x.put_in ∙ ap (λ (j : ℕ). take j cs ++ (c ∷ drop j cs)) z in
      let lx : length (take k cs) ≡ k = length-take-le k cs (omega (arith, x.within)) in
      let stands_at : get_or (with_name c cs) k [] ≡ c = ap (λ (l : List (List ℕ)). get_or l k []) made ∙ get_or_at (take k cs) c (drop k cs) [] k lx in
      let within : k < length (with_name c cs) = omega (arith, ap length made, length-append (take k cs) (c ∷ drop k cs)) in
      sym (place_get_d [] (with_name c cs) k (above_with c [] (empty_before c some_bytes) cs r.rising) within) ∙ ap (λ (n : List ℕ). place_of_name n (with_name c cs)) stands_at

  pub known_made : (c : List ℕ) → is_among c cs ≡ true → g ≡ with_consumer c g
  unfolding with_consumer
  known_made c a =
      ap (λ (l : List (List ℕ)). g_with l) (sym (with_known c [] cs r.rising a))
    where
      g_with : List (List ℕ) → Group
      g_with l = record { name = g.name; delivered = g.delivered; consumers = l; pending = g.pending }

  -- an entry for a consumer that is made if new
  module _ (c : List ℕ) (name : is_name c ≡ true) (fits : lacks_consumer c g ≡ false) where
    abbrev ds : List (List ℕ)
    ds = with_name c cs

    q_rules : Rules (with_consumer c g)
    q_rules = rules_with c g r name fits

    pub claimed_entry : (at place time count : ℕ) (i : Id) (p : Pending) → find_pending i ps ≡ Some p → at ≡ place_of_id i ps → place ≡ place_of_name c ds → count ≡ min (p.count + 1) 65535
        → put (region_bytes (with_consumer c g)) (308 + at * 27) (row_of i place time count) ≡ region_bytes (claim c time p g)
    unfolding claim pending_bytes with_consumer
    claimed_entry at place time count i p f ea ep ec =
        let t = stands i ps p f in
        let k : ℕ = place_of_id i ps in
        let xs : List Pending = take k ps in
        let ys : List Pending = drop (suc k) ps in
        let lx : length xs ≡ k = length-take-le k ps (omega (arith, t.within)) in
        let q : Pending = record { id = p.id; consumer = c; time = time; count = min (p.count + 1) 65535 } in
        let put_in : put_pending q ps ≡ xs ++ (q ∷ ys) = put_found i q t.same_id_lem least ps p r.above f in
        let same_count : length ps ≡ length (xs ++ (q ∷ ys)) = ap length t.split ∙ omega (arith, length-append xs (p ∷ ys), length-append xs (q ∷ ys)) in
        let where_at : 308 + at * 27 ≡ 308 + length xs * 27 = omega arith in
        let row : row_of i place time count ≡ pending_bytes ds q = λ x. row_of (sym t.same_id_lem x) (ep x) time (ec x) in
        ap₂ (λ (l : List ℕ) (j : ℕ). put l j (row_of i place time count))
        (region_shape (with_consumer c g) ∙ ap (λ (l : List Pending). shape g.name g.delivered (length ds) ds (length ps) ds l) t.split) where_at
        ∙ ap (put (shape g.name g.delivered (length ds) ds (length ps) ds (xs ++ (p ∷ ys))) (308 + length xs * 27)) row
        ∙ shape_replace g.name g.delivered (length ds) short ds q_rules.names q_rules.few (length ps) ds xs p ys q
        ∙ ap (λ (m : ℕ). shape g.name g.delivered (length ds) ds m ds (xs ++ (q ∷ ys))) same_count
        ∙ ap (λ (l : List Pending). shape g.name g.delivered (length ds) ds (length l) ds l) (sym put_in)
        ∙ sym (region_shape (claim c time p g))

  pub spot_within : (c : List ℕ) (k : ℕ) → spot_from 0 c cs ≡ New k → k ≤ length cs
  spot_within c k spot = omega (arith, (new_spot [] 0 c cs k r.rising spot).within)

  pub unknown_spot : (c : List ℕ) (k : ℕ) → spot_from 0 c cs ≡ New k → is_among c cs ≡ false
  unknown_spot c k spot = (new_spot [] 0 c cs k r.rising spot).unknown
