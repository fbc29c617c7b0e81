-- A consumer put in or taken out: the places of the others, and the entries' bytes with them. Assumes nothing.
use mathlib.Core.Path.{◌≡◌, refl, sym, ap, ap₂, ◌∙◌}
use mathlib.Core.Bool.{Bool, true, false}
use mathlib.Core.List.{List, [], ◌∷◌, ◌++◌, append_assoc}
use Prim.Native.Nat.{ℕ, zero, suc, ◌+◌, ◌-◌, ◌*◌, ◌%◌, ◌≤◌, ◌<◌}
use native.Mathlib.Omega.{arith}
use lib.Dec.{ltb}
use lib.ListN.{length, take, drop, get_or, set, take-append-drop}
use lib.Seq.{take_at, drop_at, take-add, set_at, get_or_at, take-set-le, drop-set-lt, drop-set-add, drop-drop, get_or-drop}
use borrow.Author.Tests.{lt-ltb, le-ltb}
use Rattle.octets.specs.Pick.{pick}
use Rattle.octets.specs.Bytes.{le}
use Rattle.octets.specs.Compare.{same}
use Rattle.octets.proofs.Laws.{pick_lt, never}
use Rattle.id.specs.Id.{least}
use Rattle.id.specs.Bytes.{id_bytes}
use Rattle.id.proofs.Laws.{length_id_bytes}
use Rattle.groups.specs.Group.{Pending, is_among}
use Rattle.groups.specs.Bytes.{place_of_name, pending_bytes, all_pending}
use Rattle.groups.specs.Parse.{pending_in, all_pending_in}
use Rattle.groups.proofs.Laws.{all_of, all_of_lem, length_entry}
use Rattle.groups_change.specs.Places.{moved_place, places_moved}

-- places in a list with one name more
module _ (m n : List ℕ) (differs : same m n ≡ false) where
  more_case : (h : List ℕ) (t : List (List ℕ)) (k : ℕ) (b : Bool) → same m h ≡ b → pick b true (is_among m t) ≡ true
      → (is_among m t ≡ true → place_of_name m (take k t ++ (n ∷ drop k t)) ≡ pick (ltb (place_of_name m t) k) (place_of_name m t) (place_of_name m t + 1))
      → place_of_name m (h ∷ (take k t ++ (n ∷ drop k t))) ≡ pick (ltb (place_of_name m (h ∷ t)) (suc k)) (place_of_name m (h ∷ t)) (place_of_name m (h ∷ t) + 1)
  unfolding place_of_name
  more_case h t k true e a r = rw (e, lt-ltb 0 (suc k) (omega arith))
  more_case h t k false e a r =
      let x : ℕ = place_of_name m t in
      rw (e, r a)
      (pick_lt (λ (y : ℕ). 1 + y ≡ pick (ltb (1 + x) (suc k)) (1 + x) (1 + x + 1)) x k x (x + 1)
      (λ l. rw (lt-ltb (1 + x) (suc k) (omega arith)))
      (λ l. rw (le-ltb (1 + x) (suc k) (omega arith)) (omega arith)))

  place_more : (ns : List (List ℕ)) (k : ℕ) → k ≤ length ns → is_among m ns ≡ true
      → place_of_name m (take k ns ++ (n ∷ drop k ns)) ≡ pick (ltb (place_of_name m ns) k) (place_of_name m ns) (place_of_name m ns + 1)
  unfolding is_among
  place_more ns zero h a = first ns
    where
      first : (l : List (List ℕ)) → place_of_name m (n ∷ l) ≡ pick (ltb (place_of_name m l) 0) (place_of_name m l) (place_of_name m l + 1)
      first l = unfold_first l ∙ rw (le-ltb (place_of_name m l) 0 (omega arith)) (omega arith)
        where
          unfold_first : (l : List (List ℕ)) → place_of_name m (n ∷ l) ≡ 1 + place_of_name m l
          unfold_first l = unfold place_of_name in ap (λ (b : Bool). pick b 0 (1 + place_of_name m l)) differs
  place_more [] (suc k) h a = absurd (never refl (sym a))
  place_more (x ∷ ns) (suc k) h a = more_case x ns k (same m x) refl a (place_more ns k (omega arith))

-- and in one with a name less
module _ (m : List ℕ) where
  less_case : (h : List ℕ) (t : List (List ℕ)) (k : ℕ) (b : Bool) → same m h ≡ b → pick b true (is_among m t) ≡ true
      → (is_among m t ≡ true → place_of_name m (take k t ++ drop (suc k) t) ≡ pick (ltb (place_of_name m t) (k + 1)) (place_of_name m t) (place_of_name m t - 1))
      → place_of_name m (h ∷ (take k t ++ drop (suc k) t)) ≡ pick (ltb (place_of_name m (h ∷ t)) (suc k + 1)) (place_of_name m (h ∷ t)) (place_of_name m (h ∷ t) - 1)
  unfolding place_of_name
  less_case h t k true e a r = rw (e, lt-ltb 0 (suc k + 1) (omega arith))
  less_case h t k false e a r =
      let x : ℕ = place_of_name m t in
      rw (e, r a)
      (pick_lt (λ (y : ℕ). 1 + y ≡ pick (ltb (1 + x) (suc k + 1)) (1 + x) (1 + x - 1)) x (k + 1) x (x - 1)
      (λ l. rw (lt-ltb (1 + x) (suc k + 1) (omega arith)))
      (λ l. rw (le-ltb (1 + x) (suc k + 1) (omega arith)) (omega arith)))

  first_gone : (h : List ℕ) (t : List (List ℕ)) → same m h ≡ false → place_of_name m t ≡ pick (ltb (place_of_name m (h ∷ t)) (0 + 1)) (place_of_name m (h ∷ t)) (place_of_name m (h ∷ t) - 1)
  unfolding place_of_name
  first_gone h t e = rw (e, le-ltb (1 + place_of_name m t) (0 + 1) (omega arith)) (omega arith)

  place_less : (ns : List (List ℕ)) (k : ℕ) → k < length ns → same m (get_or ns k []) ≡ false → is_among m ns ≡ true
      → place_of_name m (take k ns ++ drop (suc k) ns) ≡ pick (ltb (place_of_name m ns) (k + 1)) (place_of_name m ns) (place_of_name m ns - 1)
  unfolding is_among
  place_less [] k h d a = absurd (omega arith)
  place_less (x ∷ ns) zero h d a = first_gone x ns d
  place_less (x ∷ ns) (suc k) h d a = less_case x ns k (same m x) refl a (place_less ns k (omega arith) d)

-- as the code moves them
module _ (x k : ℕ) (low : x < 16) where
  up_is : pick (ltb x k) x (x + 1) ≡ moved_place k 1 0 x
  unfolding moved_place
  up_is = ap (pick (ltb x k) x) (let e : x + 1 ≡ (x + 1 - 0) % 256 = omega arith in e)

  down_is : pick (ltb x (k + 1)) x (x - 1) ≡ moved_place (k + 1) 0 1 x
  unfolding moved_place
  down_is = ap (pick (ltb x (k + 1)) x) (let e : x - 1 ≡ (x + 0 - 1) % 256 = omega arith in e)

pub place_up : (m n : List ℕ) (ns : List (List ℕ)) (k : ℕ) → same m n ≡ false → k ≤ length ns → is_among m ns ≡ true → place_of_name m ns < 16
    → place_of_name m (take k ns ++ (n ∷ drop k ns)) ≡ moved_place k 1 0 (place_of_name m ns)
place_up m n ns k d h a l = place_more m n d ns k h a ∙ up_is (place_of_name m ns) k l

pub place_down : (m : List ℕ) (ns : List (List ℕ)) (k : ℕ) → k < length ns → same m (get_or ns k []) ≡ false → is_among m ns ≡ true → place_of_name m ns < 16
    → place_of_name m (take k ns ++ drop (suc k) ns) ≡ moved_place (k + 1) 0 1 (place_of_name m ns)
place_down m ns k h d a l = place_less m ns k h d a ∙ down_is (place_of_name m ns) k l

-- the entries' bytes
module _ (from add sub : ℕ) (cs ds : List (List ℕ)) (good : Pending → Bool)
    (moved : (p : Pending) → good p ≡ true → place_of_name p.consumer ds ≡ moved_place from add sub (place_of_name p.consumer cs)) where
  row_set : (p : Pending) (u : List ℕ) (v : ℕ) → v ≡ place_of_name p.consumer ds → set (pending_bytes cs p ++ u) 16 v ≡ pending_bytes ds p ++ u
  unfolding pending_bytes
  row_set p u v e =
      let i : List ℕ = id_bytes p.id in
      let w : List ℕ = le 8 p.time ++ le 2 p.count in
      ap (λ (l : List ℕ). set l 16 v) (append_assoc i (place_of_name p.consumer cs ∷ w) u)
      ∙ set_at i (place_of_name p.consumer cs) (w ++ u) v 16 (length_id_bytes p.id)
      ∙ ap (λ (x : ℕ). i ++ (x ∷ (w ++ u))) e
      ∙ sym (append_assoc i (place_of_name p.consumer ds ∷ w) u)

  row_get : (p : Pending) (u : List ℕ) → get_or (pending_bytes cs p ++ u) 16 0 ≡ place_of_name p.consumer cs
  unfolding pending_bytes
  row_get p u =
      let i : List ℕ = id_bytes p.id in
      let w : List ℕ = le 8 p.time ++ le 2 p.count in
      ap (λ (l : List ℕ). get_or l 16 0) (append_assoc i (place_of_name p.consumer cs ∷ w) u)
      ∙ get_or_at i (place_of_name p.consumer cs) (w ++ u) 0 16 (length_id_bytes p.id)

  pub entries_moved : (ps : List Pending) (t : List ℕ) → all_of good ps ≡ true
      → places_moved from add sub (length ps) (all_pending cs ps ++ t) ≡ all_pending ds ps ++ t
  unfolding places_moved all_pending
  entries_moved [] t e = refl
  entries_moved (p ∷ ps) t e =
      let x = all_of_lem good p ps e in
      let u : List ℕ = all_pending cs ps ++ t in
      let a : (pending_bytes cs p ++ all_pending cs ps) ++ t ≡ pending_bytes cs p ++ u = append_assoc (pending_bytes cs p) (all_pending cs ps) t in
      let v : moved_place from add sub (get_or (pending_bytes cs p ++ u) 16 0) ≡ place_of_name p.consumer ds =
      ap (moved_place from add sub) (row_get p u) ∙ sym (moved p x.0) in
      let r : take 27 (set (pending_bytes cs p ++ u) 16 (moved_place from add sub (get_or (pending_bytes cs p ++ u) 16 0))) ≡ pending_bytes ds p =
      ap (take 27) (row_set p u (moved_place from add sub (get_or (pending_bytes cs p ++ u) 16 0)) v) ∙ take_at (pending_bytes ds p) u 27 (length_entry ds p []) in
      ap (λ (l : List ℕ). take 27 (set l 16 (moved_place from add sub (get_or l 16 0))) ++ places_moved from add sub (length ps) (drop 27 l)) a
      ∙ ap₂ (λ (y z : List ℕ). y ++ z) r
      (ap (places_moved from add sub (length ps)) (drop_at (pending_bytes cs p) u 27 (length_entry cs p [])) ∙ entries_moved ps t x.1)
      ∙ sym (append_assoc (pending_bytes ds p) (all_pending ds ps) t)

-- a turn of the loop that moves them
pub moved_next : (from add sub left at : ℕ) (s : List ℕ) (v : ℕ) → 0 < left → at + 27 ≤ length s → v ≡ moved_place from add sub (get_or s (at + 16) 0)
    → take (at + 27) (set s (at + 16) v) ++ places_moved from add sub (left - 1) (drop (at + 27) (set s (at + 16) v))
    ≡ take at s ++ places_moved from add sub left (drop at s)
unfolding places_moved
moved_next from add sub zero at s v h l e = absurd (omega arith)
moved_next from add sub (suc k) at s v h l e =
    let q : suc k - 1 ≡ k = omega arith in
    let t : List ℕ = set s (at + 16) v in
    let a : take (at + 27) t ≡ take at s ++ take 27 (set (drop at s) 16 v) =
    take-add at 27 t ∙ ap₂ (λ (x y : List ℕ). x ++ take 27 y) (take-set-le at s (at + 16) v (omega arith)) (drop-set-add at s 16 v) in
    let b : drop (at + 27) t ≡ drop 27 (drop at s) = drop-set-lt (at + 27) s (at + 16) v (omega arith) ∙ sym (drop-drop 27 at s) in
    let w : v ≡ moved_place from add sub (get_or (drop at s) 16 0) = e ∙ ap (moved_place from add sub) (sym (get_or-drop at s 16 0)) in
    ap₂ (λ (x y : List ℕ). x ++ y) a (ap₂ (places_moved from add sub) q b)
    ∙ append_assoc (take at s) (take 27 (set (drop at s) 16 v)) (places_moved from add sub k (drop 27 (drop at s)))
    ∙ ap (λ (x : ℕ). take at s ++ (take 27 (set (drop at s) 16 x) ++ places_moved from add sub k (drop 27 (drop at s)))) w

pub moved_done : (from add sub left at : ℕ) (s : List ℕ) → left ≤ 0 → take at s ++ places_moved from add sub left (drop at s) ≡ s
unfolding places_moved
moved_done from add sub zero at s h = take-append-drop at s
moved_done from add sub (suc k) at s h = absurd (omega arith)

-- what stands past the end of the entries
pub nobody : Pending
nobody = record { id = least; consumer = []; time = 0; count = 0 }

-- the entry that stands at a place
pub entry_at_lem : (n : ℕ) (cs : List (List ℕ)) (s : List ℕ) (i : ℕ) (d : Pending) → i < n → get_or (all_pending_in n cs s) i d ≡ pending_in cs (drop (i * 27) s)
unfolding all_pending_in
entry_at_lem zero cs s i d h = absurd (omega arith)
entry_at_lem (suc n) cs s zero d h = refl
entry_at_lem (suc n) cs s (suc i) d h =
    let e : 27 + i * 27 ≡ suc i * 27 = omega arith in
    entry_at_lem n cs (drop 27 s) i d (omega arith) ∙ ap (pending_in cs) (drop-drop (i * 27) 27 s ∙ ap (λ (k : ℕ). drop k s) e)
