-- A region as its parts, one of them changed. Assumes nothing.
use mathlib.Core.Path.{◌≡◌, refl, sym, ap, ap₂, ◌∙◌}
use mathlib.Core.Bool.{true}
use mathlib.Core.List.{List, [], ◌∷◌, ◌++◌, append_assoc, append-nil}
use Prim.Native.Nat.{ℕ, suc, ◌+◌, ◌-◌, ◌*◌, ◌≤◌, ◌<◌}
use native.Mathlib.Omega.{arith}
use lib.ListN.{length, take, drop, set, length-append, length-replicate, replicate-append-replicate}
use lib.Seq.{take_at, drop_at, drop-append-le, set_at}
use Rattle.octets.specs.Bytes.{le, zeros}
use Rattle.octets.specs.Place.{put, spliced}
use Rattle.octets.proofs.Laws.{both_true, length_le, both_of, drop_zeros, put_at}
use Rattle.id.specs.declared.Id.{Id}
use Rattle.id.specs.Bytes.{id_bytes}
use Rattle.id.proofs.Laws.{length_id_bytes}
use Rattle.groups.specs.Group.{Pending, Group, is_name, are_names}
use Rattle.groups.specs.Bytes.{pending_bytes, all_pending, padded, name_field, all_name_fields, region_bytes}
use Rattle.groups.specs.Parse.{group_in}
use Rattle.groups.specs.Answer.{SoundRegion}
use Rattle.groups.proofs.Laws.{length_field, length_fields, length_entry, length_entries, length_padded, six_parts, Rules, rules, named}
use Rattle.groups_change.specs.Places.{places_moved}
use Rattle.groups_change.proofs.Lists.{spliced_at}

-- a room whose used front is a list and then another
pub fields_append : (xs ys : List (List ℕ)) → all_name_fields (xs ++ ys) ≡ all_name_fields xs ++ all_name_fields ys
unfolding all_name_fields
fields_append [] ys = refl
fields_append (x ∷ xs) ys = ap (λ (l : List ℕ). name_field x ++ l) (fields_append xs ys) ∙ sym (append_assoc (name_field x) (all_name_fields xs) (all_name_fields ys))

pub entries_append : (cs : List (List ℕ)) (xs ys : List Pending) → all_pending cs (xs ++ ys) ≡ all_pending cs xs ++ all_pending cs ys
unfolding all_pending
entries_append cs [] ys = refl
entries_append cs (x ∷ xs) ys =
    ap (λ (l : List ℕ). pending_bytes cs x ++ l) (entries_append cs xs ys) ∙ sym (append_assoc (pending_bytes cs x) (all_pending cs xs) (all_pending cs ys))

pub names_split : (xs ys : List (List ℕ)) → are_names (xs ++ ys) ≡ true → (are_names xs ≡ true) × (are_names ys ≡ true)
unfolding are_names
names_split [] ys e = (refl, e)
names_split (x ∷ xs) ys e =
    let p = both_true (is_name x) (are_names (xs ++ ys)) e in
    let q = names_split xs ys p.1 in
    (both_of p.0 q.0, q.1)

-- bytes put in between, taken out, put in place of others, in a room of which x and y are used
module _ (room : ℕ) (a x y t : List ℕ) (at : ℕ) (ha : length a + length x ≡ at) where
  front : length (a ++ x) ≡ at
  front = length-append a x ∙ ha

  -- one more, at most as long as the zeros
  pub room_insert : (e : List ℕ) → length x + length y + length e ≤ room
      → spliced (a ++ (padded room (x ++ y) ++ t)) (at + length y) at 0 e ≡ a ++ (padded room (x ++ (e ++ y)) ++ t)
  room_insert e h =
      let z : List ℕ = zeros (room - length (x ++ y)) in
      let lz : length e ≤ length z = omega (arith, length-append x y, length-replicate {A = ℕ} (room - length (x ++ y)) 0) in
      let s : a ++ (padded room (x ++ y) ++ t) ≡ (a ++ x) ++ ([] ++ (y ++ (z ++ t))) = simp append_assoc in
      let g : 0 - length e ≡ 0 = omega arith in
      let m : length e - 0 ≡ length e = omega arith in
      let r : room - length (x ++ y) - length e ≡ room - length (x ++ (e ++ y)) =
      omega (arith, length-append x y, length-append x (e ++ y), length-append e y) in
      let d : drop (length e - 0) (z ++ t) ≡ zeros (room - length (x ++ (e ++ y))) ++ t =
      ap (λ (k : ℕ). drop k (z ++ t)) m ∙ drop-append-le (length e) z t lz ∙ ap (λ (l : List ℕ). l ++ t) (drop_zeros (length e) (room - length (x ++ y)) ∙ ap zeros r) in
      ap (λ (l : List ℕ). spliced l (at + length y) at 0 e) s
      ∙ spliced_at (a ++ x) [] y (z ++ t) e (at + length y) at 0 front refl (omega arith)
      ∙ ap₂ (λ (k : ℕ) (l : List ℕ). (a ++ x) ++ (e ++ (y ++ (zeros k ++ l)))) g d
      ∙ simp append_assoc

  -- one less
  pub room_remove : (e : List ℕ) (gone : ℕ) → length e ≡ gone → length x + length y + gone ≤ room
      → spliced (a ++ (padded room (x ++ (e ++ y)) ++ t)) (at + gone + length y) at gone [] ≡ a ++ (padded room (x ++ y) ++ t)
  room_remove e gone q h =
      let z : List ℕ = zeros (room - length (x ++ (e ++ y))) in
      let s : a ++ (padded room (x ++ (e ++ y)) ++ t) ≡ (a ++ x) ++ (e ++ (y ++ (z ++ t))) = simp append_assoc in
      let g : gone - 0 ≡ gone = omega arith in
      let m : 0 - gone ≡ 0 = omega arith in
      let r : gone + (room - length (x ++ (e ++ y))) ≡ room - length (x ++ y) =
      omega (arith, length-append x y, length-append x (e ++ y), length-append e y) in
      let w : zeros gone ++ z ≡ zeros (room - length (x ++ y)) =
      replicate-append-replicate gone (room - length (x ++ (e ++ y))) 0 ∙ ap zeros r in
      ap (λ (l : List ℕ). spliced l (at + gone + length y) at gone []) s
      ∙ spliced_at (a ++ x) e y (z ++ t) [] (at + gone + length y) at gone front q refl
      ∙ ap₂ (λ (k j : ℕ). (a ++ x) ++ (y ++ (zeros k ++ drop j (z ++ t)))) g m
      ∙ ap (λ (l : List ℕ). (a ++ x) ++ (y ++ l)) (sym (append_assoc (zeros gone) z t) ∙ ap (λ (l : List ℕ). l ++ t) w)
      ∙ simp append_assoc

  -- another in its place
  pub room_replace : (e f : List ℕ) → length e ≡ length f
      → put (a ++ (padded room (x ++ (e ++ y)) ++ t)) at f ≡ a ++ (padded room (x ++ (f ++ y)) ++ t)
  room_replace e f q =
      let z : List ℕ = zeros (room - length (x ++ (e ++ y))) in
      let s : a ++ (padded room (x ++ (e ++ y)) ++ t) ≡ (a ++ x) ++ (e ++ (y ++ (z ++ t))) = simp append_assoc in
      let r : room - length (x ++ (e ++ y)) ≡ room - length (x ++ (f ++ y)) =
      omega (arith, length-append x (e ++ y), length-append e y, length-append x (f ++ y), length-append f y) in
      ap (λ (l : List ℕ). put l at f) s
      ∙ put_at (a ++ x) (e ++ (y ++ (z ++ t))) f at front
      ∙ ap (λ (l : List ℕ). (a ++ x) ++ (f ++ l)) (drop_at e (y ++ (z ++ t)) (length f) q ∙ ap (λ (k : ℕ). y ++ (zeros k ++ t)) r)
      ∙ simp append_assoc

-- one more at the end
pub room_append : (room : ℕ) (a x e : List ℕ) (at : ℕ) → length a + length x ≡ at → length x + length e ≤ room
    → put (a ++ padded room x) at e ≡ a ++ padded room (x ++ e)
room_append room a x e at ha h =
    let z : List ℕ = zeros (room - length x) in
    let s : a ++ padded room x ≡ (a ++ x) ++ z = sym (append_assoc a x z) in
    let r : room - length x - length e ≡ room - length (x ++ e) = omega (arith, length-append x e) in
    ap (λ (l : List ℕ). put l at e) s
    ∙ put_at (a ++ x) z e at (length-append a x ∙ ha)
    ∙ ap (λ (l : List ℕ). (a ++ x) ++ (e ++ l)) (drop_zeros (length e) (room - length x) ∙ ap zeros r)
    ∙ simp append_assoc

-- regrouped
three_first : (n d : List ℕ) (k : ℕ) (l : List ℕ) → n ++ (d ++ (k ∷ l)) ≡ (n ++ (d ++ (k ∷ []))) ++ l
three_first n d k l = simp append_assoc

three_and : (b f c l : List ℕ) → b ++ (f ++ (c ++ l)) ≡ (b ++ (f ++ c)) ++ l
three_and b f c l = simp append_assoc

-- name, last delivered, number of consumers, consumers, number of entries, entries with the consumers that their places count
abbrev pub shape : List ℕ → Id → ℕ → List (List ℕ) → ℕ → List (List ℕ) → List Pending → List ℕ
shape nm d k ns c cs ps =
    six_parts (name_field nm) (id_bytes d) k (padded 272 (all_name_fields ns)) (le 2 c) (padded 6912 (all_pending cs ps))

pub region_shape : (g : Group) → region_bytes g ≡ shape g.name g.delivered (length g.consumers) g.consumers (length g.pending) g.consumers g.pending
unfolding region_bytes
region_shape g = refl

-- of a sound region
module _ (s : List ℕ) (h : SoundRegion s) where
  pub sound_rules : Rules (group_in s)
  sound_rules = rules (group_in s) h.rules_kept

  pub sound_short : length (group_in s).name ≤ 16
  sound_short = (named (group_in s).name sound_rules.named).few_bytes

  pub sound_shape : s ≡ shape (group_in s).name (group_in s).delivered (length (group_in s).consumers) (group_in s).consumers (length (group_in s).pending) (group_in s).consumers (group_in s).pending
  sound_shape = h.laid ∙ region_shape (group_in s)

module _ (nm : List ℕ) (d : Id) (k : ℕ) (short : length nm ≤ 16) where
  -- what stands before the consumers
  abbrev before : List ℕ
  before = name_field nm ++ (id_bytes d ++ (k ∷ []))

  length_before : length before ≡ 34
  length_before = omega (arith, length-append (name_field nm) (id_bytes d ++ (k ∷ [])), length-append (id_bytes d) (k ∷ []), length_field nm short, length_id_bytes d)

  pub shape_delivered : (i : Id) (ns : List (List ℕ)) (c : ℕ) (cs : List (List ℕ)) (ps : List Pending) → put (shape nm d k ns c cs ps) 17 (id_bytes i) ≡ shape nm i k ns c cs ps
  shape_delivered i ns c cs ps =
      let t : List ℕ = k ∷ (padded 272 (all_name_fields ns) ++ (le 2 c ++ padded 6912 (all_pending cs ps))) in
      put_at (name_field nm) (id_bytes d ++ t) (id_bytes i) 17 (length_field nm short)
      ∙ ap (λ (l : List ℕ). name_field nm ++ (id_bytes i ++ l)) (drop_at (id_bytes d) t (length (id_bytes i)) (length_id_bytes d ∙ sym (length_id_bytes i)))

  pub shape_count : (j : ℕ) (ns : List (List ℕ)) (c : ℕ) (cs : List (List ℕ)) (ps : List Pending) → set (shape nm d k ns c cs ps) 33 j ≡ shape nm d j ns c cs ps
  shape_count j ns c cs ps =
      let t : List ℕ = padded 272 (all_name_fields ns) ++ (le 2 c ++ padded 6912 (all_pending cs ps)) in
      ap (λ (l : List ℕ). set l 33 j) (sym (append_assoc (name_field nm) (id_bytes d) (k ∷ t)))
      ∙ set_at (name_field nm ++ id_bytes d) k t j 33 (omega (arith, length-append (name_field nm) (id_bytes d), length_field nm short, length_id_bytes d))
      ∙ append_assoc (name_field nm) (id_bytes d) (j ∷ t)

  -- a consumer put in, and one taken out
  module _ (xs ys : List (List ℕ)) (names : are_names (xs ++ ys) ≡ true) (n : List ℕ) (name : length n ≤ 16) (few : length xs + length ys < 16) (c : ℕ) (cs : List (List ℕ)) (ps : List Pending) where
    rest : List ℕ
    rest = le 2 c ++ padded 6912 (all_pending cs ps)

    lx : length (all_name_fields xs) ≡ length xs * 17
    lx = length_fields xs (names_split xs ys names).0

    ly : length (all_name_fields ys) ≡ length ys * 17
    ly = length_fields ys (names_split xs ys names).1

    ln : length (name_field n) ≡ 17
    ln = length_field n name

    around : (l : List ℕ) → name_field nm ++ (id_bytes d ++ (k ∷ (l ++ rest))) ≡ before ++ (l ++ rest)
    around l = three_first (name_field nm) (id_bytes d) k (l ++ rest)

    both_fields : padded 272 (all_name_fields (xs ++ ys)) ≡ padded 272 (all_name_fields xs ++ all_name_fields ys)
    both_fields = ap (padded 272) (fields_append xs ys)

    all_fields : padded 272 (all_name_fields (xs ++ (n ∷ ys))) ≡ padded 272 (all_name_fields xs ++ (name_field n ++ all_name_fields ys))
    unfolding all_name_fields
    all_fields = ap (padded 272) (fields_append xs (n ∷ ys))

    pub shape_insert : (used : ℕ) → used ≡ 34 + (length xs + length ys) * 17
        → spliced (shape nm d k (xs ++ ys) c cs ps) used (34 + length xs * 17) 0 (name_field n) ≡ shape nm d k (xs ++ (n ∷ ys)) c cs ps
    unfolding rest
    shape_insert used u =
        let at : ℕ = 34 + length xs * 17 in
        let e : used ≡ at + length (all_name_fields ys) = omega (arith, ly) in
        let f : List ℕ = all_name_fields xs in
        let h : List ℕ = all_name_fields ys in
        ap₂ (λ (m : ℕ) (l : List ℕ). spliced l m at 0 (name_field n)) e (ap (λ (l : List ℕ). name_field nm ++ (id_bytes d ++ (k ∷ (l ++ rest)))) both_fields ∙ around (padded 272 (f ++ h)))
        ∙ room_insert 272 before f h rest at (omega (arith, length_before, lx)) (name_field n) (omega (arith, lx, ly, ln))
        ∙ sym (around (padded 272 (f ++ (name_field n ++ h))))
        ∙ ap (λ (l : List ℕ). name_field nm ++ (id_bytes d ++ (k ∷ (l ++ rest)))) (sym all_fields)

    pub shape_cut : (used : ℕ) → used ≡ 34 + (length xs + suc (length ys)) * 17
        → spliced (shape nm d k (xs ++ (n ∷ ys)) c cs ps) used (34 + length xs * 17) 17 [] ≡ shape nm d k (xs ++ ys) c cs ps
    unfolding rest
    shape_cut used u =
        let at : ℕ = 34 + length xs * 17 in
        let e : used ≡ at + 17 + length (all_name_fields ys) = omega (arith, ly) in
        let f : List ℕ = all_name_fields xs in
        let h : List ℕ = all_name_fields ys in
        ap₂ (λ (m : ℕ) (l : List ℕ). spliced l m at 17 []) e (ap (λ (l : List ℕ). name_field nm ++ (id_bytes d ++ (k ∷ (l ++ rest)))) all_fields ∙ around (padded 272 (f ++ (name_field n ++ h))))
        ∙ room_remove 272 before f h rest at (omega (arith, length_before, lx)) (name_field n) 17 ln (omega (arith, lx, ly))
        ∙ sym (around (padded 272 (f ++ h)))
        ∙ ap (λ (l : List ℕ). name_field nm ++ (id_bytes d ++ (k ∷ (l ++ rest)))) (sym both_fields)

  -- the entries
  module _ (ns : List (List ℕ)) (names : are_names ns ≡ true) (few : length ns ≤ 16) (c : ℕ) where
    abbrev fields : List ℕ
    fields = padded 272 (all_name_fields ns)

    length_room : length fields ≡ 272
    length_room = length_padded 272 (all_name_fields ns) (omega (arith, length_fields ns names))

    fields_of_lem : (l : List ℕ) → name_field nm ++ (id_bytes d ++ (k ∷ (fields ++ l))) ≡ (before ++ fields) ++ l
    fields_of_lem l = three_first (name_field nm) (id_bytes d) k (fields ++ l) ∙ sym (append_assoc before fields l)

    pub shape_number : (j : ℕ) (cs : List (List ℕ)) (ps : List Pending) → put (shape nm d k ns c cs ps) 306 (le 2 j) ≡ shape nm d k ns j cs ps
    shape_number j cs ps =
        let p : List ℕ = padded 6912 (all_pending cs ps) in
        ap (λ (l : List ℕ). put l 306 (le 2 j)) (fields_of_lem (le 2 c ++ p))
        ∙ put_at (before ++ fields) (le 2 c ++ p) (le 2 j) 306 (omega (arith, length-append before fields, length_before, length_room))
        ∙ ap (λ (l : List ℕ). (before ++ fields) ++ (le 2 j ++ l)) (drop_at (le 2 c) p (length (le 2 j)) (length_le 2 c ∙ sym (length_le 2 j)))
        ∙ sym (fields_of_lem (le 2 j ++ p))

    abbrev up_front : List ℕ
    up_front = before ++ (fields ++ le 2 c)

    length_up_front : length up_front ≡ 308
    length_up_front = omega (arith, length-append before (fields ++ le 2 c), length-append fields (le 2 c), length_before, length_room, length_le 2 c)

    front_of : (l : List ℕ) → six_parts (name_field nm) (id_bytes d) k fields (le 2 c) l ≡ up_front ++ l
    front_of l = three_first (name_field nm) (id_bytes d) k (fields ++ (le 2 c ++ l)) ∙ three_and before fields (le 2 c) l

    module _ (cs : List (List ℕ)) where
      pub shape_append : (ps : List Pending) (q : Pending) → length ps < 256
          → put (shape nm d k ns c cs ps) (308 + length ps * 27) (pending_bytes cs q) ≡ shape nm d k ns c cs (ps ++ (q ∷ []))
      unfolding all_pending
      shape_append ps q h =
          let x : List ℕ = all_pending cs ps in
          let r : List ℕ = pending_bytes cs q in
          ap (λ (l : List ℕ). put l (308 + length ps * 27) r) (front_of (padded 6912 x))
          ∙ room_append 6912 up_front x r (308 + length ps * 27) (omega (arith, length_up_front, length_entries cs ps)) (omega (arith, length_entries cs ps, length_entry cs q []))
          ∙ sym (front_of (padded 6912 (x ++ r)))
          ∙ ap (λ (l : List ℕ). six_parts (name_field nm) (id_bytes d) k fields (le 2 c) (padded 6912 l)) (ap (λ (l : List ℕ). x ++ l) (sym (append-nil r)) ∙ sym (entries_append cs ps (q ∷ [])))

      -- fewer entries, and zeros for those that went
      pub shape_fewer : (ps qs : List Pending) (z : ℕ) → length qs * 27 + z ≡ length ps * 27 → length ps ≤ 256
          → put (shape nm d k ns c cs ps) 308 (all_pending cs qs ++ zeros z) ≡ shape nm d k ns c cs qs
      shape_fewer ps qs z h l =
          let x : List ℕ = all_pending cs ps in
          let y : List ℕ = all_pending cs qs in
          let e : List ℕ = y ++ zeros z in
          let le_e : length x ≡ length e = omega (arith, length-append y (zeros z), length-replicate {A = ℕ} z 0, length_entries cs ps, length_entries cs qs) in
          let r : z + (6912 - length x) ≡ 6912 - length y = omega (arith, length_entries cs ps, length_entries cs qs) in
          ap (λ (l : List ℕ). put l 308 e) (front_of (padded 6912 x))
          ∙ put_at up_front (padded 6912 x) e 308 length_up_front
          ∙ ap (λ (l : List ℕ). up_front ++ (e ++ l)) (drop_at x (zeros (6912 - length x)) (length e) le_e)
          ∙ ap (λ (l : List ℕ). up_front ++ l) (append_assoc y (zeros z) (zeros (6912 - length x)) ∙ ap (λ (l : List ℕ). y ++ l) (replicate-append-replicate {A = ℕ} z (6912 - length x) 0 ∙ ap zeros r))
          ∙ sym (front_of (padded 6912 y))

      -- one of the entries
      module _ (xs : List Pending) (p : Pending) (ys : List Pending) where
        whole : (q : Pending) → padded 6912 (all_pending cs (xs ++ (q ∷ ys))) ≡ padded 6912 (all_pending cs xs ++ (pending_bytes cs q ++ all_pending cs ys)) ++ []
        unfolding all_pending
        whole q = ap (padded 6912) (entries_append cs xs (q ∷ ys)) ∙ sym (append-nil (padded 6912 (all_pending cs xs ++ (pending_bytes cs q ++ all_pending cs ys))))

        where_it_is : length up_front + length (all_pending cs xs) ≡ 308 + length xs * 27
        where_it_is = omega (arith, length_up_front, length_entries cs xs)

        pub shape_replace : (q : Pending) → put (shape nm d k ns c cs (xs ++ (p ∷ ys))) (308 + length xs * 27) (pending_bytes cs q) ≡ shape nm d k ns c cs (xs ++ (q ∷ ys))
        shape_replace q =
            let at : ℕ = 308 + length xs * 27 in
            let x : List ℕ = all_pending cs xs in
            let y : List ℕ = all_pending cs ys in
            ap (λ (l : List ℕ). put l at (pending_bytes cs q)) (front_of (padded 6912 (all_pending cs (xs ++ (p ∷ ys)))) ∙ ap (λ (l : List ℕ). up_front ++ l) (whole p))
            ∙ room_replace 6912 up_front x y [] at where_it_is (pending_bytes cs p) (pending_bytes cs q) (length_entry cs p [] ∙ sym (length_entry cs q []))
            ∙ ap (λ (l : List ℕ). up_front ++ l) (sym (whole q))
            ∙ sym (front_of (padded 6912 (all_pending cs (xs ++ (q ∷ ys)))))

        pub shape_remove : (used : ℕ) → used ≡ 308 + (length xs + suc (length ys)) * 27 → length xs + length ys < 256
            → spliced (shape nm d k ns c cs (xs ++ (p ∷ ys))) used (308 + length xs * 27) 27 [] ≡ shape nm d k ns c cs (xs ++ ys)
        shape_remove used u h =
            let at : ℕ = 308 + length xs * 27 in
            let x : List ℕ = all_pending cs xs in
            let y : List ℕ = all_pending cs ys in
            let e : used ≡ at + 27 + length y = omega (arith, length_entries cs ys) in
            ap₂ (λ (m : ℕ) (l : List ℕ). spliced l m at 27 []) e (front_of (padded 6912 (all_pending cs (xs ++ (p ∷ ys)))) ∙ ap (λ (l : List ℕ). up_front ++ l) (whole p))
            ∙ room_remove 6912 up_front x y [] at where_it_is (pending_bytes cs p) 27 (length_entry cs p []) (omega (arith, length_entries cs xs, length_entries cs ys))
            ∙ ap (λ (l : List ℕ). up_front ++ l) (append-nil (padded 6912 (x ++ y)) ∙ ap (padded 6912) (sym (entries_append cs xs ys)))
            ∙ sym (front_of (padded 6912 (all_pending cs (xs ++ ys))))

    -- the entries' places moved
    pub shape_moved : (from add sub n : ℕ) (cs ds : List (List ℕ)) (ps : List Pending)
        → ((t : List ℕ) → places_moved from add sub n (all_pending cs ps ++ t) ≡ all_pending ds ps ++ t)
        → take 308 (shape nm d k ns c cs ps) ++ places_moved from add sub n (drop 308 (shape nm d k ns c cs ps)) ≡ shape nm d k ns c ds ps
    shape_moved from add sub n cs ds ps moved =
        let p : List ℕ = padded 6912 (all_pending cs ps) in
        let z : 6912 - length (all_pending cs ps) ≡ 6912 - length (all_pending ds ps) = omega (arith, length_entries cs ps, length_entries ds ps) in
        ap (λ (l : List ℕ). take 308 l ++ places_moved from add sub n (drop 308 l)) (front_of p)
        ∙ ap₂ (λ (x y : List ℕ). x ++ places_moved from add sub n y) (take_at up_front p 308 length_up_front) (drop_at up_front p 308 length_up_front)
        ∙ ap (λ (l : List ℕ). up_front ++ l) (moved (zeros (6912 - length (all_pending cs ps))) ∙ ap (λ (m : ℕ). all_pending ds ps ++ zeros m) z)
        ∙ sym (front_of (padded 6912 (all_pending ds ps)))
