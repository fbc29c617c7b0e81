-- What the searches of a sound region answer, and what is left of them a turn later. Assumes nothing.
use mathlib.Core.Path.{◌≡◌, refl, sym, ap, ◌∙◌}
use mathlib.Core.Bool.{Bool, true, false}
use mathlib.Core.List.{List, [], ◌∷◌}
use Rattle.std.proofs.Common.{Option, Some, None}
use Prim.Native.Nat.{ℕ, zero, suc, ◌+◌, ◌-◌, ◌≤◌, ◌<◌}
use native.Mathlib.Nat.{zero-add}
use native.Mathlib.Omega.{arith}
use lib.Dec.{eqb}
use lib.ListN.{length, get_or, drop}
use lib.Seq.{drop-drop, get_or-drop}
use borrow.Author.Tests.{eqb-true}
use Rattle.octets.specs.Pick.{pick, both}
use Rattle.octets.specs.Bytes.{le_value}
use Rattle.octets.specs.Place.{area}
use Rattle.octets.specs.Compare.{same, order_of}
use Rattle.std.specs.declared.cmp.Ordering.TheVariants.{Less, Equal, Greater}
use Rattle.octets.proofs.Laws.{both_true, area_drop}
use Rattle.id.specs.declared.Id.{Id}
use Rattle.id.specs.Id.{below, same_id}
use Rattle.id.specs.Bytes.{id_from}
use Rattle.groups.specs.declared.Spot.TheVariants.{Known, New}
use Rattle.groups.specs.declared.PendingEntry.{PendingEntry}
use Rattle.groups.specs.declared.NextEntry.{NextEntry}
use Rattle.groups.specs.Group.{Pending, Group, names_above, is_among, is_pending, are_pending}
use Rattle.groups.specs.Bytes.{place_of_name}
use Rattle.groups.specs.Parse.{name_in, names_in, entry_id, pending_in, all_pending_in, consumer_count_in, pending_count_in, group_in}
use Rattle.groups.specs.Step.{find_pending, pending_of, first_above, next_pending}
use Rattle.groups.specs.Answer.{spot_from, place_of_id, held_as, held_in, entry_given}
use Rattle.groups.proofs.Fields.{length_names_in}
use Rattle.groups.proofs.Entries.{entry, length_pending_in}
use Rattle.groups.proofs.Rules.{Rules}
use Rattle.groups.proofs.Turns.{id_of_lem, pending_step, pending_done}
use Rattle.groups.proofs.Spots.{place_among, same_place, none_of}

-- the numbers of consumers and of entries, and the lists that the searches go through
module _ (s : List ℕ) where
  pub consumers_counted : length (group_in s).consumers ≡ consumer_count_in s
  unfolding group_in
  consumers_counted = length_names_in (consumer_count_in s) (drop 34 s)

  pub entries_counted : length (group_in s).pending ≡ pending_count_in s
  unfolding group_in
  entries_counted = length_pending_in (pending_count_in s) (names_in (consumer_count_in s) (drop 34 s)) (drop 308 s)

  pub names_from : (n : ℕ) → n ≡ length (group_in s).consumers → names_in n (drop 34 s) ≡ (group_in s).consumers
  unfolding group_in
  names_from n e = ap (λ (k : ℕ). names_in k (drop 34 s)) (e ∙ consumers_counted)

  pub pending_from : (n : ℕ) → n ≡ length (group_in s).pending → all_pending_in n (group_in s).consumers (drop 308 s) ≡ (group_in s).pending
  unfolding group_in
  pending_from n e = ap (λ (k : ℕ). all_pending_in k (names_in (consumer_count_in s) (drop 34 s)) (drop 308 s)) (e ∙ entries_counted)

-- the parts of the entry at a place
module _ (cs : List (List ℕ)) (at : ℕ) (s : List ℕ) where
  pub consumer_of : (pending_in cs (drop at s)).consumer ≡ get_or cs (get_or s (at + 16) 0) []
  unfolding pending_in
  consumer_of = ap (λ (k : ℕ). get_or cs k []) (get_or-drop at s 16 0)

  pub time_of : (pending_in cs (drop at s)).time ≡ le_value (area (at + 17) 8 s)
  unfolding pending_in
  time_of = ap le_value (area_drop at 17 8 s)

  pub count_of_lem : (pending_in cs (drop at s)).count ≡ le_value (area (at + 25) 2 s)
  unfolding pending_in
  count_of_lem = ap le_value (area_drop at 25 2 s)

-- a name among the names that are left
names_step : (left at : ℕ) (s : List ℕ) → 0 < left → names_in left (drop at s) ≡ name_in (drop at s) ∷ names_in (left - 1) (drop (at + 17) s)
unfolding names_in
names_step zero at s h = absurd (omega arith)
names_step (suc k) at s h =
    let e : suc k - 1 ≡ k = omega arith in
    rw e (ap (λ (l : List ℕ). name_in (drop at s) ∷ names_in k l) (drop-drop 17 at s))

module _ (k : ℕ) (n : List ℕ) (left at : ℕ) (s : List ℕ) where
  pub spot_new : 0 < left → order_of n (name_in (drop at s)) ≡ Less → spot_from k n (names_in left (drop at s)) ≡ New k
  unfolding spot_from
  spot_new h o = ap (spot_from k n) (names_step left at s h) ∙ rw o

  pub spot_known : 0 < left → order_of n (name_in (drop at s)) ≡ Equal → spot_from k n (names_in left (drop at s)) ≡ Known k
  unfolding spot_from
  spot_known h o = ap (spot_from k n) (names_step left at s h) ∙ rw o

  pub spot_next : 0 < left → order_of n (name_in (drop at s)) ≡ Greater
      → spot_from k n (names_in left (drop at s)) ≡ spot_from (k + 1) n (names_in (left - 1) (drop (at + 17) s))
  unfolding spot_from
  spot_next h o = ap (spot_from k n) (names_step left at s h) ∙ rw o

  pub spot_done : left ≤ 0 → spot_from k n (names_in left (drop at s)) ≡ New k
  spot_done h = go left h
    where
      go : (m : ℕ) → m ≤ 0 → spot_from k n (names_in m (drop at s)) ≡ New k
      go zero q = unfold spot_from names_in in refl
      go (suc m) q = absurd (omega arith)

-- what was found, by its parts
abbrev pub held_at : ℕ → ℕ → ℕ → ℕ → PendingEntry
held_at k consumer time count = record { place = k; consumer = consumer; time = time; count = count }

abbrev pub next_at : Id → ℕ → ℕ → NextEntry
next_at i time count = record { id = i; time = time; count = count }

-- an ID's entry among the entries that are left
abbrev pub held_from : List (List ℕ) → ℕ → Id → List Pending → Option PendingEntry
held_from cs k i ps = held_as cs (k + place_of_id i ps) (find_pending i ps)

pub held_start : (s : List ℕ) (n : ℕ) (i : Id) → n ≡ length (group_in s).pending
    → held_from (group_in s).consumers 0 i (all_pending_in n (group_in s).consumers (drop 308 s)) ≡ held_in i (group_in s)
unfolding held_in
held_start s n i e =
    let ps : List Pending = (group_in s).pending in
    ap (held_from (group_in s).consumers 0 i) (pending_from s n e)
    ∙ ap (λ (k : ℕ). held_as (group_in s).consumers k (find_pending i ps)) (zero-add (place_of_id i ps))

module _ (cs : List (List ℕ)) (k : ℕ) (i : Id) (left at : ℕ) (s : List ℕ) (h : 0 < left) where
  p : Pending
  p = pending_in cs (drop at s)

  later : List Pending
  later = all_pending_in (left - 1) cs (drop (at + 27) s)

  pub held_next : same_id (id_from (area at 16 s)) i ≡ false
      → held_from cs k i (all_pending_in left cs (drop at s)) ≡ held_from cs (k + 1) i (all_pending_in (left - 1) cs (drop (at + 27) s))
  unfolding p later place_of_id find_pending
  held_next e =
      let q : k + (1 + place_of_id i later) ≡ k + 1 + place_of_id i later = omega arith in
      ap (held_from cs k i) (pending_step left cs at s h) ∙ rw (id_of_lem cs at s, e, q)

  -- the entries that are left keep their rules
  pub left_kept : are_pending cs (all_pending_in left cs (drop at s)) ≡ true → are_pending cs (all_pending_in (left - 1) cs (drop (at + 27) s)) ≡ true
  unfolding are_pending
  left_kept e = (both_true (is_pending cs (pending_in cs (drop at s))) (are_pending cs (all_pending_in (left - 1) cs (drop (at + 27) s))) (rw (pending_step left cs at s h) at e)).1

  pub held_found : names_above [] cs ≡ true → are_pending cs (all_pending_in left cs (drop at s)) ≡ true → same_id (id_from (area at 16 s)) i ≡ true
      → held_from cs k i (all_pending_in left cs (drop at s)) ≡ Some (held_at k (get_or s (at + 16) 0) (le_value (area (at + 17) 8 s)) (le_value (area (at + 25) 2 s)))
  unfolding p later are_pending
  held_found r a e =
      let x = both_true (is_pending cs p) (are_pending cs later) (rw (pending_step left cs at s h) at a) in
      let c : place_of_name p.consumer cs ≡ get_or s (at + 16) 0 =
      ap (λ (n : List ℕ). place_of_name n cs) (consumer_of cs at s)
      ∙ place_among cs r (get_or s (at + 16) 0) (ap (λ (n : List ℕ). is_among n cs) (sym (consumer_of cs at s)) ∙ (entry cs p x.0).among) in
      let t = time_of cs at s in
      let n = count_of_lem cs at s in
      let q : k + 0 ≡ k = omega arith in
      ap (held_from cs k i) (pending_step left cs at s h)
      ∙ held_here e
      ∙ (λ j. Some (held_at (q j) (c j) (t j) (n j)))
    where
      held_here : same_id (id_from (area at 16 s)) i ≡ true → held_from cs k i (p ∷ later) ≡ Some (held_at (k + 0) (place_of_name p.consumer cs) p.time p.count)
      held_here f = unfold place_of_id find_pending in (rw (id_of_lem cs at s, f))

pub held_done : (cs : List (List ℕ)) (k : ℕ) (i : Id) (left at : ℕ) (s : List ℕ) → left ≤ 0 → held_from cs k i (all_pending_in left cs (drop at s)) ≡ None
unfolding find_pending
held_done cs k i left at s h = ap (held_from cs k i) (pending_done left cs (drop at s) h)

-- a consumer's next entry among the entries that are left
next_case : (after : Id) (p : Pending) (xs : List Pending) (t : Bool)
    → first_above after (pick t (p ∷ xs) xs) ≡ pick (both t (below after p.id)) (Some p) (first_above after xs)
unfolding first_above
next_case after p xs true = refl
next_case after p xs false = refl

abbrev pub next_from : List ℕ → Id → List Pending → Option Pending
next_from c after ps = first_above after (pending_of c ps)

next_step : (c : List ℕ) (after : Id) (p : Pending) (ps : List Pending)
    → next_from c after (p ∷ ps) ≡ pick (both (same c p.consumer) (below after p.id)) (Some p) (next_from c after ps)
unfolding pending_of
next_step c after p ps = next_case after p (pending_of c ps) (same c p.consumer)

-- the test of the code
module _ (cs : List (List ℕ)) (rising : names_above [] cs ≡ true) (k : ℕ) (low : k < length cs) (after : Id) (left at : ℕ) (s : List ℕ) (h : 0 < left) where
  next_tested : (t : Bool) → both (eqb (get_or (drop at s) 16 0) k) (below after (entry_id (drop at s))) ≡ t
      → next_from (get_or cs k []) after (all_pending_in left cs (drop at s))
      ≡ pick t (Some (pending_in cs (drop at s))) (next_from (get_or cs k []) after (all_pending_in (left - 1) cs (drop (at + 27) s)))
  next_tested t e =
      let x : ℕ = get_or (drop at s) 16 0 in
      ap (next_from (get_or cs k []) after) (pending_step left cs at s h)
      ∙ next_step (get_or cs k []) after (pending_in cs (drop at s)) (all_pending_in (left - 1) cs (drop (at + 27) s))
      ∙ ap (λ (b : Bool). pick b (Some (pending_in cs (drop at s))) (next_from (get_or cs k []) after (all_pending_in (left - 1) cs (drop (at + 27) s))))
      (ap (λ (b : Bool). both b (below after (pending_in cs (drop at s)).id)) (same_in ∙ same_place cs rising k x low) ∙ id_in_lem ∙ e)
    where
      same_in : same (get_or cs k []) (pending_in cs (drop at s)).consumer ≡ same (get_or cs k []) (get_or cs (get_or (drop at s) 16 0) [])
      same_in = unfold pending_in in refl

      id_in_lem : both (eqb (get_or (drop at s) 16 0) k) (below after (pending_in cs (drop at s)).id) ≡ both (eqb (get_or (drop at s) 16 0) k) (below after (entry_id (drop at s)))
      id_in_lem = unfold pending_in in refl

  pub next_other : both (eqb (get_or (drop at s) 16 0) k) (below after (entry_id (drop at s))) ≡ false
      → next_from (get_or cs k []) after (all_pending_in left cs (drop at s)) ≡ next_from (get_or cs k []) after (all_pending_in (left - 1) cs (drop (at + 27) s))
  next_other e = next_tested false e

  pub next_found : both (eqb (get_or (drop at s) 16 0) k) (below after (entry_id (drop at s))) ≡ true
      → next_from (get_or cs k []) after (all_pending_in left cs (drop at s))
      ≡ entry_given (get_or cs k []) (Some (next_at (id_from (area at 16 s)) (le_value (area (at + 17) 8 s)) (le_value (area (at + 25) 2 s))))
  next_found e =
      let i = id_of_lem cs at s in
      let x : get_or (drop at s) 16 0 ≡ k = eqb-true (get_or (drop at s) 16 0) k (both_true (eqb (get_or (drop at s) 16 0) k) (below after (entry_id (drop at s))) e).0 in
      let c : (pending_in cs (drop at s)).consumer ≡ get_or cs k [] = consumer_of cs at s ∙ ap (λ (j : ℕ). get_or cs j []) (sym (get_or-drop at s 16 0) ∙ x) in
      let t = time_of cs at s in
      let n = count_of_lem cs at s in
      next_tested true e ∙ (λ j. Some (record { id = i j; consumer = c j; time = t j; count = n j }))

pub next_done : (c : List ℕ) (after : Id) (cs : List (List ℕ)) (left at : ℕ) (s : List ℕ) → left ≤ 0 → next_from c after (all_pending_in left cs (drop at s)) ≡ None
unfolding pending_of first_above
next_done c after cs left at s h = ap (next_from c after) (pending_done left cs (drop at s) h)

pub next_start : (s : List ℕ) (n : ℕ) (c : List ℕ) (after : Id) → n ≡ length (group_in s).pending
    → next_from c after (all_pending_in n (group_in s).consumers (drop 308 s)) ≡ next_pending c after (group_in s)
unfolding next_pending
next_start s n c after e = ap (next_from c after) (pending_from s n e)

-- an unknown consumer has none
pub next_unknown : (c : List ℕ) (after : Id) (g : Group) → Rules g → is_among c g.consumers ≡ false → next_pending c after g ≡ None
unfolding next_pending first_above
next_unknown c after g r e = ap (first_above after) (none_of c g.consumers g.pending e r.entries)
