-- Pairs and entries at a place, with their sizes: what the functions meet there. Assumes nothing.
use mathlib.Core.Path.{◌≡◌, refl, sym, ap, ap₂, ◌∙◌}
use mathlib.Core.Bool.{Bool, true, false}
use mathlib.Core.List.{List, [], ◌∷◌}
use Rattle.std.proofs.Common.{Option, Some, None}
use Prim.Native.Nat.{ℕ, suc, ◌+◌, ◌-◌, ◌≤◌, ◌<◌}
use native.Mathlib.Omega.{arith}
use lib.Dec.{leb}
use lib.ListN.{length, drop, length-append}
use borrow.Author.Tests.{le-leb, lt-leb, leb-true, lt-ltb}
use Rattle.octets.specs.Maybe.{◌>>=◌, ◌>>◌, need}
use Rattle.octets.specs.Bytes.{Bytes}
use Rattle.octets.specs.Place.{area}
use Rattle.octets.proofs.Laws.{length_area, answered, some_is, both_true, both_of, bytes_drop}
use Rattle.id.specs.declared.Id.{Id}
use Rattle.id.specs.Id.{is_id}
use Rattle.listpack.specs.Element.{element, element_size}
use Rattle.listpack.specs.Listpack.{elements}
use Rattle.listpack.proofs.Laws.{element_bounds}
use Rattle.slip.specs.Pair.{Pair, pair, are_pairs}
use Rattle.slip.specs.Slip.{slip_pairs}
use Rattle.slip.proofs.Laws.{length_pairs}
use Rattle.node.specs.Message.{Message, message, fields_of, values_of, is_pair_count, is_message}
use Rattle.node.specs.Step.{fits_alone}
use Rattle.node.specs.Answer.{size_of}
use Rattle.node.proofs.Laws.{size_alone}
use Rattle.resp.specs.Reply.{head, bulk, bulks, opening, entry}
use Rattle.resp.specs.Parse.{Got, gives, opening_of, cut_opening, cut_pairs, cut_entry}
use Rattle.resp.proofs.Laws.{opening_is, pairs_is, entry_is}
use Rattle.resp_read.specs.Answer.{opening_at, sized, sized_by, pairs_at, id_found, entry_by, entry_at, bulk_at}
use Rattle.resp_read.specs.declared.entry.OpeningFound.{OpeningFound}
use Rattle.resp_read.specs.declared.entry.Sized.{Sized}
use Rattle.resp_read.specs.declared.entry.IdFound.{IdFound}
use Rattle.resp_read.proofs.Places.{Left, left, missing}
use Rattle.resp_read.proofs.Parts.{place_of_lem, IsBulk, no_bulk}
use Rattle.resp_read.proofs.Openings.{opening_left}

-- what a string takes as an element
pub string_size_lem : (x : List ℕ) → length x ≤ 1000 → (r : ℕ) → r ≡ element_size x → (r ≡ length (element x)) × (r ≤ 1009)
unfolding element_size
string_size_lem x h r e =
    let q : r ≡ length (element x) = e ∙ simp (lt-ltb (length x) 4096 (omega arith)) in
    (q, omega (arith, element_bounds x))

size_more : (x : List ℕ) (xs : List (List ℕ)) → size_of (x ∷ xs) ≡ length (element x) + size_of xs
unfolding size_of elements
size_more x xs = length-append (element x) (elements xs)

pub string_length : {s : List ℕ} {at len from : ℕ} → IsBulk s at len from → length (area from len s) ≡ len
string_length {s} {at} {len} {from} k = length_area from len s (omega (arith, k.within))

-- a pair has bytes
some_pair : (ps : List Pair) → 1 ≤ length ps → 0 < length (bulks ps)
unfolding bulks bulk head
some_pair [] h = omega arith
some_pair (p ∷ ps) h = omega arith

-- a pair and others: f is its field, v its value
abbrev pub pair_before : List ℕ → List ℕ → Option (Got (List Pair)) → Option (Got (List Pair))
pair_before x y o = o >>= (λ (c : Got (List Pair)). Some (gives (pair x y ∷ c.got) c.rest))

module _ (s : List ℕ) (n at : ℕ) (more : 0 < n) where
  one_more : cut_pairs n (drop at s) ≡ cut_pairs (suc (n - 1)) (drop at s)
  one_more = let q : n ≡ suc (n - 1) = omega arith in ap (λ (k : ℕ). cut_pairs k (drop at s)) q

  pub no_field : None ≡ bulk_at s at → cut_pairs n (drop at s) ≡ None
  unfolding cut_pairs
  no_field e = rw (one_more, no_bulk s at e)

  module _ {i from : ℕ} (f : IsBulk s at i from) where
    pub no_value : None ≡ bulk_at s (from + i + 2) → cut_pairs n (drop at s) ≡ None
    unfolding cut_pairs
    no_value e = rw (one_more, f.is, no_bulk s (from + i + 2) e)

    pub pair_first : {j start : ℕ} → IsBulk s (from + i + 2) j start → cut_pairs n (drop at s) ≡ pair_before (area from i s) (area start j s) (cut_pairs (n - 1) (drop (start + j + 2) s))
    unfolding cut_pairs
    pair_first v = rw (one_more, f.is, v.is)

-- n pairs from a place on, beside a and b that are counted
module _ (a b : ℕ) (s : List ℕ) (n at : ℕ) where
  pub pairs_end : n ≡ 0 → at ≤ length s → pairs_at a b s n at ≡ Some (sized a b at)
  unfolding pairs_at cut_pairs size_of elements slip_pairs
  pairs_end z h =
      let p : a + 0 + 0 ≡ a = omega arith in
      let q : b + 0 ≡ b = omega arith in
      rw z (ap₂ (λ (i j : ℕ). Some (sized i j (length s - length (drop at s)))) p q ∙ ap (λ (k : ℕ). Some (sized a b k)) (place_of_lem s at h))

  pub pairs_none : cut_pairs n (drop at s) ≡ None → pairs_at a b s n at ≡ None
  unfolding pairs_at
  pairs_none e = rw e

  module _ (more : 0 < n) {i from j start : ℕ} (f : IsBulk s at i from) (v : IsBulk s (from + i + 2) j start) where
    turned : (o : Option (Got (List Pair))) (x y : ℕ) → x ≡ length (element (area from i s)) → y ≡ length (element (area start j s))
        → sized_by a b s (pair_before (area from i s) (area start j s) o) ≡ sized_by (a + (x + y)) (b + (4 + i + j)) s o
    turned None x y p q = refl
    turned (Some c) x y p q =
        let fs = size_more (area from i s) (fields_of c.got) in
        let vs = size_more (area start j s) (values_of c.got) in
        let l = length_pairs (pair (area from i s) (area start j s)) c.got in
        ap₂ (λ (k m : ℕ). Some (sized k m (length s - length c.rest))) (omega (arith, fs, vs)) (omega (arith, l, string_length f, string_length v))

    -- m is how many are left
    pub pairs_turn : (m x y : ℕ) → m ≡ n - 1 → x ≡ length (element (area from i s)) → y ≡ length (element (area start j s))
        → pairs_at a b s n at ≡ pairs_at (a + (x + y)) (b + (4 + i + j)) s m (start + j + 2)
    unfolding pairs_at
    pairs_turn m x y e p q = rw (pair_first s n at more f v, e) (turned (cut_pairs (n - 1) (drop (start + j + 2) s)) x y p q)

-- what opening says
pub record OpeningAt (s : List ℕ) (at : ℕ) (o : OpeningFound) : Type 0 where
  pub is : cut_opening (drop at s) ≡ Some (gives (opening_of o.id o.pairs) (drop o.next s))
  pub within : o.next ≤ length s
  pub id_is : is_id o.id ≡ true
  pub count : is_pair_count o.pairs ≡ true
  pub many : 1 ≤ o.pairs
  pub few : o.pairs ≤ 32

module _ (s : List ℕ) (at : ℕ) where
  pub no_opening : None ≡ opening_at s at → cut_opening (drop at s) ≡ None
  unfolding opening_at
  no_opening = missing (cut_opening (drop at s)) _

  pub opening_at_lem : (o : OpeningFound) → Some o ≡ opening_at s at → OpeningAt s at o
  unfolding opening_at
  opening_at_lem o e =
      answered (cut_opening (drop at s)) _ (sym e) λ c p q.
      let l = opening_left s at c p in
      let k = opening_is (drop at s) c p in
      let b = both_true (leb 1 c.got.pairs) (leb c.got.pairs 32) k.count in
      rw (← some_is q) (record {
        is = p ∙ ap (λ (r : List ℕ). Some (gives c.got r)) l.is;
        within = omega arith;
        id_is = k.id;
        count = k.count;
        many = leb-true 1 c.got.pairs b.0;
        few = leb-true c.got.pairs 32 b.1;
      })

-- what pairs says of one pair or more
pub record PairsAt (s : List ℕ) (at n : ℕ) (p : Sized) : Type 0 where
  pub got : List Pair
  pub is : cut_pairs n (drop at s) ≡ Some (gives got (drop p.next s))
  pub within : p.next ≤ length s
  pub alone_is : p.alone ≡ 23 + size_of (fields_of got) + size_of (values_of got)
  pub slip_is : p.slip ≡ 1 + length (slip_pairs got)

module _ (s : List ℕ) (at n : ℕ) where
  pub no_pairs : None ≡ pairs_at 23 1 s n at → cut_pairs n (drop at s) ≡ None
  unfolding pairs_at
  no_pairs = missing (cut_pairs n (drop at s)) _

  module _ (many : 1 ≤ n) where
    pub pairs_left : (c : Got (List Pair)) → cut_pairs n (drop at s) ≡ Some c → Left s at c.rest
    pairs_left c e =
        let k = pairs_is n (drop at s) c e in
        left s at (bulks c.got) c.rest k.text (some_pair c.got (omega (arith, k.count)))

    pub pairs_at_lem : (p : Sized) → Some p ≡ pairs_at 23 1 s n at → PairsAt s at n p
    unfolding pairs_at
    pairs_at_lem p e =
        answered (cut_pairs n (drop at s)) _ (sym e) λ c k q.
        let l = pairs_left c k in
        rw (← some_is q) (record { got = c.got; is = k ∙ ap (λ (r : List ℕ). Some (gives c.got r)) l.is; within = omega arith; alone_is = refl; slip_is = refl })

-- a message is large where its strings are
fits_by : (i : Id) (ps : List Pair) (n : ℕ) → is_message (message i ps) ≡ true → n ≡ 23 + size_of (fields_of ps) + size_of (values_of ps) → fits_alone (message i ps) ≡ leb n 4095
unfolding fits_alone
fits_by i ps n m e = ap (λ (k : ℕ). leb k 4095) (size_alone (message i ps) m ∙ sym e)

-- an entry: its opening o, its pairs p
module _ (s : List ℕ) (at : ℕ) where
  pub entry_none : None ≡ opening_at s at → entry_at s at ≡ None
  unfolding entry_at cut_entry
  entry_none e = rw (no_opening s at e)

  module _ (o : OpeningFound) (e : Some o ≡ opening_at s at) where
    pub entry_no_pairs : None ≡ pairs_at 23 1 s o.pairs o.next → entry_at s at ≡ None
    unfolding entry_at cut_entry
    entry_no_pairs q = rw ((opening_at_lem s at o e).is, no_pairs s o.next o.pairs q)

    module _ (p : Sized) (q : Some p ≡ pairs_at 23 1 s o.pairs o.next) (bytes : Bytes s) where
      rules : (ps : List Pair) → cut_pairs o.pairs (drop o.next s) ≡ Some (gives ps (drop p.next s)) → is_message (message o.id ps) ≡ true
      unfolding is_message are_pairs
      rules ps w =
          let k = opening_at_lem s at o e in
          let y = pairs_is o.pairs (drop o.next s) (gives ps (drop p.next s)) w in
          let n : is_pair_count (length ps) ≡ true = rw y.count k.count in
          both_of k.id_is (both_of n (y.strings (bytes_drop o.next bytes)).0)

      entry_by_lem : (t : Bool) → leb p.alone 4095 ≡ t → entry_at s at ≡ entry_by s (need t >> Some (gives (message o.id (pairs_at_lem s o.next o.pairs (opening_at_lem s at o e).many p q).got) (drop p.next s)))
      unfolding entry_at cut_entry
      entry_by_lem t w =
          let k = opening_at_lem s at o e in
          let y = pairs_at_lem s o.next o.pairs k.many p q in
          rw (k.is, y.is, fits_by o.id y.got p.alone (rules y.got y.is) y.alone_is, w)

      pub entry_large : 4095 < p.alone → entry_at s at ≡ None
      entry_large w = entry_by_lem false (lt-leb p.alone 4095 w)

      pub entry_there : p.alone ≤ 4095 → entry_at s at ≡ Some (id_found o.id p.next)
      entry_there w =
          entry_by_lem true (le-leb p.alone 4095 w)
          ∙ ap (λ (k : ℕ). Some (id_found o.id k)) (place_of_lem s p.next (pairs_at_lem s o.next o.pairs (opening_at_lem s at o e).many p q).within)

-- what entry says
pub record EntryAt (s : List ℕ) (at : ℕ) (x : IdFound) : Type 0 where
  pub got : Message
  pub is : cut_entry (drop at s) ≡ Some (gives got (drop x.next s))
  pub within : x.next ≤ length s
  pub id_is : got.id ≡ x.id

module _ (s : List ℕ) (at : ℕ) where
  entry_left : (c : Got Message) → cut_entry (drop at s) ≡ Some c → Left s at c.rest
  unfolding entry opening head
  entry_left c e = left s at (entry c.got) c.rest (entry_is (drop at s) c e).0 (omega arith)

  pub no_entry : None ≡ entry_at s at → cut_entry (drop at s) ≡ None
  unfolding entry_at
  no_entry = missing (cut_entry (drop at s)) _

  pub entry_at_lem : (x : IdFound) → Some x ≡ entry_at s at → EntryAt s at x
  unfolding entry_at
  entry_at_lem x e =
      answered (cut_entry (drop at s)) _ (sym e) λ c p q.
      let l = entry_left c p in
      rw (← some_is q) (record { got = c.got; is = p ∙ ap (λ (r : List ℕ). Some (gives c.got r)) l.is; within = omega arith; id_is = refl })
