-- One message of a range reply: where it lies, and its slip. Assumes nothing.
use mathlib.Core.Path.{◌≡◌, refl, sym, ap, ap₂, ◌∙◌}
use mathlib.Core.Bool.{false}
use mathlib.Core.List.{List, [], ◌∷◌, ◌++◌}
use Prim.Native.Nat.{ℕ, zero, suc, ◌+◌, ◌-◌, ◌≤◌, ◌<◌}
use native.Mathlib.Omega.{arith}
use lib.Dec.{eqb}
use lib.ListN.{length, take, drop, get_or, length-append}
use borrow.Author.Tests.{le-leb, lt-leb}
use Rattle.std.proofs.Common.{is_none, IsSome, Option, Some, None, Ok, Err}
use Rattle.refusal.specs.declared.Refusal.TheVariants.{ShortOutput}
use Rattle.octets.specs.Place.{area, put}
use Rattle.octets.proofs.Laws.{pick_eq, needed, answered, some_is, part_is, put_append}
use Rattle.id.specs.declared.Id.{Id}
use Rattle.id.specs.Id.{least, below}
use Rattle.slip.specs.Pair.{Pair}
use Rattle.slip.specs.Slip.{slip_string, slip_pairs, slip}
use Rattle.slip.proofs.Laws.{length_string, length_slip}
use Rattle.node.specs.Message.{Message, message}
use Rattle.node.specs.Step.{fits_alone}
use Rattle.node.proofs.Laws.{never}
use Rattle.resp.specs.Reply.{Reply, range, integer, error, is_count, is_refusal_number, message_at}
use Rattle.resp.specs.Parse.{Got, gives, Opening, opening_of, cut_byte, cut_head, cut_opening, cut_pairs, cut_entry, cut_entries, parse_range, parse_integer, parse_error, parse_reply}
use Rattle.resp.proofs.Laws.{pairs_is, entries_is}
use Rattle.resp_read.specs.Answer.{head_at, bulk_at, opening_at, pairs_at, entries_end, read_by, pairs_by, picked_by, picked_output}
use Rattle.resp_read.specs.declared.part.Found.{Found}
use Rattle.resp_read.specs.declared.entry.OpeningFound.{OpeningFound}
use Rattle.resp_read.specs.declared.entry.Sized.{Sized}
use Rattle.resp_read.specs.declared.reading.ReplyRead.TheVariants.{Range}
use Rattle.resp_read.specs.declared.message.Picked.{Picked}
use Rattle.resp_read.proofs.Parts.{no_head, head_at_lem, IsBulk}
use Rattle.resp_read.proofs.Sizes.{string_length, pair_before, no_field, no_value, pair_first, no_opening, opening_at_lem, no_pairs, pairs_at_lem}
use Rattle.resp_read.proofs.Replies.{no_entries, entries_at}

-- the entries before a place are parsed too, and the next one is the message there
pub record Before (k : ℕ) (i : Id) (t : List ℕ) (ms : List Message) : Type 0 where
  pub passed : Got (List Message)
  pub next : Got Message
  pub passed_is : cut_entries k i t ≡ Some passed
  pub next_is : cut_entry passed.rest ≡ Some next
  pub message_is : message_at k ms ≡ Some next.got

pub before : (k n : ℕ) (i : Id) (t : List ℕ) (c : Got (List Message)) → cut_entries n i t ≡ Some c → k < n → Before k i t c.got
unfolding cut_entries message_at
before k zero i t c e h = absurd (omega arith)
before zero (suc n) i t c e h =
    answered (cut_entry t) _ e λ m p e. needed (below i m.got.id) _ e λ q e. answered (cut_entries n m.got.id m.rest) _ e λ ms u e.
    rw (← some_is e) (record { passed = gives [] t; next = m; passed_is = refl; next_is = p; message_is = refl })
before (suc k) (suc n) i t c e h =
    answered (cut_entry t) _ e λ m p e. needed (below i m.got.id) _ e λ q e. answered (cut_entries n m.got.id m.rest) _ e λ ms u e.
    let x = before k n m.got.id m.rest ms u (omega arith) in
    rw (← some_is e) (record {
      passed = gives (m.got ∷ x.passed.got) x.passed.rest;
      next = x.next;
      passed_is = rw (p, q, x.passed_is);
      next_is = x.next_is;
      message_is = x.message_is;
    })

pub past_all : (k : ℕ) (ms : List Message) → length ms ≤ k → message_at k ms ≡ None
unfolding message_at
past_all k [] h = refl
past_all zero (m ∷ ms) h = absurd (omega arith)
past_all (suc k) (m ∷ ms) h = past_all k ms (omega arith)

-- what read says of a range reply
pub record IsRange (s : List ℕ) (n : ℕ) : Type 0 where
  pub messages : List Message
  pub parsed : parse_reply s ≡ Some (range messages)
  pub count : length messages ≡ n

pub is_range : (s : List ℕ) (n : ℕ) → read_by (parse_reply s) ≡ Some (Range n) → IsRange s n
is_range s n e = go (parse_reply s) refl e
  where
    go : (o : Option Reply) → parse_reply s ≡ o → read_by o ≡ Some (Range n) → IsRange s n
    go None p q = absurd (let z : ◌≡◌ {A = ℕ} 0 1 = cc in omega arith)
    go (Some (range ms)) p q = record { messages = ms; parsed = p; count = cc }
    go (Some (integer k)) p q = absurd (let z : ◌≡◌ {A = ℕ} 0 1 = cc in omega arith)
    go (Some (error k)) p q = absurd (let z : ◌≡◌ {A = ℕ} 0 1 = cc in omega arith)

not_integer : (s : List ℕ) (ms : List Message) → parse_integer s ≡ Some (range ms) → ⊥
unfolding parse_integer
not_integer s ms e =
    answered (cut_head 58 s) _ e λ n p e. needed (is_count n.got) _ e λ q e. needed (eqb (length n.rest) 0) _ e λ r e.
    let z : ◌≡◌ {A = ℕ} 0 1 = cc in omega arith

not_error : (s : List ℕ) (ms : List Message) → parse_error s ≡ Some (range ms) → ⊥
unfolding parse_error
not_error s ms e =
    answered (cut_byte 45 s) _ e λ a p e. answered (cut_byte 69 a) _ e λ b p e. answered (cut_byte 82 b) _ e λ c p e. answered (cut_byte 82 c) _ e λ d p e.
    answered (cut_head 32 d) _ e λ n p e. needed (is_refusal_number n.got) _ e λ q e. needed (eqb (length n.rest) 0) _ e λ r e.
    let z : ◌≡◌ {A = ℕ} 0 1 = cc in omega arith

by_range : (s : List ℕ) (ms : List Message) → parse_reply s ≡ Some (range ms) → parse_range s ≡ Some (range ms)
unfolding parse_reply
by_range s ms e =
    let P : Option Reply → Type 0 = λ o. o ≡ Some (range ms) → parse_range s ≡ Some (range ms) in
    pick_eq P (get_or s 0 0) 42 _ _ (λ q e. e) (λ q e. pick_eq P (get_or s 0 0) 58 _ _ (λ q e. absurd (not_integer s ms e)) (λ q e. absurd (not_error s ms e)) e) e

-- what can't be missing is there
pub is_there : {A : Type 0} (r o : Option A) → r ≡ o → (None ≡ o → ⊥) → IsSome r
is_there None o e h = absurd (h e)
is_there (Some a) o e h = refl

-- what is got is one
same_some : {A : Type 0} {o : Option A} {a b : A} → o ≡ Some a → o ≡ Some b → a ≡ b
same_some p q = some_is (sym p ∙ q)

-- how a range reply begins, and the entry at a place
pub record First (s : List ℕ) (place : ℕ) (ms : List Message) (f : Found) : Type 0 where
  pub within : f.next ≤ length s
  pub entry_is : Before place least (drop f.next s) ms

-- f is the head
module _ (s : List ℕ) (n place : ℕ) (x : IsRange s n) where
  pub first_some : None ≡ head_at s 0 42 → ⊥
  unfolding parse_range
  first_some p = answered (cut_head 42 s) _ (by_range s x.messages x.parsed) λ c i e. never i (no_head s 0 42 p)

  pub first_at_lem : place < n → (f : Found) → Some f ≡ head_at s 0 42 → First s place x.messages f
  unfolding parse_range
  first_at_lem h f p =
      answered (cut_head 42 s) _ (by_range s x.messages x.parsed) λ c i e. answered (cut_entries c.got least c.rest) _ e λ d j e. needed (eqb (length d.rest) 0) _ e λ l e.
      let y = head_at_lem s 0 42 f p in
      let w : c.rest ≡ drop f.next s = ap (λ (g : Got ℕ). g.rest) (same_some i y.is) in
      let m : d.got ≡ x.messages = cc in
      let k = entries_is c.got least c.rest d j in
      let r = before place c.got least c.rest d j (omega (arith, k.count, ap length m, x.count)) in
      record { within = y.within; entry_is = rw (w, m) at r }

-- its opening, and its pairs
pub record Opened (s : List ℕ) (place : ℕ) (ms : List Message) (o : OpeningFound) : Type 0 where
  pub some_pairs : Got (List Pair)
  pub pairs_are : cut_pairs o.pairs (drop o.next s) ≡ Some some_pairs
  pub message_is : message_at place ms ≡ Some (message o.id some_pairs.got)
  pub within : o.next ≤ length s
  pub many : 1 ≤ o.pairs
  pub few : o.pairs ≤ 32

module _ (s : List ℕ) (place : ℕ) (ms : List Message) where
  module _ (f : Found) (x : First s place ms f) where
    pub entries_some : None ≡ entries_end s place least f.next → ⊥
    entries_some p = never x.entry_is.passed_is (no_entries s place least f.next p)

    module _ (from : ℕ) (p : Some from ≡ entries_end s place least f.next) where
      entry_there : (m : Got Message) × (cut_entry (drop from s) ≡ Some m) × (message_at place ms ≡ Some m.got)
      entry_there =
          let b = x.entry_is in
          let t = entries_at s place least f.next x.within from p in
          let r : b.passed.rest ≡ drop from s = ap (λ (g : Got (List Message)). g.rest) (same_some b.passed_is t.is) in
          (b.next, rw r at b.next_is, b.message_is)

      pub opening_some : None ≡ opening_at s from → ⊥
      unfolding cut_entry
      opening_some q = answered (cut_opening (drop from s)) _ entry_there.1 λ c i e. never i (no_opening s from q)

      pub opened : (o : OpeningFound) → Some o ≡ opening_at s from → Opened s place ms o
      unfolding cut_entry
      opened o q =
          let y = entry_there in
          answered (cut_opening (drop from s)) _ y.1 λ c i e. answered (cut_pairs c.got.pairs c.rest) _ e λ ps j e. needed (fits_alone (message c.got.id ps.got)) _ e λ l e.
          let k = opening_at_lem s from o q in
          let w : c ≡ gives (opening_of o.id o.pairs) (drop o.next s) = same_some i k.is in
          let m : y.0.got ≡ message c.got.id ps.got = ap (λ (g : Got Message). g.got) (sym (some_is e)) in
          record {
            some_pairs = ps;
            pairs_are = rw w at j;
            message_is = y.2 ∙ ap Some (m ∙ ap (λ (g : Got Opening). message g.got.id ps.got) w);
            within = k.within;
            many = k.many;
            few = k.few;
          }

  -- the slip of its pairs
  module _ (o : OpeningFound) (x : Opened s place ms o) where
    pub pairs_some : None ≡ pairs_at 23 1 s o.pairs o.next → ⊥
    pairs_some p = never x.pairs_are (no_pairs s o.next o.pairs p)

    pub slip_size : (q : Sized) → Some q ≡ pairs_at 23 1 s o.pairs o.next → q.slip ≡ length (slip x.some_pairs.got)
    slip_size q p =
        let k = pairs_at_lem s o.next o.pairs x.many q p in
        let m : k.got ≡ x.some_pairs.got = ap (λ (g : Got (List Pair)). g.got) (same_some k.is x.pairs_are) in
        k.slip_is ∙ sym (length_slip k.got) ∙ ap (λ (ps : List Pair). length (slip ps)) m

abbrev pub picked : Id → ℕ → Picked
picked i size = record { id = i; size = size }

-- what is answered
module _ (place : ℕ) (out s : List ℕ) (ms : List Message) (e : parse_reply s ≡ Some (range ms)) where
  pub picked_nothing : length ms ≤ place → (Ok None ≡ picked_by (parse_reply s) place (length out)) × (out ≡ picked_output (parse_reply s) place out)
  picked_nothing h = rw (e, past_all place ms h) (refl, refl)

  module _ (i : Id) (ps : List Pair) (m : message_at place ms ≡ Some (message i ps)) where
    pub picked_short : length out < length (slip ps) → (Err ShortOutput ≡ picked_by (parse_reply s) place (length out)) × (out ≡ picked_output (parse_reply s) place out)
    picked_short h = rw (e, m, lt-leb (length (slip ps)) (length out) h) (refl, refl)

    pub picked_message_lem : length (slip ps) ≤ length out → (size : ℕ) → size ≡ length (slip ps) → (d : List ℕ) → d ≡ put out 0 (slip ps)
        → (Ok (Some (picked i size)) ≡ picked_by (parse_reply s) place (length out)) × (d ≡ picked_output (parse_reply s) place out)
    picked_message_lem h size p d q = rw (e, m, le-leb (length (slip ps)) (length out) h) (ap (λ (n : ℕ). Ok (Some (picked i n))) p, q)

-- what is left to write of n pairs from a place on
unfoldable pub slip_left : List ℕ → ℕ → ℕ → List ℕ
slip_left s n at = slip_pairs (pairs_by (cut_pairs n (drop at s)))

pub slip_none : (s : List ℕ) (n at : ℕ) → n ≡ 0 → slip_left s n at ≡ []
unfolding slip_left cut_pairs slip_pairs
slip_none s n at z = rw z

-- the first pair, and the k others
pub record Turn (s : List ℕ) (n k at i from j start : ℕ) : Type 0 where
  pub field : IsBulk s at i from
  pub value : IsBulk s (from + i + 2) j start
  pub left_is : slip_left s n at ≡ slip_string (area from i s) ++ (slip_string (area start j s) ++ slip_left s k (start + j + 2))
  pub more : is_none (cut_pairs k (drop (start + j + 2) s)) ≡ false

there_some : {A : Type 0} {P : Type 0} (o : Option A) → is_none o ≡ false → ((a : A) → o ≡ Some a → P) → P
there_some None e k = absurd (let z : ◌≡◌ {A = ℕ} 0 1 = cc in omega arith)
there_some (Some a) e k = k a refl

module _ (s : List ℕ) (n at : ℕ) (more : 0 < n) (h : is_none (cut_pairs n (drop at s)) ≡ false) where
  not_none : cut_pairs n (drop at s) ≡ None → ⊥
  not_none e = there_some (cut_pairs n (drop at s)) h λ c t. never t e

  pub field_there : None ≡ bulk_at s at → ⊥
  field_there e = not_none (no_field s n at more e)

  module _ {i from : ℕ} (f : IsBulk s at i from) where
    pub value_there : None ≡ bulk_at s (from + i + 2) → ⊥
    value_there e = not_none (no_value s n at more f e)

    module _ {j start : ℕ} (v : IsBulk s (from + i + 2) j start) where
      others : (o : Option (Got (List Pair))) → cut_pairs n (drop at s) ≡ pair_before (area from i s) (area start j s) o
          → (is_none o ≡ false) × (slip_left s n at ≡ slip_string (area from i s) ++ (slip_string (area start j s) ++ slip_pairs (pairs_by o)))
      unfolding slip_left slip_pairs
      others None e = absurd (not_none e)
      others (Some c) e = (refl, ap (λ (o : Option (Got (List Pair))). slip_pairs (pairs_by o)) e)

      pub turn : (k : ℕ) → k ≡ n - 1 → Turn s n k at i from j start
      unfolding slip_left
      turn k e = let t = others (cut_pairs (n - 1) (drop (start + j + 2) s)) (pair_first s n at more f v) in rw e (record { field = f; value = v; more = t.0; left_is = t.1 })

module _ {s : List ℕ} {n k at i from j start : ℕ} (t : Turn s n k at i from j start) where
  pub turn_length : length (slip_left s n at) ≡ 4 + i + j + length (slip_left s k (start + j + 2))
  turn_length =
      omega (
        arith,
        ap length t.left_is,
        length-append (slip_string (area from i s)) (slip_string (area start j s) ++ slip_left s k (start + j + 2)),
        length-append (slip_string (area start j s)) (slip_left s k (start + j + 2)),
        length_string (area from i s),
        length_string (area start j s),
        string_length t.field,
        string_length t.value,
      )

-- a bulk string as it is lent to be written, and what is left then
module _ {s : List ℕ} {at len from : ℕ} (k : IsBulk s at len from) where
  pub lent_length : length (take (from + len - from) (drop from s)) ≡ len
  lent_length = ap length (part_is from len s) ∙ string_length k

  pub lent_put : (d e ys : List ℕ) (to j : ℕ) → j ≡ to + 2 + length (take (from + len - from) (drop from s))
      → e ≡ put d to (slip_string (take (from + len - from) (drop from s))) → to ≤ length d → put e j ys ≡ put d to (slip_string (area from len s) ++ ys)
  lent_put d e ys to j q p h =
      let l : j ≡ to + length (slip_string (area from len s)) = omega (arith, q, lent_length, length_string (area from len s), string_length k) in
      ap₂ (λ (x : List ℕ) (i : ℕ). put x i ys) (p ∙ ap (λ (x : List ℕ). put d to (slip_string x)) (part_is from len s)) l ∙ put_append d to (slip_string (area from len s)) ys h

-- the whole slip: the number of pairs, and what is left
pub slip_whole : (s : List ℕ) (n at : ℕ) → is_none (cut_pairs n (drop at s)) ≡ false → slip (pairs_by (cut_pairs n (drop at s))) ≡ n ∷ slip_left s n at
unfolding slip slip_left
slip_whole s n at h =
    there_some (cut_pairs n (drop at s)) h λ c t.
    let k : length (pairs_by (cut_pairs n (drop at s))) ≡ n = ap (λ (o : Option (Got (List Pair))). length (pairs_by o)) t ∙ (pairs_is n (drop at s) c t).count in
    ap (λ (m : ℕ). m ∷ slip_pairs (pairs_by (cut_pairs n (drop at s)))) k
