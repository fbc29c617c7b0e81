-- Entries one after the other, and whole replies: what the functions meet there. Assumes nothing.
use mathlib.Core.Path.{◌≡◌, refl, sym, ap, ◌∙◌}
use mathlib.Core.Bool.{true, false}
use mathlib.Core.List.{List, [], ◌∷◌, ◌++◌}
use Rattle.std.proofs.Common.{Option, Some, None}
use Prim.Native.Nat.{ℕ, suc, ◌-◌, ◌≤◌, ◌<◌}
use native.Mathlib.Omega.{arith}
use lib.Dec.{leb, eqb}
use lib.ListN.{length, take, drop, get_or, length-drop, take-append-drop}
use borrow.Author.Tests.{eq-eqb, ne_eqb, le-leb, lt-leb}
use Rattle.octets.specs.Pick.{both}
use Rattle.octets.specs.Maybe.{◌>>=◌, ◌>>◌, need}
use Rattle.octets.proofs.Laws.{answered}
use Rattle.id.specs.declared.Id.{Id}
use Rattle.id.specs.Id.{least, below}
use Rattle.node.specs.Message.{Message}
use Rattle.resp.specs.Reply.{Reply, error, entries}
use Rattle.resp.specs.Parse.{Got, gives, cut_byte, cut_head, cut_entries, parse_range, parse_integer, parse_error, parse_reply}
use Rattle.resp.proofs.Laws.{byte_is, entries_is}
use Rattle.resp_read.specs.Answer.{end_by, head_at, entry_at, entries_end, read_by}
use Rattle.resp_read.specs.declared.part.Found.{Found}
use Rattle.resp_read.specs.declared.entry.IdFound.{IdFound}
use Rattle.resp_read.specs.declared.reading.ReplyRead.TheVariants.{Range, Integer, Error}
use Rattle.resp_read.proofs.Places.{left_all_lem, There, there, missing}
use Rattle.resp_read.proofs.Parts.{place_of_lem, no_head, head_at_lem}
use Rattle.resp_read.proofs.Sizes.{no_entry, entry_at_lem}

-- n entries above i from a place on: x is the first
end_mapped : (s : List ℕ) (m : Message) (o : Option (Got (List Message))) → end_by s (o >>= (λ (c : Got (List Message)). Some (gives (m ∷ c.got) c.rest))) ≡ end_by s o
end_mapped s m None = refl
end_mapped s m (Some c) = refl

module _ (s : List ℕ) (n : ℕ) (i : Id) (at : ℕ) where
  pub entries_end_lem : n ≡ 0 → at ≤ length s → entries_end s n i at ≡ Some at
  unfolding entries_end cut_entries
  entries_end_lem z h = rw z (ap Some (place_of_lem s at h))

  module _ (more : 0 < n) where
    one_more : cut_entries n i (drop at s) ≡ cut_entries (suc (n - 1)) i (drop at s)
    one_more = let q : n ≡ suc (n - 1) = omega arith in ap (λ (k : ℕ). cut_entries k i (drop at s)) q

    pub entries_none : None ≡ entry_at s at → entries_end s n i at ≡ None
    unfolding entries_end cut_entries
    entries_none e = rw (one_more, no_entry s at e)

    module _ (x : IdFound) (e : Some x ≡ entry_at s at) where
      pub entries_fall : below i x.id ≡ false → entries_end s n i at ≡ None
      unfolding entries_end cut_entries
      entries_fall w = let k = entry_at_lem s at x e in rw (one_more, k.is, k.id_is, w)

      -- m is how many are left
      pub entries_turn : (m : ℕ) → m ≡ n - 1 → below i x.id ≡ true → entries_end s n i at ≡ entries_end s m x.id x.next
      unfolding entries_end cut_entries
      entries_turn m q w = let k = entry_at_lem s at x e in rw (one_more, k.is, k.id_is, w, q) (end_mapped s k.got (cut_entries (n - 1) x.id (drop x.next s)))

-- what entries says
module _ (s : List ℕ) (n : ℕ) (i : Id) (at : ℕ) where
  pub no_entries : None ≡ entries_end s n i at → cut_entries n i (drop at s) ≡ None
  unfolding entries_end
  no_entries = missing (cut_entries n i (drop at s)) _

  pub entries_at : at ≤ length s → (e : ℕ) → Some e ≡ entries_end s n i at → There s at (cut_entries n i (drop at s)) e
  unfolding entries_end
  entries_at k = there s at _ λ c q. left_all_lem s at (entries c.got) c.rest (entries_is n i (drop at s) c q).text k

-- a range reply: f is how many, e the place after the entries
module _ (s : List ℕ) where
  pub range_no_head : None ≡ head_at s 0 42 → read_by (parse_range s) ≡ None
  unfolding parse_range
  range_no_head p = rw (no_head s 0 42 p)

  module _ (f : Found) (p : Some f ≡ head_at s 0 42) where
    pub range_no_entries : None ≡ entries_end s f.value least f.next → read_by (parse_range s) ≡ None
    unfolding parse_range
    range_no_entries q = rw ((head_at_lem s 0 42 f p).is, no_entries s f.value least f.next q)

    module _ (e : ℕ) (q : Some e ≡ entries_end s f.value least f.next) where
      pub range_more : e < length s → read_by (parse_range s) ≡ None
      unfolding parse_range
      range_more z =
          let k = head_at_lem s 0 42 f p in
          let t = entries_at s f.value least f.next k.within e q in
          rw (k.is, t.is, ne_eqb (length (drop e s)) 0 (λ y. omega (arith, length-drop e s)))

      pub range_there : length s ≤ e → read_by (parse_range s) ≡ Some (Range f.value)
      unfolding parse_range
      range_there z =
          let k = head_at_lem s 0 42 f p in
          let t = entries_at s f.value least f.next k.within e q in
          let c = entries_is f.value least (drop f.next s) (gives t.got (drop e s)) t.is in
          rw (k.is, t.is, eq-eqb (length (drop e s)) 0 (omega (arith, length-drop e s))) (ap (λ (n : ℕ). Some (Range n)) c.count)

-- an integer reply
module _ (s : List ℕ) where
  pub integer_none : None ≡ head_at s 0 58 → read_by (parse_integer s) ≡ None
  unfolding parse_integer
  integer_none p = rw (no_head s 0 58 p)

  module _ (f : Found) (p : Some f ≡ head_at s 0 58) where
    pub integer_large : 6400 < f.value → read_by (parse_integer s) ≡ None
    unfolding parse_integer
    integer_large z = rw ((head_at_lem s 0 58 f p).is, lt-leb f.value 6400 z)

    pub integer_more : f.value ≤ 6400 → f.next < length s → read_by (parse_integer s) ≡ None
    unfolding parse_integer
    integer_more k z = rw ((head_at_lem s 0 58 f p).is, le-leb f.value 6400 k, ne_eqb (length (drop f.next s)) 0 (λ y. omega (arith, length-drop f.next s)))

    pub integer_there : f.value ≤ 6400 → length s ≤ f.next → read_by (parse_integer s) ≡ Some (Integer f.value)
    unfolding parse_integer
    integer_there k z = rw ((head_at_lem s 0 58 f p).is, le-leb f.value 6400 k, eq-eqb (length (drop f.next s)) 0 (omega (arith, length-drop f.next s)))

-- an error reply: "-ERR", then f
abbrev pub err : List ℕ
err = 45 ∷ 69 ∷ 82 ∷ 82 ∷ []

error_starts : (s : List ℕ) (x : Reply) → parse_error s ≡ Some x → take 4 s ≡ err
unfolding parse_error
error_starts s x e =
    answered (cut_byte 45 s) _ e λ a p e. answered (cut_byte 69 a) _ e λ b q e. answered (cut_byte 82 b) _ e λ c r e. answered (cut_byte 82 c) _ e λ d t e.
    ap (take 4) (byte_is 45 s a p ∙ ap (λ (l : List ℕ). 45 ∷ l) (byte_is 69 a b q ∙ ap (λ (l : List ℕ). 69 ∷ l) (byte_is 82 b c r ∙ ap (λ (l : List ℕ). 82 ∷ l) (byte_is 82 c d t))))

module _ (s : List ℕ) where
  pub not_error : (take 4 s ≡ err → ⊥) → read_by (parse_error s) ≡ None
  not_error h = go (parse_error s) refl
    where
      go : (o : Option Reply) → parse_error s ≡ o → read_by o ≡ None
      go None e = refl
      go (Some x) e = absurd (h (error_starts s x e))

  module _ (t : take 4 s ≡ err) where
    starts : s ≡ err ++ drop 4 s
    starts = sym (take-append-drop 4 s) ∙ ap (λ (l : List ℕ). l ++ drop 4 s) t

    after : (o : Option (Got ℕ)) → cut_head 32 (drop 4 s) ≡ o → parse_error s ≡ (do
      n ← o
      need (both (leb 1 n.got) (leb n.got 18))
      need (eqb (length n.rest) 0)
      Some (error n.got))
    unfolding parse_error cut_byte
    after o e = ap parse_error starts ∙ rw e

    pub error_none : None ≡ head_at s 4 32 → read_by (parse_error s) ≡ None
    error_none p = rw (after None (no_head s 4 32 p))

    module _ (f : Found) (p : Some f ≡ head_at s 4 32) where
      there_error : parse_error s ≡ (do
        need (both (leb 1 f.value) (leb f.value 18))
        need (eqb (length (drop f.next s)) 0)
        Some (error f.value))
      there_error = after (Some (gives f.value (drop f.next s))) (head_at_lem s 4 32 f p).is

      pub error_zero : f.value < 1 → read_by (parse_error s) ≡ None
      error_zero k = rw (there_error, lt-leb 1 f.value k)

      module _ (lo : 1 ≤ f.value) where
        pub error_high : 18 < f.value → read_by (parse_error s) ≡ None
        error_high k = rw (there_error, le-leb 1 f.value lo, lt-leb f.value 18 k)

        pub error_more : f.value ≤ 18 → f.next < length s → read_by (parse_error s) ≡ None
        error_more k z = rw (there_error, le-leb 1 f.value lo, le-leb f.value 18 k, ne_eqb (length (drop f.next s)) 0 (λ y. omega (arith, length-drop f.next s)))

        pub error_there : f.value ≤ 18 → length s ≤ f.next → read_by (parse_error s) ≡ Some (Error f.value)
        error_there k z = rw (there_error, le-leb 1 f.value lo, le-leb f.value 18 k, eq-eqb (length (drop f.next s)) 0 (omega (arith, length-drop f.next s)))

-- by the first byte
pub reply_nothing : (s : List ℕ) → length s ≡ 0 → read_by (parse_reply s) ≡ None
unfolding parse_reply parse_error cut_byte
reply_nothing [] e = refl
reply_nothing (b ∷ s) e = absurd (omega arith)

module _ (s : List ℕ) where
  pub reply_range : get_or s 0 0 ≡ 42 → read_by (parse_reply s) ≡ read_by (parse_range s)
  unfolding parse_reply
  reply_range e = simp (eq-eqb (get_or s 0 0) 42 e)

  pub reply_integer : get_or s 0 0 ≡ 58 → read_by (parse_reply s) ≡ read_by (parse_integer s)
  unfolding parse_reply
  reply_integer e = simp (ne_eqb (get_or s 0 0) 42 (λ y. omega arith), eq-eqb (get_or s 0 0) 58 e)

  pub reply_error : (get_or s 0 0 ≡ 42 → ⊥) → (get_or s 0 0 ≡ 58 → ⊥) → read_by (parse_reply s) ≡ read_by (parse_error s)
  unfolding parse_reply
  reply_error g h = simp (ne_eqb (get_or s 0 0) 42 g, ne_eqb (get_or s 0 0) 58 h)
