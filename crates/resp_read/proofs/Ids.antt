-- IDs at a place, read where they lie: what the functions meet there. Assumes nothing.
use mathlib.Core.Path.{◌≡◌, refl, sym, ap, ap₂, ◌∙◌}
use mathlib.Core.Bool.{true}
use mathlib.Core.List.{List, ◌∷◌, ◌++◌, append_assoc}
use Rattle.std.proofs.Common.{Option, Some, None}
use Prim.Native.Nat.{ℕ, ◌+◌, ◌-◌, ◌^◌, ◌≤◌, ◌<◌}
use native.Mathlib.Omega.{arith}
use lib.Dec.{eqb}
use lib.ListN.{length, drop, get_or, length-append, length-drop, drop_of_length-le}
use borrow.Author.Tests.{eq-eqb, ne_eqb, eqb-true, lt-ltb}
use Rattle.octets.specs.Maybe.{◌>>=◌, ◌>>◌, need}
use Rattle.octets.proofs.Laws.{cut, needed, answered, some_is}
use Rattle.decimal.specs.Text.{natural_text}
use Rattle.id.specs.declared.Id.{Id}
use Rattle.id.specs.Id.{id_of, is_id}
use Rattle.id.proofs.Laws.{id_fits}
use Rattle.resp.specs.Reply.{crlf, head, bulk, id_text}
use Rattle.resp.specs.Parse.{Got, gives, cut_byte, cut_end, cut_number, cut_head, cut_bulk, id_in}
use Rattle.resp.proofs.Laws.{id_short, number_is, byte_is, end_is, head_is, bulk_is, id_is, number_here, byte_here, end_here, head_here, bulk_here, id_here}
use Rattle.resp_read.specs.Answer.{cut_id, id_found, id_by, id_at, line_end, number_at, head_at}
use Rattle.resp_read.specs.declared.part.Found.{Found}
use Rattle.resp_read.specs.declared.entry.IdFound.{IdFound}
use Rattle.resp_read.proofs.Places.{Left, left, missing}
use Rattle.resp_read.proofs.Parts.{place_of_lem, no_number, number_at_lem, end_missing, end_there, no_head, head_at_lem}

-- where it lies: it must be as long as its head says
unfoldable cut_here : List ℕ → Option (Got Id)
cut_here s = do
  n ← cut_head 36 s
  ms ← cut_number n.rest
  r ← cut_byte 45 ms.rest
  seq ← cut_number r
  need (eqb (length n.rest - length seq.rest) n.got)
  t ← cut_end seq.rest
  Some (gives (id_of ms.got seq.got) t)

abbrev Reads : List ℕ → Got Id → Type 0
Reads s c = (is_id c.got ≡ true) × (s ≡ bulk (id_text c.got) ++ c.rest)

here_is : (s : List ℕ) (c : Got Id) → cut_here s ≡ Some c → Reads s c
unfolding cut_here bulk id_text
here_is s c e =
    answered (cut_head 36 s) _ e λ n p e. answered (cut_number n.rest) _ e λ ms q e. answered (cut_byte 45 ms.rest) _ e λ r u e. answered (cut_number r) _ e λ seq v e.
    needed (eqb (length n.rest - length seq.rest) n.got) _ e λ l e. answered (cut_end seq.rest) _ e λ t w e.
    let a = number_is n.rest ms q in
    let b = number_is r seq v in
    let x : List ℕ = natural_text ms.got ++ (45 ∷ natural_text seq.got) in
    let d : n.rest ≡ x ++ seq.rest =
    a.1 ∙ ap (λ (y : List ℕ). natural_text ms.got ++ y) (byte_is 45 ms.rest r u ∙ ap (λ (y : List ℕ). 45 ∷ y) b.1)
    ∙ sym (append_assoc (natural_text ms.got) (45 ∷ natural_text seq.got) seq.rest) in
    let m : n.got ≡ length x = omega (arith, eqb-true (length n.rest - length seq.rest) n.got l, ap length d, length-append x seq.rest) in
    let f : s ≡ head 36 (length x) ++ (x ++ (crlf ++ t)) =
    (head_is 36 s n p).1 ∙ ap₂ (λ (k : ℕ) (y : List ℕ). head 36 k ++ y) m (d ∙ ap (λ (y : List ℕ). x ++ y) (end_is seq.rest t w)) in
    let g : (head 36 (length x) ++ (x ++ crlf)) ++ t ≡ head 36 (length x) ++ (x ++ (crlf ++ t)) =
    append_assoc (head 36 (length x)) (x ++ crlf) t ∙ ap (λ (y : List ℕ). head 36 (length x) ++ y) (append_assoc x crlf t) in
    rw (← some_is e) (simp (lt-ltb ms.got (2 ^ 64) a.0, lt-ltb seq.got (2 ^ 64) b.0), f ∙ sym g)

module _ (i : Id) where
  module _ (r : List ℕ) (e : is_id i ≡ true) where
    ms_here : cut_number (id_text i ++ (crlf ++ r)) ≡ Some (gives i.ms (45 ∷ (natural_text i.seq ++ (crlf ++ r))))
    unfolding id_text
    ms_here = rw append_assoc (number_here i.ms (45 ∷ (natural_text i.seq ++ (crlf ++ r))) (id_fits i e).ms_fits refl)

    here_back : cut_here (bulk (id_text i) ++ r) ≡ Some (gives i r)
    unfolding cut_here bulk
    here_back =
        rw (
          append_assoc,
          append_assoc,
          head_here 36 (length (id_text i)) (id_text i ++ (crlf ++ r)) (omega (arith, id_short i)),
          ms_here,
          byte_here 45 (natural_text i.seq ++ (crlf ++ r)),
          number_here i.seq (crlf ++ r) (id_fits i e).seq_fits refl,
          eq-eqb (length (id_text i ++ (crlf ++ r)) - length (crlf ++ r)) (length (id_text i)) (omega (arith, length-append (id_text i) (crlf ++ r))),
          end_here,
        )

    id_back : cut_id (bulk (id_text i) ++ r) ≡ Some (gives i r)
    unfolding cut_id
    id_back = rw (bulk_here (id_text i) r (id_short i), id_here i e)

id_reads : (s : List ℕ) (c : Got Id) → cut_id s ≡ Some c → Reads s c
unfolding cut_id
id_reads s c e =
    answered (cut_bulk s) _ e λ x p e. answered (id_in x.got) _ e λ i q e.
    let y = id_is x.got i q in
    rw (← some_is e) (y.0, (bulk_is s x p).1 ∙ ap (λ (z : List ℕ). bulk z ++ x.rest) y.1)

-- both read the same
same : (o p : Option (Got Id)) → ((c : Got Id) → o ≡ Some c → p ≡ Some c) → ((c : Got Id) → p ≡ Some c → o ≡ Some c) → o ≡ p
same None None f g = refl
same None (Some c) f g = g c refl
same (Some c) p f g = sym (f c refl)

id_here_is : (s : List ℕ) → cut_id s ≡ cut_here s
id_here_is s =
    same (cut_id s) (cut_here s)
    (λ c e. let t = id_reads s c e in ap cut_here t.1 ∙ here_back c.got c.rest t.0)
    (λ c e. let t = here_is s c e in ap cut_id t.1 ∙ id_back c.got c.rest t.0)

-- how far it is from a place to a later one
between : (s : List ℕ) (a b : ℕ) → a ≤ length s → b ≤ length s → length (drop a s) - length (drop b s) ≡ b - a
between s a b h k = rw (length-drop a s, length-drop b s) (omega arith)

-- n is the head, f its ms, g its seq, t the place after it
module _ (s : List ℕ) (at : ℕ) where
  here : id_at s at ≡ id_by s (cut_here (drop at s))
  unfolding id_at
  here = ap (id_by s) (id_here_is (drop at s))

  pub id_none : None ≡ head_at s at 36 → id_at s at ≡ None
  unfolding cut_here
  id_none a = rw (here, no_head s at 36 a)

  module _ (n : Found) (a : Some n ≡ head_at s at 36) where
    pub id_no_ms : None ≡ number_at s n.next → id_at s at ≡ None
    unfolding cut_here
    id_no_ms e = rw (here, (head_at_lem s at 36 n a).is, no_number s n.next e)

    module _ (f : Found) (e : Some f ≡ number_at s n.next) where
      pub id_ends : length s ≤ f.next → id_at s at ≡ None
      unfolding cut_here cut_byte
      id_ends k = rw (here, (head_at_lem s at 36 n a).is, (number_at_lem s n.next f e).is, drop_of_length-le s k)

      module _ (k : f.next < length s) where
        pub id_no_hyphen : (get_or s f.next 0 ≡ 45 → ⊥) → id_at s at ≡ None
        unfolding cut_here cut_byte
        id_no_hyphen j = rw (here, (head_at_lem s at 36 n a).is, (number_at_lem s n.next f e).is, cut s f.next k) (simp (ne_eqb (get_or s f.next 0) 45 j))

        module _ (j : get_or s f.next 0 ≡ 45) where
          hyphen : cut_byte 45 (drop f.next s) ≡ Some (drop (f.next + 1) s)
          unfolding cut_byte
          hyphen = rw (cut s f.next k) (simp (eq-eqb (get_or s f.next 0) 45 j))

          pub id_no_seq : None ≡ number_at s (f.next + 1) → id_at s at ≡ None
          unfolding cut_here
          id_no_seq p = rw (here, (head_at_lem s at 36 n a).is, (number_at_lem s n.next f e).is, hyphen, no_number s (f.next + 1) p)

          module _ (g : Found) (p : Some g ≡ number_at s (f.next + 1)) where
            size : length (drop n.next s) - length (drop g.next s) ≡ g.next - n.next
            size = between s n.next g.next (head_at_lem s at 36 n a).within (number_at_lem s (f.next + 1) g p).within

            pub id_other_length : (g.next - n.next ≡ n.value → ⊥) → id_at s at ≡ None
            unfolding cut_here
            id_other_length m =
                rw (here, (head_at_lem s at 36 n a).is, (number_at_lem s n.next f e).is, hyphen, (number_at_lem s (f.next + 1) g p).is, size, ne_eqb (g.next - n.next) n.value m)

            module _ (m : g.next - n.next ≡ n.value) where
              pub id_no_end : None ≡ line_end s g.next → id_at s at ≡ None
              unfolding cut_here
              id_no_end q =
                  rw (here, (head_at_lem s at 36 n a).is, (number_at_lem s n.next f e).is, hyphen, (number_at_lem s (f.next + 1) g p).is, size, eq-eqb (g.next - n.next) n.value m, end_missing s g.next q)

              pub id_there : (t : ℕ) → Some t ≡ line_end s g.next → (i : Id) → i ≡ id_of f.value g.value → id_at s at ≡ Some (id_found i t)
              unfolding cut_here
              id_there t q i o =
                  let y = end_there s g.next t q in
                  rw (here, (head_at_lem s at 36 n a).is, (number_at_lem s n.next f e).is, hyphen, (number_at_lem s (f.next + 1) g p).is, size, eq-eqb (g.next - n.next) n.value m, y.0)
                  (ap₂ (λ (x : Id) (k : ℕ). Some (id_found x k)) (sym o) (place_of_lem s t y.2))

-- what id_at says
pub record IsId (s : List ℕ) (at : ℕ) (i : IdFound) : Type 0 where
  pub is : cut_id (drop at s) ≡ Some (gives i.id (drop i.next s))
  pub within : i.next ≤ length s

module _ (s : List ℕ) (at : ℕ) where
  id_left : (c : Got Id) → cut_id (drop at s) ≡ Some c → Left s at c.rest
  unfolding bulk head
  id_left c p = left s at (bulk (id_text c.got)) c.rest (id_reads (drop at s) c p).1 (omega arith)

  pub no_id : None ≡ id_at s at → cut_id (drop at s) ≡ None
  unfolding id_at
  no_id = missing (cut_id (drop at s)) _

  pub id_at_lem : (i : IdFound) → Some i ≡ id_at s at → IsId s at i
  unfolding id_at
  id_at_lem i e =
      answered (cut_id (drop at s)) _ (sym e) λ c p q.
      let l = id_left c p in
      rw (← some_is q) (record { is = p ∙ ap (λ (r : List ℕ). Some (gives c.got r)) l.is; within = omega arith })
