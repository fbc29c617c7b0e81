-- An entry, which is its opening and its pairs: what is read is what was written, and what is written is read back. Assumes nothing.
use mathlib.Core.Path.{◌≡◌, refl, sym, ap, ap₂, ◌∙◌}
use mathlib.Core.Bool.{true}
use mathlib.Core.List.{List, [], ◌∷◌, ◌++◌, append_assoc}
use Rattle.std.proofs.Common.{Some}
use Prim.Native.Nat.{ℕ, zero, suc, ◌*◌, ◌/◌, ◌≤◌}
use native.Mathlib.Omega.{arith}
use lib.Dec.{leb, eqb}
use lib.ListN.{length, length-append}
use borrow.Author.Tests.{leb-true, eq-eqb, eqb-true}
use Rattle.octets.specs.Pick.{both}
use Rattle.octets.specs.Bytes.{Bytes}
use Rattle.octets.proofs.Laws.{needed, answered, some_is, both_true, both_of}
use Rattle.decimal.specs.Text.{natural_text}
use Rattle.decimal.proofs.Laws.{length_natural}
use Rattle.id.specs.declared.Id.{Id}
use Rattle.id.specs.Id.{is_id}
use Rattle.slip.proofs.Laws.{is_string_lem, string_is, strings_first}
use Rattle.slip.specs.Pair.{are_strings, are_pairs}
use Rattle.node.specs.Message.{Pair, Message, message, is_string, is_pair_count, is_message}
use Rattle.node.specs.Step.{fits_alone}
use Rattle.resp.specs.Reply.{head, bulk, id_text, bulks, opening, entry}
use Rattle.resp.specs.Parse.{Got, gives, Opening, opening_of, cut_head, cut_bulk, id_in, pairs_by, cut_opening, cut_pairs, cut_entry}
use Rattle.resp.proofs.Parts.{head_is, bulk_is, id_is, bytes_parts, bulk_bytes, head_here, bulk_here, id_here}

pairs_by_is : (n k : ℕ) → pairs_by n ≡ Some k → (n ≡ 2 * k) × (is_pair_count k ≡ true)
unfolding pairs_by
pairs_by_is n k e =
    needed (eqb (2 * (n / 2)) n) _ e λ p e. needed (is_pair_count (n / 2)) _ e λ q e.
    rw (← some_is e) (sym (eqb-true (2 * (n / 2)) n p), q)

-- what an opening that was read keeps
pub record IsOpening (s : List ℕ) (i : Id) (n : ℕ) (r : List ℕ) : Type 0 where
  pub text : s ≡ opening i n ++ r
  pub count : is_pair_count n ≡ true
  pub id : is_id i ≡ true

pub opening_is : (s : List ℕ) (c : Got Opening) → cut_opening s ≡ Some c → IsOpening s c.got.id c.got.pairs c.rest
unfolding cut_opening opening
opening_is s c e =
    answered (cut_head 42 s) _ e λ two p e. needed (eqb two.got 2) _ e λ t e. answered (cut_bulk two.rest) _ e λ x q e.
    answered (id_in x.got) _ e λ i u e. answered (cut_head 42 x.rest) _ e λ n v e. answered (pairs_by n.got) _ e λ k w e.
    let a = (head_is 42 s two p).1 in
    let b = (bulk_is two.rest x q).1 in
    let d = (head_is 42 x.rest n v).1 in
    let f = id_is x.got i u in
    let g = pairs_by_is n.got k w in
    let h : s ≡ head 42 2 ++ (bulk (id_text i) ++ (head 42 (2 * k) ++ n.rest)) =
    a ∙ ap₂ (λ (m : ℕ) (l : List ℕ). head 42 m ++ l) (eqb-true two.got 2 t)
    (b ∙ ap₂ (λ (y l : List ℕ). bulk y ++ l) f.1 (d ∙ ap (λ (m : ℕ). head 42 m ++ n.rest) g.0)) in
    rw (← some_is e) (record { text = rw (append_assoc, append_assoc) h; count = g.1; id = f.0 })

-- what pairs that were read keep
pub record ArePairs (n : ℕ) (s : List ℕ) (ps : List Pair) (r : List ℕ) : Type 0 where
  pub text : s ≡ bulks ps ++ r
  pub count : length ps ≡ n
  pub strings : Bytes s → (are_strings ps ≡ true) × Bytes r

pub pairs_is : (n : ℕ) (s : List ℕ) (c : Got (List Pair)) → cut_pairs n s ≡ Some c → ArePairs n s c.got c.rest
unfolding cut_pairs bulks are_strings
pairs_is zero s c e = rw (← some_is e) (record { text = refl; count = refl; strings = λ b. (refl, b) })
pairs_is (suc n) s c e =
    answered (cut_bulk s) _ e λ f p e. answered (cut_bulk f.rest) _ e λ v q e. answered (cut_pairs n v.rest) _ e λ ps r e.
    let x = bulk_is s f p in
    let y = bulk_is f.rest v q in
    let z = pairs_is n v.rest ps r in
    let strings : Bytes s → (both (both (is_string f.got) (is_string v.got)) (are_strings ps.got) ≡ true) × Bytes ps.rest = λ b.
    let a = bulk_bytes f.got f.rest (rw x.1 at b) in
    let d = bulk_bytes v.got v.rest (rw y.1 at a.1) in
    let g = z.strings d.1 in
    (both_of (both_of (string_is f.got x.0 a.0) (string_is v.got y.0 d.0)) g.0, g.1) in
    let text : s ≡ bulk f.got ++ (bulk v.got ++ (bulks ps.got ++ ps.rest)) =
    x.1 ∙ ap (λ (l : List ℕ). bulk f.got ++ l) (y.1 ∙ ap (λ (l : List ℕ). bulk v.got ++ l) z.text) in
    rw (← some_is e) (record { text = rw (append_assoc, append_assoc) text; count = ap suc z.count; strings = strings })

pub entry_is : (s : List ℕ) (c : Got Message) → cut_entry s ≡ Some c
    → (s ≡ entry c.got ++ c.rest) × (fits_alone c.got ≡ true) × (Bytes s → (is_message c.got ≡ true) × Bytes c.rest)
unfolding cut_entry entry is_message are_pairs
entry_is s c e =
    answered (cut_opening s) _ e λ o p e. answered (cut_pairs o.got.pairs o.rest) _ e λ ps q e. needed (fits_alone (message o.got.id ps.got)) _ e λ fits e.
    let i : Id = o.got.id in
    let x = opening_is s o p in
    let y = pairs_is o.got.pairs o.rest ps q in
    let t : s ≡ opening i (length ps.got) ++ (bulks ps.got ++ ps.rest) =
    x.text ∙ ap₂ (λ (n : ℕ) (l : List ℕ). opening i n ++ l) (sym y.count) y.text in
    let rules : Bytes s → (both (is_id i) (both (is_pair_count (length ps.got)) (are_strings ps.got)) ≡ true) × Bytes ps.rest = λ b.
    let z = y.strings (bytes_parts (opening i o.got.pairs) o.rest (rw x.text at b)).1 in
    let n : is_pair_count (length ps.got) ≡ true = rw y.count x.count in
    (both_of x.id (both_of n z.0), z.1) in
    rw (← some_is e) (rw append_assoc t, fits, rules)

-- the text of an ID is a string
pub id_short : (i : Id) → length (id_text i) ≤ 1000
unfolding id_text
id_short i =
    omega (arith, length-append (natural_text i.ms) (45 ∷ natural_text i.seq), length_natural i.ms, length_natural i.seq)

pairs_by_here : (n : ℕ) → is_pair_count n ≡ true → pairs_by (2 * n) ≡ Some n
unfolding pairs_by
pairs_by_here n e =
    let q : 2 * n / 2 ≡ n = omega arith in
    rw (q, eq-eqb (2 * n) (2 * n) refl, e)

pub opening_here : (i : Id) (n : ℕ) (r : List ℕ) → is_id i ≡ true → is_pair_count n ≡ true → cut_opening (opening i n ++ r) ≡ Some (gives (opening_of i n) r)
unfolding cut_opening opening
opening_here i n r e c =
    let few = leb-true n 32 (both_true (leb 1 n) (leb n 32) c).1 in
    rw (
      append_assoc,
      append_assoc,
      head_here 42 2 (bulk (id_text i) ++ (head 42 (2 * n) ++ r)) (omega arith),
      bulk_here (id_text i) (head 42 (2 * n) ++ r) (id_short i),
      id_here i e,
      head_here 42 (2 * n) r (omega arith),
      pairs_by_here n c,
    )

pub pairs_here : (ps : List Pair) (r : List ℕ) → are_strings ps ≡ true → cut_pairs (length ps) (bulks ps ++ r) ≡ Some (gives ps r)
unfolding cut_pairs bulks
pairs_here [] r e = refl
pairs_here (p ∷ ps) r e =
    let x = strings_first p ps e in
    rw (
      append_assoc,
      append_assoc,
      bulk_here p.field (bulk p.value ++ (bulks ps ++ r)) (is_string_lem p.field x.0).0,
      bulk_here p.value (bulks ps ++ r) (is_string_lem p.value x.1).0,
      pairs_here ps r x.2,
    )

pub entry_here : (m : Message) (r : List ℕ) → is_message m ≡ true → fits_alone m ≡ true → cut_entry (entry m ++ r) ≡ Some (gives m r)
unfolding cut_entry entry is_message are_pairs
entry_here m r e f =
    let x = both_true (is_id m.id) (both (is_pair_count (length m.pairs)) (are_strings m.pairs)) e in
    let y = both_true (is_pair_count (length m.pairs)) (are_strings m.pairs) x.1 in
    rw (append_assoc, opening_here m.id (length m.pairs) (bulks m.pairs ++ r) x.0 y.0, pairs_here m.pairs r y.1, f)
