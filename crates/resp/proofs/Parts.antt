-- The parts of a reply, a byte, CR LF, a head, a bulk string and an ID: what is read is what was written, and what is written is read
-- back. Assumes nothing.
use mathlib.Core.Path.{◌≡◌, refl, sym, ap, ◌∙◌}
use mathlib.Core.Bool.{true}
use mathlib.Core.List.{List, [], ◌∷◌, ◌++◌, append_assoc, append-nil}
use Rattle.std.proofs.Common.{Some}
use Prim.Native.Nat.{ℕ, ◌^◌, ◌≤◌, ◌<◌}
use native.Mathlib.Omega.{arith}
use lib.Dec.{leb, eqb}
use lib.ListN.{length, take, drop, take-append-drop, length-drop}
use lib.Seq.{length-take-le, take-append_seam, drop-append_seam}
use borrow.Author.Tests.{lt-ltb, le-leb, leb-true, eq-eqb, eqb-true}
use Rattle.octets.specs.Bytes.{Bytes}
use Rattle.octets.proofs.Laws.{needed, answered, some_is, bytes_nil, bytes_cons, bytes_head, bytes_tail}
use Rattle.decimal.specs.Text.{natural_text}
use Rattle.id.specs.declared.Id.{Id}
use Rattle.id.specs.Id.{is_id}
use Rattle.id.proofs.Laws.{id_fits}
use Rattle.resp.specs.Reply.{crlf, head, bulk, id_text}
use Rattle.resp.specs.Parse.{Got, gives, cut_byte, cut_end, cut_number, cut_head, cut_bulk, id_in}
use Rattle.resp.proofs.Numbers.{number_is, number_here}

pub byte_is : (b : ℕ) (s r : List ℕ) → cut_byte b s ≡ Some r → s ≡ b ∷ r
unfolding cut_byte
byte_is b [] r e = absurd (let z : ◌≡◌ {A = ℕ} 0 1 = cc in omega arith)
byte_is b (x ∷ s) r e = needed (eqb x b) _ e λ p e. let q = eqb-true x b p in let t = some_is e in cc

pub end_is : (s r : List ℕ) → cut_end s ≡ Some r → s ≡ crlf ++ r
unfolding cut_end
end_is s r e = answered (cut_byte 13 s) _ e λ t p e. byte_is 13 s t p ∙ ap (λ (l : List ℕ). 13 ∷ l) (byte_is 10 t r e)

pub head_is : (b : ℕ) (s : List ℕ) (c : Got ℕ) → cut_head b s ≡ Some c → (c.got < 2 ^ 64) × (s ≡ head b c.got ++ c.rest)
unfolding cut_head head
head_is b s c e =
    answered (cut_byte b s) _ e λ r p e. answered (cut_number r) _ e λ n q e. answered (cut_end n.rest) _ e λ t u e.
    let x = number_is r n q in
    let y : r ≡ natural_text n.got ++ (crlf ++ t) = x.1 ∙ ap (λ (l : List ℕ). natural_text n.got ++ l) (end_is n.rest t u) in
    rw (← some_is e) (
      x.0,
      byte_is b s r p ∙ ap (λ (l : List ℕ). b ∷ l) (y ∙ sym (append_assoc (natural_text n.got) crlf t)),
    )

-- a string's bytes are there, since CR LF is
string_there : (n : ℕ) (s t : List ℕ) → drop n s ≡ crlf ++ t → (length (take n s) ≡ n) × (s ≡ take n s ++ (crlf ++ t))
string_there n s t e = (length-take-le n s (omega (arith, length-drop n s, ap length e)), sym (take-append-drop n s) ∙ ap (λ (l : List ℕ). take n s ++ l) e)

pub bulk_is : (s : List ℕ) (c : Got (List ℕ)) → cut_bulk s ≡ Some c → (length c.got ≤ 1000) × (s ≡ bulk c.got ++ c.rest)
unfolding cut_bulk bulk
bulk_is s c e =
    answered (cut_head 36 s) _ e λ n p e. needed (leb n.got 1000) _ e λ h e. answered (cut_end (drop n.got n.rest)) _ e λ t q e.
    let x = head_is 36 s n p in
    let y = string_there n.got n.rest t (end_is (drop n.got n.rest) t q) in
    rw (← some_is e) (
      omega (arith, leb-true n.got 1000 h, y.0),
      rw (y.0, append_assoc, append_assoc) (x.1 ∙ ap (λ (l : List ℕ). head 36 n.got ++ l) y.1),
    )

-- parts of bytes are bytes
pub bytes_parts : (x y : List ℕ) → Bytes (x ++ y) → Bytes x × Bytes y
bytes_parts [] y b = (bytes_nil, b)
bytes_parts (a ∷ x) y b = let p = bytes_parts x y (bytes_tail b) in (bytes_cons (bytes_head b) p.0, p.1)

pub bulk_bytes : (x r : List ℕ) → Bytes (bulk x ++ r) → Bytes x × Bytes r
unfolding bulk
bulk_bytes x r b =
    let p = bytes_parts (head 36 (length x) ++ (x ++ crlf)) r b in
    ((bytes_parts x crlf (bytes_parts (head 36 (length x)) (x ++ crlf) p.0).1).0, p.1)

pub nothing_left : (s : List ℕ) → eqb (length s) 0 ≡ true → s ≡ []
nothing_left [] e = refl
nothing_left (x ∷ s) e = absurd (omega (arith, eqb-true (length (x ∷ s)) 0 e))

pub id_is : (s : List ℕ) (i : Id) → id_in s ≡ Some i → (is_id i ≡ true) × (s ≡ id_text i)
unfolding id_in id_text
id_is s i e =
    answered (cut_number s) _ e λ ms p e. answered (cut_byte 45 ms.rest) _ e λ r q e. answered (cut_number r) _ e λ seq u e.
    needed (eqb (length seq.rest) 0) _ e λ z e.
    let x = number_is s ms p in
    let y = number_is r seq u in
    let v : r ≡ natural_text seq.got = y.1 ∙ ap (λ (l : List ℕ). natural_text seq.got ++ l) (nothing_left seq.rest z) ∙ append-nil (natural_text seq.got) in
    rw (← some_is e) (
      simp (lt-ltb ms.got (2 ^ 64) x.0, lt-ltb seq.got (2 ^ 64) y.0),
      x.1 ∙ ap (λ (l : List ℕ). natural_text ms.got ++ l) (byte_is 45 ms.rest r q ∙ ap (λ (l : List ℕ). 45 ∷ l) v),
    )

pub byte_here : (b : ℕ) (r : List ℕ) → cut_byte b (b ∷ r) ≡ Some r
unfolding cut_byte
byte_here b r = rw (eq-eqb b b refl)

pub end_here : (r : List ℕ) → cut_end (crlf ++ r) ≡ Some r
unfolding cut_end cut_byte
end_here r = refl

pub head_here : (b n : ℕ) (r : List ℕ) → n < 2 ^ 64 → cut_head b (head b n ++ r) ≡ Some (gives n r)
unfolding cut_head head
head_here b n r h = rw (byte_here, append_assoc, number_here n (crlf ++ r) h refl, end_here)

pub bulk_here : (x r : List ℕ) → length x ≤ 1000 → cut_bulk (bulk x ++ r) ≡ Some (gives x r)
unfolding cut_bulk bulk
bulk_here x r h =
    rw (append_assoc, append_assoc, head_here 36 (length x) (x ++ (crlf ++ r)) (omega arith), le-leb (length x) 1000 h, drop-append_seam, end_here, take-append_seam)

pub id_here : (i : Id) → is_id i ≡ true → id_in (id_text i) ≡ Some i
unfolding id_in id_text
id_here i e =
    let f = id_fits i e in
    let last : cut_number (natural_text i.seq) ≡ Some (gives i.seq []) = rw append-nil at (number_here i.seq [] f.seq_fits refl) in
    rw (number_here i.ms (45 ∷ natural_text i.seq) f.ms_fits refl, byte_here, last)
