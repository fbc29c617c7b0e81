-- A reply: the strict reader accepts exactly what is written, and gives it back. Assumes nothing.
use mathlib.Core.Path.{◌≡◌, ap, ◌∙◌}
use mathlib.Core.Bool.{true}
use mathlib.Core.List.{List, [], ◌∷◌, ◌++◌, append-nil}
use Rattle.std.proofs.Common.{Option, Some}
use Prim.Native.Nat.{ℕ, ◌^◌, ◌<◌}
use native.Mathlib.Omega.{arith}
use lib.Dec.{leb, eqb}
use lib.ListN.{length, get_or, length-append}
use borrow.Author.Tests.{leb-true}
use Rattle.octets.specs.Bytes.{Bytes}
use Rattle.octets.proofs.Laws.{pick_eq, needed, answered, some_is, both_true}
use Rattle.id.specs.Id.{least}
use Rattle.node.specs.Message.{Message}
use Rattle.resp.specs.Reply.{head, entries, range_bytes, integer_bytes, error_bytes, Reply, range, integer, error, reply_bytes, are_live, is_count, is_refusal_number, is_reply}
use Rattle.resp.specs.Parse.{Got, gives, cut_byte, cut_head, cut_entries, parse_range, parse_integer, parse_error, parse_reply}
use Rattle.resp.proofs.Parts.{byte_is, head_is, nothing_left, bytes_parts, byte_here, head_here}
use Rattle.resp.proofs.Entries.{entries_is, entries_here, entries_few}

-- what a reply that was read keeps
abbrev IsReply : List ℕ → Reply → Type 0
IsReply s x = (s ≡ reply_bytes x) × (is_reply x ≡ true)

-- a head that ends exactly at the end
head_last : (b : ℕ) (s : List ℕ) (n : Got ℕ) → cut_head b s ≡ Some n → eqb (length n.rest) 0 ≡ true → s ≡ head b n.got
head_last b s n p z = (head_is b s n p).1 ∙ ap (λ (l : List ℕ). head b n.got ++ l) (nothing_left n.rest z) ∙ append-nil (head b n.got)

range_is : (s : List ℕ) (x : Reply) → Bytes s → parse_range s ≡ Some x → IsReply s x
unfolding parse_range range_bytes
range_is s x b e =
    answered (cut_head 42 s) _ e λ n p e. answered (cut_entries n.got least n.rest) _ e λ ms q e. needed (eqb (length ms.rest) 0) _ e λ z e.
    let h = (head_is 42 s n p).1 in
    let y = entries_is n.got least n.rest ms q in
    let t : n.rest ≡ entries ms.got = y.text ∙ ap (λ (l : List ℕ). entries ms.got ++ l) (nothing_left ms.rest z) ∙ append-nil (entries ms.got) in
    let bytes = (bytes_parts (head 42 n.got) n.rest (rw h at b)).1 in
    rw (← some_is e) (rw y.count (h ∙ ap (λ (l : List ℕ). head 42 n.got ++ l) t), (y.live bytes).0)

integer_is : (s : List ℕ) (x : Reply) → parse_integer s ≡ Some x → IsReply s x
unfolding parse_integer integer_bytes
integer_is s x e =
    answered (cut_head 58 s) _ e λ n p e. needed (is_count n.got) _ e λ q e. needed (eqb (length n.rest) 0) _ e λ z e.
    rw (← some_is e) (head_last 58 s n p z, q)

error_is : (s : List ℕ) (x : Reply) → parse_error s ≡ Some x → IsReply s x
unfolding parse_error error_bytes
error_is s x e =
    answered (cut_byte 45 s) _ e λ a p e. answered (cut_byte 69 a) _ e λ b q e. answered (cut_byte 82 b) _ e λ c u e. answered (cut_byte 82 c) _ e λ d v e.
    answered (cut_head 32 d) _ e λ n w e. needed (is_refusal_number n.got) _ e λ y e. needed (eqb (length n.rest) 0) _ e λ z e.
    let t : s ≡ 45 ∷ 69 ∷ 82 ∷ 82 ∷ head 32 n.got = cc (byte_is 45 s a p, byte_is 69 a b q, byte_is 82 b c u, byte_is 82 c d v, head_last 32 d n w z) in
    rw (← some_is e) (t, y)

pub reply_is : (s : List ℕ) (x : Reply) → Bytes s → parse_reply s ≡ Some x → (s ≡ reply_bytes x) × (is_reply x ≡ true)
unfolding parse_reply
reply_is s x b e =
    let P : Option Reply → Type 0 = λ o. o ≡ Some x → IsReply s x in
    pick_eq P (get_or s 0 0) 42 _ _ (λ h. range_is s x b) (λ h. pick_eq P (get_or s 0 0) 58 _ _ (λ k. integer_is s x) (λ k. error_is s x)) e

-- a head that nothing follows is read
last_here : (b n : ℕ) → n < 2 ^ 64 → cut_head b (head b n) ≡ Some (gives n [])
last_here b n h = rw append-nil at (head_here b n [] h)

-- a range, by how many messages it has
pub range_here : (ms : List Message) → length ms < 2 ^ 64 → are_live least ms ≡ true → parse_reply (range_bytes ms) ≡ Some (range ms)
unfolding parse_reply parse_range range_bytes head
range_here ms h e =
    let all : cut_entries (length ms) least (entries ms) ≡ Some (gives ms []) = rw append-nil at (entries_here least ms [] e) in
    rw (head_here 42 (length ms) (entries ms) h, all)

integer_here : (n : ℕ) → is_count n ≡ true → parse_integer (integer_bytes n) ≡ Some (integer n)
unfolding parse_integer integer_bytes
integer_here n e = rw (last_here 58 n (omega (arith, leb-true n 6400 e)), e)

error_here : (n : ℕ) → is_refusal_number n ≡ true → parse_error (error_bytes n) ≡ Some (error n)
unfolding parse_error error_bytes
error_here n e =
    let few : n < 2 ^ 64 = omega (arith, leb-true n 18 (both_true (leb 1 n) (leb n 18) e).1) in
    rw (byte_here, byte_here, byte_here, byte_here, last_here 32 n few, e)

pub reply_here : (x : Reply) → length (reply_bytes x) < 2 ^ 64 → is_reply x ≡ true → parse_reply (reply_bytes x) ≡ Some x
unfolding parse_reply range_bytes integer_bytes error_bytes head
reply_here (range ms) h e = range_here ms (omega (arith, entries_few ms, length-append (head 42 (length ms)) (entries ms))) e
reply_here (integer n) h e = integer_here n e
reply_here (error n) h e = error_here n e
