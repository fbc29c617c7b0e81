-- What callers cite of the bytes of an index. Assumes nothing.
use mathlib.Core.Bool.{Bool, true, false}
use mathlib.Core.Path.{◌≡◌, refl, sym, ap, ◌∙◌, subst⁻¹}
use mathlib.Core.List.{List, [], ◌∷◌}
use Rattle.std.proofs.Common.{Option, Some, None}
use Prim.Native.Nat.{ℕ, ◌*◌, ◌^◌}
use lib.ListN.{length}
use Rattle.octets.specs.Bytes.{Bytes}
use Rattle.octets.specs.Pick.{pick}
use Rattle.keys.specs.Entries.{Entry, is_map, is_key, first_from, last_up_to}
use Rattle.keys.specs.Operation.{Operation, Reply, first_at_or_above, last_at_or_below, reply_in, entries_after, operate, is_change}
use Rattle.keys.specs.Answer.{neighbour_of, IsShort}
use Rattle.keys.proofs.Laws.{map_fit, first_refused, first_reply, last_refused, last_reply, Keys, Small, operate_map, quiet_after, none_map, entry_short, first_fits, last_fits}
use Rattle.radix.specs.Layout.{record_of}
use Rattle.radix.specs.Record.{entries_of}
use Rattle.radix.proofs.Laws.{entries_map, record_back, AllBelow, record_fields, record_byte_fields, keys_bytes}
use Rattle.radix_bytes.specs.Bytes.{bytes_of, record_from, Fit}
use Rattle.radix_bytes.proofs.Laws.{record_again, length_bytes, bytes_bytes, label_bytes}
use Rattle.index_bytes.specs.Held.{record_size, entries_in, entries_in_lem, record_bytes, record_bytes_lem}
use Rattle.index_bytes.specs.Promise.{bytes_after}

-- what bytes hold is a map: at most 64 keys, rising, each of 1 to 16 bytes, with values of 32 bits
pub held_map : (s : List ℕ) (es : List Entry) → entries_in s ≡ Some es → is_map es ≡ true
held_map s es e = entries_map (record_from s) es (sym (entries_in_lem s) ∙ e)

-- the bytes that are written for a map hold it
fits : (w : ℕ) (vs : List ℕ) → AllBelow (2 ^ (8 * w)) vs → Fit w vs
fits w [] h = tt
fits w (v ∷ vs) h = (h.0, fits w vs h.1)

pub record_holds : (es : List Entry) → is_map es ≡ true → entries_in (record_bytes es) ≡ Some es
record_holds es m =
    let f = record_fields es m in
    let again = record_again (record_of es) f.root f.len f.key f.child (fits 2 (record_of es).child f.child_fit) f.next (fits 2 (record_of es).next f.next_fit) f.val (fits 4 (record_of es).val f.val_fit) f.label in
    ap entries_in (record_bytes_lem es) ∙ entries_in_lem (bytes_of (record_of es)) ∙ ap entries_of again ∙ record_back es m

-- and are as many as a record has
pub length_record : (es : List Entry) → is_map es ≡ true → length (record_bytes es) ≡ record_size
length_record es m =
    let f = record_fields es m in
    ap length (record_bytes_lem es) ∙ length_bytes (record_of es) f.len f.key f.child f.next f.val f.label

-- each of them a byte, where the keys are bytes
pub bytes_record : (es : List Entry) → is_map es ≡ true → Keys Bytes es → Bytes (record_bytes es)
bytes_record es m k =
    let b = record_byte_fields es m k in
    subst⁻¹ Bytes (record_bytes_lem es) (bytes_bytes (record_of es) b.len b.key b.label)

pub empty_holds : entries_in (record_bytes []) ≡ Some []
empty_holds = record_holds [] (none_map [] refl)

-- what the bytes after an operation hold
pub after_holds : (o : Operation) (s : List ℕ) → Small o → entries_in (bytes_after o (entries_in s) s) ≡ entries_after o (entries_in s)
after_holds o s h = go (entries_in s) refl
  where
    either : (es : List Entry) → entries_in s ≡ Some es → (b : Bool) → is_change (operate o es).reply ≡ b → entries_in (pick b (record_bytes (operate o es).after) s) ≡ Some (operate o es).after
    either es q true e = record_holds (operate o es).after (operate_map o es h (held_map s es q))
    either es q false e = q ∙ ap Some (sym (quiet_after o es e))

    go : (e : Option (List Entry)) → entries_in s ≡ e → entries_in (bytes_after o e s) ≡ entries_after o e
    go None q = q
    go (Some es) q = either es q (is_change (operate o es).reply) refl

-- the keys in bytes are bytes
pub held_bytes : (s : List ℕ) (es : List Entry) → Bytes s → entries_in s ≡ Some es → Keys Bytes es
held_bytes s es h e = keys_bytes (record_from s) es (label_bytes s h) (sym (entries_in_lem s) ∙ e)

-- a neighbour's key has at most 16 bytes
pub first_short : (k s : List ℕ) → IsShort (neighbour_of (reply_in (first_at_or_above k) (entries_in s)))
first_short k s = go (entries_in s) refl
  where
    key : (es : List Entry) (t : Bool) → is_key k ≡ t → is_map es ≡ true → IsShort (neighbour_of (reply_in (first_at_or_above k) (Some es)))
    key es false p m = subst⁻¹ (λ (r : Reply). IsShort (neighbour_of r)) (first_refused k es p) tt
    key es true p m = subst⁻¹ (λ (r : Reply). IsShort (neighbour_of r)) (first_reply k es p) (entry_short (first_from k es) (first_fits k es (map_fit es m)))

    go : (o : Option (List Entry)) → entries_in s ≡ o → IsShort (neighbour_of (reply_in (first_at_or_above k) o))
    go None e = tt
    go (Some es) e = key es (is_key k) refl (held_map s es e)

pub last_short : (k s : List ℕ) → IsShort (neighbour_of (reply_in (last_at_or_below k) (entries_in s)))
last_short k s = go (entries_in s) refl
  where
    key : (es : List Entry) (t : Bool) → is_key k ≡ t → is_map es ≡ true → IsShort (neighbour_of (reply_in (last_at_or_below k) (Some es)))
    key es false p m = subst⁻¹ (λ (r : Reply). IsShort (neighbour_of r)) (last_refused k es p) tt
    key es true p m = subst⁻¹ (λ (r : Reply). IsShort (neighbour_of r)) (last_reply k es p) (entry_short (last_up_to k es) (last_fits k es (map_fit es m)))

    go : (o : Option (List Entry)) → entries_in s ≡ o → IsShort (neighbour_of (reply_in (last_at_or_below k) o))
    go None e = tt
    go (Some es) e = key es (is_key k) refl (held_map s es e)
