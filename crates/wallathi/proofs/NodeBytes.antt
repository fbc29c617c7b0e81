-- The slot of a node that keeps the rules is bytes. Assumes nothing.
use mathlib.Core.Path.{◌≡◌}
use mathlib.Core.Bool.{Bool, true, false}
use mathlib.Core.List.{List, [], ◌∷◌, ◌++◌}
use Prim.Native.Nat.{ℕ, ◌-◌}
use lib.ListN.{length}
use Rattle.octets.specs.Bytes.{Bytes}
use Rattle.octets.proofs.Laws.{both_true, bytes_append, bytes_zeros}
use Rattle.id.specs.declared.Id.{Id}
use Rattle.decimal.proofs.Laws.{text_bytes}
use Rattle.listpack.proofs.Laws.{Each, each_none, each_more, listpack_bytes}
use Rattle.slip.specs.Pair.{are_strings}
use Rattle.slip.proofs.Laws.{strings_first, is_string_lem}
use Rattle.node.specs.Message.{Pair, Entry, fields_of, values_of, same_strings, live_count, deleted_count, is_message, message_of}
use Rattle.node.specs.Bytes.{key_of, master_fields, master_strings, flags_of, pair_strings, body_strings, count_of, entry_strings, entries_strings, node_strings, node_bytes, node_size, slot_of}
use Rattle.node.specs.Rules.{is_node, are_messages}
use Rattle.node.proofs.Laws.{is_node_lem, short_node}
use Rattle.node.proofs.Nodes.{strings_of_lem}

each_append : {xs ys : List (List ℕ)} → Each Bytes xs → Each Bytes ys → Each Bytes (xs ++ ys)
each_append each_none k = k
each_append (each_more h hs) k = each_more h (each_append hs k)

fields_bytes : (ps : List Pair) → are_strings ps ≡ true → Each Bytes (fields_of ps)
fields_bytes [] e = each_none
fields_bytes (p ∷ ps) e = let k = strings_first p ps e in each_more (is_string_lem p.field k.0).1 (fields_bytes ps k.2)

values_bytes : (ps : List Pair) → are_strings ps ≡ true → Each Bytes (values_of ps)
values_bytes [] e = each_none
values_bytes (p ∷ ps) e = let k = strings_first p ps e in each_more (is_string_lem p.value k.1).1 (values_bytes ps k.2)

pairs_bytes : (ps : List Pair) → are_strings ps ≡ true → Each Bytes (pair_strings ps)
unfolding pair_strings
pairs_bytes [] e = each_none
pairs_bytes (p ∷ ps) e =
    let k = strings_first p ps e in
    each_more (is_string_lem p.field k.0).1 (each_more (is_string_lem p.value k.1).1 (pairs_bytes ps k.2))

body_bytes_lem : (matching : Bool) (ps : List Pair) → are_strings ps ≡ true → Each Bytes (body_strings matching ps)
body_bytes_lem true ps e = values_bytes ps e
body_bytes_lem false ps e = each_more (text_bytes (length ps)) (pairs_bytes ps e)

entries_bytes : (key : Id) (fields : List (List ℕ)) (es : List Entry) → are_messages es ≡ true → Each Bytes (entries_strings key fields es)
unfolding entries_strings entry_strings are_messages
entries_bytes key fields [] a = each_none
entries_bytes key fields (e ∷ es) a =
    let k = both_true (is_message (message_of e)) (are_messages es) a in
    let m : Bool = same_strings (fields_of e.pairs) fields in
    each_append
    (each_more (text_bytes (flags_of e.deleted m)) (each_more (text_bytes _) (each_more (text_bytes _) (each_append (body_bytes_lem m e.pairs (strings_of_lem e k.0)) (each_more (text_bytes (count_of m (length e.pairs))) each_none)))))
    (entries_bytes key fields es k.1)

master_bytes : (es : List Entry) → are_messages es ≡ true → Each Bytes (master_fields es)
unfolding are_messages
master_bytes [] a = each_none
master_bytes (e ∷ es) a = fields_bytes e.pairs (strings_of_lem e (both_true (is_message (message_of e)) (are_messages es) a).0)

strings_bytes : (es : List Entry) → are_messages es ≡ true → Each Bytes (node_strings es)
unfolding node_strings master_strings
strings_bytes es a =
    each_append
    (each_more (text_bytes (live_count es)) (each_more (text_bytes (deleted_count es)) (each_more (text_bytes (length (master_fields es))) (each_append (master_bytes es a) (each_more (text_bytes 0) each_none)))))
    (entries_bytes (key_of es) (master_fields es) es a)

pub slot_is_bytes : (es : List Entry) → is_node es ≡ true → Bytes (slot_of es)
unfolding slot_of node_bytes
slot_is_bytes es e =
    let a = (is_node_lem es e).messages in
    bytes_append (listpack_bytes (node_strings es) (short_node es a) (strings_bytes es a)) (bytes_zeros (4096 - node_size es))
