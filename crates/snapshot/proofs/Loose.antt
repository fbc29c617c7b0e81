-- What the loose reading of a file finds in a snapshot: its parts, and of them the ledger. Assumes nothing.
use mathlib.Core.Path.{◌≡◌, refl, sym, ap, ◌∙◌}
use mathlib.Core.Bool.{true}
use mathlib.Core.List.{List, [], ◌∷◌, ◌++◌, append_assoc, map}
use Rattle.std.proofs.Common.{Some}
use Prim.Native.Nat.{ℕ, suc, ◌+◌, ◌*◌, ◌^◌, ◌<◌}
use native.Mathlib.Omega.{arith}
use lib.ListN.{length, drop, get_or, length-append}
use lib.Seq.{take_at, drop_at}
use borrow.Author.Tests.{le-leb}
use Rattle.octets.specs.Bytes.{le, le_value}
use Rattle.octets.specs.Place.{area, Taken, take_bytes}
use Rattle.octets.proofs.Laws.{length_le, value_le, area_right, area_left}
use Rattle.id.specs.declared.Id.{Id}
use Rattle.id.specs.Bytes.{id_bytes, id_from}
use Rattle.id.proofs.Laws.{length_id_bytes, from_bytes_of}
use Rattle.node.specs.Message.{Message, Entry, live_in}
use Rattle.node.specs.Bytes.{key_of, node_bytes}
use Rattle.node.specs.Rules.{is_node}
use Rattle.node.specs.Parse.{parse_node}
use Rattle.node.proofs.Laws.{is_node_lem, key_fits, node_parse}
use Rattle.groups.specs.Group.{Group}
use Rattle.groups.specs.Area.{are_groups}
use Rattle.groups.proofs.Laws.{body_parse}
use Rattle.groups.proofs.Laws.{first}
use Rattle.stream.specs.Cut.{Node, entries_of, messages_of, are_nodes}
use Rattle.stream.proofs.Laws.{first_node, messages_node}
use Rattle.snapshot.specs.Bytes.{Part, part, node_part, group_part, contents, bodies, file_of}
use Rattle.snapshot.specs.Parse.{take_parts, parse_file, read_node, Held, read_parts}
use Rattle.snapshot.proofs.Table.{length_contents}

abbrev taken : List ℕ → List ℕ → Taken
taken bs rest = record { bytes = bs; rest = rest }

-- what stands in front is taken
front : (n : ℕ) (xs ys : List ℕ) → length xs ≡ n → take_bytes n (xs ++ ys) ≡ Some (taken xs ys)
unfolding take_bytes
front n xs ys e =
    rw (le-leb n (length (xs ++ ys)) (omega (arith, length-append xs ys)), take_at xs ys n e, drop_at xs ys n e)

parts_step : (n : ℕ) (row rest body file : List ℕ) (ps : List Part) → length row ≡ 9 → le_value (area 5 4 row) ≡ length body → take_parts n rest file ≡ Some ps
    → take_parts (suc n) (row ++ rest) (body ++ file) ≡ Some (part (get_or row 0 0) body ∷ ps)
unfolding take_parts
parts_step n row rest body file ps l z r = rw (front 9 row rest l, front (le_value (area 5 4 row)) body file (sym z), r)

parts_taken : (offset : ℕ) (ps : List Part) → length (bodies ps) < 2 ^ 32 → take_parts (length ps) (contents offset ps) (bodies ps) ≡ Some ps
unfolding bodies contents
parts_taken offset [] h = unfold take_parts in refl
parts_taken offset (p ∷ ps) h =
    let s : ℕ = length p.body in
    let b : length (p.body ++ bodies ps) ≡ s + length (bodies ps) = length-append p.body (bodies ps) in
    let row : List ℕ = p.kind ∷ (le 4 offset ++ le 4 s) in
    let e : p.kind ∷ (le 4 offset ++ (le 4 s ++ contents (offset + s) ps)) ≡ row ++ contents (offset + s) ps =
    ap (λ (l : List ℕ). p.kind ∷ l) (sym (append_assoc (le 4 offset) (le 4 s) (contents (offset + s) ps))) in
    ap (λ (l : List ℕ). take_parts (suc (length ps)) l (p.body ++ bodies ps)) e
    ∙ parts_step (length ps) row (contents (offset + s) ps) p.body (bodies ps) ps
    (omega (arith, length-append (le 4 offset) (le 4 s), length_le 4 offset, length_le 4 s))
    (ap le_value (size p.kind offset s) ∙ value_le 4 s (omega arith))
    (parts_taken (offset + s) ps (omega arith))
  where
    size : (k offset s : ℕ) → area 5 4 (k ∷ (le 4 offset ++ le 4 s)) ≡ le 4 s
    size k offset s = area_right (k ∷ le 4 offset) (le 4 s) 5 4 (omega (arith, length_le 4 offset)) (length_le 4 s)

pub parse_file_lem : (ps : List Part) → length ps < 65536 → length (bodies ps) < 2 ^ 32 → parse_file (file_of ps) ≡ Some ps
unfolding parse_file file_of
parse_file_lem ps h b =
    let n : ℕ = length ps in
    let start : List ℕ = 1 ∷ le 2 n in
    let c : List ℕ = contents (3 + 9 * n) ps in
    let v : le_value (area 1 2 start) ≡ n = ap le_value (area_right (1 ∷ []) (le 2 n) 1 2 refl (length_le 2 n)) ∙ value_le 2 n (omega arith) in
    rw (front 3 start (c ++ bodies ps) (omega (arith, length_le 2 n)), v, front (9 * n) c (bodies ps) (length_contents (3 + 9 * n) ps))
    (parts_taken (3 + 9 * n) ps b)

-- a node's body: its key and its listpack
pub node_body : (es : List Entry) → is_node es ≡ true
    → parse_node (id_from (area 0 16 (id_bytes (key_of es) ++ node_bytes es))) (drop 16 (id_bytes (key_of es) ++ node_bytes es)) ≡ Some es
node_body es h =
    let i : List ℕ = id_bytes (key_of es) in
    let l : length i ≡ 16 = length_id_bytes (key_of es) in
    rw (area_left i (node_bytes es) 16 l, from_bytes_of (key_of es) (key_fits es (is_node_lem es h).messages), drop_at i (node_bytes es) 16 l) (node_parse es h)

read_node_lem : (es : List Entry) → is_node es ≡ true → read_node (id_bytes (key_of es) ++ node_bytes es) ≡ Some (live_in es)
unfolding read_node
read_node_lem es h = rw (node_body es h)

abbrev held_as : List Message → List Group → Held
held_as ms gs = record { messages = ms; groups = gs }

read_groups : (last : Id) (gs : List Group) → are_groups last gs ≡ true → read_parts (map group_part gs) ≡ Some (held_as [] gs)
unfolding read_parts
read_groups last [] a = refl
read_groups last (g ∷ gs) a = let f = first last g gs a in rw (read_groups last gs f.others, body_parse g f.is_group_lem)

pub read_parts_lem : (slots : ℕ) (last : Id) (ns : List Node) (gs : List Group) → are_nodes slots ns ≡ true → are_groups last gs ≡ true
    → read_parts (map node_part ns ++ map group_part gs) ≡ Some (held_as (messages_of ns) gs)
unfolding read_parts
read_parts_lem slots last [] gs n a = read_groups last gs a ∙ (unfold entries_of in unfold live_in in refl)
read_parts_lem slots last (n ∷ ns) gs h a =
    let f = first_node slots n ns h in
    rw (read_parts_lem slots last ns gs f.others a, read_node_lem n.entries f.is_node_lem)
    (ap (λ (ms : List Message). Some (held_as ms gs)) (sym (messages_node n ns)))
