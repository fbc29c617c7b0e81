-- A snapshot of at most 64 nodes is short: its numbers all fit. Assumes nothing.
use mathlib.Core.Path.{◌≡◌}
use mathlib.Core.Bool.{true}
use mathlib.Core.List.{List, [], ◌∷◌, ◌++◌, map}
use Prim.Native.Nat.{ℕ, ◌+◌, ◌*◌, ◌≤◌}
use native.Mathlib.Omega.{arith}
use lib.ListN.{length, length-append, length-map}
use Rattle.octets.proofs.Laws.{both_true}
use Rattle.id.specs.declared.Id.{Id}
use Rattle.id.specs.Bytes.{id_bytes}
use Rattle.id.proofs.Laws.{length_id_bytes}
use Rattle.node.specs.Bytes.{key_of, node_bytes}
use Rattle.node.proofs.Laws.{node_size_lem, node_most}
use Rattle.groups.specs.Group.{Group, is_name, are_names, is_group}
use Rattle.groups.specs.Bytes.{name_bytes, all_names, body_bytes}
use Rattle.groups.specs.Area.{are_groups}
use Rattle.groups.proofs.Laws.{named, rules}
use Rattle.groups.proofs.Laws.{first, sound}
use Rattle.group_body.proofs.Laws.{length_body}
use Rattle.stream.specs.Ledger.{Ledger, is_ledger}
use Rattle.stream.specs.Cut.{Node, are_nodes, fresh_cut}
use Rattle.stream.proofs.Laws.{first_node, fresh_keep, ledger_rules}
use Rattle.snapshot.specs.Bytes.{Part, node_part, group_part, parts_of, bodies, snapshot_of}
use Rattle.snapshot.proofs.Table.{length_file}

names_most : (ns : List (List ℕ)) → are_names ns ≡ true → length (all_names ns) ≤ 17 * length ns
unfolding all_names are_names
names_most [] a = omega arith
names_most (n ∷ ns) a =
    let p = both_true (is_name n) (are_names ns) a in
    omega (arith, length-append (name_bytes n) (all_names ns), (named n p.0).few_bytes, names_most ns p.1)

-- a group's body, and a node's, are at most as large as a region and a slot with its key
pub body_most : (g : Group) → is_group g ≡ true → length (body_bytes g) ≤ 7220
body_most g h =
    let r = rules g h in
    omega (arith, length_body g, (named g.name r.named).few_bytes, names_most g.consumers r.names, r.few, r.room)

groups_most : (last : Id) (gs : List Group) → are_groups last gs ≡ true → length (bodies (map group_part gs)) ≤ 7220 * length gs
unfolding bodies
groups_most last [] a = omega arith
groups_most last (g ∷ gs) a =
    let f = first last g gs a in
    omega (arith, length-append (body_bytes g) (bodies (map group_part gs)), body_most g f.is_group_lem, groups_most last gs f.others)

nodes_most : (slots : ℕ) (ns : List Node) (ps : List Part) → are_nodes slots ns ≡ true → length (bodies (map node_part ns ++ ps)) ≤ 4112 * length ns + length (bodies ps)
unfolding bodies
nodes_most slots [] ps a = omega arith
nodes_most slots (n ∷ ns) ps a =
    let f = first_node slots n ns a in
    let i : List ℕ = id_bytes (key_of n.entries) in
    let b : List ℕ = node_bytes n.entries in
    omega (
      arith,
      length-append (i ++ b) (bodies (map node_part ns ++ ps)),
      length-append i b,
      length_id_bytes (key_of n.entries),
      node_size_lem n.entries,
      node_most n.entries f.is_node_lem,
      nodes_most slots ns ps f.others,
    )

module _ (l : Ledger) (e : is_ledger l ≡ true) (h : length (fresh_cut l.messages) ≤ 64) where
  pub parts_count : length (parts_of l) ≤ 73
  unfolding parts_of
  parts_count =
      let r = ledger_rules l e in
      omega (
        arith,
        length-append (map node_part (fresh_cut l.messages)) (map group_part l.groups),
        length-map (fresh_cut l.messages) node_part,
        length-map l.groups group_part,
        (sound l.last l.groups r.groups_are).few,
      )

  pub bodies_most : length (bodies (parts_of l)) ≤ 320944
  unfolding parts_of bodies
  bodies_most =
      let r = ledger_rules l e in
      let s = sound l.last l.groups r.groups_are in
      omega (
        arith,
        length-append (id_bytes l.last) (bodies (map node_part (fresh_cut l.messages) ++ map group_part l.groups)),
        length_id_bytes l.last,
        nodes_most 64 (fresh_cut l.messages) (map group_part l.groups) (fresh_keep 64 l.last l.messages r.messages_are h).nodes_are,
        groups_most l.last l.groups s.groups,
        s.few,
      )

  pub snapshot_most : length (snapshot_of l) ≤ 321604
  unfolding snapshot_of
  snapshot_most = omega (arith, length_file (parts_of l), parts_count, bodies_most)
