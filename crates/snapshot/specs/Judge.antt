-- The structural test of a file, in the order in which load makes it: the contents table; the last ID; each node by itself and after
-- the one before; each group by itself and after the one before. It accepts exactly the snapshots: proofs/Laws, `judge_is`.
-- Assumes nothing.
use Rattle.std.specs.Prelude.{List, [], ◌∷◌, ℕ, zero, suc, ◌+◌, ◌*◌, leb, eqb, length, drop, get_or, Option, Some, None}
use Rattle.octets.specs.Pick.{pick, both}
use Rattle.octets.specs.Maybe.{◌>>=◌, ◌>>◌, need}
use Rattle.octets.specs.Bytes.{le_value}
use Rattle.octets.specs.Place.{area}
use Rattle.octets.specs.Compare.{comes_before}
use Rattle.id.specs.declared.Id.{Id}
use Rattle.id.specs.Bytes.{id_from}
use Rattle.node.specs.Message.{Entry}
use Rattle.node.specs.Parse.{parse_node}
use Rattle.groups.specs.Group.{Group, pending_up_to}
use Rattle.groups.specs.Parse.{parse_body}
use Rattle.groups.specs.Area.{most_groups}
use Rattle.stream.specs.Ledger.{Ledger, empty_ledger, with_messages, with_last, with_groups}
use Rattle.stream.specs.Cut.{most_slots}
use Rattle.stream.specs.Fresh.{messages_in, follows}
use Rattle.snapshot.specs.Bytes.{Part, part}

-- so many rows from a place on: each body begins where the one before ends, the last ends at the file's end
unfoldable pub rows_left : ℕ → ℕ → ℕ → List ℕ → Option (List Part)
rows_left zero at offset f = do
  need (eqb offset (length f))
  Some []
rows_left (suc n) at offset f = do
  need (eqb (le_value (area (at + 1) 4 f)) offset)
  need (leb (offset + le_value (area (at + 5) 4 f)) (length f))
  ps ← rows_left n (at + 9) (offset + le_value (area (at + 5) 4 f)) f
  Some (part (get_or f at 0) (area offset (le_value (area (at + 5) 4 f)) f) ∷ ps)

-- version 1, count, contents, bodies back to back and nothing after
unfoldable pub read_file : List ℕ → Option (List Part)
read_file f = do
  need (both (leb 3 (length f)) (eqb (get_or f 0 0) 1))
  need (leb (3 + 9 * le_value (area 1 2 f)) (length f))
  rows_left (le_value (area 1 2 f)) 3 (3 + 9 * le_value (area 1 2 f)) f

-- the part whose row lies at a place of the contents
unfoldable pub part_at : List ℕ → ℕ → Part
part_at f at = part (get_or f at 0) (area (le_value (area (at + 1) 4 f)) (le_value (area (at + 5) 4 f)) f)

-- a node's body: its key and its listpack
unfoldable pub node_in : List ℕ → Option (List Entry)
node_in body = parse_node (id_from (area 0 16 body)) (drop 16 body)

-- the nodes from the front on, and the parts after them
pub record Nodes : Type 0 where
  pub nodes : List (List Entry)
  pub rest : List Part

abbrev pub nodes_then : List (List Entry) → List Part → Nodes
nodes_then ess ps = record { nodes = ess; rest = ps }

unfoldable pub judge_nodes : Id → List Entry → List Part → Option Nodes
judge_nodes last before [] = Some (nodes_then [] [])
judge_nodes last before (p ∷ ps) =
    pick (eqb p.kind 2)
    (do
      es ← node_in p.body
      need (follows last before es)
      x ← judge_nodes last es ps
      Some (nodes_then (es ∷ x.nodes) x.rest))
    (Some (nodes_then [] (p ∷ ps)))

-- groups to the end, each after a name, with nothing pending above the last ID
unfoldable pub judge_groups : Id → List ℕ → List Part → Option (List Group)
judge_groups last above [] = Some []
judge_groups last above (p ∷ ps) = do
  need (eqb p.kind 3)
  g ← parse_body p.body
  need (both (comes_before above g.name) (pending_up_to last g.pending))
  gs ← judge_groups last g.name ps
  Some (g ∷ gs)

-- the ledger of these nodes and groups
abbrev pub ledger_with : Id → List (List Entry) → List Group → Ledger
ledger_with last ess gs = with_groups (with_last (with_messages empty_ledger (messages_in ess)) last) gs

-- nodes and groups after the last ID; over 64 nodes is no snapshot
unfoldable pub judge_rest : Id → List Part → Option Ledger
judge_rest last ps = do
  x ← judge_nodes last [] ps
  need (leb (length x.nodes) most_slots)
  gs ← judge_groups last [] x.rest
  need (leb (length gs) most_groups)
  Some (ledger_with last x.nodes gs)

-- kind 1, once, first
unfoldable pub judge_parts : List Part → Option Ledger
judge_parts [] = None
judge_parts (p ∷ ps) = do
  need (both (eqb p.kind 1) (eqb (length p.body) 16))
  judge_rest (id_from p.body) ps

unfoldable pub judge_file : List ℕ → Option Ledger
judge_file f = do
  ps ← read_file f
  judge_parts ps
