-- The snapshot of a ledger (01, Snapshot), all numbers little-endian but IDs:
--
--     | version 1 | entry count 2 | kind 1, offset 4, length 4 | .. | body | body | ..
--
--     kind 1, once, first        last ID 16
--     kind 2, by rising key      key 16, listpack: the nodes of the fresh cut
--     kind 3, by rising name     a group's body
--
-- Offsets count from the file's start; bodies stand back to back in the order of the entries, and nothing after. Assumes nothing.
use Rattle.std.specs.Prelude.{List, [], ◌∷◌, ◌++◌, map, ℕ, ◌+◌, ◌*◌, length}
use Rattle.octets.specs.Bytes.{le}
use Rattle.id.specs.Bytes.{id_bytes}
use Rattle.node.specs.Message.{Entry}
use Rattle.node.specs.Bytes.{key_of, node_bytes}
use Rattle.groups.specs.Group.{Group}
use Rattle.groups.specs.Bytes.{body_bytes}
use Rattle.stream.specs.Ledger.{Ledger}
use Rattle.stream.specs.Cut.{Node, fresh_cut}

pub record Part : Type 0 where
  pub kind : ℕ
  pub body : List ℕ

abbrev pub part : ℕ → List ℕ → Part
part k b = record { kind = k; body = b }

abbrev pub cut_part : List Entry → Part
cut_part es = part 2 (id_bytes (key_of es) ++ node_bytes es)

abbrev pub node_part : Node → Part
node_part n = cut_part n.entries

abbrev pub group_part : Group → Part
group_part g = part 3 (body_bytes g)

-- what is in a snapshot
unfoldable pub parts_of : Ledger → List Part
parts_of l = part 1 (id_bytes l.last) ∷ (map node_part (fresh_cut l.messages) ++ map group_part l.groups)

-- the entries, the first body being at this offset
unfoldable pub contents : ℕ → List Part → List ℕ
contents offset [] = []
contents offset (p ∷ ps) =
    p.kind ∷ (le 4 offset ++ (le 4 (length p.body) ++ contents (offset + length p.body) ps))

unfoldable pub bodies : List Part → List ℕ
bodies [] = []
bodies (p ∷ ps) = p.body ++ bodies ps

-- version and count take 3 bytes, an entry 9
unfoldable pub file_of : List Part → List ℕ
file_of ps = 1 ∷ (le 2 (length ps) ++ (contents (3 + 9 * length ps) ps ++ bodies ps))

unfoldable pub snapshot_of : Ledger → List ℕ
snapshot_of l = file_of (parts_of l)
