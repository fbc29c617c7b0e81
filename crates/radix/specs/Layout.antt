-- How a shape is laid into the pool: the later siblings of a node first, then what lies below it, then the node, each at the next free
-- place. {foo: 7, foobar: 9}: bar at 1, foo at 2, and the root at 0 (the drawing of Record). Assumes nothing.
use Rattle.std.specs.Prelude.{◌≡◌, refl, List, ℕ, ◌+◌, ◌*◌, length, set, Option, Some, None, unwrap_or}
use Rattle.octets.specs.Bytes.{zeros}
use Rattle.octets.specs.Place.{put}
use Rattle.keys.specs.Entries.{Entry}
use Rattle.radix.specs.Shape.{Shape, nil, node, nodes, shape}
use Rattle.radix.specs.Record.{Nodes}
use Rattle.radix.specs.declared.Index.{Index}

abbrev pub flag_of : Option ℕ → ℕ
flag_of None = 0
flag_of (Some v) = 1

abbrev pub value_or0 : Option ℕ → ℕ
value_or0 o = unwrap_or o 0

-- the fields of place p written
abbrev pub with_cell : Nodes → ℕ → List ℕ → ℕ → ℕ → ℕ → ℕ → Nodes
with_cell x p label key val child next =
    record {
      len = set x.len p (length label);
      key = set x.key p key;
      child = set x.child p child;
      next = set x.next p next;
      val = set x.val p val;
      label = put x.label (16 * p) label;
    }

-- the link to a shape that is laid from place n on: its first node comes last
abbrev pub link_to : ℕ → Shape → ℕ
link_to n nil = 0
link_to n (node label v below later) = n + nodes (node label v below later)

unfoldable pub laid : Shape → ℕ → Nodes → Nodes
laid nil n x = x
laid (node label v below later) n x =
    with_cell (laid below (n + nodes later) (laid later n x)) (n + nodes later + nodes below) label (flag_of v) (value_or0 v) (link_to (n + nodes later) below) (link_to n later)

unfoldable pub blank : Nodes
blank = record { len = zeros 256; key = zeros 256; child = zeros 256; next = zeros 256; val = zeros 256; label = zeros 4096 }

-- the root at place 0, its tree from place 1 on
unfoldable pub place_shape : Shape → Index
place_shape s =
    record {
      root = 0;
      len = (laid s 1 blank).len;
      key = (laid s 1 blank).key;
      child = set (laid s 1 blank).child 0 (link_to 1 s);
      next = (laid s 1 blank).next;
      val = (laid s 1 blank).val;
      label = (laid s 1 blank).label;
    }

-- the record that is made of entries
pub record_of : List Entry → Index
record_of es = place_shape (shape es)

-- the same, opened for this crate's proofs
pub record_is : (es : List Entry) → record_of es ≡ place_shape (shape es)
unfolding record_of
record_is es = refl
