-- The judgement of a record in one walk over its tree: each node is marked and makes all its tests at once, keys are counted and depths
-- measured; then no place without a mark may hold anything. It says exactly whether a record holds entries: proofs/Laws. Assumes nothing.
use Rattle.std.specs.Prelude.{Bool, true, false, List, ℕ, zero, suc, ◌+◌, ◌*◌, ◌-◌, ◌^◌, leb, ltb, eqb, get_or, set, Option, Some, None, ◌≤◌}
use Rattle.octets.specs.Pick.{pick, both}
use Rattle.octets.specs.Maybe.{need, ◌>>◌, ◌>>=◌}
use Rattle.octets.specs.Bytes.{zeros}
use Rattle.octets.specs.Place.{area}
use Rattle.octets.specs.Compare.{all_zero}
use Rattle.keys.specs.Entries.{most_keys, length_of}
use Rattle.radix.specs.Shape.{first_byte}
use Rattle.radix.specs.Canon.{is_nil, is_only, is_one_of}
use Rattle.radix.specs.Record.{Nodes, nodes_of, label_of, value_of, tree_at, is_tidy, is_free, is_root}
use Rattle.radix.specs.declared.Index.{Index}
use Rattle.radix_bytes.specs.Bytes.{children_at, keys_at, labels_at, lens_at, nexts_at, values_at}

-- the rule of a shape that is due at place p, whose children and later siblings go on for `most` nodes
unfoldable pub rule_at : Bool → ℕ → ℕ → Nodes → ℕ → Bool
rule_at first least most x p =
    pick (both first (is_nil (tree_at most x (get_or x.next p 0))))
    (is_only (label_of x p) (value_of x p) (tree_at most x (get_or x.child p 0)))
    (is_one_of least (label_of x p) (value_of x p) (tree_at most x (get_or x.child p 0)))

-- what a walk leaves: how many keys it has met, and the marks
pub record Seen : Type 0 where
  pub keys : ℕ
  pub marks : List ℕ

abbrev pub seen : ℕ → List ℕ → Seen
seen n marks = record { keys = n; marks = marks }

-- the tests at place p, to which d bytes lead and before which there are n keys: a place in use, the rule of a shape, a key of at most
-- 16 bytes, at most 64 keys
unfoldable pub is_fit : Bool → ℕ → ℕ → Nodes → ℕ → ℕ → ℕ → Bool
is_fit first least most x p d n =
    both (is_tidy x p)
    (both (rule_at first least most x p)
    (both (leb (d + length_of x.len p) 16)
    (both (leb (n + get_or x.key p 0) most_keys) (ltb (get_or x.val p 0) (2 ^ 32)))))

-- the node that a link leads to, what lies below it, its later siblings; `go` goes on
abbrev pub visit_at : (Bool → ℕ → ℕ → ℕ → ℕ → List ℕ → Option Seen) → ℕ → Nodes → Bool → ℕ → ℕ → ℕ → ℕ → List ℕ → Option Seen
visit_at go most x first least zero d n marks = Some (seen n marks)
visit_at go most x first least (suc p) d n marks =
    need (both (ltb p 256) (eqb (get_or marks p 0) 0))
    >> (need (is_fit first least most x p d n)
    >> (go true 0 (get_or x.child p 0) (d + length_of x.len p) (n + get_or x.key p 0) (set marks p 1)
    >>= (λ (r : Seen). go false (first_byte (label_of x p) + 1) (get_or x.next p 0) d r.keys r.marks)))

-- none, too, where a path has more than `most` nodes
unfoldable pub visit : ℕ → Nodes → Bool → ℕ → ℕ → ℕ → ℕ → List ℕ → Option Seen
visit zero x first least link d n marks = need (eqb link 0) >> Some (seen n marks)
visit (suc most) x first least link d n marks = visit_at (visit most x) most x first least link d n marks

-- a walk's answer: how many keys there are then
abbrev pub seen_of : Option ℕ → List ℕ → Option Seen
seen_of None marks = None
seen_of (Some n) marks = Some (seen n marks)

abbrev pub Few : Option ℕ → Type 0
Few None = Unit {0}
Few (Some n) = n ≤ most_keys

-- of the n places from p on, those without a mark are free
unfoldable pub are_free : Nodes → List ℕ → ℕ → ℕ → Bool
are_free x marks p zero = true
are_free x marks p (suc n) = both (pick (eqb (get_or marks p 0) 0) (is_free x p) true) (are_free x marks (p + 1) n)

-- every field from place p on is zero, in the bytes of a record
unfoldable pub zero_from : List ℕ → ℕ → Bool
zero_from s p =
    both (all_zero (area (labels_at + 16 * p) (4096 - 16 * p) s))
    (both (all_zero (area (values_at + 4 * p) (1024 - 4 * p) s))
    (both (all_zero (area (nexts_at + 2 * p) (512 - 2 * p) s))
    (both (all_zero (area (children_at + 2 * p) (512 - 2 * p) s)) (both (all_zero (area (keys_at + p) (256 - p) s)) (all_zero (area (lens_at + p) (256 - p) s))))))

abbrev pub rest_free : Nodes → Option Seen → Bool
rest_free x None = false
rest_free x (Some r) = are_free x r.marks 0 256

-- whether a record holds entries
unfoldable pub is_sound : Index → Bool
is_sound x =
    both (ltb x.root 256)
    (both (both (is_root (nodes_of x) x.root) (is_tidy (nodes_of x) x.root))
    (rest_free (nodes_of x) (visit 256 (nodes_of x) true 0 (get_or x.child x.root 0) 0 0 (set (zeros 256) x.root 1))))
