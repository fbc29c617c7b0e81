-- The entries of a record, test by test. Assumes nothing.
use mathlib.Core.Bool.{true}
use mathlib.Core.Path.{◌≡◌, ◌∙◌}
use mathlib.Core.List.{List, []}
use Rattle.std.proofs.Common.{Option}
use Prim.Native.Nat.{ℕ, ◌<◌}
use borrow.Author.Tests.{ltb-true}
use lib.Dec.{ltb}
use lib.ListN.{get_or}
use Rattle.octets.proofs.Laws.{both_true}
use Rattle.radix.specs.declared.Index.{Index}
use Rattle.keys.specs.Entries.{Entry}
use Rattle.radix.specs.Record.{nodes_of, tree_at, tree_of, is_placed}
use Rattle.radix.specs.Gathering.{gathered}

pub root_within : (x : Index) → is_placed x ≡ true → x.root < 256
unfolding is_placed
root_within x e = ltb-true x.root 256 (both_true (ltb x.root 256) _ e).0

-- the tree's entries
pub tree_listed : (x : Index) (q first : ℕ) (o : Option (List Entry)) (es : List Entry) → es ≡ [] → q ≡ x.root → first ≡ get_or x.child q 0
    → o ≡ gathered [] (tree_at 256 (nodes_of x) first) es → o ≡ gathered [] (tree_of x) []
tree_listed x q first o es n e f g = g ∙ rw (n, f, e)
