-- A key's place among rising entries. Assumes nothing.
use Rattle.std.specs.Prelude.{List, [], ◌∷◌, ℕ, suc}
use Rattle.octets.specs.Pick.{pick}
use Rattle.keys.specs.Entries.{Entry}
use Rattle.octets.specs.Compare.{comes_before}

-- how many keys come before k
unfoldable pub rank : List ℕ → List Entry → ℕ
rank k [] = 0
rank k (e ∷ es) = pick (comes_before e.key k) (suc (rank k es)) 0
