-- Entries of lists that are joined. Assumes nothing.
use mathlib.Core.Path.{◌≡◌, refl, sym, ap, ◌∙◌}
use mathlib.Core.List.{List, [], ◌∷◌, ◌++◌, append_assoc}
use Prim.Native.Nat.{ℕ}
use Rattle.node.specs.Message.{Message}
use Rattle.resp.specs.Reply.{entry, entries}

pub entries_join : (xs ys : List Message) → entries (xs ++ ys) ≡ entries xs ++ entries ys
unfolding entries
entries_join [] ys = refl
entries_join (m ∷ xs) ys = ap (λ (l : List ℕ). entry m ++ l) (entries_join xs ys) ∙ sym (append_assoc (entry m) (entries xs) (entries ys))
