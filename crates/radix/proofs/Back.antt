-- The shape of rising entries keeps the rules, and its entries are those. Assumes nothing.
use mathlib.Core.Path.{◌≡◌, refl, sym, ap, ap₂, ◌∙◌, subst, subst⁻¹}
use mathlib.Core.Bool.{Bool, true, false, not}
use mathlib.Core.List.{List, [], ◌∷◌, ◌++◌, cons≢nil}
use Rattle.std.proofs.Common.{Option, Some, None}
use Prim.Native.Nat.{ℕ, zero, suc, ◌≤◌, ◌<◌}
use native.Mathlib.Nat.{le_refl}
use native.Mathlib.Omega.{arith}
use lib.Dec.{leb}
use lib.ListN.{length, length-append}
use borrow.Author.Tests.{leb-true, leb-false}
use Rattle.keys.specs.Entries.{Entry, entry, rising, all_above, is_map}
use Rattle.radix.specs.Shape.{Shape, nil, node, own, longer, own_entry, prefix_of, cut, entries_below, starting_with, not_starting_with, child, branch, children_of, shape}
use Rattle.radix.specs.Canon.{is_end, canonical}
use Rattle.radix.proofs.Under.{under, remainders, entries_node, entries_only, cut_under, prefix_cut}
use Rattle.radix.proofs.Keys.{From, StartsAt, short_under, longer_from}
use Rattle.keys.proofs.Laws.{Short, keys_left, keys_right, rising_left, rising_right, map_rising, map_fit}
use Rattle.radix.proofs.Sorted.{rising_under, longer_some, own_longer, Parted, part, part_same}
use Rattle.radix.proofs.Fits.{fit_from, fit_short}
use Rattle.radix.proofs.Rules.{Rules, leaf, only, one_of, NotEmpty, rules_canonical, some_under, end_held, held_entries, some_held, prefix_some, some_length}

-- the rules, and the entries
pub record Good (first : Bool) (least : ℕ) (es : List Entry) (s : Shape) : Type 0 where
  pub kept : Rules first least s
  pub back : entries_below [] s ≡ es

-- what has no common prefix ends at a key node, or where the keys part
pub prefix_end : (v : Option ℕ) {c : Shape} → Rules true 0 c → NotEmpty (remainders v c) → prefix_of (remainders v c) ≡ [] → is_end v c ≡ true
unfolding entries_below
prefix_end (Some v) r h p = refl
prefix_end None leaf h p = absurd h
prefix_end None (only {a = a} {l = l} {v = v} {below = below} e b) h p =
    absurd (cons≢nil (sym (ap prefix_of (entries_only (a ∷ l) v below) ∙ prefix_some (a ∷ l) (remainders v below) (held_entries v (end_held v below e) b)) ∙ p))
prefix_end None (one_of n k e b m) h p = ap not n

empty : (l : List ℕ) → length l < 1 → l ≡ []
empty [] h = refl
empty (b ∷ l) h = absurd (omega arith)

-- siblings, where the longest common prefix is no run
pub promote : {least : ℕ} {s : Shape} → Rules false least s → length (prefix_of (entries_below [] s)) < 2 → Rules true 0 s
promote leaf h = leaf
promote (one_of {a = a} {v = v} {below = below} {later = nil} n k e b m) h =
    let w = held_entries v e b in
    let p = ap length (ap prefix_of (entries_only (a ∷ []) v below) ∙ prefix_some (a ∷ []) (remainders v below) w) in
    only (prefix_end v b w (empty (prefix_of (remainders v below)) (omega arith))) b
promote (one_of {a = a} {later = node l w c r} n k e b m) h = one_of {least = 0} {a = a} refl (omega arith) e b m

inside_some : (b : ℕ) (k : List ℕ) (v : ℕ) (es xs rest : List Entry) → under (b ∷ []) xs ++ rest ≡ entry (b ∷ k) v ∷ es → From (suc b) rest → NotEmpty xs
inside_some b k v es [] rest e f = let g : From (suc b) (entry (b ∷ k) v ∷ es) = subst (From (suc b)) e f in absurd (omega (arith, g.0))
inside_some b k v es (x ∷ xs) rest e f = tt

no_longer : (es : List Entry) → Short 0 es → longer es ≡ []
unfolding longer
no_longer [] h = refl
no_longer (e ∷ es) h = go e.key e.value h.0 (no_longer es h.1)
  where
    go : (k : List ℕ) (v : ℕ) → length k ≤ 0 → longer es ≡ [] → longer (entry k v ∷ es) ≡ []
    go [] v h ih = ih
    go (b ∷ k) v h ih = absurd (omega arith)

some_prefix : (p : List ℕ) (es xs : List Entry) → es ≡ under p xs → 1 ≤ length (prefix_of es) → NotEmpty xs
unfolding prefix_of
some_prefix p es [] e h = let n = ap (λ (z : List Entry). length (prefix_of z)) e in absurd (omega arith)
some_prefix p es (x ∷ xs) e h = tt

-- past the longest common prefix there is none
pub past_prefix : (es xs : List Entry) → es ≡ under (prefix_of es) xs → NotEmpty xs → prefix_of xs ≡ []
past_prefix es xs e h =
    let p = prefix_of es in
    let n = ap length (ap prefix_of e ∙ prefix_some p xs h) in
    empty (prefix_of xs) (omega (arith, length-append p (prefix_of xs)))

-- where `c` makes the children of a node
module _ (c : List Entry → Shape) (f : ℕ) (good : (xs : List Entry) → rising xs ≡ true → Short f xs → Good true 0 (longer xs) (c xs)) where
  remains : (xs : List Entry) → rising xs ≡ true → Short f xs → remainders (own xs) (c xs) ≡ xs
  remains xs r h = ap (λ (z : List Entry). own_entry [] (own xs) ++ z) (good xs r h).back ∙ own_longer xs r

  run_good : (a : ℕ) (q : List ℕ) (xs : List Entry) → rising (under (a ∷ q) xs) ≡ true → Short (suc f) (under (a ∷ q) xs) → NotEmpty xs → prefix_of xs ≡ []
      → Good true 0 (under (a ∷ q) xs) (node (a ∷ q) (own xs) (c xs) nil)
  run_good a q xs r h w p =
      let r = sym (rising_under (a ∷ q) xs) ∙ r in
      let h = short_under f a q xs h in
      let e = remains xs r h in
      record {
        kept = only (prefix_end (own xs) (good xs r h).kept (rw e w) (ap prefix_of e ∙ p)) (good xs r h).kept;
        back = entries_only (a ∷ q) (own xs) (c xs) ∙ ap (under (a ∷ q)) e;
      }

  node_good : (least b : ℕ) (xs rest : List Entry) (later : Shape) → least ≤ b → rising xs ≡ true → Short f xs → NotEmpty xs → Good false (suc b) rest later
      → Good false least (under (b ∷ []) xs ++ rest) (node (b ∷ []) (own xs) (c xs) later)
  node_good least b xs rest later n r h w g =
      let e = remains xs r h in
      record {
        kept = one_of refl n (some_held (own xs) (c xs) (rw e w)) (good xs r h).kept g.kept;
        back = entries_node [] (b ∷ []) (own xs) (c xs) later ∙ ap₂ (λ (y z : List Entry). under (b ∷ []) y ++ z) e g.back;
      }

  -- what the entries that start with b, and the others, make
  parted_good : (n least b : ℕ) (es : List Entry) (w : Parted b es) → least ≤ b → NotEmpty w.inside → rising es ≡ true → Short (suc f) es → length es ≤ suc n
      → ((xs : List Entry) → rising xs ≡ true → Short (suc f) xs → From (suc b) xs → length xs ≤ n → Good false (suc b) xs (branch c n xs))
      → Good false least es (child c (b ∷ []) (starting_with b es) (branch c n (not_starting_with b es)))
  parted_good n least b es w m i r h k ih =
      let xs = w.inside in
      let rest = not_starting_with b es in
      let r : rising (under (b ∷ []) xs ++ rest) ≡ true = rw w.joined r in
      let h : Short (suc f) (under (b ∷ []) xs ++ rest) = rw w.joined h in
      let l : length rest ≤ n =
      omega (arith, ap length w.joined, length-append (under (b ∷ []) xs) rest, some_length (under (b ∷ []) xs) (some_under (b ∷ []) xs i)) in
      let g = ih rest (rising_right (under (b ∷ []) xs) rest r) (keys_right (λ (x : List ℕ). length x ≤ suc f) (under (b ∷ []) xs) rest h) w.over l in
      let p = sym (rising_under (b ∷ []) xs) ∙ rising_left (under (b ∷ []) xs) rest r in
      let q = short_under f b [] xs (keys_left (λ (x : List ℕ). length x ≤ suc f) (under (b ∷ []) xs) rest h) in
      subst (λ (z : List Entry). Good false least z (child c (b ∷ []) (starting_with b es) (branch c n rest))) w.joined
      (subst⁻¹ (λ (z : List Entry). Good false least (under (b ∷ []) xs ++ rest) (node (b ∷ []) (own z) (c z) (branch c n rest)))
      (ap (cut 1) w.starts ∙ cut_under (b ∷ []) xs) (node_good least b xs rest (branch c n rest) m p q i g))

  branch_good : (n : ℕ) (es : List Entry) (least : ℕ) → rising es ≡ true → Short (suc f) es → From least es → length es ≤ n → Good false least es (branch c n es)
  unfolding branch entries_below rising
  branch_good zero [] least r h m k = record { kept = leaf; back = refl }
  branch_good zero (e ∷ es) least r h m k = absurd (omega arith)
  branch_good (suc n) [] least r h m k = record { kept = leaf; back = refl }
  branch_good (suc n) (e ∷ es) least r h m k = go e.key e.value r h m.0 (branch_good n)
    where
      go : (x : List ℕ) (v : ℕ) → all_above x es ≡ true → Short (suc f) (entry x v ∷ es) → StartsAt least x
          → ((es : List Entry) (least : ℕ) → rising es ≡ true → Short (suc f) es → From least es → length es ≤ n → Good false least es (branch c n es))
          → Good false least (entry x v ∷ es) (branch c (suc n) (entry x v ∷ es))
      go [] v r h m ih = absurd m
      go (b ∷ x) v r h m ih =
          let w = part_same b x v es (part b (b ∷ x) es (le_refl b) r) in
          parted_good n least b (entry (b ∷ x) v ∷ es) w m (inside_some b x v es w.inside _ w.joined w.over) r h k (λ xs. ih xs (suc b))

  prefix_good : (p : List ℕ) (es : List Entry) → p ≡ prefix_of es → 2 ≤ length p → rising es ≡ true → Short (suc f) es → Good true 0 es (child c p es nil)
  prefix_good [] es e n r h = absurd (omega arith)
  prefix_good (a ∷ q) es e n r h =
      let xs = cut (length (a ∷ q)) es in
      let u : es ≡ under (a ∷ q) xs = subst⁻¹ (λ (p : List ℕ). es ≡ under p (cut (length p) es)) e (prefix_cut es) in
      let w = some_prefix (a ∷ q) es xs u (omega (arith, ap length e)) in
      subst⁻¹ (λ (z : List Entry). Good true 0 z (node (a ∷ q) (own xs) (c xs) nil)) u
      (run_good a q xs (ap rising (sym u) ∙ r) (subst (Short (suc f)) u h) w (past_prefix es xs (u ∙ ap (λ (p : List ℕ). under p xs) e) w))

  split_good : (n : ℕ) (es : List Entry) → length (prefix_of es) < 2 → rising es ≡ true → Short (suc f) es → From 0 es → length es ≤ n → Good true 0 es (branch c n es)
  split_good n es p r h m k =
      let g = branch_good n es 0 r h m k in
      record { kept = promote g.kept (rw g.back p); back = g.back }

pub children_good : (f : ℕ) (es : List Entry) → rising es ≡ true → Short f es → Good true 0 (longer es) (children_of f es)
unfolding children_of entries_below
children_good zero es r h = record { kept = leaf; back = sym (no_longer es h) }
children_good (suc f) es r h =
    let e = own_longer es r in
    let o = own_entry [] (own es) in
    go (leb 2 (length (prefix_of (longer es)))) refl (rising_right o (longer es) (rw e r))
    (keys_right (λ (x : List ℕ). length x ≤ suc f) o (longer es) (rw e h)) (omega (arith, ap length e, length-append o (longer es))) (children_good f)
  where
    go : (t : Bool) → leb 2 (length (prefix_of (longer es))) ≡ t → rising (longer es) ≡ true → Short (suc f) (longer es) → length (longer es) ≤ length es
        → ((xs : List Entry) → rising xs ≡ true → Short f xs → Good true 0 (longer xs) (children_of f xs))
        → Good true 0 (longer es)
        (elim t [ true ↦ child (children_of f) (prefix_of (longer es)) (longer es) nil | false ↦ branch (children_of f) (length es) (longer es) ])
    go true e p q l ih = prefix_good (children_of f) f ih (prefix_of (longer es)) (longer es) refl (leb-true 2 (length (prefix_of (longer es))) e) p q
    go false e p q l ih =
        split_good (children_of f) f ih (length es) (longer es) (leb-false 2 (length (prefix_of (longer es))) e) p q (longer_some es r) l

module _ (es : List Entry) (m : is_map es ≡ true) where
  shape_good : Good true 0 es (shape es)
  unfolding shape
  shape_good =
      let f = map_fit es m in
      subst (λ (z : List Entry). Good true 0 z (children_of 16 es)) (longer_from 0 es (fit_from es f)) (children_good 16 es (map_rising es m) (fit_short es f))

  pub shape_back : entries_below [] (shape es) ≡ es
  shape_back = shape_good.back

  pub shape_rules : Rules true 0 (shape es)
  shape_rules = shape_good.kept

  pub shape_canonical : canonical (shape es) ≡ true
  shape_canonical = rules_canonical shape_rules
