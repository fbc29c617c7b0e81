-- Entries below some bytes: `under l` puts the bytes l in front of every key, and `cut` takes them off again. Assumes nothing.
use mathlib.Core.Path.{◌≡◌, refl, sym, ap, ap₂, ◌∙◌}
use mathlib.Core.Bool.{Bool, true, false}
use mathlib.Core.List.{List, [], ◌∷◌, ◌++◌, append_assoc, append-nil}
use Rattle.std.proofs.Common.{Option, Some, None}
use Prim.Native.Nat.{ℕ, suc}
use lib.Dec.{eqb}
use lib.ListN.{length}
use lib.Seq.{drop-append_seam}
use borrow.Author.Tests.{eq-eqb, eqb-true}
use Rattle.octets.specs.Pick.{pick}
use Rattle.keys.specs.Entries.{Entry, entry}
use Rattle.radix.specs.Shape.{Shape, nil, node, own_entry, entries_below, cut, common, prefix_of}

abbrev pub under : List ℕ → List Entry → List Entry
under l [] = []
under l (e ∷ es) = entry (l ++ e.key) e.value ∷ under l es

pub under_append : (l : List ℕ) (xs ys : List Entry) → under l (xs ++ ys) ≡ under l xs ++ under l ys
under_append l [] ys = refl
under_append l (x ∷ xs) ys = ap (λ (z : List Entry). entry (l ++ x.key) x.value ∷ z) (under_append l xs ys)

pub under_under : (a b : List ℕ) (es : List Entry) → under (a ++ b) es ≡ under a (under b es)
under_under a b [] = refl
under_under a b (e ∷ es) = ap₂ (λ (k : List ℕ) (z : List Entry). entry k e.value ∷ z) (append_assoc a b e.key) (under_under a b es)

pub under_nil : (es : List Entry) → under [] es ≡ es
under_nil [] = refl
under_nil (e ∷ es) = ap (λ (z : List Entry). e ∷ z) (under_nil es)

pub length_under : (l : List ℕ) (es : List Entry) → length (under l es) ≡ length es
length_under l [] = refl
length_under l (e ∷ es) = ap suc (length_under l es)

pub under_own : (l k : List ℕ) (v : Option ℕ) → own_entry (l ++ k) v ≡ under l (own_entry k v)
under_own l k None = refl
under_own l k (Some v) = refl

pub entries_under : (a b : List ℕ) (s : Shape) → entries_below (a ++ b) s ≡ under a (entries_below b s)
unfolding entries_below
entries_under a b nil = refl
entries_under a b (node l v below later) =
    simp (append_assoc, under_append, under_own, entries_under a (b ++ l) below, entries_under a b later)

-- the remainders at a node
abbrev pub remainders : Option ℕ → Shape → List Entry
remainders v below = own_entry [] v ++ entries_below [] below

pub entries_before : (a : List ℕ) (s : Shape) → entries_below a s ≡ under a (entries_below [] s)
entries_before a s = ap (λ (b : List ℕ). entries_below b s) (sym (append-nil a)) ∙ entries_under a [] s

pub remainders_under : (l : List ℕ) (v : Option ℕ) (below : Shape) → own_entry l v ++ entries_below l below ≡ under l (remainders v below)
remainders_under l v below =
    ap₂ ◌++◌ (ap (λ (k : List ℕ). own_entry k v) (sym (append-nil l)) ∙ under_own l [] v) (entries_before l below)
    ∙ sym (under_append l (own_entry [] v) (entries_below [] below))

pub entries_node : (a l : List ℕ) (v : Option ℕ) (below later : Shape)
    → entries_below a (node l v below later) ≡ under (a ++ l) (remainders v below) ++ entries_below a later
unfolding entries_below
entries_node a l v below later =
    sym (append_assoc (own_entry (a ++ l) v) (entries_below (a ++ l) below) (entries_below a later))
    ∙ ap (λ (z : List Entry). z ++ entries_below a later) (remainders_under (a ++ l) v below)

pub entries_only : (l : List ℕ) (v : Option ℕ) (below : Shape) → entries_below [] (node l v below nil) ≡ under l (remainders v below)
unfolding entries_below
entries_only l v below = entries_node [] l v below nil ∙ append-nil (under l (remainders v below))

pub cut_under : (l : List ℕ) (es : List Entry) → cut (length l) (under l es) ≡ es
unfolding cut
cut_under l [] = refl
cut_under l (e ∷ es) = ap₂ (λ (k : List ℕ) (z : List Entry). entry k e.value ∷ z) (drop-append_seam l e.key) (cut_under l es)

-- the longest common prefix of two lists is one of each
pub common_left : (a b : List ℕ) → (r : List ℕ) × (a ≡ common a b ++ r)
unfolding common
common_left [] b = ([], refl)
common_left (x ∷ a) [] = (x ∷ a, refl)
common_left (x ∷ a) (y ∷ b) = go (eqb x y) (common_left a b)
  where
    go : (t : Bool) → ((r : List ℕ) × (a ≡ common a b ++ r)) → (r : List ℕ) × (x ∷ a ≡ pick t (x ∷ common a b) [] ++ r)
    go true (r, e) = (r, ap (λ (z : List ℕ). x ∷ z) e)
    go false h = (x ∷ a, refl)

pub common_right : (a b : List ℕ) → (r : List ℕ) × (b ≡ common a b ++ r)
unfolding common
common_right [] b = (b, refl)
common_right (x ∷ a) [] = ([], refl)
common_right (x ∷ a) (y ∷ b) = go (eqb x y) refl (common_right a b)
  where
    go : (t : Bool) → eqb x y ≡ t → ((r : List ℕ) × (b ≡ common a b ++ r)) → (r : List ℕ) × (y ∷ b ≡ pick t (x ∷ common a b) [] ++ r)
    go true q (r, e) = (r, ap₂ (λ (c : ℕ) (z : List ℕ). c ∷ z) (sym (eqb-true x y q)) e)
    go false q h = (y ∷ b, refl)

pub common_nil : (l : List ℕ) → common l [] ≡ []
unfolding common
common_nil [] = refl
common_nil (x ∷ l) = refl

common_same : (l a b : List ℕ) → common (l ++ a) (l ++ b) ≡ l ++ common a b
unfolding common
common_same [] a b = refl
common_same (x ∷ l) a b = rw (eq-eqb x x refl) (ap (λ (z : List ℕ). x ∷ z) (common_same l a b))

pub prefix_under : (l : List ℕ) (e : Entry) (es : List Entry) → prefix_of (under l (e ∷ es)) ≡ l ++ prefix_of (e ∷ es)
unfolding prefix_of
prefix_under l e [] = refl
prefix_under l e (f ∷ es) = ap (common (l ++ e.key)) (prefix_under l f es) ∙ common_same l e.key (prefix_of (f ∷ es))

-- every key has the longest common prefix
prefix_within : (es : List Entry) → (xs : List Entry) × (es ≡ under (prefix_of es) xs)
unfolding prefix_of
prefix_within [] = ([], refl)
prefix_within (e ∷ []) = (entry [] e.value ∷ [], ap (λ (k : List ℕ). entry k e.value ∷ []) (sym (append-nil e.key)))
prefix_within (e ∷ (f ∷ es)) =
    let (ys, p) = prefix_within (f ∷ es) in
    let q = prefix_of (f ∷ es) in
    let c = common e.key q in
    let (r, u) = common_left e.key q in
    let (s, w) = common_right e.key q in
    (entry r e.value ∷ under s ys, ap₂ (λ (k : List ℕ) (z : List Entry). entry k e.value ∷ z) u (p ∙ ap (λ (z : List ℕ). under z ys) w ∙ under_under c s ys))

pub prefix_cut : (es : List Entry) → es ≡ under (prefix_of es) (cut (length (prefix_of es)) es)
prefix_cut es =
    let (xs, p) = prefix_within es in
    p ∙ ap (under (prefix_of es)) (sym (ap (cut (length (prefix_of es))) p ∙ cut_under (prefix_of es) xs))
