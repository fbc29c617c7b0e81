-- Pending entries in rising order: one put in, one taken out, some left out. Assumes nothing.
use mathlib.Core.Path.{◌≡◌, refl, sym, ap, ap₂, ◌∙◌, subst}
use mathlib.Core.Bool.{Bool, true, false}
use mathlib.Core.Logic.{⊎_elim}
use mathlib.Core.List.Memᴰ
use mathlib.Core.List.{List, [], ◌∷◌, ◌++◌, Memᴰ}
use Rattle.std.proofs.Common.{Some, None}
use Prim.Native.Nat.{ℕ, suc, ◌+◌, ◌≤◌, ◌<◌}
use native.Mathlib.Omega.{arith}
use lib.ListN.{length, take, drop, length-append, length-take, length-drop}
use Rattle.octets.specs.Pick.{pick, both}
use Rattle.octets.specs.Compare.{same, is_less}
use Rattle.std.specs.declared.cmp.Ordering.TheVariants.{Less, Equal, Greater}
use Rattle.octets.proofs.Laws.{both_true, mirror, both_of, never, is_equal_lem}
use Rattle.id.specs.declared.Id.{Id}
use Rattle.id.specs.Id.{id_order, below, at_most, same_id}
use Rattle.id.proofs.Laws.{below_less, below_trans, below_irrefl, at_most_below_trans, id_order_refl, id_order_equal, id_order_mirror}
use Rattle.groups.specs.Group.{Pending, is_pending, are_pending, pending_above, pending_up_to}
use Rattle.groups.specs.Step.{find_pending, put_pending, without_pending, pending_of, pending_of_others}
use Rattle.groups.specs.Answer.{place_of_id}
use Rattle.groups.proofs.Orders.{by_three}

-- by the order of two IDs
pub by_id : {C : Type 0} (a b : Id) → (id_order a b ≡ Less → C) → (id_order a b ≡ Equal → C) → (id_order a b ≡ Greater → C) → C
by_id a b = by_three (id_order a b)

-- what is above comes after
pub after : (a b : Id) → below a b ≡ true → id_order b a ≡ Greater
after a b h = id_order_mirror a b ∙ ap mirror (below_less a b h)

pub before_after : (a b : Id) → id_order a b ≡ Greater → below b a ≡ true
before_after a b e = ap is_less (id_order_mirror a b ∙ ap mirror e)

-- a rule for each of them
unfoldable pub all_of : (Pending → Bool) → List Pending → Bool
all_of f [] = true
all_of f (p ∷ ps) = both (f p) (all_of f ps)

pub up_to_all : (i : Id) (ps : List Pending) → pending_up_to i ps ≡ all_of (λ p. at_most p.id i) ps
unfolding pending_up_to all_of
up_to_all i [] = refl
up_to_all i (p ∷ ps) = ap (both (at_most p.id i)) (up_to_all i ps)

pub entries_all : (cs : List (List ℕ)) (ps : List Pending) → are_pending cs ps ≡ all_of (is_pending cs) ps
unfolding are_pending all_of
entries_all cs [] = refl
entries_all cs (p ∷ ps) = ap (both (is_pending cs p)) (entries_all cs ps)

module _ (f : Pending → Bool) where
  pub all_of_lem : (p : Pending) (ps : List Pending) → all_of f (p ∷ ps) ≡ true → (f p ≡ true) × (all_of f ps ≡ true)
  unfolding all_of
  all_of_lem p ps e = both_true (f p) (all_of f ps) e

  pub all_more : (p : Pending) (ps : List Pending) → f p ≡ true → all_of f ps ≡ true → all_of f (p ∷ ps) ≡ true
  unfolding all_of
  all_more p ps h e = both_of h e

  pub all_weaker : (g : Pending → Bool) → ((p : Pending) → f p ≡ true → g p ≡ true) → (ps : List Pending) → all_of f ps ≡ true → all_of g ps ≡ true
  unfolding all_of
  all_weaker g w [] e = refl
  all_weaker g w (p ∷ ps) e = let q = both_true (f p) (all_of f ps) e in both_of (w p q.0) (all_weaker g w ps q.1)

  pub all_member : (p : Pending) (ps : List Pending) → Memᴰ p ps → all_of f ps ≡ true → f p ≡ true
  all_member p [] m e = absurd (Memᴰ.not-nil m)
  all_member p (q ∷ ps) m e =
      ⊎_elim (λ (x : p ≡ q). rw x (all_of_lem q ps e).0) (λ (x : Memᴰ p ps). all_member p ps x (all_of_lem q ps e).1) (Memᴰ.cases_cons m)

-- rising
pub above_of : (a : Id) (p : Pending) (ps : List Pending) → pending_above a (p ∷ ps) ≡ true → (below a p.id ≡ true) × (pending_above p.id ps ≡ true)
unfolding pending_above
above_of a p ps e = both_true (below a p.id) (pending_above p.id ps) e

pub above_more : (a : Id) (p : Pending) (ps : List Pending) → below a p.id ≡ true → pending_above p.id ps ≡ true → pending_above a (p ∷ ps) ≡ true
unfolding pending_above
above_more a p ps h e = both_of h e

pub above_lower : (a b : Id) (ps : List Pending) → below a b ≡ true → pending_above b ps ≡ true → pending_above a ps ≡ true
above_lower a b [] h e = unfold pending_above in refl
above_lower a b (p ∷ ps) h e = let q = above_of b p ps e in above_more a p ps (below_trans a b p.id h q.0) q.1

pub above_all : (a : Id) (ps : List Pending) → pending_above a ps ≡ true → all_of (λ p. below a p.id) ps ≡ true
unfolding all_of
above_all a [] e = refl
above_all a (p ∷ ps) e = let q = above_of a p ps e in both_of q.0 (above_all a ps (above_lower a p.id ps q.0 q.1))

-- some left out
pub data Within : List Pending → List Pending → Type 0 where
  none_left : Within [] []
  kept : {p : Pending} {xs ys : List Pending} → Within xs ys → Within (p ∷ xs) (p ∷ ys)
  left_out : {p : Pending} {xs ys : List Pending} → Within xs ys → Within xs (p ∷ ys)

pub within_all : {ys : List Pending} → Within ys ys
within_all {ys = []} = none_left
within_all {ys = y ∷ ys} = kept within_all

pub all_within : (f : Pending → Bool) {xs ys : List Pending} → Within xs ys → all_of f ys ≡ true → all_of f xs ≡ true
unfolding all_of
all_within f none_left e = refl
all_within f (kept {p} {xs} {ys} w) e = let q = both_true (f p) (all_of f ys) e in both_of q.0 (all_within f w q.1)
all_within f (left_out {p} {xs} {ys} w) e = all_within f w (both_true (f p) (all_of f ys) e).1

pub above_within : (a : Id) {xs ys : List Pending} → Within xs ys → pending_above a ys ≡ true → pending_above a xs ≡ true
above_within a none_left e = e
above_within a (kept {p} {xs} {ys} w) e = let q = above_of a p ys e in above_more a p xs q.0 (above_within p.id w q.1)
above_within a (left_out {p} {xs} {ys} w) e = let q = above_of a p ys e in above_within a w (above_lower a p.id ys q.0 q.1)

pub length_within : {xs ys : List Pending} → Within xs ys → length xs ≤ length ys
length_within none_left = omega arith
length_within (kept w) = let h = length_within w in omega arith
length_within (left_out w) = let h = length_within w in omega arith

-- one entry put in
module _ (q : Pending) where
  pub put_equal : (p : Pending) (ps : List Pending) → id_order q.id p.id ≡ Equal → put_pending q (p ∷ ps) ≡ q ∷ ps
  unfolding put_pending
  put_equal p ps e = rw e

  pub put_less : (p : Pending) (ps : List Pending) → id_order q.id p.id ≡ Less → put_pending q (p ∷ ps) ≡ q ∷ (p ∷ ps)
  unfolding put_pending
  put_less p ps e = rw e

  pub put_greater : (p : Pending) (ps : List Pending) → id_order q.id p.id ≡ Greater → put_pending q (p ∷ ps) ≡ p ∷ put_pending q ps
  unfolding put_pending
  put_greater p ps e = rw e

  pub all_put : (f : Pending → Bool) → f q ≡ true → (ps : List Pending) → all_of f ps ≡ true → all_of f (put_pending q ps) ≡ true
  all_put f h [] e = unfold put_pending in all_more f q [] h e
  all_put f h (p ∷ ps) e =
      let x = all_of_lem f p ps e in
      by_id q.id p.id
      (λ o. rw (put_less p ps o) (all_more f q (p ∷ ps) h e))
      (λ o. rw (put_equal p ps o) (all_more f q ps h x.1))
      (λ o. rw (put_greater p ps o) (all_more f p (put_pending q ps) x.0 (all_put f h ps x.1)))

  pub above_put : (a : Id) → below a q.id ≡ true → (ps : List Pending) → pending_above a ps ≡ true → pending_above a (put_pending q ps) ≡ true
  above_put a h [] e = unfold put_pending in above_more a q [] h (unfold pending_above in refl)
  above_put a h (p ∷ ps) e =
      let x = above_of a p ps e in
      by_id q.id p.id
      (λ o. rw (put_less p ps o) (above_more a q (p ∷ ps) h (above_more q.id p ps (ap is_less o) x.1)))
      (λ o. rw (put_equal p ps o) (above_more a q ps h (rw (id_order_equal q.id p.id o) x.1)))
      (λ o. rw (put_greater p ps o) (above_more a p (put_pending q ps) x.0 (above_put p.id (before_after q.id p.id o) ps x.1)))

  -- above all of them it comes last
  pub put_last : (d : Id) → below d q.id ≡ true → (ps : List Pending) → pending_up_to d ps ≡ true → put_pending q ps ≡ ps ++ (q ∷ [])
  unfolding pending_up_to
  put_last d h [] e = unfold put_pending in refl
  put_last d h (p ∷ ps) e =
      let x = both_true (at_most p.id d) (pending_up_to d ps) e in
      put_greater p ps (after p.id q.id (at_most_below_trans p.id d q.id x.0 h)) ∙ ap (λ (l : List Pending). p ∷ l) (put_last d h ps x.1)

-- an entry that is found, and the entries about it
pub record Stands (i : Id) (ps : List Pending) (p : Pending) : Type 0 where
  pub within : place_of_id i ps < length ps
  pub same_id_lem : p.id ≡ i
  pub split : ps ≡ take (place_of_id i ps) ps ++ (p ∷ drop (suc (place_of_id i ps)) ps)
  pub without : without_pending i ps ≡ take (place_of_id i ps) ps ++ drop (suc (place_of_id i ps)) ps
  pub member : Memᴰ p ps

stands_case : (i : Id) (h : Pending) (ps : List Pending) (p : Pending) (t : Bool) → same_id h.id i ≡ t
    → pick t (Some h) (find_pending i ps) ≡ Some p → (find_pending i ps ≡ Some p → Stands i ps p) → Stands i (h ∷ ps) p
unfolding place_of_id without_pending
stands_case i h ps p true e f r =
    let x : h ≡ p = cc in
    subst (Stands i (h ∷ ps)) x
    (record {
      within = rw e (omega arith);
      same_id_lem = id_order_equal h.id i (is_equal_lem (id_order h.id i) e);
      split = rw e;
      without = rw e;
      member = Memᴰ.head refl;
    })
stands_case i h ps p false e f r =
    let x = r f in
    let k : 1 + place_of_id i ps ≡ suc (place_of_id i ps) = omega arith in
    record {
      within = rw e (omega (arith, x.within));
      same_id_lem = x.same_id_lem;
      split = rw (e, k) (ap (λ (l : List Pending). h ∷ l) x.split);
      without = rw (e, k) (ap (λ (l : List Pending). h ∷ l) x.without);
      member = Memᴰ.tail x.member;
    }

pub stands : (i : Id) (ps : List Pending) (p : Pending) → find_pending i ps ≡ Some p → Stands i ps p
unfolding find_pending
stands i [] p e = absurd (let z : ◌≡◌ {A = ℕ} 0 1 = cc in omega arith)
stands i (h ∷ ps) p e = stands_case i h ps p (same_id h.id i) refl e (stands i ps p)

-- none is found
absent_case : (i : Id) (h : Pending) (ps : List Pending) (t : Bool) → pick t (Some h) (find_pending i ps) ≡ None
    → (find_pending i ps ≡ None → without_pending i ps ≡ ps) → pick t ps (h ∷ without_pending i ps) ≡ h ∷ ps
absent_case i h ps true f r = absurd (let z : ◌≡◌ {A = ℕ} 0 1 = cc in omega arith)
absent_case i h ps false f r = ap (λ (l : List Pending). h ∷ l) (r f)

pub without_absent : (i : Id) (ps : List Pending) → find_pending i ps ≡ None → without_pending i ps ≡ ps
unfolding find_pending without_pending
without_absent i [] e = refl
without_absent i (h ∷ ps) e = absent_case i h ps (same_id h.id i) e (without_absent i ps)

-- an ID that is found lies above what the entries rise above
pub found_above : (a i : Id) (ps : List Pending) (p : Pending) → pending_above a ps ≡ true → find_pending i ps ≡ Some p → below a i ≡ true
found_above a i ps p e f =
    let s = stands i ps p f in
    rw s.same_id_lem at (all_member (λ q. below a q.id) p ps s.member (above_all a ps e))

-- an entry gives way to another of its ID, at its place
module _ (i : Id) (q : Pending) (same_id_lem : q.id ≡ i) where
  put_case : (a : Id) (h : Pending) (ps : List Pending) (p : Pending) (t : Bool) → same_id h.id i ≡ t
      → pending_above a (h ∷ ps) ≡ true → pick t (Some h) (find_pending i ps) ≡ Some p
      → (find_pending i ps ≡ Some p → put_pending q ps ≡ take (place_of_id i ps) ps ++ (q ∷ drop (suc (place_of_id i ps)) ps))
      → put_pending q (h ∷ ps) ≡ take (place_of_id i (h ∷ ps)) (h ∷ ps) ++ (q ∷ drop (suc (place_of_id i (h ∷ ps))) (h ∷ ps))
  unfolding place_of_id
  put_case a h ps p true e r f g =
      let x : h.id ≡ i = id_order_equal h.id i (is_equal_lem (id_order h.id i) e) in
      rw e (put_equal q h ps (ap₂ id_order same_id_lem x ∙ id_order_refl i))
  put_case a h ps p false e r f g =
      let k : 1 + place_of_id i ps ≡ suc (place_of_id i ps) = omega arith in
      let b : below h.id q.id ≡ true = rw same_id_lem (found_above h.id i ps p (above_of a h ps r).1 f) in
      rw (e, k) (put_greater q h ps (after h.id q.id b) ∙ ap (λ (l : List Pending). h ∷ l) (g f))

  pub put_found : (a : Id) (ps : List Pending) (p : Pending) → pending_above a ps ≡ true → find_pending i ps ≡ Some p
      → put_pending q ps ≡ take (place_of_id i ps) ps ++ (q ∷ drop (suc (place_of_id i ps)) ps)
  unfolding find_pending
  put_found a [] p e f = absurd (let z : ◌≡◌ {A = ℕ} 0 1 = cc in omega arith)
  put_found a (h ∷ ps) p e f =
      put_case a h ps p (same_id h.id i) refl e f (put_found h.id ps p (above_of a h ps e).1)

  pub length_put_found : (a : Id) (ps : List Pending) (p : Pending) → pending_above a ps ≡ true → find_pending i ps ≡ Some p
      → length (put_pending q ps) ≡ length ps
  length_put_found a ps p e f =
      let k : ℕ = place_of_id i ps in
      let h : k < length ps = (stands i ps p f).within in
      ap length (put_found a ps p e f)
      ∙ omega (arith, length-append (take k ps) (q ∷ drop (suc k) ps), length-take k ps, length-drop (suc k) ps)

-- in rising entries an ID has one entry
pub only_entry : (a : Id) (ps : List Pending) (p q : Pending) → pending_above a ps ≡ true → Memᴰ p ps → Memᴰ q ps
    → p.id ≡ q.id → p ≡ q
only_entry a [] p q e m n w = absurd (Memᴰ.not-nil m)
only_entry a (h ∷ ps) p q e m n w =
    let x = above_of a h ps e in
    let late : (r : Pending) → Memᴰ r ps → h.id ≡ r.id → ⊥ = λ r k v.
    never (rw (← v) at (all_member (λ t. below h.id t.id) r ps k (above_all h.id ps x.1))) (below_irrefl h.id) in
    ⊎_elim
    (λ (b : p ≡ h). ⊎_elim
    (λ (c : q ≡ h). b ∙ sym c)
    (λ (c : Memᴰ q ps). absurd (late q c (ap (λ (t : Pending). t.id) (sym b) ∙ w)))
    (Memᴰ.cases_cons n))
    (λ (b : Memᴰ p ps). ⊎_elim
    (λ (c : q ≡ h). absurd (late p b (ap (λ (t : Pending). t.id) (sym c) ∙ sym w)))
    (λ (c : Memᴰ q ps). only_entry h.id ps p q x.1 b c w)
    (Memᴰ.cases_cons n))
    (Memᴰ.cases_cons m)

-- entries taken out
without_case : (p : Pending) (xs ps : List Pending) (t : Bool) → Within xs ps → Within (pick t ps (p ∷ xs)) (p ∷ ps)
without_case p xs ps true w = left_out within_all
without_case p xs ps false w = kept w

pub without_within : (i : Id) (ps : List Pending) → Within (without_pending i ps) ps
unfolding without_pending
without_within i [] = none_left
without_within i (p ∷ ps) = without_case p (without_pending i ps) ps (same_id p.id i) (without_within i ps)

others_case : (p : Pending) (xs ps : List Pending) (t : Bool) → Within xs ps → Within (pick t xs (p ∷ xs)) (p ∷ ps)
others_case p xs ps true w = left_out w
others_case p xs ps false w = kept w

pub others_within : (c : List ℕ) (ps : List Pending) → Within (pending_of_others c ps) ps
unfolding pending_of_others
others_within c [] = none_left
others_within c (p ∷ ps) = others_case p (pending_of_others c ps) ps (same c p.consumer) (others_within c ps)

-- each entry is that consumer's, or one of the others'
count_case : (p : Pending) (t : Bool) (xs ys ps : List Pending) → length xs + length ys ≡ length ps
    → length (pick t (p ∷ xs) xs) + length (pick t ys (p ∷ ys)) ≡ suc (length ps)
count_case p true xs ys ps e = omega arith
count_case p false xs ys ps e = omega arith

pub count_others : (c : List ℕ) (ps : List Pending) → length (pending_of c ps) + length (pending_of_others c ps) ≡ length ps
unfolding pending_of pending_of_others
count_others c [] = refl
count_others c (p ∷ ps) = count_case p (same c p.consumer) (pending_of c ps) (pending_of_others c ps) ps (count_others c ps)
