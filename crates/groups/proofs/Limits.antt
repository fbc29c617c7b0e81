-- Two limits on the pending IDs are one, the lesser. Assumes nothing.
use mathlib.Core.Path.{◌≡◌, refl, sym, ap, ap₂, ◌∙◌}
use mathlib.Core.Bool.{Bool, true, false, not}
use mathlib.Core.List.{List}
use Prim.Native.Nat.{ℕ, zero, suc}
use lib.Dec.{leb, ltb}
use lib.ListN.{drop, get_or}
use Rattle.octets.specs.Pick.{pick, both}
use Rattle.octets.specs.Bytes.{le_value}
use Rattle.octets.specs.Place.{area}
use Rattle.octets.proofs.Laws.{both_false, both_end}
use Rattle.id.specs.declared.Id.{Id}
use Rattle.id.specs.Id.{below, at_most}
use Rattle.id.proofs.Laws.{at_most_trans, at_most_not, below_asym, below_not}
use Rattle.groups.specs.Group.{pending_up_to}
use Rattle.groups.specs.Parse.{entry_id, pending_in, is_entry, all_pending_in, are_entries}

pub both_swap : (a b c : Bool) → both (both a b) c ≡ both (both a c) b
both_swap false b c = refl
both_swap true true c = sym (both_end c)
both_swap true false c = sym (both_false c)

-- the second follows from the first, and the first from the second
first_holds : (a b : Bool) → (a ≡ true → b ≡ true) → a ≡ both a b
first_holds true b f = sym (f refl)
first_holds false b f = refl

second_holds : (a b : Bool) → (b ≡ true → a ≡ true) → b ≡ both a b
second_holds true b f = refl
second_holds false true f = sym (f refl)
second_holds false false f = refl

not_at_most : (a b : Id) → at_most a b ≡ false → at_most b a ≡ true
not_at_most a b e = at_most_not a b ∙ ap not (below_asym b a (below_not b a ∙ ap not e))

lesser_case : (a b i : Id) (t : Bool) → at_most a b ≡ t → at_most i (pick t a b) ≡ both (at_most i a) (at_most i b)
lesser_case a b i true e = first_holds (at_most i a) (at_most i b) (λ h. at_most_trans i a b h e)
lesser_case a b i false e = second_holds (at_most i a) (at_most i b) (λ h. at_most_trans i b a h (not_at_most a b e))

pub at_most_lesser : (a b i : Id) → at_most i (pick (at_most a b) a b) ≡ both (at_most i a) (at_most i b)
at_most_lesser a b i = lesser_case a b i (at_most a b) refl

regroup : (x b p q r u : Bool) → both (both x (both b (both p q))) (both r u) ≡ both (both (both x (both b p)) r) (both q u)
regroup false b p q r u = refl
regroup true false p q r u = refl
regroup true true false q r u = refl
regroup true true true false r u = sym (both_false r)
regroup true true true true r u = refl

pub entries_lesser : (consumers : ℕ) (above most last : Id) (n : ℕ) (cs : List (List ℕ)) (s : List ℕ)
    → are_entries consumers above (pick (at_most most last) most last) n s ≡ both (are_entries consumers above most n s) (pending_up_to last (all_pending_in n cs s))
unfolding are_entries is_entry pending_up_to all_pending_in pending_in
entries_lesser consumers above most last zero cs s = refl
entries_lesser consumers above most last (suc n) cs s =
    let x : Bool = both (ltb (get_or s 16 0) consumers) (leb 1 (le_value (area 25 2 s))) in
    let i : Id = entry_id s in
    let r : Bool = are_entries consumers i most n (drop 27 s) in
    let u : Bool = pending_up_to last (all_pending_in n cs (drop 27 s)) in
    ap₂ (λ (a b : Bool). both (both x (both (below above i) a)) b) (at_most_lesser most last i) (entries_lesser consumers i most last n cs (drop 27 s))
    ∙ regroup x (below above i) (at_most i most) (at_most i last) r u
