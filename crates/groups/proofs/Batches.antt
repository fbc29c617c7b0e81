-- IDs delivered one after the other, in a group and among the groups. Assumes nothing.
use mathlib.Core.Path.{◌≡◌, refl, ap, ◌∙◌}
use mathlib.Core.Bool.{true, false}
use mathlib.Core.List.{List, [], ◌∷◌, ◌++◌}
use Rattle.std.proofs.Common.{Some}
use Prim.Native.Nat.{ℕ, ◌+◌, ◌^◌, ◌≤◌, ◌<◌}
use native.Mathlib.Omega.{arith}
use lib.ListN.{length, length-append}
use Rattle.octets.specs.Pick.{both}
use Rattle.octets.proofs.Laws.{both_true}
use Rattle.id.specs.declared.Id.{Id}
use Rattle.id.specs.Id.{Fits64, is_id, below, at_most}
use Rattle.id.proofs.Laws.{id_fits}
use Rattle.groups.specs.Group.{Group, is_name, pending_up_to, is_group}
use Rattle.groups.specs.Area.{is_groups}
use Rattle.groups.specs.Step.{deliver, deliver_all, find_group, put_group, lacks_consumer}
use Rattle.groups.specs.Answer.{ids_above, ids_up_to}
use Rattle.groups.proofs.Rules.{rules}
use Rattle.groups.proofs.Pendings.{put_last}
use Rattle.groups.proofs.Consumers.{among_new}
use Rattle.groups.proofs.Kept.{deliver_kept, deliver_up_to}
use Rattle.groups.proofs.Steps.{deliver_name, found_is_group, found_up_to, put_step}

-- the consumer is then known
pub lacks_delivered : (c : List ℕ) (now : ℕ) (i : Id) (g : Group) → lacks_consumer c (deliver c now i g) ≡ false
unfolding lacks_consumer deliver
lacks_delivered c now i g = rw (among_new c g.consumers)

-- the first of a batch, and the others
pub above_first : (d i : Id) (is : List Id) → ids_above d (i ∷ is) ≡ true → Fits64 i × (below d i ≡ true) × (ids_above i is ≡ true)
unfolding ids_above
above_first d i is a =
    let q = both_true (both (is_id i) (below d i)) (ids_above i is) a in
    let x = both_true (is_id i) (below d i) q.0 in
    (id_fits i x.0, x.1, q.1)

-- what one delivery leaves, where others follow
pub record Turn (c : List ℕ) (is : List Id) (g h : Group) : Type 0 where
  pub kept : is_group h ≡ true
  pub known : lacks_consumer c h ≡ false
  pub above : ids_above h.delivered is ≡ true
  pub count : length h.pending ≡ length g.pending + 1

module _ (c : List ℕ) (now : ℕ) where
  pub deliver_turn : (i : Id) (is : List Id) (g : Group) → is_group g ≡ true → is_name c ≡ true → now < 2 ^ 64 → lacks_consumer c g ≡ false
      → ids_above g.delivered (i ∷ is) ≡ true → length g.pending < 256 → Turn c is g (deliver c now i g)
  unfolding deliver
  deliver_turn i is g e h t k a l =
      let x = above_first g.delivered i is a in
      record {
        kept = deliver_kept c now i g e h t x.0 x.1 k l;
        known = lacks_delivered c now i g;
        above = x.2;
        count = ap length (put_last _ g.delivered x.1 g.pending (rules g e).up_to_lem) ∙ length-append g.pending _;
      }

  pub deliver_all_name : (is : List Id) (g : Group) → (deliver_all c now is g).name ≡ g.name
  unfolding deliver_all
  deliver_all_name [] g = refl
  deliver_all_name (i ∷ is) g = deliver_all_name is (deliver c now i g) ∙ deliver_name c now i g

  pub deliver_all_join : (is js : List Id) (g : Group) → deliver_all c now (is ++ js) g ≡ deliver_all c now js (deliver_all c now is g)
  unfolding deliver_all
  deliver_all_join [] js g = refl
  deliver_all_join (i ∷ is) js g = deliver_all_join is js (deliver c now i g)

  pub deliver_all_up_to : (last : Id) (is : List Id) (g : Group) → pending_up_to last g.pending ≡ true → ids_up_to last is ≡ true
      → pending_up_to last (deliver_all c now is g).pending ≡ true
  unfolding deliver_all ids_up_to
  deliver_all_up_to last [] g u m = u
  deliver_all_up_to last (i ∷ is) g u m =
      let q = both_true (at_most i last) (ids_up_to last is) m in
      deliver_all_up_to last is (deliver c now i g) (deliver_up_to last g u c now i q.0) q.1

  pub deliver_all_kept : (is : List Id) (g : Group) → is_group g ≡ true → is_name c ≡ true → now < 2 ^ 64 → lacks_consumer c g ≡ false
      → ids_above g.delivered is ≡ true → length g.pending + length is ≤ 256 → is_group (deliver_all c now is g) ≡ true
  unfolding deliver_all
  deliver_all_kept [] g e h t k a l = e
  deliver_all_kept (i ∷ is) g e h t k a l =
      let x = deliver_turn i is g e h t k a (omega arith) in
      deliver_all_kept is (deliver c now i g) x.kept h t x.known x.above (omega arith)

  pub deliver_all_length : (is : List Id) (g : Group) → is_group g ≡ true → is_name c ≡ true → now < 2 ^ 64 → lacks_consumer c g ≡ false
      → ids_above g.delivered is ≡ true → length g.pending + length is ≤ 256
      → length (deliver_all c now is g).pending ≡ length g.pending + length is
  unfolding deliver_all
  deliver_all_length [] g e h t k a l = omega arith
  deliver_all_length (i ∷ is) g e h t k a l =
      let x = deliver_turn i is g e h t k a (omega arith) in
      deliver_all_length is (deliver c now i g) x.kept h t x.known x.above (omega arith) ∙ omega arith

-- the groups keep their rules when the group that was found takes a batch
pub deliver_all_groups : (last : Id) (gs : List Group) → is_groups last gs ≡ true → (n : List ℕ) (g : Group) → find_group n gs ≡ Some g
    → (c : List ℕ) (now : ℕ) (is : List Id) → is_name c ≡ true → now < 2 ^ 64 → ids_above g.delivered is ≡ true → ids_up_to last is ≡ true
    → lacks_consumer c g ≡ false → length g.pending + length is ≤ 256 → is_groups last (put_group (deliver_all c now is g) gs) ≡ true
deliver_all_groups last gs e n g f c now is h t a m k l =
    put_step last gs e n g f (deliver_all c now is g) (deliver_all_name c now is g)
    (deliver_all_kept c now is g (found_is_group last gs e n g f) h t k a l)
    (deliver_all_up_to c now last is g (found_up_to last gs e n g f) m)
