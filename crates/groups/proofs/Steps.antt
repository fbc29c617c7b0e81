-- What each step does to a group's name, where it changes nothing, and that the groups keep their rules.
-- Assumes nothing.
use mathlib.Core.Path.{◌≡◌, refl, ap, ◌∙◌}
use mathlib.Core.Bool.{Bool, true, false}
use mathlib.Core.List.{List, [], ◌∷◌}
use Rattle.std.proofs.Common.{Some, None}
use Prim.Native.Nat.{ℕ, ◌^◌, ◌<◌}
use lib.ListN.{length}
use Rattle.octets.specs.Pick.{pick}
use Rattle.octets.specs.Compare.{same}
use Rattle.octets.proofs.Laws.{both_true, never, same_true}
use Rattle.id.specs.declared.Id.{Id}
use Rattle.id.specs.Id.{Fits64, below, at_most}
use Rattle.groups.specs.Group.{Pending, Group, is_name, is_among, is_pending, are_pending, pending_up_to, is_group}
use Rattle.groups.specs.Step.{find_pending, pending_of, pending_of_others, deliver, acknowledge, claim, drop_consumer, find_group, put_group, without_group, new_group, lacks_consumer}
use Rattle.groups.specs.Area.{names_of, is_groups}
use Rattle.groups.proofs.Entries.{entry}
use Rattle.groups.proofs.Rules.{rules}
use Rattle.groups.proofs.Pendings.{without_absent}
use Rattle.groups.proofs.Consumers.{without_unknown}
use Rattle.groups.proofs.Spots.{none_of}
use Rattle.groups.proofs.Kept.{deliver_kept, claim_kept, acknowledge_kept, drop_kept, deliver_up_to, claim_up_to, acknowledge_up_to, drop_up_to}
use Rattle.groups.proofs.Groups.{sound}
use Rattle.groups.proofs.Listed.{put_kept, new_kept, without_kept, new_is_group, new_up_to}
use Rattle.groups.proofs.Finding.{found_kept, found_named}

-- the name stays
pub deliver_name : (c : List ℕ) (now : ℕ) (i : Id) (g : Group) → (deliver c now i g).name ≡ g.name
unfolding deliver
deliver_name c now i g = refl

pub acknowledge_name : (i : Id) (g : Group) → (acknowledge i g).name ≡ g.name
unfolding acknowledge
acknowledge_name i g = refl

pub claim_name : (c : List ℕ) (now : ℕ) (p : Pending) (g : Group) → (claim c now p g).name ≡ g.name
unfolding claim
claim_name c now p g = refl

pub drop_name : (c : List ℕ) (g : Group) → (drop_consumer c g).name ≡ g.name
unfolding drop_consumer
drop_name c g = refl

-- nothing changes
pub acknowledge_missing : (i : Id) (g : Group) → find_pending i g.pending ≡ None → acknowledge i g ≡ g
unfolding acknowledge
acknowledge_missing i g f =
    let q = without_absent i g.pending f in
    λ j. record { name = g.name; delivered = g.delivered; consumers = g.consumers; pending = q j }

keep_case : (c : List ℕ) (cs : List (List ℕ)) (p : Pending) (xs ps : List Pending) (t : Bool) → same c p.consumer ≡ t → is_among c cs ≡ false
    → is_among p.consumer cs ≡ true → xs ≡ ps → pick t xs (p ∷ xs) ≡ p ∷ ps
keep_case c cs p xs ps true d e a z = absurd (never (ap (λ (n : List ℕ). is_among n cs) (same_true c p.consumer d) ∙ a) e)
keep_case c cs p xs ps false d e a z = ap (λ (l : List Pending). p ∷ l) z

others_all : (c : List ℕ) (cs : List (List ℕ)) (ps : List Pending) → is_among c cs ≡ false → are_pending cs ps ≡ true → pending_of_others c ps ≡ ps
unfolding pending_of_others are_pending
others_all c cs [] e h = refl
others_all c cs (p ∷ ps) e h =
    let q = both_true (is_pending cs p) (are_pending cs ps) h in
    keep_case c cs p (pending_of_others c ps) ps (same c p.consumer) refl e (entry cs p q.0).among (others_all c cs ps e q.1)

module _ (c : List ℕ) (g : Group) (k : is_group g ≡ true) (e : is_among c g.consumers ≡ false) where
  pub drop_unknown : drop_consumer c g ≡ g
  unfolding drop_consumer
  drop_unknown =
      let a = without_unknown c g.consumers e in
      let b = others_all c g.consumers g.pending e (rules g k).entries in
      λ i. record { name = g.name; delivered = g.delivered; consumers = a i; pending = b i }

  pub count_unknown : length (pending_of c g.pending) ≡ 0
  count_unknown = ap length (none_of c g.consumers g.pending e (rules g k).entries)

-- the groups keep their rules when the group that was found takes a step
module _ (last : Id) (gs : List Group) (e : is_groups last gs ≡ true) where
  module _ (n : List ℕ) (g : Group) (f : find_group n gs ≡ Some g) where
    pub found_is_group : is_group g ≡ true
    found_is_group = (found_kept last n gs g (sound last gs e).groups f).is_group_lem

    pub found_up_to : pending_up_to last g.pending ≡ true
    found_up_to = (found_kept last n gs g (sound last gs e).groups f).up_to_lem

    pub put_step : (h : Group) → h.name ≡ g.name → is_group h ≡ true → pending_up_to last h.pending ≡ true → is_groups last (put_group h gs) ≡ true
    put_step h m k u =
        let x = found_named n g gs f in
        put_kept last h gs e k u (ap (λ (a : List ℕ). is_among a (names_of gs)) (m ∙ x.name_is) ∙ x.among)

    pub deliver_groups : (c : List ℕ) (now : ℕ) (i : Id) → is_name c ≡ true → now < 2 ^ 64 → Fits64 i → below g.delivered i ≡ true → at_most i last ≡ true
        → lacks_consumer c g ≡ false → length g.pending < 256 → is_groups last (put_group (deliver c now i g) gs) ≡ true
    deliver_groups c now i h t x b m k l =
        put_step (deliver c now i g) (deliver_name c now i g) (deliver_kept c now i g found_is_group h t x b k l) (deliver_up_to last g found_up_to c now i m)

    pub acknowledge_groups : (i : Id) → is_groups last (put_group (acknowledge i g) gs) ≡ true
    acknowledge_groups i = put_step (acknowledge i g) (acknowledge_name i g) (acknowledge_kept i g found_is_group) (acknowledge_up_to last g found_up_to i)

    pub claim_groups : (c : List ℕ) (now : ℕ) (i : Id) (p : Pending) → is_name c ≡ true → now < 2 ^ 64 → find_pending i g.pending ≡ Some p
        → lacks_consumer c g ≡ false → is_groups last (put_group (claim c now p g) gs) ≡ true
    claim_groups c now i p h t x k =
        put_step (claim c now p g) (claim_name c now p g) (claim_kept c now i p g found_is_group h t x k) (claim_up_to last g found_up_to c now i p x)

    pub drop_groups : (c : List ℕ) → is_groups last (put_group (drop_consumer c g) gs) ≡ true
    drop_groups c = put_step (drop_consumer c g) (drop_name c g) (drop_kept c g found_is_group) (drop_up_to last g found_up_to c)

  pub create_groups : (n : List ℕ) (start : Id) → is_name n ≡ true → Fits64 start → length gs < 8 → is_groups last (put_group (new_group n start) gs) ≡ true
  create_groups n start h x l = new_kept last (new_group n start) gs e (new_is_group n start h x) (new_up_to last n start) l

  pub destroy_groups : (n : List ℕ) → is_groups last (without_group n gs) ≡ true
  destroy_groups n = without_kept last n gs e
