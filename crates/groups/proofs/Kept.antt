-- What happens to a group keeps its rules, and a pending ID has one consumer. Assumes nothing.
use mathlib.Core.Path.{◌≡◌, refl, sym, ap, ◌∙◌}
use mathlib.Core.Bool.{Bool, true, false, not}
use mathlib.Core.List.{List, [], ◌∷◌, Memᴰ}
use Rattle.std.proofs.Common.{Some}
use Prim.Native.Nat.{ℕ, suc, ◌+◌, ◌^◌, ◌≤◌, ◌<◌, min}
use native.Mathlib.Omega.{arith}
use lib.Dec.{leb}
use lib.ListN.{length, length-append}
use borrow.Author.Tests.{leb-false}
use Rattle.octets.specs.Pick.{pick, both}
use Rattle.octets.specs.Compare.{same}
use Rattle.octets.proofs.Laws.{both_true, both_of}
use Rattle.id.specs.declared.Id.{Id}
use Rattle.id.specs.Id.{Fits64, least, below, at_most}
use Rattle.id.proofs.Laws.{at_most_refl, at_most_trans, below_at_most, at_most_below_trans, least_at_most}
use Rattle.groups.specs.Group.{Pending, Group, is_name, names_above, is_among, is_pending, are_pending, pending_up_to, is_group}
use Rattle.groups.specs.Step.{with_name, without_name, find_pending, put_pending, without_pending, pending_of_others, deliver, acknowledge, claim, drop_consumer, lacks_consumer}
use Rattle.groups.specs.Answer.{with_consumer}
use Rattle.groups.proofs.Names.{named, empty_before}
use Rattle.groups.proofs.Entries.{Entry, entry, is_pending_lem}
use Rattle.groups.proofs.Rules.{Rules, rules, is_group_lem}
use Rattle.groups.proofs.Pendings.{up_to_all, entries_all, all_weaker, all_member, all_within, all_put, above_put, above_within, length_within, put_last, stands, length_put_found, found_above, only_entry, without_within, others_within}
use Rattle.groups.proofs.Consumers.{by_name, with_equal, with_less, with_greater, names_with, above_with, among_new, among_with, with_known, names_without, above_without, among_without, length_without}

-- entries under other consumers
pub entry_among : (cs ds : List (List ℕ)) (p : Pending) → is_pending cs p ≡ true → (is_among p.consumer cs ≡ true → is_among p.consumer ds ≡ true) → is_pending ds p ≡ true
entry_among cs ds p e h =
    let x = entry cs p e in
    is_pending_lem ds p (record { fits = x.fits; among = h x.among; time_fits = x.time_fits; once = x.once; count_fits = x.count_fits })

pub entries_with : (c : List ℕ) (cs : List (List ℕ)) (ps : List Pending) → are_pending cs ps ≡ true → are_pending (with_name c cs) ps ≡ true
entries_with c cs ps e =
    entries_all (with_name c cs) ps
    ∙ all_weaker (is_pending cs) (is_pending (with_name c cs)) (λ p h. entry_among cs (with_name c cs) p h (among_with c p.consumer cs)) ps (sym (entries_all cs ps) ∙ e)

others_case : (c : List ℕ) (cs : List (List ℕ)) (p : Pending) (xs : List Pending) (t : Bool) → same c p.consumer ≡ t → is_pending cs p ≡ true
    → are_pending (without_name c cs) xs ≡ true → are_pending (without_name c cs) (pick t xs (p ∷ xs)) ≡ true
unfolding are_pending
others_case c cs p xs true d e h = h
others_case c cs p xs false d e h = both_of (entry_among cs (without_name c cs) p e (among_without c p.consumer d cs)) h

pub entries_without : (c : List ℕ) (cs : List (List ℕ)) (ps : List Pending) → are_pending cs ps ≡ true
    → are_pending (without_name c cs) (pending_of_others c ps) ≡ true
unfolding pending_of_others are_pending
entries_without c cs [] e = refl
entries_without c cs (p ∷ ps) e =
    let q = both_true (is_pending cs p) (are_pending cs ps) e in
    others_case c cs p (pending_of_others c ps) (same c p.consumer) refl q.0 (entries_without c cs ps q.1)

-- a consumer more at most
length_with : (n : List ℕ) (ns : List (List ℕ)) → length (with_name n ns) ≤ suc (length ns)
length_with n [] = unfold with_name in omega arith
length_with n (m ∷ ms) =
    by_name n m
    (λ o. rw (with_less n m ms o) (omega arith))
    (λ o. rw (with_equal n m ms o) (omega arith))
    (λ o. rw (with_greater n m ms o) (let h = length_with n ms in omega arith))

few_case : (c : List ℕ) (cs : List (List ℕ)) (t : Bool) → is_among c cs ≡ t → names_above [] cs ≡ true → length cs ≤ 16
    → both (not t) (leb 16 (length cs)) ≡ false → length (with_name c cs) ≤ 16
few_case c cs true e r h k = rw (with_known c [] cs r e) h
few_case c cs false e r h k = let q : length cs < 16 = leb-false 16 (length cs) k in omega (arith, length_with c cs)

pub rules_with : (c : List ℕ) (g : Group) → Rules g → is_name c ≡ true → lacks_consumer c g ≡ false → Rules (with_consumer c g)
unfolding with_consumer lacks_consumer
rules_with c g r h k =
    record {
      named = r.named;
      fits = r.fits;
      few = few_case c g.consumers (is_among c g.consumers) refl r.rising r.few k;
      names = names_with c h g.consumers r.names;
      rising = above_with c [] (empty_before c (named c h).some_bytes) g.consumers r.rising;
      room = r.room;
      entries = entries_with c g.consumers g.pending r.entries;
      above = r.above;
      up_to_lem = r.up_to_lem;
    }

-- an entry put in, and another last delivered ID
abbrev pub with_entry : Id → Pending → Group → Group
with_entry d q g = record { name = g.name; delivered = d; consumers = g.consumers; pending = put_pending q g.pending }

up_to_put : (d : Id) (q : Pending) (ps : List Pending) → at_most q.id d ≡ true → pending_up_to d ps ≡ true → pending_up_to d (put_pending q ps) ≡ true
up_to_put d q ps h e =
    up_to_all d (put_pending q ps) ∙ all_put q (λ p. at_most p.id d) h ps (sym (up_to_all d ps) ∙ e)

pub up_to_later : (d e : Id) (ps : List Pending) → at_most d e ≡ true → pending_up_to d ps ≡ true → pending_up_to e ps ≡ true
up_to_later d e ps h k =
    up_to_all e ps
    ∙ all_weaker (λ p. at_most p.id d) (λ p. at_most p.id e) (λ p x. at_most_trans p.id d e x h) ps (sym (up_to_all d ps) ∙ k)

pub rules_entry : (d : Id) (q : Pending) (g : Group) → Rules g → Fits64 d → Entry g.consumers q → below least q.id ≡ true
    → at_most q.id d ≡ true → pending_up_to d g.pending ≡ true → length (put_pending q g.pending) ≤ 256 → Rules (with_entry d q g)
rules_entry d q g r f e b m u l =
    record {
      named = r.named;
      fits = f;
      few = r.few;
      names = r.names;
      rising = r.rising;
      room = l;
      entries = entries_all g.consumers (put_pending q g.pending)
          ∙ all_put q (is_pending g.consumers) (is_pending_lem g.consumers q e) g.pending (sym (entries_all g.consumers g.pending) ∙ r.entries);
      above = above_put q least b g.pending r.above;
      up_to_lem = up_to_put d q g.pending m u;
    }

-- deliver, for an ID above the last delivered, where no limit is passed
pub deliver_kept : (c : List ℕ) (now : ℕ) (i : Id) (g : Group) → is_group g ≡ true → is_name c ≡ true → now < 2 ^ 64 → Fits64 i
    → below g.delivered i ≡ true → lacks_consumer c g ≡ false → length g.pending < 256 → is_group (deliver c now i g) ≡ true
unfolding deliver with_consumer
deliver_kept c now i g e h t f b k l =
    let r = rules g e in
    let q : Pending = record { id = i; consumer = c; time = now; count = 1 } in
    let low : below least i ≡ true = at_most_below_trans least g.delivered i (least_at_most g.delivered) b in
    let n : length (put_pending q g.pending) ≤ 256 =
    omega (arith, ap length (put_last q g.delivered b g.pending r.up_to_lem), length-append g.pending (q ∷ [])) in
    is_group_lem (deliver c now i g)
    (rules_entry i q (with_consumer c g) (rules_with c g r h k) f
    (record { fits = f; among = among_new c g.consumers; time_fits = t; once = omega arith; count_fits = omega arith })
    low (at_most_refl i) (up_to_later g.delivered i g.pending (below_at_most g.delivered i b) r.up_to_lem) n)

-- claim, of an entry of the group
found_entry : (i : Id) (p : Pending) (g : Group) → Rules g → find_pending i g.pending ≡ Some p → Entry g.consumers p
found_entry i p g r f =
    entry g.consumers p
    (all_member (is_pending g.consumers) p g.pending (stands i g.pending p f).member (sym (entries_all g.consumers g.pending) ∙ r.entries))

up_to_found : (d i : Id) (ps : List Pending) (p : Pending) → find_pending i ps ≡ Some p → pending_up_to d ps ≡ true → at_most p.id d ≡ true
up_to_found d i ps p f e = all_member (λ q. at_most q.id d) p ps (stands i ps p f).member (sym (up_to_all d ps) ∙ e)

pub claim_kept : (c : List ℕ) (now : ℕ) (i : Id) (p : Pending) (g : Group) → is_group g ≡ true → is_name c ≡ true → now < 2 ^ 64
    → find_pending i g.pending ≡ Some p → lacks_consumer c g ≡ false → is_group (claim c now p g) ≡ true
unfolding claim with_consumer
claim_kept c now i p g e h t f k =
    let r = rules g e in
    let s = stands i g.pending p f in
    let x = found_entry i p g r f in
    let q : Pending = record { id = p.id; consumer = c; time = now; count = min (p.count + 1) 65535 } in
    is_group_lem (claim c now p g)
    (rules_entry g.delivered q (with_consumer c g) (rules_with c g r h k) r.fits
    (record { fits = x.fits; among = among_new c g.consumers; time_fits = t; once = omega (arith, x.once); count_fits = omega arith })
    (rw s.same_id_lem (found_above least i g.pending p r.above f))
    (up_to_found g.delivered i g.pending p f r.up_to_lem)
    r.up_to_lem
    (omega (arith, length_put_found i q s.same_id_lem least g.pending p r.above f, r.room)))

-- entries taken out
module _ (g : Group) (r : Rules g) where
  pub acknowledge_rules : (i : Id) → Rules (acknowledge i g)
  unfolding acknowledge
  acknowledge_rules i =
      let w = without_within i g.pending in
      record {
        named = r.named;
        fits = r.fits;
        few = r.few;
        names = r.names;
        rising = r.rising;
        room = omega (arith, length_within w, r.room);
        entries = entries_all g.consumers (without_pending i g.pending)
            ∙ all_within (is_pending g.consumers) w (sym (entries_all g.consumers g.pending) ∙ r.entries);
        above = above_within least w r.above;
        up_to_lem = up_to_all g.delivered (without_pending i g.pending)
            ∙ all_within (λ p. at_most p.id g.delivered) w (sym (up_to_all g.delivered g.pending) ∙ r.up_to_lem);
      }

  pub drop_rules : (c : List ℕ) → Rules (drop_consumer c g)
  unfolding drop_consumer
  drop_rules c =
      let w = others_within c g.pending in
      record {
        named = r.named;
        fits = r.fits;
        few = omega (arith, length_without c g.consumers, r.few);
        names = names_without c g.consumers r.names;
        rising = above_without c [] g.consumers r.rising;
        room = omega (arith, length_within w, r.room);
        entries = entries_without c g.consumers g.pending r.entries;
        above = above_within least w r.above;
        up_to_lem = up_to_all g.delivered (pending_of_others c g.pending)
            ∙ all_within (λ p. at_most p.id g.delivered) w (sym (up_to_all g.delivered g.pending) ∙ r.up_to_lem);
      }

pub acknowledge_kept : (i : Id) (g : Group) → is_group g ≡ true → is_group (acknowledge i g) ≡ true
acknowledge_kept i g e = is_group_lem (acknowledge i g) (acknowledge_rules g (rules g e) i)

pub drop_kept : (c : List ℕ) (g : Group) → is_group g ≡ true → is_group (drop_consumer c g) ≡ true
drop_kept c g e = is_group_lem (drop_consumer c g) (drop_rules g (rules g e) c)

-- no pending ID is above the last ID
module _ (last : Id) (g : Group) (u : pending_up_to last g.pending ≡ true) where
  pub deliver_up_to : (c : List ℕ) (now : ℕ) (i : Id) → at_most i last ≡ true → pending_up_to last (deliver c now i g).pending ≡ true
  unfolding deliver
  deliver_up_to c now i h = up_to_put last _ g.pending h u

  pub claim_up_to : (c : List ℕ) (now : ℕ) (i : Id) (p : Pending) → find_pending i g.pending ≡ Some p
      → pending_up_to last (claim c now p g).pending ≡ true
  unfolding claim
  claim_up_to c now i p f = up_to_put last _ g.pending (up_to_found last i g.pending p f u) u

  pub acknowledge_up_to : (i : Id) → pending_up_to last (acknowledge i g).pending ≡ true
  unfolding acknowledge
  acknowledge_up_to i =
      up_to_all last (without_pending i g.pending)
      ∙ all_within (λ p. at_most p.id last) (without_within i g.pending) (sym (up_to_all last g.pending) ∙ u)

  pub drop_up_to : (c : List ℕ) → pending_up_to last (drop_consumer c g).pending ≡ true
  unfolding drop_consumer
  drop_up_to c =
      up_to_all last (pending_of_others c g.pending)
      ∙ all_within (λ p. at_most p.id last) (others_within c g.pending) (sym (up_to_all last g.pending) ∙ u)

-- in each group a pending ID has exactly one consumer: the entry that is found is the ID's only one, and its consumer is one of the
-- group's
pub record OneConsumer (g : Group) (i : Id) (p : Pending) : Type 0 where
  pub same_id_lem : p.id ≡ i
  pub member : Memᴰ p g.pending
  pub only : (q : Pending) → Memᴰ q g.pending → q.id ≡ i → q ≡ p
  pub among : is_among p.consumer g.consumers ≡ true

pub one_consumer : (g : Group) (i : Id) (p : Pending) → is_group g ≡ true → find_pending i g.pending ≡ Some p → OneConsumer g i p
one_consumer g i p e f =
    let r = rules g e in
    let s = stands i g.pending p f in
    record {
      same_id_lem = s.same_id_lem;
      member = s.member;
      only = λ q m h. only_entry least g.pending q p r.above m s.member (h ∙ sym s.same_id_lem);
      among = (found_entry i p g r f).among;
    }
