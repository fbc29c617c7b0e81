-- Bytes for every model that keeps the rules: slot by slot in the store, and a state. Assumes nothing.
use mathlib.Core.Path.{◌≡◌, refl, sym, ap, ◌∙◌, subst}
use mathlib.Core.Bool.{Bool, true, false}
use mathlib.Core.List.{List, [], ◌∷◌}
use Rattle.std.proofs.Common.{Some}
use Prim.Native.Nat.{ℕ, zero, suc, ◌*◌, ◌/◌, ◌^◌, ◌≤◌, ◌<◌}
use native.Mathlib.Nat.{min-le_right}
use native.Mathlib.Omega.{arith}
use lib.Dec.{eqb}
use lib.ListN.{length, drop}
use borrow.Author.Tests.{lt-ltb, eqb-true, eqb-false}
use Rattle.octets.specs.Pick.{pick}
use Rattle.octets.specs.Place.{put}
use Rattle.octets.specs.Bytes.{Bytes}
use Rattle.octets.proofs.Laws.{both_of, bytes_zeros, bytes_put, put_all, length_area}
use Rattle.id.specs.declared.Id.{Id}
use Rattle.id.specs.Id.{least}
use Rattle.id.specs.Bytes.{id_bytes}
use Rattle.id.proofs.Laws.{length_id_bytes, bytes_id}
use Rattle.keys.specs.Entries as Index
use Rattle.keys.proofs.Laws.{is_map_lem, before_ids}
use Rattle.node.specs.Bytes.{slot_of}
use Rattle.node.specs.Rules.{rising_from}
use Rattle.node.specs.Answer.{last_of}
use Rattle.node.proofs.Laws.{slot_length}
use Rattle.groups.specs.Group.{Group}
use Rattle.groups.specs.Area.{area_bytes, area_size, is_groups}
use Rattle.groups.proofs.Laws.{length_area_bytes, length_groups_area, sound}
use Rattle.state.specs.Layout.{groups_at, index_area, index_bytes, groups_area}
use Rattle.state.proofs.Laws.{AllBytes, state_with}
use Rattle.stream.specs.Cut.{Node, Model, entries_of, are_nodes, is_model, slots_in}
use Rattle.stream.specs.Image.{slot_at}
use Rattle.stream.specs.Laid.{slot_held, index_of}
use Rattle.stream.specs.Promise.{Lent, lent, held_by, slots_of, tail_of}
use Rattle.stream.proofs.Laws.{ModelRules, model_rules, first_node, rising_first, node_fits, key_at, keys_rise, here, index_length, few_nodes, zeros_size, put_slot, slot_size, slot_put, slot_tail, held_laid, image_laid, laid_image, regrouped, GroupsPut, groups_put, record_kept, laid_groups}
use Rattle.wallathi.specs.Run.{AreBytes}
use Rattle.wallathi.proofs.NodeBytes.{slot_is_bytes}
use Rattle.wallathi.proofs.AreaBytes.{area_is_bytes}

-- a slot is 4,096 bytes, whatever it holds
held_size : (slots s : ℕ) (ns : List Node) → are_nodes slots ns ≡ true → length (slot_held s ns) ≡ 4096
unfolding slot_held
held_size slots s [] h = zeros_size
held_size slots s (n ∷ ns) h =
    let f = first_node slots n ns h in
    by (eqb s n.slot) (slot_length n.entries f.is_node_lem) (held_size slots s ns f.others)
  where
    by : (t : Bool) → length (slot_of n.entries) ≡ 4096 → length (slot_held s ns) ≡ 4096 → length (pick t (slot_of n.entries) (slot_held s ns)) ≡ 4096
    by true a b = a
    by false a b = b

-- the first k slots written
write_slots : List Node → List ℕ → ℕ → List ℕ
write_slots ns store zero = store
write_slots ns store (suc k) = put_slot (write_slots ns store k) k (slot_held k ns)

record Written (ns : List Node) (store : List ℕ) (k : ℕ) : Type 0 where
  size : length (write_slots ns store k) ≡ length store
  slots_are : (s : ℕ) → s < k → slot_at (write_slots ns store k) s ≡ slot_held s ns
  tail : drop (slots_in (length store) * 4096) (write_slots ns store k) ≡ drop (slots_in (length store) * 4096) store

written : (ns : List Node) (store : List ℕ) → are_nodes (slots_in (length store)) ns ≡ true → (k : ℕ) → k ≤ slots_in (length store) → Written ns store k
unfolding write_slots
written ns store h zero l = record { size = refl; slots_are = λ s g. absurd (omega arith); tail = refl }
written ns store h (suc k) l =
    let w = written ns store h k (omega arith) in
    let x : List ℕ = write_slots ns store k in
    let r : k < slots_in (length x) = subst (λ (n : ℕ). k < slots_in n) (sym w.size) (omega arith) in
    let z : length (slot_held k ns) ≡ 4096 = held_size (slots_in (length store)) k ns h in
    record {
      size = slot_size x k (slot_held k ns) r z ∙ w.size;
      slots_are = λ s g. slot_put x k (slot_held k ns) r z s ∙ by s (eqb s k) refl g (w.slots_are s);
      tail = slot_tail x k (slot_held k ns) r z (slots_in (length store)) (omega arith) ∙ w.tail;
    }
  where
    by : (s : ℕ) (t : Bool) → eqb s k ≡ t → s < suc k → (s < k → slot_at (write_slots ns store k) s ≡ slot_held s ns)
        → pick t (slot_held k ns) (slot_at (write_slots ns store k) s) ≡ slot_held s ns
    by s true e g i = ap (λ (x : ℕ). slot_held x ns) (sym (eqb-true s k e))
    by s false e g i = let d : (s ≡ k → ⊥) = eqb-false s k e in i (omega arith)

-- all of it is bytes, where the store was
held_bytes : (slots s : ℕ) (ns : List Node) → are_nodes slots ns ≡ true → Bytes (slot_held s ns)
unfolding slot_held
held_bytes slots s [] h = bytes_zeros 4096
held_bytes slots s (n ∷ ns) h =
    let f = first_node slots n ns h in
    by (eqb s n.slot) (slot_is_bytes n.entries f.is_node_lem) (held_bytes slots s ns f.others)
  where
    by : (t : Bool) → Bytes (slot_of n.entries) → Bytes (slot_held s ns) → Bytes (pick t (slot_of n.entries) (slot_held s ns))
    by true a b = a
    by false a b = b

written_bytes : (slots : ℕ) (ns : List Node) → are_nodes slots ns ≡ true → {store : List ℕ} → Bytes store → (k : ℕ) → Bytes (write_slots ns store k)
unfolding write_slots
written_bytes slots ns h b zero = b
written_bytes slots ns h b (suc k) = bytes_put (k * 4096) (written_bytes slots ns h b k) (held_bytes slots k ns h)

keys_bytes : (ns : List Node) → AllBytes (index_of ns)
unfolding index_of
keys_bytes [] = tt
keys_bytes (n ∷ ns) = (bytes_id (key_at n), keys_bytes ns)

-- the index of nodes that keep the rules is a map
above_keys : (slots : ℕ) (i : Id) (n : Node) (ns : List Node) → are_nodes slots (n ∷ ns) ≡ true → rising_from i (entries_of (n ∷ ns)) ≡ true
    → Index.all_above (id_bytes (key_at n)) (index_of ns) ≡ true
unfolding index_of Index.all_above
above_keys slots i n [] h r = refl
above_keys slots i n (o ∷ ns) h r =
    let f = first_node slots n (o ∷ ns) h in
    let g = first_node slots o ns f.others in
    both_of
    (before_ids (key_at n) (key_at o) (node_fits n.entries f.is_node_lem) (node_fits o.entries g.is_node_lem) ∙ keys_rise slots i n (o ∷ ns) here h r)
    (above_keys slots (last_of i n.entries) o ns f.others (rising_first i n (o ∷ ns) r).1)

keys_fit : (slots : ℕ) (ns : List Node) → slots ≤ 64 → are_nodes slots ns ≡ true → Index.all_fit (index_of ns) ≡ true
unfolding index_of Index.all_fit
keys_fit slots [] l h = refl
keys_fit slots (n ∷ ns) l h =
    let f = first_node slots n ns h in
    let z : length (id_bytes (key_at n)) ≡ 16 = length_id_bytes (key_at n) in
    let k : Index.is_key (id_bytes (key_at n)) ≡ true = rw z in
    both_of (both_of k (lt-ltb n.slot (2 ^ 32) (omega (arith, f.within)))) (keys_fit slots ns l f.others)

index_map : (slots : ℕ) (i : Id) (ns : List Node) → slots ≤ 64 → are_nodes slots ns ≡ true → rising_from i (entries_of ns) ≡ true → Index.is_map (index_of ns) ≡ true
index_map slots i ns l h r = is_map_lem (index_of ns) (omega (arith, index_length ns, few_nodes slots ns h)) (rises ns h r) (keys_fit slots ns l h)
  where
    rises : (ns : List Node) → are_nodes slots ns ≡ true → rising_from i (entries_of ns) ≡ true → Index.rising (index_of ns) ≡ true
    rises [] h r = unfold index_of in unfold Index.rising in refl
    rises (n ∷ ns) h r = unfold index_of in unfold Index.rising in above_keys slots i n ns h r

-- store and state for the model m, where the store had these bytes: as many, and the same past the last slot; and the same where the
-- groups alone change
pub record Built (i : Lent) (m : Model) : Type 0 where
  pub lent_as : Lent
  pub holds : held_by lent_as ≡ Some m
  pub size_kept : length lent_as.store ≡ length i.store
  pub tail_kept : tail_of lent_as ≡ tail_of i
  pub index_is : index_area lent_as.state ≡ index_bytes (index_of m.nodes)
  pub bytes : AreBytes lent_as

pub built : (i : Lent) → AreBytes i → (m : Model) → is_model (slots_of i) m ≡ true → Built i m
built i b m e =
    let r = model_rules (slots_of i) m e in
    let w = written m.nodes i.store r.nodes_are (slots_of i) (omega arith) in
    let store : List ℕ = write_slots m.nodes i.store (slots_of i) in
    let es : List Index.Entry = index_of m.nodes in
    let map : Index.is_map es ≡ true = index_map (slots_of i) least m.nodes (min-le_right (length i.store / 4096) 64) r.nodes_are r.rising in
    let g = sound m.last m.groups r.groups_are in
    let x =
    state_with m.last es (area_bytes m.groups) map (length_area_bytes m.last m.groups g.groups g.few) in
    record {
      lent_as = lent store x.state;
      holds =
          laid_image store x.state m
          (held_laid store x.state m
          (record { slots_are = λ s h. w.slots_are s (subst (λ (n : ℕ). s < slots_in n) w.size h); rules = subst (λ (n : ℕ). ModelRules (slots_in n) m) (sym w.size) r })
          x.size x.last_is x.holds x.groups_are);
      size_kept = w.size;
      tail_kept = ap (λ (n : ℕ). drop (slots_in n * 4096) store) w.size ∙ w.tail;
      index_is = x.written;
      bytes = record {
        store = written_bytes (slots_of i) m.nodes r.nodes_are b.store (slots_of i);
        state = x.bytes (keys_bytes m.nodes) (area_is_bytes m.last m.groups r.groups_are);
      };
    }

-- the groups alone: the state with another groups area
pub record Regrouped (i : Lent) (m : Model) (gs : List Group) : Type 0 where
  pub lent_as : Lent
  pub holds : held_by lent_as ≡ Some (regrouped m gs)
  pub store_kept : lent_as.store ≡ i.store
  pub index_kept : index_area lent_as.state ≡ index_area i.state
  pub bytes : AreBytes lent_as

pub regroup : (i : Lent) → AreBytes i → (m : Model) → held_by i ≡ Some m → (gs : List Group) → is_groups m.last gs ≡ true → Regrouped i m gs
unfolding groups_area
regroup i b m e gs h =
    let l = image_laid i.store i.state m b.store b.state e in
    let n : length (area_bytes gs) ≡ area_size = length_groups_area m.last gs h in
    let state : List ℕ = put i.state groups_at (area_bytes gs) in
    let z : length (groups_area i.state) ≡ area_size = length_area groups_at area_size i.state (omega (arith, l.size)) in
    let p : GroupsPut i.state state gs = groups_put i.state 0 (area_bytes gs) gs l.size (omega (arith, n)) (put_all (groups_area i.state) (area_bytes gs) (n ∙ sym z)) in
    record {
      lent_as = lent i.store state;
      holds = laid_image i.store state (regrouped m gs) (laid_groups i.store i.state state m gs l p h);
      store_kept = refl;
      index_kept = record_kept i.state state gs l.size p;
      bytes = record { store = b.store; state = bytes_put groups_at b.state (area_is_bytes m.last gs h) };
    }
