-- Each return of the operations: what the code has worked out of the entries, and what the operation answers on the bytes. Assumes nothing.
use mathlib.Core.Bool.{Bool, true, false}
use mathlib.Core.Path.{◌≡◌, refl, sym, ap, ◌∙◌, subst, subst⁻¹}
use mathlib.Core.List.{List, []}
use Rattle.std.proofs.Common.{Option, Some, None, IsSome}
use Prim.Native.Nat.{ℕ, ◌≤◌, ◌<◌}
use lib.ListN.{length, get_or}
use Rattle.octets.specs.Pick.{pick}
use Rattle.keys.specs.Entries.{Entry, is_key, lookup, has, insert, without}
use Rattle.keys.specs.Operation.{Operation, put, remove, find, value_reply, Reply, refused, done, removed, Replied, stays, put_to, remove_from, operate, is_change, reply_in}
use Rattle.keys.specs.Listing.{IsSound, Lists}
use Rattle.keys.specs.Table.{tabled}
use Rattle.keys.specs.declared.Table.{Table}
use Rattle.keys.proofs.Laws.{sound_some, find_refused, find_reply, no_room, room_full, room_held, room_new}
use Rattle.radix.specs.Shape.{Shape}
use Rattle.radix.specs.Record.{tree_at, tree_of, entries_of}
use Rattle.radix.specs.Walk.{find_in}
use Rattle.radix.specs.Gathering.{gathered}
use Rattle.radix.proofs.Laws.{root_within, shape_find, shape_gathered, holds}
use Rattle.radix_bytes.specs.Bytes.{record_size, record_from, pool_in}
use Rattle.radix_bytes.proofs.Laws.{label_size}
use Rattle.radix_judge.specs.Visit.{is_sound}
use Rattle.radix_judge.proofs.Laws.{not_sound, sound_holds}
use Rattle.index_bytes.specs.Held.{entries_in, entries_in_lem, record_bytes}
use Rattle.index_bytes.specs.Promise.{ChangesIn}

-- the answers: a refusal, and what was written of the entries
module _ (o : Operation) (s : List ℕ) (es : List Entry) (h : entries_in s ≡ Some es) where
  refuses : (n : ℕ) → operate o es ≡ stays es (refused n) → ChangesIn o (Some es) s (refused n) s
  refuses n e =
      record {
        reply = sym (ap (λ (r : Replied). r.reply) e);
        bytes_are = sym (ap (λ (r : Replied). pick (is_change r.reply) (record_bytes r.after) s) e);
        holds = h ∙ ap Some (sym (ap (λ (r : Replied). r.after) e));
      }

  made : (a : Reply) (fs gs : List Entry) (t : List ℕ) → operate o es ≡ record { reply = a; after = fs } → is_change a ≡ true → gs ≡ fs
      → (t ≡ record_bytes gs) × (entries_in t ≡ Some gs) → ChangesIn o (Some es) s a t
  made a fs gs t e c w b =
      record {
        reply = sym (ap (λ (r : Replied). r.reply) e);
        bytes_are = b.0 ∙ ap record_bytes w ∙ sym (ap (λ (r : Replied). pick (is_change r.reply) (record_bytes r.after) s) e ∙ ap (λ (t : Bool). pick t (record_bytes fs) s) c);
        holds = b.1 ∙ ap Some w ∙ ap Some (sym (ap (λ (r : Replied). r.after) e));
      }

module _ (s : List ℕ) (es : List Entry) (h : entries_in s ≡ Some es) (k : List ℕ) where
  pub put_3 : (v : ℕ) → is_key k ≡ false → ChangesIn (put k v) (Some es) s (refused 3) s
  put_3 v e = refuses (put k v) s es h 3 (rw e)

  pub remove_3 : is_key k ≡ false → ChangesIn (remove k) (Some es) s (refused 3) s
  remove_3 e = refuses (remove k) s es h 3 (rw e)

  module _ (p : is_key k ≡ true) where
    pub put_18 : (v : ℕ) → has k es ≡ false → 64 ≤ length es → ChangesIn (put k v) (Some es) s (refused 18) s
    unfolding put_to
    put_18 v e l = refuses (put k v) s es h 18 (rw (p, room_full k es e l))

    module _ (v : ℕ) (t : List ℕ) (gs : List Entry) (w : gs ≡ insert k v es) (b : (t ≡ record_bytes gs) × (entries_in t ≡ Some gs)) where
      put_done : no_room k es ≡ false → ChangesIn (put k v) (Some es) s done t
      unfolding put_to
      put_done f = made (put k v) s es h done (insert k v es) gs t (rw (p, f)) refl w b

      pub put_held : has k es ≡ true → ChangesIn (put k v) (Some es) s done t
      put_held f = put_done (room_held k es f)

      pub put_new : has k es ≡ false → length es < 64 → ChangesIn (put k v) (Some es) s done t
      put_new f l = put_done (room_new k es f l)

    pub remove_none : has k es ≡ false → ChangesIn (remove k) (Some es) s (removed 0) s
    unfolding remove_from
    remove_none f =
        let e : operate (remove k) es ≡ stays es (removed 0) = rw (p, f) in
        record {
          reply = sym (ap (λ (r : Replied). r.reply) e);
          bytes_are = sym (ap (λ (r : Replied). pick (is_change r.reply) (record_bytes r.after) s) e);
          holds = h ∙ ap Some (sym (ap (λ (r : Replied). r.after) e));
        }

    pub remove_one : (t : List ℕ) (gs : List Entry) → has k es ≡ true → gs ≡ without k es → (t ≡ record_bytes gs) × (entries_in t ≡ Some gs) → ChangesIn (remove k) (Some es) s (removed 1) t
    unfolding remove_from
    remove_one t gs f w b = made (remove k) s es h (removed 1) (without k es) gs t (rw (p, f)) refl w b

-- bytes that were listed
pub listed_in : (s : List ℕ) (l : Option Table) → Lists (entries_of (record_from s)) l → Lists (entries_in s) l
listed_in s l h = subst⁻¹ (λ (o : Option (List Entry)). Lists o l) (entries_in_lem s) h

module _ (o : Operation) (s : List ℕ) (l : Option Table) (h : Lists (entries_of (record_from s)) l) where
  pub changes_2 : l ≡ None → ChangesIn o (entries_in s) s (refused 2) s
  changes_2 f =
      let e : entries_in s ≡ None = subst (Lists (entries_in s)) f (listed_in s l h) in
      subst⁻¹ (λ (w : Option (List Entry)). ChangesIn o w s (refused 2) s) e (record { reply = refl; bytes_are = refl; holds = e })

  pub some_listed : (t : Table) → l ≡ Some t → entries_in s ≡ Some (tabled t)
  some_listed t f = (subst (Lists (entries_in s)) f (listed_in s l h)).0

pub changes_some : (o : Operation) (s : List ℕ) (es : List Entry) (a : Reply) (t : List ℕ) → entries_in s ≡ Some es → ChangesIn o (Some es) s a t → ChangesIn o (entries_in s) s a t
changes_some o s es a t e c = subst⁻¹ (λ (w : Option (List Entry)). ChangesIn o w s a t) e c

-- bytes that are known to hold entries
module _ (s : List ℕ) (i : IsSound (entries_in s)) where
  record_sound : IsSound (entries_of (record_from s))
  record_sound = subst IsSound (entries_in_lem s) i

  pub sound_root : (record_from s).root < 256
  sound_root = let (es, e) = sound_some (entries_of (record_from s)) record_sound in root_within (record_from s) (holds (record_from s) es e).placed

  gathered_is : gathered [] (tree_of (record_from s)) [] ≡ entries_in s
  gathered_is =
      let (es, e) = sound_some (entries_of (record_from s)) record_sound in
      let h = holds (record_from s) es e in
      ap (λ (t : Shape). gathered [] t []) h.tree ∙ shape_gathered es h.map ∙ sym (entries_in_lem s ∙ e)

  module _ (l : Option Table) (g : Lists (gathered [] (tree_of (record_from s)) []) l) where
    listed : Lists (entries_in s) l
    listed = subst (λ (o : Option (List Entry)). Lists o l) gathered_is g

    pub sound_is : IsSome l
    sound_is = by l listed
      where
        by : (r : Option Table) → Lists (entries_in s) r → IsSome r
        by None e = absurd (subst IsSound e i)
        by (Some t) h = refl

    pub sound_listed : (t : Table) → l ≡ Some t → entries_in s ≡ Some (tabled t)
    sound_listed t f = (subst (Lists (entries_in s)) f listed).0

-- bytes that were judged
module _ (s : List ℕ) (z : length s ≡ record_size) (t : Bool) (j : t ≡ is_sound (record_from s)) where
  pub judged_2 : (o : Operation) → t ≡ false → refused 2 ≡ reply_in o (entries_in s)
  judged_2 o f = ap (reply_in o) (not_sound (record_from s) (label_size s z) (sym j ∙ f) ∙ sym (entries_in_lem s))

  pub judged_sound : t ≡ true → IsSound (entries_in s)
  judged_sound f = subst⁻¹ IsSound (entries_in_lem s) (sound_holds (record_from s) (label_size s z) (sym j ∙ f))

-- find
module _ (s k : List ℕ) (i : IsSound (entries_in s)) where
  pub find_3 : is_key k ≡ false → refused 3 ≡ reply_in (find k) (entries_in s)
  find_3 p = let (es, e) = sound_some (entries_in s) i in sym (ap (reply_in (find k)) e ∙ find_refused k es p)

  pub find_is : (q first : ℕ) (a : Reply) (o : Option ℕ) → is_key k ≡ true → q ≡ (record_from s).root → first ≡ get_or (record_from s).child q 0
      → a ≡ value_reply o → o ≡ find_in (tree_at 256 (pool_in s) first) k → a ≡ reply_in (find k) (entries_in s)
  find_is q first a o p eq ef ea eo =
      let (es, e) = sound_some (entries_in s) i in
      let h = holds (record_from s) es (sym (entries_in_lem s) ∙ e) in
      let w : o ≡ lookup k es = eo ∙ ap (λ (t : Shape). find_in t k) (ap (tree_at 256 (pool_in s)) (ef ∙ ap (λ (j : ℕ). get_or (record_from s).child j 0) eq) ∙ h.tree) ∙ shape_find es h.map k in
      ea ∙ ap value_reply w ∙ sym (ap (reply_in (find k)) e ∙ find_reply k es p)
