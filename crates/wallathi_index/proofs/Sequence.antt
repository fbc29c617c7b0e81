-- The claim about whole lists of calls, proved. Assumes nothing.
use mathlib.Core.Bool.{Bool, true, false}
use mathlib.Core.List.{List, [], ◌∷◌}
use Rattle.std.proofs.Common.{Option, Some, None}
use mathlib.Core.Path.{◌≡◌, refl, sym, ap, ap₂, ◌∙◌, subst}
use Prim.Native.Nat.{ℕ}
use native.Mathlib.Omega.{arith}
use Rattle.octets.specs.Pick.{pick}
use Rattle.keys.specs.Entries.{Entry, is_key, has, without}
use Rattle.keys.specs.Operation as on
use Rattle.keys.proofs.Laws.{change_code}
use Rattle.index_bytes.specs.Held.{entries_in, record_bytes}
use Rattle.index_bytes.specs.Promise.{bytes_after}
use Rattle.index_bytes.proofs.Laws.{after_holds, empty_holds}
use Rattle.wallathi_index.specs.Export.{out_of}
use Rattle.wallathi_index.specs.Run.{Call, set_up, put, remove, find, first_at_or_above, last_at_or_below, Seen, told, gave, showed, seen_by, held_by, left_by, seen_all, held_all, left_all, Meets, meets_set_up, meets_put, meets_remove, meets_find, meets_first, meets_last, Made, made_none, made_more, Fits, AllFit}
use Rattle.wallathi_index.specs.Demands.{Whole, code_seen, Quiet, AllQuiet, NoSetUp, NoSetUps, AllTwo, Demands}

-- one call: what is seen, the bytes and what they hold follow from what the bytes held
record Once (c : Call) (s : List ℕ) (a : Seen) (t : List ℕ) : Type 0 where
  seen : a ≡ seen_by c (entries_in s)
  left : t ≡ left_by c (entries_in s) s
  held : entries_in t ≡ held_by c (entries_in s)

gave_same : {a b m n : ℕ} → a ≡ b → m ≡ n → gave a m ≡ gave b n
gave_same e f = ap₂ gave e f

showed_same : {a b m n x y : ℕ} {o p : List ℕ} → a ≡ b → o ≡ p → m ≡ n → x ≡ y → showed a o m x ≡ showed b p n y
showed_same {b = b} {m = m} {x = x} {p = p} e f g h = ap₂ (λ (i : ℕ) (z : List ℕ). showed i z m x) e f ∙ ap₂ (λ (i j : ℕ). showed b p i j) g h

once : {c : Call} {s t : List ℕ} {a : Seen} → Meets c s a t → Once c s a t
once (meets_set_up e f h) = record { seen = ap told e; left = f; held = h }
once (meets_put h) = record { seen = ap told h.code_is; left = h.bytes_are; held = h.holds }
once (meets_remove h e) = record { seen = gave_same h.code_is e; left = h.bytes_are; held = h.holds }
once (meets_find e f) = record { seen = gave_same e f; left = refl; held = refl }
once (meets_first h) = record { seen = showed_same h.code_is h.out_is h.len_is h.value_is; left = refl; held = refl }
once (meets_last h) = record { seen = showed_same h.code_is h.out_is h.len_is h.value_is; left = refl; held = refl }

whole : {cs : List Call} {s u : List ℕ} {seen : List Seen} → Made cs s seen u → Whole cs s seen u
unfolding seen_all left_all held_all
whole made_none = record { sees = refl; leaves = refl; holds = refl }
whole (made_more {c} {cs} {s} {t} {u} {a} {seen} m r) =
    let o = once m in
    let w = whole r in
    record {
      sees = ap₂ (λ (b : Seen) (bs : List Seen). b ∷ bs) o.seen (w.sees ∙ ap (seen_all cs) o.held);
      leaves = w.leaves ∙ ap₂ (λ (e : Option (List Entry)) (z : List ℕ). left_all cs e z) o.held o.left;
      holds = w.holds ∙ ap (held_all cs) o.held;
    }

-- every list of calls has an outcome
meets : (c : Call) (s : List ℕ) → Fits c → Meets c s (seen_by c (entries_in s)) (left_by c (entries_in s) s)
meets set_up s f = meets_set_up refl refl empty_holds
meets (put k v) s f = meets_put (record { code_is = refl; bytes_are = refl; holds = after_holds (on.put k v) s f })
meets (remove k o) s f = meets_remove (record { code_is = refl; bytes_are = refl; holds = after_holds (on.remove k) s tt }) refl
meets (find k o) s f = meets_find refl refl
meets (first_at_or_above k out len v) s f = meets_first (record { code_is = refl; out_is = refl; len_is = refl; value_is = refl })
meets (last_at_or_below k out len v) s f = meets_last (record { code_is = refl; out_is = refl; len_is = refl; value_is = refl })

total : (cs : List Call) (s : List ℕ) → AllFit cs → Made cs s (seen_all cs (entries_in s)) (left_all cs (entries_in s) s)
unfolding seen_all left_all
total [] s f = made_none
total (c ∷ cs) s f =
    let m = meets c s f.0 in
    let h : entries_in (left_by c (entries_in s) s) ≡ held_by c (entries_in s) = (once m).held in
    made_more m
    (subst (λ (e : Option (List Entry)). Made cs (left_by c (entries_in s) s) (seen_all cs e) (left_all cs e (left_by c (entries_in s) s))) h (total cs (left_by c (entries_in s) s) f.1))

-- no change, no byte
kept_bytes : (o : on.Operation) (e : Option (List Entry)) (s : List ℕ) → on.is_change (on.reply_in o e) ≡ false → bytes_after o e s ≡ s
kept_bytes o None s h = refl
kept_bytes o (Some es) s h = ap (λ (b : Bool). pick b (record_bytes (on.operate o es).after) s) h

refused_keeps : (o : on.Operation) (e : Option (List Entry)) → (on.code_of (on.reply_in o e) ≡ 0 → ⊥) → on.is_change (on.reply_in o e) ≡ false
refused_keeps o e h = go (on.is_change (on.reply_in o e)) refl
  where
    go : (b : Bool) → on.is_change (on.reply_in o e) ≡ b → b ≡ false
    go true q = absurd (h (change_code (on.reply_in o e) q))
    go false q = refl

-- what remove answers, by whether k is a key and is held
abbrev removing : List ℕ → List Entry → Bool → Bool → on.Reply
removing k es t u = (pick t (pick u (record { reply = on.removed 1; after = without k es }) (on.stays es (on.removed 0))) (on.stays es (on.refused 3))).reply

remove_quiet : (k : List ℕ) (e : Option (List Entry)) (out : ℕ) → (on.code_of (on.reply_in (on.remove k) e) ≡ 0 → out_of (on.reply_in (on.remove k) e) out ≡ 0)
    → on.is_change (on.reply_in (on.remove k) e) ≡ false
unfolding on.remove_from
remove_quiet k None out h = refl
remove_quiet k (Some es) out h = go (is_key k) (has k es) h
  where
    go : (t u : Bool) → (on.code_of (removing k es t u) ≡ 0 → out_of (removing k es t u) out ≡ 0) → on.is_change (removing k es t u) ≡ false
    go false u h = refl
    go true false h = refl
    go true true h = absurd (let z : ◌≡◌ {A = ℕ} 1 0 = h refl in omega arith)

quiet_one : {c : Call} {s t : List ℕ} {a : Seen} → Meets c s a t → Quiet c a → t ≡ s
quiet_one (meets_set_up e f h) q = absurd q
quiet_one (meets_put {k} {v} {s} {t} {code} h) q =
    h.bytes_are ∙ kept_bytes (on.put k v) (entries_in s) s (refused_keeps (on.put k v) (entries_in s) (λ z. q (h.code_is ∙ z)))
quiet_one (meets_remove {k} {o} {p} {s} {t} {code} h e) q =
    h.bytes_are ∙ kept_bytes (on.remove k) (entries_in s) s (remove_quiet k (entries_in s) o (λ z. sym e ∙ q (h.code_is ∙ z)))
quiet_one (meets_find e f) q = refl
quiet_one (meets_first h) q = refl
quiet_one (meets_last h) q = refl

-- lists that only read, or are refused, or remove nothing leave every byte
quiet : {cs : List Call} {s u : List ℕ} {seen : List Seen} → Made cs s seen u → AllQuiet cs seen → u ≡ s
quiet made_none q = refl
quiet (made_more m r) q = quiet r q.1 ∙ quiet_one m q.0

two : (c : Call) → NoSetUp c → code_seen (seen_by c None) ≡ 2
two set_up n = absurd n
two (put k v) n = refl
two (remove k o) n = refl
two (find k o) n = refl
two (first_at_or_above k out len v) n = refl
two (last_at_or_below k out len v) n = refl

stays : (c : Call) (s : List ℕ) → NoSetUp c → left_by c None s ≡ s
stays set_up s n = absurd n
stays (put k v) s n = refl
stays (remove k o) s n = refl
stays (find k o) s n = refl
stays (first_at_or_above k out len v) s n = refl
stays (last_at_or_below k out len v) s n = refl

damaged : {cs : List Call} {s u : List ℕ} {seen : List Seen} → Made cs s seen u → entries_in s ≡ None → NoSetUps cs → (u ≡ s) × AllTwo seen
damaged made_none e n = (refl, tt)
damaged (made_more {c} {cs} {s} {t} {u} {a} {seen} m r) e n =
    let o = once m in
    let k : t ≡ s = o.left ∙ ap (λ (w : Option (List Entry)). left_by c w s) e ∙ stays c s n.0 in
    let w = damaged r (ap entries_in k ∙ e) n.1 in
    (w.0 ∙ k, (ap code_seen (o.seen ∙ ap (seen_by c) e) ∙ two c n.0, w.1))

pub demands : Demands
demands =
    record {
      every_list = λ cs s u seen m. whole m;
      quiet = λ cs s u seen m q. quiet m q;
      damaged = λ cs s u seen m e n. damaged m e n;
      some_run = total;
    }
