-- A body of a snapshot is read as its group exactly when its bytes are the group's and the group keeps the rules. Assumes nothing.
use mathlib.Core.Path.{◌≡◌, refl, sym, ap, ap₂, ◌∙◌, subst}
use mathlib.Core.Bool.{true}
use mathlib.Core.List.{List, [], ◌∷◌, ◌++◌, append_assoc, append-nil}
use Rattle.std.proofs.Common.{Some}
use Prim.Native.Nat.{ℕ, zero, suc, ◌*◌, ◌≤◌}
use native.Mathlib.Omega.{arith}
use lib.Dec.{leb, eqb}
use lib.ListN.{length, take, drop, length-append, take-append-drop}
use lib.Seq.{take_at, drop_at, take_all, length-take-le}
use borrow.Author.Tests.{leb-true, le-leb, eqb-true, eq-eqb}
use Rattle.octets.specs.Pick.{both}
use Rattle.octets.specs.Bytes.{Bytes, le, le_value}
use Rattle.octets.specs.Place.{Taken, take_bytes}
use Rattle.octets.proofs.Laws.{both_true, bytes_take, bytes_drop, bytes_tail, length_le, value_le, le_value_lem, both_of, needed, answered}
use Rattle.id.specs.Id.{least}
use Rattle.id.specs.Bytes.{id_bytes, id_from}
use Rattle.id.proofs.Laws.{length_id_bytes, from_bytes_of, bytes_of_from, from_fits}
use Rattle.groups.specs.Group.{Pending, Group, is_name, are_names, names_above, is_group}
use Rattle.groups.specs.Bytes.{name_bytes, all_names, all_pending, body_bytes}
use Rattle.groups.specs.Parse.{all_pending_in, are_entries, take_name, TakenNames, take_names, parse_body}
use Rattle.groups.proofs.Names.{named, is_name_lem}
use Rattle.groups.proofs.Entries.{EntriesKept, length_pending_in, length_entries, entries_kept, entries_read}
use Rattle.groups.proofs.Rules.{rules, is_group_lem}
use Rattle.octets.specs.Compare.{comes_before}

abbrev pub taken : List ℕ → List ℕ → Taken
taken xs ys = record { bytes = xs; rest = ys }

-- bytes taken from the front
bytes_kept : (xs ys : List ℕ) (n : ℕ) → length xs ≡ n → take_bytes n (xs ++ ys) ≡ Some (taken xs ys)
unfolding take_bytes
bytes_kept xs ys n e =
    rw (le-leb n (length (xs ++ ys)) (omega (arith, length-append xs ys)), take_at xs ys n e, drop_at xs ys n e)

record BytesTaken (n : ℕ) (s : List ℕ) (x : Taken) : Type 0 where
  split : s ≡ x.bytes ++ x.rest
  size : length x.bytes ≡ n
  bytes : Bytes s → Bytes x.bytes
  rest_bytes : Bytes s → Bytes x.rest

bytes_taken : (n : ℕ) (s : List ℕ) (x : Taken) → take_bytes n s ≡ Some x → BytesTaken n s x
unfolding take_bytes
bytes_taken n s x e =
    needed (leb n (length s)) (Some (taken (take n s) (drop n s))) e λ h k.
    let q : taken (take n s) (drop n s) ≡ x = cc in
    subst (BytesTaken n s) q
    (record {
      split = sym (take-append-drop n s);
      size = length-take-le n s (leb-true n (length s) h);
      bytes = λ b. bytes_take n b;
      rest_bytes = λ b. bytes_drop n b;
    })

-- a name
name_kept : (n t : List ℕ) → is_name n ≡ true → take_name (name_bytes n ++ t) ≡ Some (taken n t)
unfolding take_name
name_kept n t h =
    let k = named n h in
    rw (le-leb 1 (length n) k.some_bytes, le-leb (length n) 16 k.few_bytes) (bytes_kept n t (length n) refl)

record NameTaken (s : List ℕ) (x : Taken) : Type 0 where
  split : s ≡ name_bytes x.bytes ++ x.rest
  name : Bytes s → is_name x.bytes ≡ true
  rest_bytes : Bytes s → Bytes x.rest

name_taken : (s : List ℕ) (x : Taken) → take_name s ≡ Some x → NameTaken s x
unfolding take_name
name_taken [] x e = absurd (let z : ◌≡◌ {A = ℕ} 0 1 = cc in omega arith)
name_taken (n ∷ s) x e =
    needed (both (leb 1 n) (leb n 16)) (take_bytes n s) e λ h k.
    let q = both_true (leb 1 n) (leb n 16) h in
    let t = bytes_taken n s x k in
    record {
      split = ap₂ (λ (m : ℕ) (l : List ℕ). m ∷ l) (sym t.size) t.split;
      name = λ b. is_name_lem x.bytes (omega (arith, t.size, leb-true 1 n q.0)) (omega (arith, t.size, leb-true n 16 q.1)) (t.bytes (bytes_tail b));
      rest_bytes = λ b. t.rest_bytes (bytes_tail b);
    }

-- names
abbrev pub taken_names : List (List ℕ) → List ℕ → TakenNames
taken_names ns t = record { names = ns; rest = t }

names_kept : (above : List ℕ) (ns : List (List ℕ)) (t : List ℕ) → are_names ns ≡ true → names_above above ns ≡ true
    → take_names above (length ns) (all_names ns ++ t) ≡ Some (taken_names ns t)
unfolding take_names all_names are_names names_above
names_kept above [] t e r = refl
names_kept above (n ∷ ns) t e r =
    let p = both_true (is_name n) (are_names ns) e in
    let q = both_true (comes_before above n) (names_above n ns) r in
    let a : (name_bytes n ++ all_names ns) ++ t ≡ name_bytes n ++ (all_names ns ++ t) = append_assoc (name_bytes n) (all_names ns) t in
    let k : take_name ((name_bytes n ++ all_names ns) ++ t) ≡ Some (taken n (all_names ns ++ t)) = ap take_name a ∙ name_kept n (all_names ns ++ t) p.0 in
    rw (k, q.0, names_kept n ns t p.1 q.1)

record NamesTaken (above : List ℕ) (n : ℕ) (s : List ℕ) (x : TakenNames) : Type 0 where
  split : s ≡ all_names x.names ++ x.rest
  size : length x.names ≡ n
  names_are : Bytes s → are_names x.names ≡ true
  rising : names_above above x.names ≡ true
  rest_bytes : Bytes s → Bytes x.rest

names_taken : (above : List ℕ) (n : ℕ) (s : List ℕ) (x : TakenNames) → take_names above n s ≡ Some x → NamesTaken above n s x
unfolding take_names all_names are_names names_above
names_taken above zero s x e =
    let q : taken_names [] s ≡ x = cc in
    subst (NamesTaken above zero s) q (record { split = refl; size = refl; names_are = λ b. refl; rising = refl; rest_bytes = λ b. b })
names_taken above (suc n) s x e =
    answered (take_name s) _ e λ y e1 k1.
    needed (comes_before above y.bytes) _ k1 λ h k2.
    answered (take_names y.bytes n y.rest) _ k2 λ ys e3 k3.
    let t = name_taken s y e1 in
    let k = names_taken y.bytes n y.rest ys e3 in
    let w : taken_names (y.bytes ∷ ys.names) ys.rest ≡ x = cc in
    subst (NamesTaken above (suc n) s) w
    (record {
      split = t.split
          ∙ ap (λ (l : List ℕ). name_bytes y.bytes ++ l) k.split
          ∙ sym (append_assoc (name_bytes y.bytes) (all_names ys.names) ys.rest);
      size = ap suc k.size;
      names_are = λ b. both_of (t.name b) (k.names_are (t.rest_bytes b));
      rising = both_of h k.rising;
      rest_bytes = λ b. k.rest_bytes (t.rest_bytes b);
    })

pub value_one : (x : ℕ) → le_value (x ∷ []) ≡ x
unfolding le_value
value_one x = omega arith

-- a group's body is read as that group
pub body_parse : (g : Group) → is_group g ≡ true → parse_body (body_bytes g) ≡ Some g
unfolding parse_body body_bytes
body_parse g e =
    let r = rules g e in
    let cs = g.consumers in
    let ps = g.pending in
    let d4 : List ℕ = le 2 (length ps) ++ all_pending cs ps in
    let d3 : List ℕ = all_names cs ++ d4 in
    let d2 : List ℕ = length cs ∷ d3 in
    let number : le_value (le 2 (length ps)) ≡ length ps = value_le 2 (length ps) (omega (arith, r.room)) in
    let kept : EntriesKept cs least g.delivered ps (all_pending cs ps) =
    subst (EntriesKept cs least g.delivered ps) (append-nil (all_pending cs ps)) (entries_kept cs least g.delivered ps [] r.entries r.above r.up_to_lem) in
    rw (
      name_kept g.name (id_bytes g.delivered ++ d2) r.named,
      bytes_kept (id_bytes g.delivered) d2 16 (length_id_bytes g.delivered),
      bytes_kept (length cs ∷ []) d3 1 refl,
      value_one (length cs),
      le-leb (length cs) 16 r.few,
      names_kept [] cs d4 r.names r.rising,
      bytes_kept (le 2 (length ps)) (all_pending cs ps) 2 (length_le 2 (length ps)),
      number,
      le-leb (length ps) 256 r.room,
      eq-eqb (length (all_pending cs ps)) (length ps * 27) (length_entries cs ps),
      from_bytes_of g.delivered r.fits,
      kept.entries,
      kept.pending,
    )

pub record BodyRead (s : List ℕ) (g : Group) : Type 0 where
  pub bytes : s ≡ body_bytes g
  pub rules_kept : is_group g ≡ true

one_byte : (l : List ℕ) → length l ≡ 1 → l ≡ le_value l ∷ []
one_byte [] e = absurd (omega arith)
one_byte (x ∷ []) e = ap (λ (n : ℕ). n ∷ []) (sym (value_one x))
one_byte (x ∷ (y ∷ l)) e = absurd (omega arith)

-- the parts of a body that was read
module _ (name id count : Taken) (names : TakenNames) (number : Taken) where
  n : ℕ
  n = le_value number.bytes

  read : Group
  read =
      record {
        name = name.bytes;
        delivered = id_from id.bytes;
        consumers = names.names;
        pending = all_pending_in (le_value number.bytes) names.names number.rest;
      }

  body_read : (s : List ℕ) → Bytes s → NameTaken s name → BytesTaken 16 name.rest id → BytesTaken 1 id.rest count
      → le_value count.bytes ≤ 16 → NamesTaken [] (le_value count.bytes) count.rest names → BytesTaken 2 names.rest number
      → n ≤ 256 → length number.rest ≡ n * 27
      → are_entries (le_value count.bytes) least (id_from id.bytes) n number.rest ≡ true → BodyRead s read
  unfolding n read body_bytes
  body_read s b t1 t2 t3 few t5 t6 room size tests =
      let b2 = t1.rest_bytes b in
      let b3 = t2.rest_bytes b2 in
      let b5 = t3.rest_bytes b3 in
      let b6 = t5.rest_bytes b5 in
      let cs : List (List ℕ) = names.names in
      let ps : List Pending = all_pending_in (le_value number.bytes) cs number.rest in
      let lp : length ps ≡ le_value number.bytes = length_pending_in (le_value number.bytes) cs number.rest in
      let r = entries_read cs [] t5.rising (id_from id.bytes) least (le_value number.bytes) number.rest
      (ap (λ (k : ℕ). are_entries k least (id_from id.bytes) (le_value number.bytes) number.rest) t5.size ∙ tests)
      (omega arith)
      (t6.rest_bytes b6) in
      let e2 : id.bytes ≡ id_bytes (id_from id.bytes) = sym (bytes_of_from id.bytes (t2.bytes b2) t2.size) in
      let e3 : count.bytes ≡ length cs ∷ [] = one_byte count.bytes t3.size ∙ ap (λ (k : ℕ). k ∷ []) (sym t5.size) in
      let e6 : number.bytes ≡ le 2 (length ps) =
      sym (le_value_lem number.bytes (t6.bytes b6)) ∙ ap₂ le t6.size (sym lp) in
      let e7 : number.rest ≡ all_pending cs ps = sym (take_all (le_value number.bytes * 27) number.rest (omega arith)) ∙ r.bytes in
      let f6 : names.rest ≡ le 2 (length ps) ++ all_pending cs ps = t6.split ∙ ap₂ (λ (x y : List ℕ). x ++ y) e6 e7 in
      let f3 : id.rest ≡ length cs ∷ (all_names cs ++ (le 2 (length ps) ++ all_pending cs ps)) =
      t3.split ∙ ap₂ (λ (x y : List ℕ). x ++ y) e3 (t5.split ∙ ap (λ (l : List ℕ). all_names cs ++ l) f6) in
      record {
        bytes = t1.split ∙ ap (λ (l : List ℕ). name_bytes name.bytes ++ l) (t2.split ∙ ap₂ (λ (x y : List ℕ). x ++ y) e2 f3);
        rules_kept =
            is_group_lem read
            (record {
              named = t1.name b;
              fits = from_fits id.bytes (t2.bytes b2) t2.size;
              few = omega (arith, t5.size);
              names = t5.names_are b5;
              rising = t5.rising;
              room = omega arith;
              entries = r.entries;
              above = r.rising;
              up_to_lem = r.up_to_lem;
            });
      }

-- what is read as a group is its body
pub body_bytes_lem : (s : List ℕ) (g : Group) → Bytes s → parse_body s ≡ Some g → BodyRead s g
unfolding parse_body n read
body_bytes_lem s g b e =
    answered (take_name s) _ e λ name e1 k1.
    answered (take_bytes 16 name.rest) _ k1 λ id e2 k2.
    answered (take_bytes 1 id.rest) _ k2 λ count e3 k3.
    needed (leb (le_value count.bytes) 16) _ k3 λ h4 k4.
    answered (take_names [] (le_value count.bytes) count.rest) _ k4 λ names e5 k5.
    answered (take_bytes 2 names.rest) _ k5 λ number e6 k6.
    needed (leb (le_value number.bytes) 256) _ k6 λ h7 k7.
    needed (eqb (length number.rest) (le_value number.bytes * 27)) _ k7 λ h8 k8.
    needed (are_entries (le_value count.bytes) least (id_from id.bytes) (le_value number.bytes) number.rest) _ k8 λ h9 k9.
    let w : read name id count names number ≡ g = cc in
    subst (BodyRead s) w
    (body_read name id count names number s b (name_taken s name e1) (bytes_taken 16 name.rest id e2) (bytes_taken 1 id.rest count e3)
    (leb-true (le_value count.bytes) 16 h4)
    (names_taken [] (le_value count.bytes) count.rest names e5)
    (bytes_taken 2 names.rest number e6)
    (leb-true (le_value number.bytes) 256 h7)
    (eqb-true (length number.rest) (le_value number.bytes * 27) h8)
    h9)
