-- What each test of a body answers, return by return, and what a loop has left to do a turn later. Assumes nothing.
use mathlib.Core.Path.{◌≡◌, refl, sym, ap, ap₂, ◌∙◌}
use mathlib.Core.Bool.{Bool, true, false, not}
use mathlib.Core.List.{List, [], ◌∷◌}
use Prim.Native.Nat.{ℕ, zero, suc, ◌+◌, ◌-◌, ◌*◌, ◌≤◌, ◌<◌}
use native.Mathlib.Omega.{arith}
use lib.Dec.{leb, eqb}
use lib.ListN.{length, take, drop, get_or, length-drop}
use lib.Seq.{drop-drop}
use borrow.Author.Tests.{leb-true, le-leb, lt-leb, leb-false, eq-eqb, ne_eqb}
use Rattle.octets.specs.Pick.{both}
use Rattle.std.proofs.Common.{is_none, Option, Some, None}
use Rattle.octets.specs.Maybe.{◌>>=◌, ◌>>◌, need}
use Rattle.octets.specs.Bytes.{le_value}
use Rattle.octets.specs.Place.{Taken, area, take_bytes}
use Rattle.octets.proofs.Options.{some_injective, none_ne_some}
use Rattle.octets.proofs.Laws.{both_true, area_first, area_none, area_drop, needed_some}
use Rattle.id.specs.declared.Id.{Id}
use Rattle.id.specs.Id.{least}
use Rattle.id.specs.Bytes.{id_from}
use Rattle.groups.specs.Group.{Group}
use Rattle.groups.specs.Parse.{name_in, are_entries, take_name, take_names, parse_body}
use Rattle.group_body.specs.Answer.{is_name_at, names_at, name_end, names_end, entries_end}
use Rattle.group_body.proofs.Packed.{take_name_lem, name_stands, end_none, end_some, names_by, take_names_lem}
use Rattle.octets.specs.Compare.{comes_before}
use Rattle.groups.proofs.Laws.{empty_before, first_byte_lem, name_at, taken, value_one}

-- a name at a place
module _ (above : List ℕ) (at n : ℕ) (s : List ℕ) (e : n ≡ get_or s at 0) where
  opened : is_name_at (drop at s) ≡ both (both (leb 1 n) (leb n 16)) (leb (1 + n) (length s - at))
  unfolding is_name_at
  opened = rw (first_byte_lem at s, ← e, length-drop at s)

  no_name : is_name_at (drop at s) ≡ false → name_end above at s ≡ None
  no_name f = end_none above at s (rw f)

  pub end_empty : n < 1 → name_end above at s ≡ None
  end_empty h = no_name (opened ∙ rw (lt-leb 1 n h))

  module _ (h : 1 ≤ n) where
    pub end_long : 16 < n → name_end above at s ≡ None
    end_long k = no_name (opened ∙ rw (le-leb 1 n h, lt-leb n 16 k))

    module _ (k : n ≤ 16) where
      pub end_short : length s - at - 1 < n → name_end above at s ≡ None
      end_short m = no_name (opened ∙ rw (le-leb 1 n h, le-leb n 16 k, lt-leb (1 + n) (length s - at) (omega arith)))

      module _ (m : n ≤ length s - at - 1) where
        whole : is_name_at (drop at s) ≡ true
        whole = opened ∙ rw (le-leb 1 n h, le-leb n 16 k, le-leb (1 + n) (length s - at) (omega arith))

        pub end_low : comes_before above (name_in (drop at s)) ≡ false → name_end above at s ≡ None
        end_low f = end_none above at s (rw (whole, f))

        pub end_name : comes_before above (name_in (drop at s)) ≡ true → name_end above at s ≡ Some (at + 1 + n)
        end_name f = end_some above at s (rw (whole, f)) ∙ ap (λ (i : ℕ). Some (at + 1 + i)) (sym e)

-- a name that was found
pub record Ends (above : List ℕ) (at : ℕ) (s : List ℕ) (e : ℕ) : Type 0 where
  pub stands : is_name_at (drop at s) ≡ true
  pub end : e ≡ at + 1 + get_or s at 0

module _ (above : List ℕ) (at : ℕ) (s : List ℕ) where
  ends_case : (e : ℕ) (t : Bool) → both (is_name_at (drop at s)) (comes_before above (name_in (drop at s))) ≡ t → name_end above at s ≡ Some e → Ends above at s e
  ends_case e false p q = absurd (none_ne_some e (sym (end_none above at s p) ∙ q))
  ends_case e true p q =
      record {
        stands = (both_true (is_name_at (drop at s)) (comes_before above (name_in (drop at s))) p).0;
        end = some_injective _ _ (sym q ∙ end_some above at s p);
      }

  pub ends : (e : ℕ) → name_end above at s ≡ Some e → Ends above at s e
  ends e q = ends_case e (both (is_name_at (drop at s)) (comes_before above (name_in (drop at s)))) refl q

  -- names that are left
  names_step : (left : ℕ) → 0 < left
      → names_end above at left s ≡ (name_end above at s >>= λ e. names_end (name_in (drop at s)) e (left - 1) s)
  unfolding names_end
  names_step zero h = absurd (omega arith)
  names_step (suc n) h = let q : suc n - 1 ≡ n = omega arith in rw q

  module _ (left : ℕ) (h : 0 < left) where
    pub names_bad : name_end above at s ≡ None → names_end above at left s ≡ None
    names_bad q = names_step left h ∙ rw q

    pub names_next : (e : ℕ) → name_end above at s ≡ Some e → names_end above at left s ≡ names_end (area (at + 1) (e - (at + 1)) s) e (left - 1) s
    names_next e q =
        let x = ends e q in
        let n : e - (at + 1) ≡ get_or s at 0 = omega (arith, x.end) in
        names_step left h
        ∙ rw q (ap (λ (l : List ℕ). names_end l e (left - 1) s) (name_at at (e - (at + 1)) s n))

pub names_done : (above : List ℕ) (at left : ℕ) (s : List ℕ) → left ≤ 0 → names_end above at left s ≡ Some at
unfolding names_end
names_done above at zero s h = refl
names_done above at (suc n) s h = absurd (omega arith)

-- the entries, to the end
module _ (consumers : ℕ) (most : Id) (at : ℕ) (s : List ℕ) where
  number_at_lem : area 0 2 (drop at s) ≡ area at 2 s
  number_at_lem = let q : at + 0 ≡ at = omega arith in area_drop at 0 2 s ∙ ap (λ (i : ℕ). area i 2 s) q

  pub entries_short : length s - at < 2 → entries_end consumers most (drop at s) ≡ false
  unfolding entries_end
  entries_short h = rw (length-drop at s, lt-leb 2 (length s - at) h)

  module _ (h : 2 ≤ length s - at) (n : ℕ) (e : n ≡ le_value (area at 2 s)) where
    pub entries_many : 256 < n → entries_end consumers most (drop at s) ≡ false
    unfolding entries_end
    entries_many k = rw (length-drop at s, le-leb 2 (length s - at) h, number_at_lem, ← e, lt-leb n 256 k)

    module _ (k : n ≤ 256) where
      rest_size : length (drop 2 (drop at s)) ≡ length s - at - 2
      rest_size = length-drop 2 (drop at s) ∙ ap (λ (i : ℕ). i - 2) (length-drop at s)

      pub entries_size : (length s - at - 2 ≡ n * 27 → ⊥) → entries_end consumers most (drop at s) ≡ false
      unfolding entries_end
      entries_size m = rw (length-drop at s, le-leb 2 (length s - at) h, number_at_lem, ← e, le-leb n 256 k, rest_size, ne_eqb (length s - at - 2) (n * 27) m)

      pub entries_last : length s - at - 2 ≡ n * 27 → entries_end consumers most (drop at s) ≡ are_entries consumers least most n (drop (at + 2) s)
      unfolding entries_end
      entries_last m =
          rw (length-drop at s, le-leb 2 (length s - at) h, number_at_lem, ← e, le-leb n 256 k, rest_size, eq-eqb (length s - at - 2) (n * 27) m)
          (ap (are_entries consumers least most n) (drop-drop 2 at s))

needed_more : {A : Type 0} (t u : Bool) (o : Option A) → not (is_none o) ≡ u → not (is_none (need t >> o)) ≡ both t u
needed_more true u o e = e
needed_more false u o e = refl

take_bytes_lem : (n at : ℕ) (s : List ℕ) → at + n ≤ length s → take_bytes n (drop at s) ≡ Some (taken (area at n s) (drop (at + n) s))
unfolding take_bytes area
take_bytes_lem n at s h = rw (le-leb n (length (drop at s)) (omega (arith, length-drop at s)), drop-drop n at s)

take_few : (n at : ℕ) (s : List ℕ) → length s < at + n → at ≤ length s → take_bytes n (drop at s) ≡ None
unfolding take_bytes
take_few n at s h k = rw (lt-leb n (length (drop at s)) (omega (arith, length-drop at s)))

-- the number and the entries that are taken
module _ (consumers : ℕ) (most : Id) (s : List ℕ) (f : Taken → Group) where
  abbrev after : Taken → Option Group
  after y =
      need (leb (le_value y.bytes) 256)
      >> (need (eqb (length y.rest) (le_value y.bytes * 27)) >> (need (are_entries consumers least most (le_value y.bytes) y.rest) >> Some (f y)))

  entries_case : (t : Bool) → leb 2 (length s) ≡ t → not (is_none ((need t >> Some (taken (take 2 s) (drop 2 s))) >>= after)) ≡ entries_end consumers most s
  unfolding entries_end area
  entries_case false e = rw e
  entries_case true e =
      let n : ℕ = le_value (take 2 s) in
      let u : Bool = are_entries consumers least most n (drop 2 s) in
      let y : Taken = taken (take 2 s) (drop 2 s) in
      rw e
      (needed_more (leb n 256) (both (eqb (length (drop 2 s)) (n * 27)) u) _
      (needed_more (eqb (length (drop 2 s)) (n * 27)) u (need u >> Some (f y)) (needed_some u (f y))))

  entries_taken : not (is_none (take_bytes 2 s >>= after)) ≡ entries_end consumers most s
  unfolding take_bytes
  entries_taken = entries_case (leb 2 (length s)) refl

-- a whole body
module _ (s : List ℕ) where
  unnamed_case : (t : Bool) → is_name_at s ≡ t → name_end [] 0 s ≡ None → take_name s ≡ None
  unnamed_case false e z = take_name_lem s ∙ rw e
  unnamed_case true e z =
      let x = name_stands s e in
      let b : comes_before [] (name_in s) ≡ true = empty_before (name_in s) (omega (arith, x.size, x.some_bytes)) in
      absurd (none_ne_some _ (sym z ∙ end_some [] 0 s (rw (e, b))))

  pub body_unnamed : name_end [] 0 s ≡ None → not (is_none (parse_body s)) ≡ false
  unfolding parse_body
  body_unnamed z = rw (unnamed_case (is_name_at s) refl z)

  module _ (a : ℕ) (q : name_end [] 0 s ≡ Some a) where
    first : Ends [] 0 s a
    first = ends [] 0 s a q

    name : take_name s ≡ Some (taken (name_in s) (drop a s))
    name =
        let p : 1 + get_or s 0 0 ≡ a = omega (arith, first.end) in
        take_name_lem s ∙ rw (first.stands, p)

    short_case : (t : Bool) → leb (a + 16) (length s) ≡ t → a ≤ length s → length s - a < 17 → not (is_none (parse_body s)) ≡ false
    unfolding parse_body
    short_case false e l h = let k = leb-false (a + 16) (length s) e in rw (name, take_few 16 a s k l)
    short_case true e l h =
        let k = leb-true (a + 16) (length s) e in
        rw (name, take_bytes_lem 16 a s k, take_few 1 (a + 16) s (omega arith) k)

    pub body_short : a ≤ length s → length s - a < 17 → not (is_none (parse_body s)) ≡ false
    body_short l h = short_case (leb (a + 16) (length s)) refl l h

    module _ (h : 17 ≤ length s - a) (k : ℕ) (e : k ≡ get_or s (a + 16) 0) where
      delivered : take_bytes 16 (drop a s) ≡ Some (taken (area a 16 s) (drop (a + 16) s))
      delivered = take_bytes_lem 16 a s (omega arith)

      count : take_bytes 1 (drop (a + 16) s) ≡ Some (taken (k ∷ []) (drop (a + 17) s))
      count =
          let i : a + 16 + 1 ≡ a + 17 = omega arith in
          let b : area (a + 16) 1 s ≡ k ∷ [] =
          area_first (a + 16) 0 s (omega arith) ∙ ap₂ (λ (x : ℕ) (l : List ℕ). x ∷ l) (sym e) (area_none (a + 16 + 1) s) in
          take_bytes_lem 1 (a + 16) s (omega arith) ∙ ap₂ (λ (l : List ℕ) (j : ℕ). Some (taken l (drop j s))) b i

      pub body_many : 16 < k → not (is_none (parse_body s)) ≡ false
      unfolding parse_body
      body_many m = rw (name, delivered, count, value_one k, lt-leb k 16 m)

      module _ (m : k ≤ 16) (o : Option ℕ) (r : names_end [] (a + 17) k s ≡ o) where
        consumers : take_names [] k (drop (a + 17) s) ≡ names_by o (names_at k (drop (a + 17) s)) s
        consumers = take_names_lem [] k s (a + 17) ∙ ap (λ (j : Option ℕ). names_by j (names_at k (drop (a + 17) s)) s) r

        pub body_names : o ≡ None → not (is_none (parse_body s)) ≡ false
        unfolding parse_body
        body_names z = rw (name, delivered, count, value_one k, le-leb k 16 m, consumers, z)

        pub body_entries : (b : ℕ) → o ≡ Some b → not (is_none (parse_body s)) ≡ entries_end k (id_from (area a 16 s)) (drop b s)
        unfolding parse_body
        body_entries b z =
            rw (name, delivered, count, value_one k, le-leb k 16 m, consumers, z)
            (entries_taken k (id_from (area a 16 s)) (drop b s) _)
