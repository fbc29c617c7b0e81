-- Openings at a place: what the functions meet there. Assumes nothing.
use mathlib.Core.Path.{◌≡◌, refl, ap, ◌∙◌}
use mathlib.Core.List.{List}
use Rattle.std.proofs.Common.{Option, Some, None}
use Prim.Native.Nat.{ℕ, ◌*◌, ◌/◌, ◌%◌, ◌≤◌, ◌<◌}
use native.Mathlib.Omega.{arith}
use lib.ListN.{drop}
use borrow.Author.Tests.{eq-eqb, ne_eqb, le-leb, lt-leb}
use Rattle.octets.specs.Maybe.{◌>>=◌}
use Rattle.id.specs.declared.Id.{Id}
use Rattle.resp.specs.Reply.{opening, head}
use Rattle.resp.specs.Parse.{Got, gives, Opening, opening_of, cut_head, cut_bulk, id_in, pairs_by, cut_opening}
use Rattle.resp.proofs.Laws.{opening_is}
use Rattle.resp_read.specs.Answer.{cut_id, id_at, opening_found, opening_by, head_at, opening_at}
use Rattle.resp_read.specs.declared.part.Found.{Found}
use Rattle.resp_read.specs.declared.entry.IdFound.{IdFound}
use Rattle.resp_read.proofs.Places.{Left, left}
use Rattle.resp_read.proofs.Parts.{place_of_lem, no_head, head_at_lem}
use Rattle.resp_read.proofs.Ids.{no_id, id_at_lem}

-- how many pairs n strings are
module _ (n : ℕ) where
  pub count_odd : (n % 2 ≡ 0 → ⊥) → pairs_by n ≡ None
  unfolding pairs_by
  count_odd h = rw (ne_eqb (2 * (n / 2)) n (λ e. h (omega arith)))

  module _ (even : n % 2 ≡ 0) where
    pub count_few : n < 2 → pairs_by n ≡ None
    unfolding pairs_by
    count_few h = rw (eq-eqb (2 * (n / 2)) n (omega arith), lt-leb 1 (n / 2) (omega arith))

    pub count_many : 64 < n → pairs_by n ≡ None
    unfolding pairs_by
    count_many h = rw (eq-eqb (2 * (n / 2)) n (omega arith), le-leb 1 (n / 2) (omega arith), lt-leb (n / 2) 32 (omega arith))

    pub count_there : 2 ≤ n → n ≤ 64 → pairs_by n ≡ Some (n / 2)
    unfolding pairs_by
    count_there h k = rw (eq-eqb (2 * (n / 2)) n (omega arith), le-leb 1 (n / 2) (omega arith), le-leb (n / 2) 32 (omega arith))

-- what follows the ID
abbrev cut_count : Got Id → Option (Got Opening)
cut_count c = do
  n ← cut_head 42 c.rest
  k ← pairs_by n.got
  Some (gives (opening_of c.got k) n.rest)

after_id : (s : List ℕ) → (cut_bulk s >>= (λ (x : Got (List ℕ)). id_in x.got >>= (λ (i : Id). cut_count (gives i x.rest)))) ≡ (cut_id s >>= cut_count)
unfolding cut_id
after_id s = go (cut_bulk s)
  where
    one : (r : List ℕ) (o : Option Id) → (o >>= (λ (i : Id). cut_count (gives i r))) ≡ ((o >>= (λ (i : Id). Some (gives i r))) >>= cut_count)
    one r None = refl
    one r (Some i) = refl

    go : (o : Option (Got (List ℕ)))
        → (o >>= (λ (x : Got (List ℕ)). id_in x.got >>= (λ (i : Id). cut_count (gives i x.rest)))) ≡ ((o >>= (λ (x : Got (List ℕ)). id_in x.got >>= (λ (i : Id). Some (gives i x.rest)))) >>= cut_count)
    go None = refl
    go (Some x) = one x.rest (id_in x.got)

-- an opening: two, the ID i, n strings
module _ (s : List ℕ) (at : ℕ) where
  pub opening_left : (c : Got Opening) → cut_opening (drop at s) ≡ Some c → Left s at c.rest
  unfolding opening head
  opening_left c e = left s at (opening c.got.id c.got.pairs) c.rest (opening_is (drop at s) c e).text (omega arith)

  pub opening_none : None ≡ head_at s at 42 → opening_at s at ≡ None
  unfolding opening_at cut_opening
  opening_none e = rw (no_head s at 42 e)

  module _ (two : Found) (e : Some two ≡ head_at s at 42) where
    pub opening_other : (two.value ≡ 2 → ⊥) → opening_at s at ≡ None
    unfolding opening_at cut_opening
    opening_other k = rw ((head_at_lem s at 42 two e).is, ne_eqb two.value 2 k)

    module _ (k : two.value ≡ 2) where
      opening_by_lem : (o : Option (Got Id)) → cut_id (drop two.next s) ≡ o → opening_at s at ≡ opening_by s (o >>= cut_count)
      unfolding opening_at cut_opening
      opening_by_lem o q = rw ((head_at_lem s at 42 two e).is, eq-eqb two.value 2 k) (ap (opening_by s) (after_id (drop two.next s) ∙ ap (λ (x : Option (Got Id)). x >>= cut_count) q))

      pub opening_no_id : None ≡ id_at s two.next → opening_at s at ≡ None
      opening_no_id p = opening_by_lem None (no_id s two.next p)

      module _ (i : IdFound) (p : Some i ≡ id_at s two.next) where
        there : opening_at s at ≡ opening_by s (cut_count (gives i.id (drop i.next s)))
        there = opening_by_lem (Some (gives i.id (drop i.next s))) (id_at_lem s two.next i p).is

        pub opening_no_count : None ≡ head_at s i.next 42 → opening_at s at ≡ None
        opening_no_count u = rw (there, no_head s i.next 42 u)

        module _ (n : Found) (u : Some n ≡ head_at s i.next 42) where
          pub opening_no_pairs : None ≡ pairs_by n.value → opening_at s at ≡ None
          opening_no_pairs y = rw (there, (head_at_lem s i.next 42 n u).is, ← y)

          pub opening_there : (m : ℕ) → Some m ≡ pairs_by n.value → opening_at s at ≡ Some (opening_found i.id m n.next)
          opening_there m y =
              rw (there, (head_at_lem s i.next 42 n u).is, ← y) (ap (λ (k : ℕ). Some (opening_found i.id m k)) (place_of_lem s n.next (head_at_lem s i.next 42 n u).within))
