-- Numbers, heads and bulk strings at a place: what the functions meet there. Assumes nothing.
use mathlib.Core.Path.{◌≡◌, refl, sym, ap, ap₂, ◌∙◌}
use mathlib.Core.Bool.{Bool, true, false}
use mathlib.Core.List.{List, [], ◌∷◌, ◌++◌, append_assoc}
use Rattle.std.proofs.Common.{Option, Some, None}
use Prim.Native.Nat.{ℕ, ◌+◌, ◌-◌, ◌*◌, ◌^◌, ◌≤◌, ◌<◌}
use native.Mathlib.Omega.{arith}
use lib.Dec.{leb, ltb}
use lib.ListN.{length, take, drop, get_or, length-append, length-drop, drop_of_length-le, take-append-drop}
use lib.Seq.{drop-drop, length-take-le}
use borrow.Author.Tests.{eq-eqb, ne_eqb, le-leb, lt-leb, lt-ltb, le-ltb, leb-true}
use Rattle.octets.specs.Place.{area}
use Rattle.octets.specs.Maybe.{◌>>=◌, ◌>>◌, need}
use Rattle.octets.proofs.Laws.{cut, area_middle, pick_by, needed, answered, some_is}
use Rattle.decimal.specs.Text.{natural_text}
use Rattle.decimal.specs.Integer.{is_digit}
use Rattle.decimal.proofs.Laws.{length_natural}
use Rattle.resp.specs.Reply.{crlf, head, bulk}
use Rattle.resp.specs.Parse.{Got, gives, cut_byte, cut_end, cut_digits, cut_number, cut_head, cut_bulk}
use Rattle.resp.proofs.Laws.{number_is, end_is, head_is, bulk_is}
use Rattle.resp_read.specs.Answer.{found, number_by, short_by, line_end, digits_at, number_at, head_at, bulk_at}
use Rattle.resp_read.specs.declared.part.Found.{Found}
use Rattle.resp_read.proofs.Places.{Left, lengths, left, missing, NumberAt, number_there}

-- the place of what is left
pub place_of_lem : (s : List ℕ) (at : ℕ) → at ≤ length s → length s - length (drop at s) ≡ at
place_of_lem s at h = omega (arith, length-drop at s)

-- the digits after those of n, from i on; b stands there
module _ (s : List ℕ) (n i : ℕ) where
  pub digits_end : length s ≤ i → digits_at s n i ≡ Some (found n (length s))
  unfolding digits_at cut_digits
  digits_end h = rw (drop_of_length-le s h) (ap (λ (j : ℕ). Some (found n j)) (omega arith))

  module _ (b : ℕ) (e : b ≡ get_or s i 0) (h : i < length s) where
    here : drop i s ≡ b ∷ drop (i + 1) s
    here = cut s i h ∙ ap (λ (x : ℕ). x ∷ drop (i + 1) s) (sym e)

    stop : is_digit b ≡ false → digits_at s n i ≡ Some (found n i)
    unfolding digits_at cut_digits
    stop k =
        let l : length s - length (b ∷ drop (i + 1) s) ≡ i = omega (arith, length-drop (i + 1) s) in
        rw (here, k) (ap (λ (j : ℕ). Some (found n j)) l)

    pub digits_low : b < 48 → digits_at s n i ≡ Some (found n i)
    digits_low k = stop (simp (lt-leb 48 b k))

    pub digits_high : 57 < b → digits_at s n i ≡ Some (found n i)
    digits_high k = stop (simp (le-leb 48 b (omega arith), lt-leb b 57 k))

    module _ (lo : 48 ≤ b) (hi : b ≤ 57) where
      pub digits_over : 2 ^ 64 ≤ 10 * n + (b - 48) → digits_at s n i ≡ None
      unfolding digits_at cut_digits
      digits_over k = rw here (simp (le-leb 48 b lo, le-leb b 57 hi, le-ltb (10 * n + (b - 48)) (2 ^ 64) k))

      pub digits_turn : 10 * n + (b - 48) < 2 ^ 64 → digits_at s n i ≡ digits_at s (10 * n + (b - 48)) (i + 1)
      unfolding digits_at cut_digits
      digits_turn k = rw here (simp (le-leb 48 b lo, le-leb b 57 hi, lt-ltb (10 * n + (b - 48)) (2 ^ 64) k))

-- a number
module _ (s : List ℕ) (at : ℕ) where
  pub number_none : length s ≤ at → number_at s at ≡ None
  unfolding number_at cut_number
  number_none h = rw (drop_of_length-le s h)

  module _ (b : ℕ) (e : b ≡ get_or s at 0) (h : at < length s) where
    first : drop at s ≡ b ∷ drop (at + 1) s
    first = cut s at h ∙ ap (λ (x : ℕ). x ∷ drop (at + 1) s) (sym e)

    pub number_zero : b ≡ 48 → number_at s at ≡ Some (found 0 (at + 1))
    unfolding number_at cut_number
    number_zero k = rw first (simp (eq-eqb b 48 k) (ap (λ (j : ℕ). Some (found 0 j)) (place_of_lem s (at + 1) (omega arith))))

    pub number_low : b < 48 → number_at s at ≡ None
    unfolding number_at cut_number
    number_low k = rw first (simp (ne_eqb b 48 (λ z. omega arith), lt-leb 49 b (omega arith)))

    pub number_high : 57 < b → number_at s at ≡ None
    unfolding number_at cut_number
    number_high k = rw first (simp (ne_eqb b 48 (λ z. omega arith), le-leb 49 b (omega arith), lt-leb b 57 k))

    pub number_more : 48 ≤ b → b ≤ 57 → (b ≡ 48 → ⊥) → number_at s at ≡ digits_at s (b - 48) (at + 1)
    unfolding digits_at number_at cut_number
    number_more j k l = rw first (simp (ne_eqb b 48 l, le-leb 49 b (omega arith), le-leb b 57 k))

  pub number_left : (c : Got ℕ) → cut_number (drop at s) ≡ Some c → Left s at c.rest
  number_left c e = left s at (natural_text c.got) c.rest (number_is (drop at s) c e).1 (length_natural c.got).0

  -- what number says
  pub no_number : None ≡ number_at s at → cut_number (drop at s) ≡ None
  unfolding number_at
  no_number = missing (cut_number (drop at s)) _

  pub number_at_lem : (f : Found) → Some f ≡ number_at s at → NumberAt s at (cut_number (drop at s)) f
  unfolding number_at
  number_at_lem = number_there s at _ number_left

-- CR LF
module _ (s : List ℕ) (at : ℕ) where
  pub end_short : length s < at + 2 → line_end s at ≡ None
  unfolding line_end
  end_short h = go (cut_end (drop at s)) refl
    where
      go : (o : Option (List ℕ)) → cut_end (drop at s) ≡ o → (o >>= (λ (r : List ℕ). Some (length s - length r))) ≡ None
      go None e = refl
      go (Some r) e = absurd (omega (arith, length-drop at s, ap length (end_is (drop at s) r e)))

  module _ (h : at + 2 ≤ length s) where
    both_bytes : drop at s ≡ get_or s at 0 ∷ (get_or s (at + 1) 0 ∷ drop (at + 1 + 1) s)
    both_bytes = cut s at (omega arith) ∙ ap (λ (l : List ℕ). get_or s at 0 ∷ l) (cut s (at + 1) (omega arith))

    pub end_first : (get_or s at 0 ≡ 13 → ⊥) → line_end s at ≡ None
    unfolding line_end cut_end cut_byte
    end_first k = rw both_bytes (simp (ne_eqb (get_or s at 0) 13 k))

    pub end_second : get_or s at 0 ≡ 13 → (get_or s (at + 1) 0 ≡ 10 → ⊥) → line_end s at ≡ None
    unfolding line_end cut_end cut_byte
    end_second j k = rw both_bytes (simp (eq-eqb (get_or s at 0) 13 j, ne_eqb (get_or s (at + 1) 0) 10 k))

    pub end_here : get_or s at 0 ≡ 13 → get_or s (at + 1) 0 ≡ 10 → line_end s at ≡ Some (at + 2)
    unfolding line_end cut_end cut_byte
    end_here j k = rw both_bytes (simp (eq-eqb (get_or s at 0) 13 j, eq-eqb (get_or s (at + 1) 0) 10 k) (ap Some (omega (arith, length-drop (at + 1 + 1) s))))

  -- what line_end says
  pub end_missing : None ≡ line_end s at → cut_end (drop at s) ≡ None
  unfolding line_end
  end_missing = missing (cut_end (drop at s)) _

  pub end_there : (n : ℕ) → Some n ≡ line_end s at → (cut_end (drop at s) ≡ Some (drop n s)) × (n ≡ at + 2) × (n ≤ length s)
  unfolding line_end
  end_there n e =
      answered (cut_end (drop at s)) _ (sym e) λ r p q.
      let t = end_is (drop at s) r p in
      let l = left s at crlf r t (omega arith) in
      let k : length s - length r ≡ n = some_is q in
      (p ∙ ap Some (l.is ∙ ap (λ (i : ℕ). drop i s) k), omega (arith, ap length t, length-drop at s, l.past), omega arith)

-- a head: the byte b, a number, CR LF; what follows the number
abbrev pub ended : List ℕ → Found → Option Found
ended s f = do
  n ← line_end s f.next
  Some (found f.value n)

module _ (s : List ℕ) (at b : ℕ) where
  pub head_none : length s ≤ at → head_at s at b ≡ None
  unfolding head_at cut_head cut_byte
  head_none h = rw (drop_of_length-le s h)

  pub head_left : (c : Got ℕ) → cut_head b (drop at s) ≡ Some c → Left s at c.rest
  unfolding head
  head_left c e = left s at (head b c.got) c.rest (head_is b (drop at s) c e).1 (omega arith)

  module _ (h : at < length s) where
    pub head_other : (get_or s at 0 ≡ b → ⊥) → head_at s at b ≡ None
    unfolding head_at cut_head cut_byte
    head_other k = rw (cut s at h) (simp (ne_eqb (get_or s at 0) b k))

    begins : get_or s at 0 ≡ b → cut_byte b (drop at s) ≡ Some (drop (at + 1) s)
    unfolding cut_byte
    begins k = rw (cut s at h) (simp (eq-eqb (get_or s at 0) b k))

    pub head_step : get_or s at 0 ≡ b → head_at s at b ≡ (number_at s (at + 1) >>= ended s)
    unfolding head_at cut_head number_at line_end
    head_step k = rw (begins k) (go (cut_number (drop (at + 1) s)) refl)
      where
        one : (v : ℕ) (o : Option (List ℕ)) → number_by s (o >>= (λ (t : List ℕ). Some (gives v t))) ≡ ((o >>= (λ (r : List ℕ). Some (length s - length r))) >>= (λ (n : ℕ). Some (found v n)))
        one v None = refl
        one v (Some t) = refl

        go : (o : Option (Got ℕ)) → cut_number (drop (at + 1) s) ≡ o
            → number_by s (o >>= (λ (n : Got ℕ). cut_end n.rest >>= (λ (t : List ℕ). Some (gives n.got t)))) ≡ (number_by s o >>= ended s)
        go None e = refl
        go (Some c) e = rw (← (number_left s (at + 1) c e).is) (one c.got (cut_end c.rest))

-- what a head says
module _ (s : List ℕ) (at b : ℕ) where
  pub no_head : None ≡ head_at s at b → cut_head b (drop at s) ≡ None
  unfolding head_at
  no_head = missing (cut_head b (drop at s)) _

  pub head_at_lem : (f : Found) → Some f ≡ head_at s at b → NumberAt s at (cut_head b (drop at s)) f
  unfolding head_at
  head_at_lem = number_there s at _ (head_left s at b)

-- a length: at most 1,000
pub short_one : (f : Found) → f.value ≤ 1000 → short_by (Some f) ≡ Some f
short_one f h = rw (le-leb f.value 1000 h)

short_other : (f : Found) → 1000 < f.value → short_by (Some f) ≡ None
short_other f h = rw (lt-leb f.value 1000 h)

-- what it says
is_short_lem : (f : Found) (o : Option Found) → Some f ≡ short_by o → (Some f ≡ o) × (f.value ≤ 1000)
is_short_lem f o e =
    answered o _ (sym e) λ g p e. needed (leb g.value 1000) _ e λ l e.
    let q : g ≡ f = some_is e in
    (sym (p ∙ ap Some q), omega (arith, leb-true g.value 1000 l, ap (λ (x : Found). x.value) q))

-- digits only make a number greater
digits_grow : (n : ℕ) (s : List ℕ) (c : Got ℕ) → cut_digits n s ≡ Some c → n ≤ c.got
unfolding cut_digits
digits_grow n [] c e = omega (arith, ap (λ (x : Got ℕ). x.got) (some_is e))
digits_grow n (b ∷ s) c e =
    let P : Option (Got ℕ) → Type 0 = λ o. o ≡ Some c → n ≤ c.got in
    pick_by P (is_digit b) _ _
    (λ d e. needed (ltb (10 * n + (b - 48)) (2 ^ 64)) _ e λ l e. omega (arith, digits_grow (10 * n + (b - 48)) s c e))
    (λ d e. omega (arith, ap (λ (x : Got ℕ). x.got) (some_is e))) e

module _ (s : List ℕ) (n i : ℕ) where
  pub digits_long : 1000 < n → short_by (digits_at s n i) ≡ None
  unfolding digits_at
  digits_long h = go (cut_digits n (drop i s)) refl
    where
      go : (o : Option (Got ℕ)) → cut_digits n (drop i s) ≡ o → short_by (number_by s o) ≡ None
      go None e = refl
      go (Some c) e = short_other (found c.got (length s - length c.rest)) (omega (arith, digits_grow n (drop i s) c e))

-- the head with a length
pub length_step : (s : List ℕ) (at : ℕ) → at < length s → get_or s at 0 ≡ 36 → short_by (head_at s at 36) ≡ (short_by (number_at s (at + 1)) >>= ended s)
length_step s at h k = ap short_by (head_step s at 36 h k) ∙ go (number_at s (at + 1))
  where
    by : (f : Found) (t : Bool) → leb f.value 1000 ≡ t → (o : Option ℕ) → line_end s f.next ≡ o → short_by (ended s f) ≡ (short_by (Some f) >>= ended s)
    by f true e None q = rw (e, q) refl
    by f false e None q = rw (e, q) refl
    by f true e (Some n) q = rw (e, q, e) refl
    by f false e (Some n) q = rw (e, q, e) refl

    go : (o : Option Found) → short_by (o >>= ended s) ≡ (short_by o >>= ended s)
    go None = refl
    go (Some f) = by f (leb f.value 1000) refl (line_end s f.next) refl

-- a bulk string, after its head
module _ (s : List ℕ) (at : ℕ) where
  pub length_at : (f : Found) → Some f ≡ short_by (head_at s at 36) → NumberAt s at (cut_head 36 (drop at s)) f × (f.value ≤ 1000)
  length_at f e = let t = is_short_lem f _ e in (head_at_lem s at 36 f t.0, t.1)

  pub bulk_step : bulk_at s at ≡ (short_by (head_at s at 36) >>= (λ (f : Found). line_end s (f.next + f.value) >>= (λ (n : ℕ). Some f.value)))
  unfolding bulk_at cut_bulk head_at line_end
  bulk_step = go (cut_head 36 (drop at s)) refl
    where
      taken : (c : Got ℕ) (o : Option (List ℕ)) → cut_end (drop c.got c.rest) ≡ o
          → ((o >>= (λ (t : List ℕ). Some (gives (take c.got c.rest) t))) >>= (λ (x : Got (List ℕ)). Some (length x.got))) ≡ ((o >>= (λ (r : List ℕ). Some (length s - length r))) >>= (λ (n : ℕ). Some c.got))
      taken c None e = refl
      taken c (Some t) e = ap Some (length-take-le c.got c.rest (omega (arith, length-drop c.got c.rest, ap length (end_is (drop c.got c.rest) t e))))

      by : (c : Got ℕ) → drop (length s - length c.rest + c.got) s ≡ drop c.got c.rest → (t : Bool) → leb c.got 1000 ≡ t
          → ((need (leb c.got 1000) >> (cut_end (drop c.got c.rest) >>= (λ (t : List ℕ). Some (gives (take c.got c.rest) t)))) >>= (λ (x : Got (List ℕ)). Some (length x.got)))
          ≡ (short_by (number_by s (Some c)) >>= (λ (f : Found). line_end s (f.next + f.value) >>= (λ (n : ℕ). Some f.value)))
      by c d true e = rw (e, d) (taken c (cut_end (drop c.got c.rest)) refl)
      by c d false e = rw e refl

      go : (o : Option (Got ℕ)) → cut_head 36 (drop at s) ≡ o
          → ((o >>= (λ (n : Got ℕ). need (leb n.got 1000) >> (cut_end (drop n.got n.rest) >>= (λ (t : List ℕ). Some (gives (take n.got n.rest) t))))) >>= (λ (x : Got (List ℕ)). Some (length x.got)))
          ≡ (short_by (number_by s o) >>= (λ (f : Found). line_end s (f.next + f.value) >>= (λ (n : ℕ). Some f.value)))
      go None e = refl
      go (Some c) e = by c (sym (drop-drop c.got (length s - length c.rest) s) ∙ ap (drop c.got) (sym (head_left s at 36 c e).is)) (leb c.got 1000) refl

-- a bulk string of so many bytes, and where they begin
pub record IsBulk (s : List ℕ) (at len from : ℕ) : Type 0 where
  pub is : cut_bulk (drop at s) ≡ Some (gives (area from len s) (drop (from + len + 2) s))
  pub short : len ≤ 1000
  pub within : from + len + 2 ≤ length s

module _ (s : List ℕ) (at : ℕ) where
  bulk_lies : (x r : List ℕ) → drop at s ≡ bulk x ++ r → (from : ℕ) → from ≡ at + length (head 36 (length x))
      → (area from (length x) s ≡ x) × (r ≡ drop (from + length x + 2) s) × (from + length x + 2 ≤ length s)
  unfolding bulk head
  bulk_lies x r e from q =
      let h : List ℕ = head 36 (length x) in
      let w : s ≡ (take at s ++ h) ++ (x ++ (crlf ++ r)) = sym (take-append-drop at s) ∙ ap (λ (l : List ℕ). take at s ++ l) e ∙ simp append_assoc in
      let m : length (bulk x) ≡ length h + (length x + 2) = length-append h (x ++ crlf) ∙ ap (λ (n : ℕ). length h + n) (length-append x crlf) in
      let n = lengths s at (bulk x) r e in
      let a : length (take at s) ≡ at = length-take-le at s (omega (arith, n)) in
      let f : length (take at s ++ h) ≡ from = omega (arith, length-append (take at s) h) in
      let o : length s - length r ≡ from + length x + 2 = omega (arith, n) in (
        ap (area from (length x)) w ∙ area_middle (take at s ++ h) x (crlf ++ r) from (length x) f refl,
        (left s at (bulk x) r e (omega arith)).is ∙ ap (λ (i : ℕ). drop i s) o,
        omega (arith, n),
      )

  -- h is the size of its head
  pub bulk_at_lem : (n : ℕ) → Some n ≡ bulk_at s at → (h : ℕ) → h ≡ length (head 36 n) → IsBulk s at n (at + h)
  unfolding bulk_at
  bulk_at_lem n e h q =
      answered (cut_bulk (drop at s)) _ (sym e) λ c p e.
      let m : length c.got ≡ n = some_is e in
      let t = bulk_is (drop at s) c p in
      let y = bulk_lies c.got c.rest t.1 (at + h) (ap (λ (i : ℕ). at + i) (q ∙ ap (λ (i : ℕ). length (head 36 i)) (sym m))) in
      rw (← m) (record { is = p ∙ ap₂ (λ (x r : List ℕ). Some (gives x r)) (sym y.0) y.1; short = t.0; within = y.2 })

  pub no_bulk : None ≡ bulk_at s at → cut_bulk (drop at s) ≡ None
  unfolding bulk_at
  no_bulk = missing (cut_bulk (drop at s)) _
