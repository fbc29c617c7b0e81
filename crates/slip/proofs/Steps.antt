-- A cursor on a slip: it stands before its first pair, each step hands out the next pair, and the last one is done.
-- Assumes nothing.
use mathlib.Core.Path.{◌≡◌, sym, ap, ap₂, ◌∙◌}
use mathlib.Core.List.{List, [], ◌∷◌, ◌++◌}
use Rattle.std.proofs.Common.{Some}
use Prim.Native.Nat.{ℕ, suc, ◌+◌, ◌-◌, ◌≤◌}
use native.Mathlib.Omega.{arith}
use lib.ListN.{length, drop, length-append}
use Rattle.octets.specs.Place.{area}
use Rattle.octets.proofs.Laws.{length_area}
use Rattle.slip.specs.Pair.{Pair, is_pair_count}
use Rattle.slip.specs.Slip.{slip_string, slip_pairs, slip, parse_pairs, parse_slip}
use Rattle.slip.specs.Answer.{pairs_by, pairs_in, length_at, cursor, pairs_at, step_of, found_pair}
use Rattle.slip.specs.declared.SlipCursor.{SlipCursor}
use Rattle.octets.proofs.Laws.{needed}
use Rattle.slip.proofs.Strings.{length_string}
use Rattle.slip.proofs.Pairs.{pairs_count}
use Rattle.slip.proofs.Walk.{first_at_lem, step_found}

module _ (s : List ℕ) (ps : List Pair) (e : parse_slip s ≡ Some ps) where
  pub pairs_in_lem : pairs_in s ≡ ps
  unfolding pairs_in
  pairs_in_lem = ap pairs_by e

-- before its first pair
pub pairs_first : (s : List ℕ) (ps : List Pair) → parse_slip s ≡ Some ps → pairs_at s (cursor 1 (length ps)) ≡ Some ps
unfolding parse_slip pairs_at
pairs_first [] ps e = absurd (let z : ◌≡◌ {A = ℕ} 0 1 = cc in omega arith)
pairs_first (n ∷ s) ps e = needed (is_pair_count n) _ e λ p e. ap (λ (k : ℕ). parse_pairs k s) (pairs_count n s ps e) ∙ e

-- where a pair's two strings lie when a cursor stands before it, and the cursor after it
abbrev pub field_at : SlipCursor → ℕ
field_at c = c.at + 2

abbrev pub value_at : SlipCursor → Pair → ℕ
value_at c p = c.at + 2 + length p.field + 2

abbrev pub after : SlipCursor → Pair → SlipCursor
after c p = cursor (value_at c p + length p.value) (c.left - 1)

pub record Stepped (s : List ℕ) (c : SlipCursor) (p : Pair) (ps : List Pair) : Type 0 where
  pub step_is : step_of s c ≡ found_pair (field_at c) (length p.field) (value_at c p) (length p.value) (after c p)
  pub field_is : area (field_at c) (length p.field) s ≡ p.field
  pub value_is : area (value_at c p) (length p.value) s ≡ p.value
  pub next_is : pairs_at s (after c p) ≡ Some ps
  pub within : (after c p).at ≤ length s

pub stepped : (s : List ℕ) (c : SlipCursor) (p : Pair) (ps : List Pair) → pairs_at s c ≡ Some (p ∷ ps) → Stepped s c p ps
unfolding pairs_at
stepped s c p ps e =
    let l : suc (length ps) ≡ c.left = pairs_count c.left (drop c.at s) (p ∷ ps) e in
    let d : c.left ≡ suc (c.left - 1) = omega arith in
    let k = first_at_lem s c.at (c.left - 1) (p ∷ ps) (ap (λ (n : ℕ). parse_pairs n (drop c.at s)) (sym d) ∙ e) in
    let n : ℕ = length_at s c.at in
    let m : ℕ = length_at s (c.at + 2 + n) in
    let i = k.is in
    let f : p.field ≡ area (c.at + 2) n s = cc in
    let v : p.value ≡ area (c.at + 2 + n + 2) m s = cc in
    let o : ps ≡ k.others = cc in
    let a : length p.field ≡ n = ap length f ∙ length_area (c.at + 2) n s k.name.within in
    let b : length p.value ≡ m = ap length v ∙ length_area (c.at + 2 + n + 2) m s k.content.within in
    record {
      step_is = step_found s c (length p.field) (length p.value) (omega arith) a (b ∙ ap (λ (j : ℕ). length_at s (c.at + 2 + j)) (sym a));
      field_is = ap (λ (j : ℕ). area (c.at + 2) j s) a ∙ sym f;
      value_is = ap₂ (λ (i j : ℕ). area (c.at + 2 + i + 2) j s) a b ∙ sym v;
      next_is = ap₂ (λ (i j : ℕ). parse_pairs (c.left - 1) (drop (c.at + 2 + i + 2 + j) s)) a b ∙ k.left_is ∙ ap Some (sym o);
      within = omega (arith, k.content.within);
    }

-- the size of a slip
pub length_pairs : (p : Pair) (ps : List Pair) → length (slip_pairs (p ∷ ps)) ≡ 4 + length p.field + length p.value + length (slip_pairs ps)
unfolding slip_pairs
length_pairs p ps =
    omega (
      arith,
      length-append (slip_string p.field) (slip_string p.value ++ slip_pairs ps),
      length-append (slip_string p.value) (slip_pairs ps),
      length_string p.field,
      length_string p.value,
    )

pub length_slip : (ps : List Pair) → length (slip ps) ≡ 1 + length (slip_pairs ps)
unfolding slip
length_slip ps = omega arith
