-- Slips: the pairs that are read are those that were written. Assumes nothing.
use mathlib.Core.Path.{◌≡◌, refl, sym, ap, ap₂, ◌∙◌}
use mathlib.Core.Bool.{true}
use mathlib.Core.List.{List, [], ◌∷◌, ◌++◌}
use Rattle.std.proofs.Common.{Some}
use Prim.Native.Nat.{ℕ, zero, suc, ◌<◌}
use native.Mathlib.Omega.{arith}
use lib.Dec.{eqb}
use lib.ListN.{length, get_or}
use borrow.Author.Tests.{eqb-true}
use Rattle.octets.specs.Pick.{both}
use Rattle.octets.specs.Bytes.{Bytes}
use Rattle.octets.proofs.Laws.{both_true, bytes_tail}
use Rattle.slip.specs.Pair.{Pair, is_string, are_strings, is_pair_count, are_pairs}
use Rattle.slip.specs.Slip.{slip_string, slip_pairs, slip, cut_string, parse_pairs, parse_slip}
use Rattle.octets.proofs.Laws.{needed, answered, some_is}
use Rattle.slip.proofs.Strings.{is_string_lem, cut_string_lem, string_cut, cut_rules}

-- the rules of the first pair, and of the others
pub strings_first : (p : Pair) (ps : List Pair) → are_strings (p ∷ ps) ≡ true → (is_string p.field ≡ true) × (is_string p.value ≡ true) × (are_strings ps ≡ true)
unfolding are_strings
strings_first p ps e =
    let x = both_true (both (is_string p.field) (is_string p.value)) (are_strings ps) e in
    let y = both_true (is_string p.field) (is_string p.value) x.0 in
    (y.0, y.1, x.1)

pub parse_pairs_lem : (ps : List Pair) → are_strings ps ≡ true → parse_pairs (length ps) (slip_pairs ps) ≡ Some ps
unfolding parse_pairs slip_pairs
parse_pairs_lem [] e = refl
parse_pairs_lem (p ∷ ps) e =
    let x = strings_first p ps e in
    rw (
      cut_string_lem p.field (slip_string p.value ++ slip_pairs ps) (is_string_lem p.field x.0).0,
      cut_string_lem p.value (slip_pairs ps) (is_string_lem p.value x.1).0,
      parse_pairs_lem ps x.2,
    )

pub pairs_count : (n : ℕ) (s : List ℕ) (ps : List Pair) → parse_pairs n s ≡ Some ps → length ps ≡ n
unfolding parse_pairs
pairs_count zero s ps e = needed (eqb (length s) 0) _ e λ p e. ap length (sym (some_is e))
pairs_count (suc n) s ps e =
    answered (cut_string s) _ e λ f p e. answered (cut_string f.rest) _ e λ v q e. answered (parse_pairs n v.rest) _ e λ qs r e.
    ap length (sym (some_is e)) ∙ ap suc (pairs_count n v.rest qs r)

-- what pairs that were read keep
pub record IsPairs (s : List ℕ) (ps : List Pair) : Type 0 where
  pub bytes : s ≡ slip_pairs ps
  pub rules : are_strings ps ≡ true

pub pairs_parse : (n : ℕ) (s : List ℕ) (ps : List Pair) → Bytes s → parse_pairs n s ≡ Some ps → IsPairs s ps
unfolding parse_pairs slip_pairs are_strings
pairs_parse zero [] ps b e = rw (← some_is e) (record { bytes = refl; rules = refl })
pairs_parse zero (x ∷ s) ps b e =
    needed (eqb (length (x ∷ s)) 0) _ e λ p e. absurd (omega (arith, eqb-true (length (x ∷ s)) 0 p))
pairs_parse (suc n) s ps b e =
    answered (cut_string s) _ e λ f p e. answered (cut_string f.rest) _ e λ v q e. answered (parse_pairs n v.rest) _ e λ qs r e.
    let x = cut_rules s f b p in
    let y = cut_rules f.rest v x.1 q in
    let z = pairs_parse n v.rest qs y.1 r in
    rw (← some_is e) (record {
      bytes = string_cut s f b p ∙ ap (λ (l : List ℕ). slip_string f.string ++ l) (string_cut f.rest v x.1 q ∙ ap (λ (l : List ℕ). slip_string v.string ++ l) z.bytes);
      rules = rw (x.0, y.0) z.rules;
    })

pub parse_slip_lem : (ps : List Pair) → are_pairs ps ≡ true → parse_slip (slip ps) ≡ Some ps
unfolding parse_slip slip are_pairs
parse_slip_lem ps e =
    let p = both_true (is_pair_count (length ps)) (are_strings ps) e in
    rw p.0 (parse_pairs_lem ps p.1)

pub slip_parse : (s : List ℕ) (ps : List Pair) → Bytes s → parse_slip s ≡ Some ps → (s ≡ slip ps) × (are_pairs ps ≡ true)
unfolding parse_slip slip are_pairs
slip_parse [] ps b e = absurd (let z : ◌≡◌ {A = ℕ} 0 1 = cc in omega arith)
slip_parse (n ∷ s) ps b e =
    needed (is_pair_count n) _ e λ p e.
    let x = pairs_parse n s ps (bytes_tail b) e in
    let k : length ps ≡ n = pairs_count n s ps e in
    (ap₂ (λ (m : ℕ) (l : List ℕ). m ∷ l) (sym k) x.bytes, rw (k, p) x.rules)

-- the first byte of a slip is the number of its pairs
pub slip_count : (s : List ℕ) (ps : List Pair) → parse_slip s ≡ Some ps → (0 < length s) × (get_or s 0 0 ≡ length ps)
unfolding parse_slip
slip_count [] ps e = absurd (let z : ◌≡◌ {A = ℕ} 0 1 = cc in omega arith)
slip_count (n ∷ s) ps e = needed (is_pair_count n) _ e λ p e. (omega arith, sym (pairs_count n s ps e))
