-- Laws of spliced: it is one put, and what each of its parts reads. Assumes nothing.
use mathlib.Core.Path.{◌≡◌, refl, sym, ap, ◌∙◌}
use mathlib.Core.List.{List, ◌++◌, append_assoc}
use Prim.Native.Nat.{ℕ, ◌+◌, ◌-◌, ◌≤◌, max}
use native.Mathlib.Omega.{arith}
use lib.ListN.{length, take, drop, length-append, length-replicate}
use lib.Seq.{take_at, length-take-le}
use Rattle.octets.specs.Bytes.{zeros}
use Rattle.octets.specs.Place.{area, put, spliced, spliced_end}
use Rattle.octets.proofs.Put.{put_none, put_append, put_swap, length_put, drop_put}
use Rattle.octets.proofs.Areas.{length_area, area_middle, area_before}

module _ (s : List ℕ) (used at gone : ℕ) (new : List ℕ) where
  -- the rest in use; where the bytes in use end; the bytes that are cleared; the bytes past both ends
  abbrev rest : List ℕ
  rest = area (at + gone) (used - (at + gone)) s

  abbrev end : ℕ
  end = spliced_end used at gone new

  abbrev gap : List ℕ
  gap = zeros (used - end)

  abbrev past : List ℕ
  past = drop (max used end) s

  -- after the rest is moved and the new bytes are copied in
  abbrev pub filled_in : List ℕ
  filled_in = put (put s (at + length new) (area (at + gone) (used - (at + gone)) s)) at new

  module _ (h : at + gone ≤ used) (k : used ≤ length s) (l : spliced_end used at gone new ≤ length s) where
    length_rest : length rest ≡ used - (at + gone)
    length_rest = length_area (at + gone) (used - (at + gone)) s (omega arith)

    length_new_rest : length (new ++ rest) ≡ length new + (used - (at + gone))
    length_new_rest = length-append new rest ∙ ap (λ (n : ℕ). length new + n) length_rest

    length_all : at + length ((new ++ rest) ++ gap) ≡ max used end
    length_all = omega (arith, length-append (new ++ rest) gap, length_new_rest, length-replicate {A = ℕ} (used - end) 0)

    pub spliced_put : spliced s used at gone new ≡ put s at ((new ++ rest) ++ gap)
    unfolding spliced put
    spliced_put = rw length_all (simp append_assoc)

    -- the steps of the code: move the rest, copy the new bytes in, clear what is no longer in use
    pub spliced_steps : spliced s used at gone new ≡ put filled_in end gap
    spliced_steps =
        let e : at + length (new ++ rest) ≡ end = omega (arith, length_new_rest) in
        spliced_put
        ∙ sym (put_append s at (new ++ rest) gap (omega arith))
        ∙ ap (λ (i : ℕ). put (put s at (new ++ rest)) i gap) e
        ∙ ap (λ (t : List ℕ). put t end gap) (sym (put_append s at new rest (omega arith)) ∙ put_swap s at new (at + length new) rest (omega arith) (omega arith))

    pub spliced_grown : used ≤ end → spliced s used at gone new ≡ filled_in
    spliced_grown m =
        let e : used - end ≡ 0 = omega arith in
        spliced_steps
        ∙ ap (λ (n : ℕ). put filled_in end (zeros n)) e
        ∙ put_none filled_in end

    pub length_spliced : length (spliced s used at gone new) ≡ length s
    length_spliced = ap length spliced_put ∙ length_put s at ((new ++ rest) ++ gap) (omega (arith, length_all))

    head : length (take at s) ≡ at
    head = length-take-le at s (omega arith)

    length_used : length (take at s ++ (new ++ rest)) ≡ end
    length_used = omega (arith, length-append (take at s) (new ++ rest), head, length_new_rest)

    whole : spliced s used at gone new ≡ (take at s ++ (new ++ rest)) ++ (gap ++ past)
    unfolding spliced
    whole = simp append_assoc

    -- before the place
    pub spliced_before : (i n : ℕ) → i + n ≤ at → area i n (spliced s used at gone new) ≡ area i n s
    spliced_before i n m = ap (area i n) spliced_put ∙ area_before s at ((new ++ rest) ++ gap) (omega arith) i n m

    -- the new bytes
    pub spliced_new : area at (length new) (spliced s used at gone new) ≡ new
    unfolding spliced
    spliced_new = area_middle (take at s) new (rest ++ (gap ++ past)) at (length new) head refl

    -- the rest, at its new place
    pub spliced_rest : area (at + length new) (used - (at + gone)) (spliced s used at gone new) ≡ area (at + gone) (used - (at + gone)) s
    unfolding spliced
    spliced_rest =
        ap (area (at + length new) (used - (at + gone))) (sym (append_assoc (take at s) new (rest ++ (gap ++ past))))
        ∙ area_middle (take at s ++ new) rest (gap ++ past) (at + length new) (used - (at + gone)) (omega (arith, length-append (take at s) new, head)) length_rest

    -- what is cleared
    pub spliced_gap : area end (used - end) (spliced s used at gone new) ≡ zeros (used - end)
    unfolding spliced
    spliced_gap =
        ap (area end (used - end)) whole ∙ area_middle (take at s ++ (new ++ rest)) gap past end (used - end) length_used (length-replicate {A = ℕ} (used - end) 0)

    -- past the larger end
    pub spliced_after : (n : ℕ) → max used end ≤ n → drop n (spliced s used at gone new) ≡ drop n s
    spliced_after n m = ap (drop n) spliced_put ∙ drop_put s at ((new ++ rest) ++ gap) n (omega arith) (omega (arith, length_all))

    -- the bytes in use
    pub spliced_used : take end (spliced s used at gone new) ≡ take at s ++ (new ++ rest)
    unfolding spliced
    spliced_used = ap (take end) whole ∙ take_at (take at s ++ (new ++ rest)) (gap ++ past) end length_used
