-- Lines written one after the other. Assumes nothing.
use mathlib.Core.Path.{◌≡◌, refl, sym, ap, ap₂, ◌∙◌, subst}
use mathlib.Core.List.{List, [], ◌∷◌, ◌++◌, append_assoc}
use Prim.Native.Nat.{ℕ, ◌+◌, ◌≤◌}
use native.Mathlib.Omega.{arith}
use lib.ListN.{length, set, length-append}
use Rattle.octets.specs.Place.{put}
use Rattle.octets.proofs.Laws.{length_put, put_none, put_append, set_put}
use Rattle.stream.specs.declared.Reply.{Reply}
use Rattle.report.specs.Printed.{lines_of}
use Rattle.report.specs.Written.{reply_texts, Writes}

lines_join : (ts us : List (List ℕ)) → lines_of (ts ++ us) ≡ lines_of ts ++ lines_of us
unfolding lines_of
lines_join [] us = refl
lines_join (t ∷ ts) us =
    ap (λ (l : List ℕ). t ++ (10 ∷ l)) (lines_join ts us) ∙ sym (append_assoc t (10 ∷ lines_of ts) (lines_of us))

-- a text and its line's end, written at once
pub one_line : (d : List ℕ) (at : ℕ) (t e : List ℕ) (next : ℕ) → length t ≤ 20 → e ≡ put d at (t ++ (10 ∷ [])) → next ≡ at + length t + 1 → Writes d at (t ∷ []) e next
unfolding lines_of
one_line d at t e next h p q =
    let k : length (t ++ (10 ∷ [])) ≡ length t + 1 = length-append t (10 ∷ []) in
    record { bytes = p; next_is = omega arith; few = omega arith }

-- or one after the other
pub ended_line : (d : List ℕ) (at : ℕ) (t e : List ℕ) (end : ℕ) → at + 21 ≤ length d → length t ≤ 20 → e ≡ put d at t → end ≡ at + length t
    → Writes d at (t ∷ []) (set e end 10) (end + 1)
ended_line d at t e end r h p q =
    let s : length (put d at t) ≡ length d = length_put d at t (omega arith) in
    one_line d at t (set e end 10) (end + 1) h
    (ap₂ (λ (l : List ℕ) (i : ℕ). set l i 10) p q ∙ set_put (put d at t) (at + length t) 10 (omega arith) ∙ put_append d at t (10 ∷ []) (omega arith))
    (omega arith)

-- lines after lines
pub then_lines : {d : List ℕ} {at : ℕ} {ts : List (List ℕ)} {e : List ℕ} {next : ℕ} {us : List (List ℕ)} {f : List ℕ} {end : ℕ}
    → at ≤ length d → Writes d at ts e next → Writes e next us f end → Writes d at (ts ++ us) f end
then_lines {d} {at} {ts} {e} {next} {us} {f} {end} h p q =
    let j : length (lines_of (ts ++ us)) ≡ length (lines_of ts) + length (lines_of us) = ap length (lines_join ts us) ∙ length-append (lines_of ts) (lines_of us) in
    record {
      bytes =
          q.bytes
          ∙ ap₂ (λ (l : List ℕ) (i : ℕ). put l i (lines_of us)) p.bytes p.next_is
          ∙ put_append d at (lines_of ts) (lines_of us) h
          ∙ ap (put d at) (sym (lines_join ts us));
      next_is = omega (arith, p.next_is, q.next_is);
      few = omega (arith, p.few, q.few, length-append ts us);
    }

-- nothing written
pub no_lines : (d : List ℕ) → Writes d 0 [] d 0
unfolding lines_of
no_lines d = record { bytes = sym (put_none d 0); next_is = omega arith; few = omega arith }

-- of the reply that was told
pub told_lines : {d e : List ℕ} {n : ℕ} {r s : Reply} → r ≡ s → Writes d 0 (reply_texts s) e n → Writes d 0 (reply_texts r) e n
told_lines {d} {e} {n} q w = subst (λ (x : Reply). Writes d 0 (reply_texts x) e n) (sym q) w
