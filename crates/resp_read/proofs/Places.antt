-- From the place that a function answers back to what the parser gave there. Assumes nothing.
use mathlib.Core.Path.{◌≡◌, refl, sym, ap, ◌∙◌}
use mathlib.Core.List.{List, ◌++◌}
use Rattle.std.proofs.Common.{Option, Some, None}
use Prim.Native.Nat.{ℕ, ◌+◌, ◌-◌, ◌≤◌, ◌<◌}
use native.Mathlib.Omega.{arith}
use lib.ListN.{length, drop, length-append, length-drop}
use lib.Seq.{drop_at, drop-drop}
use Rattle.octets.specs.Maybe.{◌>>=◌}
use Rattle.octets.proofs.Options.{none_ne_some}
use Rattle.octets.proofs.Laws.{answered, some_is}
use Rattle.resp.specs.Parse.{Got, gives}
use Rattle.resp_read.specs.Answer.{end_by, number_by}
use Rattle.resp_read.specs.declared.part.Found.{Found}

-- what is left is the rest from a later place on
pub record Left (s : List ℕ) (at : ℕ) (r : List ℕ) : Type 0 where
  pub is : r ≡ drop (length s - length r) s
  pub past : at ≤ length s - length r

module _ (s : List ℕ) (at : ℕ) (x r : List ℕ) (e : drop at s ≡ x ++ r) where
  pub lengths : length s - at ≡ length x + length r
  lengths = sym (length-drop at s) ∙ ap length e ∙ length-append x r

  left_is : at + length x ≡ length s - length r → r ≡ drop (length s - length r) s
  left_is k = sym (ap (λ (i : ℕ). drop i s) (sym k) ∙ sym (drop-drop (length x) at s) ∙ ap (drop (length x)) e ∙ drop_at x r (length x) refl)

  pub left : 0 < length x → Left s at r
  left h = record { is = left_is (omega (arith, lengths)); past = omega (arith, lengths) }

  -- after what may be nothing
  pub left_all_lem : at ≤ length s → Left s at r
  left_all_lem h = record { is = left_is (omega (arith, lengths)); past = omega (arith, lengths) }

-- it was got, and n is the place after it
pub record There {A : Type 0} (s : List ℕ) (at : ℕ) (o : Option (Got A)) (n : ℕ) : Type 0 where
  pub got : A
  pub is : o ≡ Some (gives got (drop n s))
  pub past : at ≤ n
  pub within : n ≤ length s

pub there : {A : Type 0} (s : List ℕ) (at : ℕ) (o : Option (Got A)) → ((c : Got A) → o ≡ Some c → Left s at c.rest) → (n : ℕ) → Some n ≡ end_by s o → There s at o n
there s at o law n e =
    answered o _ (sym e) λ c p q.
    let l = law c p in
    let k : length s - length c.rest ≡ n = some_is q in
    record {
      got = c.got;
      is = p ∙ ap (λ (r : List ℕ). Some (gives c.got r)) (l.is ∙ ap (λ (i : ℕ). drop i s) k);
      past = omega (arith, l.past);
      within = omega arith;
    }

-- nothing was got where nothing is answered of it
pub missing : {A B : Type 0} (o : Option A) (f : A → B) → None ≡ (o >>= (λ (a : A). Some (f a))) → o ≡ None
missing None f e = refl
missing (Some a) f e = absurd (none_ne_some (f a) e)

-- of a number: its value too
pub record NumberAt (s : List ℕ) (at : ℕ) (o : Option (Got ℕ)) (f : Found) : Type 0 where
  pub is : o ≡ Some (gives f.value (drop f.next s))
  pub past : at ≤ f.next
  pub within : f.next ≤ length s

pub number_there : (s : List ℕ) (at : ℕ) (o : Option (Got ℕ)) → ((c : Got ℕ) → o ≡ Some c → Left s at c.rest) → (f : Found) → Some f ≡ number_by s o → NumberAt s at o f
number_there s at o law f e =
    answered o _ (sym e) λ c p q.
    let l = law c p in
    rw (← some_is q) (record { is = p ∙ ap (λ (r : List ℕ). Some (gives c.got r)) l.is; past = l.past; within = omega arith })
