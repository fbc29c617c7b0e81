-- Store and state that hold one model are the same bytes, where the index's record and the bytes past the last slot are. Assumes nothing.
use mathlib.Core.Path.{◌≡◌, refl, sym, ap, ap₂, ◌∙◌}
use mathlib.Core.List.{List, ◌++◌}
use Prim.Native.Nat.{ℕ, zero, suc, ◌+◌, ◌-◌, ◌*◌, ◌<◌}
use native.Mathlib.Omega.{arith}
use lib.ListN.{length, take, take-append-drop}
use lib.Seq.{take-add}
use Rattle.octets.specs.Place.{area}
use Rattle.state.specs.Layout.{index_at, groups_at, index_area}
use Rattle.stream.specs.Cut.{Model, slots_in}
use Rattle.stream.specs.Image.{slot_at}
use Rattle.stream.specs.Laid.{Laid}
use Rattle.stream.specs.Promise.{Lent, lent, slots_of, tail_of}
use Rattle.stream.proofs.Laws.{groups_kept}

slots_same : (s t : List ℕ) (n : ℕ) → ((k : ℕ) → k < n → slot_at s k ≡ slot_at t k) → take (n * 4096) s ≡ take (n * 4096) t
unfolding area
slots_same s t zero h = refl
slots_same s t (suc n) h =
    let z : suc n * 4096 ≡ n * 4096 + 4096 = omega arith in
    ap (λ (k : ℕ). take k s) z ∙ take-add (n * 4096) 4096 s
    ∙ ap₂ (λ (a b : List ℕ). a ++ b) (slots_same s t n (λ k g. h k (omega arith))) (h n (omega arith))
    ∙ sym (ap (λ (k : ℕ). take k t) z ∙ take-add (n * 4096) 4096 t)

module _ (j k : Lent) (m : Model) (a : Laid j.store j.state m) (b : Laid k.store k.state m) where
  store_same : length j.store ≡ length k.store → tail_of j ≡ tail_of k → j.store ≡ k.store
  store_same n t =
      let z : slots_of j ≡ slots_of k = ap slots_in n in
      let q : take (slots_of k * 4096) j.store ≡ take (slots_of k * 4096) k.store =
      slots_same j.store k.store (slots_of k) (λ s g. a.slots_are s (rw z g) ∙ sym (b.slots_are s g)) in
      sym (take-append-drop (slots_of j * 4096) j.store)
      ∙ ap₂ (λ (x y : List ℕ). x ++ y) (ap (λ (s : ℕ). take (s * 4096) j.store) z ∙ q) t
      ∙ take-append-drop (slots_of k * 4096) k.store

  state_same : index_area j.state ≡ index_area k.state → j.state ≡ k.state
  unfolding area
  state_same e =
      groups_kept k.state j.state m.groups b.size
      (record {
        size = a.size ∙ sym b.size;
        before =
            take-add index_at (groups_at - index_at) j.state ∙ ap₂ (λ (x y : List ℕ). x ++ y) (a.last_is ∙ sym b.last_is) e
            ∙ sym (take-add index_at (groups_at - index_at) k.state);
        groups_are = a.groups_are;
      })
      b.groups_are

  pub one_image : length j.store ≡ length k.store → tail_of j ≡ tail_of k → index_area j.state ≡ index_area k.state → j ≡ k
  one_image n t e = ap₂ lent (store_same n t) (state_same e)
