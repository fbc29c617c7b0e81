-- In each group of an image a pending ID has exactly one consumer. Assumes nothing.
use mathlib.Core.Path.{◌≡◌, refl, sym, ap, ◌∙◌}
use mathlib.Core.Bool.{Bool, true, false}
use mathlib.Core.List.Memᴰ
use mathlib.Core.List.{List, [], ◌∷◌, Memᴰ}
use mathlib.Core.Logic.{⊎_elim}
use Rattle.octets.specs.Pick.{pick}
use Rattle.std.proofs.Common.{is_none, Some}
use Rattle.octets.proofs.Laws.{never}
use Rattle.id.specs.declared.Id.{Id}
use Rattle.id.specs.Id.{same_id}
use Rattle.id.proofs.Laws.{same_id_refl}
use Rattle.groups.specs.Group.{Pending, Group, is_among, is_group}
use Rattle.groups.specs.Area.{are_groups}
use Rattle.groups.specs.Step.{find_pending}
use Rattle.groups.proofs.Laws.{first, sound, one_consumer}
use Rattle.stream.specs.Cut.{Model}
use Rattle.stream.specs.Promise.{Lent, held_by, slots_of}
use Rattle.stream.proofs.Laws.{held_some, model_rules}
use Rattle.wallathi.specs.Demands.{OneConsumer}
use Rattle.wallathi.proofs.Runs.{held_rules}

member_group : (last : Id) (gs : List Group) (g : Group) → are_groups last gs ≡ true → Memᴰ g gs → is_group g ≡ true
member_group last [] g e m = absurd (Memᴰ.not-nil m)
member_group last (h ∷ gs) g e m =
    let f = first last h gs e in
    ⊎_elim (λ (x : g ≡ h). ap is_group x ∙ f.is_group_lem) (λ (x : Memᴰ g gs). member_group last gs g f.others x) (Memᴰ.cases_cons m)

-- an entry's ID is found
member_found : (ps : List Pending) (p : Pending) → Memᴰ p ps → is_none (find_pending p.id ps) ≡ false
unfolding find_pending
member_found [] p m = absurd (Memᴰ.not-nil m)
member_found (h ∷ ps) p m = by (same_id h.id p.id) refl (member_found ps p)
  where
    by : (t : Bool) → same_id h.id p.id ≡ t → (Memᴰ p ps → is_none (find_pending p.id ps) ≡ false) → is_none (pick t (Some h) (find_pending p.id ps)) ≡ false
    by true e k = refl
    by false e k =
        ⊎_elim (λ (x : p ≡ h). absurd (never (same_id_refl h.id) (ap (λ (q : Pending). same_id h.id q.id) (sym x) ∙ e))) k (Memᴰ.cases_cons m)

pub has_one_consumer : (i : Lent) (m : Model) (g : Group) (p : Pending) → held_by i ≡ Some m → Memᴰ g m.groups → Memᴰ p g.pending → OneConsumer g p
has_one_consumer i m g p e x y =
    let r = sound m.last m.groups (model_rules (slots_of i) m (held_rules i m e)).groups_are in
    held_some (find_pending p.id g.pending) (member_found g.pending p y) λ q f.
    let o = one_consumer g p.id q (member_group m.last m.groups g r.groups x) f in
    let z : p ≡ q = o.only p y refl in
    record { only = λ b w h. o.only b w h ∙ sym z; among = ap (λ (b : Pending). is_among b.consumer g.consumers) z ∙ o.among }
