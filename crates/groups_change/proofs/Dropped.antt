-- A consumer dropped: its entries first, then the consumer. Assumes nothing.
use mathlib.Core.Path.{◌≡◌, refl, sym, ◌∙◌}
use mathlib.Core.Bool.{Bool, true, false}
use mathlib.Core.List.{List, [], ◌∷◌}
use Prim.Native.Nat.{ℕ}
use native.Mathlib.Omega.{arith}
use Rattle.octets.specs.Pick.{pick}
use Rattle.octets.specs.Compare.{same}
use Rattle.id.specs.Id.{least, at_most}
use Rattle.groups.specs.Group.{Pending, Group, is_pending}
use Rattle.groups.specs.Step.{pending_of, pending_of_others, drop_consumer}
use Rattle.groups.proofs.Laws.{Rules, Within, all_within, above_within, length_within, up_to_all, entries_all}
use Rattle.groups_change.specs.Change.{with_pending, without_consumer}

-- fewer entries keep the rules
pub within_rules : (g : Group) (qs : List Pending) → Rules g → Within qs g.pending → Rules (with_pending qs g)
within_rules g qs r w =
    record {
      named = r.named;
      fits = r.fits;
      few = r.few;
      names = r.names;
      rising = r.rising;
      room = omega (arith, length_within w, r.room);
      entries = entries_all g.consumers qs ∙ all_within (is_pending g.consumers) w (sym (entries_all g.consumers g.pending) ∙ r.entries);
      above = above_within least w r.above;
      up_to_lem = up_to_all g.delivered qs ∙ all_within (λ p. at_most p.id g.delivered) w (sym (up_to_all g.delivered g.pending) ∙ r.up_to_lem);
    }

-- of the others none is this consumer's
none_case : (c : List ℕ) (p : Pending) (xs : List Pending) (t : Bool) → same c p.consumer ≡ t → pending_of c xs ≡ [] → pending_of c (pick t xs (p ∷ xs)) ≡ []
unfolding pending_of
none_case c p xs true e h = h
none_case c p xs false e h = rw e h

pub none_of_others : (c : List ℕ) (ps : List Pending) → pending_of c (pending_of_others c ps) ≡ []
unfolding pending_of_others
none_of_others c [] = unfold pending_of in refl
none_of_others c (p ∷ ps) = none_case c p (pending_of_others c ps) (same c p.consumer) refl (none_of_others c ps)

-- drop: the entries first, then the consumer
pub drop_is : (c : List ℕ) (g : Group) → without_consumer c (with_pending (pending_of_others c g.pending) g) ≡ drop_consumer c g
unfolding without_consumer drop_consumer
drop_is c g = refl
