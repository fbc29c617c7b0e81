-- Stores that are no image. Assumes nothing.
use mathlib.Core.Path.{◌≡◌, refl, ap, ap₂, ◌∙◌, subst}
use mathlib.Core.Bool.{Bool, false}
use mathlib.Core.List.{List, ◌∷◌}
use Rattle.std.proofs.Common.{Option, None}
use Rattle.refusal.specs.declared.Refusal.TheVariants.{Damaged}
use Rattle.octets.proofs.Laws.{never}
use Rattle.stream.specs.Cut.{Model}
use Rattle.stream.specs.Command.{Answer, refused}
use Rattle.stream.specs.Promise.{Lent, held_by, FollowsBy}
use Rattle.snapshot.specs.Command.{Command, on_stream, save, load, save_by, heals}
use Rattle.snapshot.specs.Promise.{Does, DoesStream}
use Rattle.wallathi.specs.Export.{Seen, tell_to}
use Rattle.wallathi.specs.Run.{Call, command_of, Made, made_none, made_more}
use Rattle.wallathi.specs.Demands.{NoneHeals, twos}

two : {T : Type 0} (tell : Answer → T) (c : Command) (i j : Lent) (t : T) → Does tell c i t j → held_by i ≡ None → heals c ≡ false
    → (t ≡ tell (refused Damaged)) × (j ≡ i)
two tell (on_stream c) i j t d e h =
    subst (λ (o : Option Model). FollowsBy tell c o i t j) e (subst (λ (b : Bool). DoesStream tell b c i t j) h d)
two tell (save room) i j t d e h = (d.0 ∙ ap (λ (o : Option Model). tell (save_by room o)) e, d.1)
two tell (load file) i j t d e h = absurd (never refl h)

pub damaged : {cs : List Call} {i k : Lent} {ss : List Seen} → Made cs i ss k → held_by i ≡ None → NoneHeals cs → (ss ≡ twos cs) × (k ≡ i)
damaged made_none e h = (refl, refl)
damaged (made_more {c} {cs} {i} {j} {k} {s} {ss} m r) e h =
    let x = two (tell_to c.values c.output) (command_of c) i j s m.does e h.0 in
    let y = damaged r (ap held_by x.1 ∙ e) h.1 in
    (ap₂ (λ (b : Seen) (bs : List Seen). b ∷ bs) x.0 y.0, y.1 ∙ x.1)
