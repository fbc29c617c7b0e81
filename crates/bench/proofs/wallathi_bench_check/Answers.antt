-- `wallathi_bench_check` meets its contract: 1 is true as a number. Assumes nothing.
use Rattle.std.proofs.Common.{◌≡◌, ℕ, Bool, true, false, refl, ap, ◌∙◌}
use Rattle.octets.specs.Pick.{pick}
use Rattle.bench.proofs.wallathi_bench_check.Goals as goal
use mir.Val.{bool_byte}

as_number : (t : Bool) → bool_byte t ≡ pick {A = ℕ} t 1 0
as_number true = refl
as_number false = refl

pub returns : goal.returns
returns c = c.from.ensures ∙ ap bool_byte c.is_listpack.ensures ∙ as_number _
