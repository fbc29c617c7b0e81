-- Assumes nothing.
use Rattle.std.proofs.Common.{ℕ, ap}
use Rattle.node_sample.proofs.name.ask.Goals as goal

pub returns : goal.returns
returns c =
    let x = c.args in
    ap (λ (i : ℕ). record { names = x.names; fields = x.fields; before = i }) c.find_name.ensures
