use Rattle.std.proofs.Common.{◌∙◌, ap, sym, ◌+◌, ℕ}
use lib.ListN.{length-replicate}
use Rattle.octets.proofs.Slices.{written, filled}
use Rattle.octets.proofs.place.zero.Goals as goal

pub returns : goal.returns
returns c = let x = c.args in written x.d.now x.at _ _ _ (c.fill.ensures.after (λ y e. e) ∙ filled x.d.now x.at x.n c.requires) (ap (λ (k : ℕ). x.at + k) (sym (length-replicate x.n 0)))
