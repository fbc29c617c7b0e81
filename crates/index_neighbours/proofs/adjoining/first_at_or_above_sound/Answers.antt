-- `first_at_or_above_sound` meets its contract. Assumes nothing.
use mathlib.Core.Bool.{true}
use mathlib.Core.Path.{◌≡◌, sym, ap, ◌∙◌}
use native.Mathlib.Omega.{arith}
use Rattle.keys.specs.Entries.{is_key}
use Rattle.keys.specs.Answer.{neighbour_of}
use Rattle.radix_bytes.specs.Bytes.{record_from}
use Rattle.index_neighbours.proofs.Adjacent.{sound_root, first_3, first_is}
use Rattle.index_neighbours.proofs.adjoining.first_at_or_above_sound.Goals as goal
use Rattle.index_neighbours.proofs.adjoining.first_at_or_above_sound.Goals.{Else-not-is_key}

key : (c : Else-not-is_key) → is_key c.args.k.now ≡ true
key c = sym c.is_key.ensures ∙ c.if-not-is_key.false

pub returns-then-not-is_key : goal.returns-then-not-is_key
returns-then-not-is_key c = ap neighbour_of (first_3 (record_from c.args.s.now) c.args.k.now c.requires.1 (sym c.is_key.ensures ∙ c.if-not-is_key.true))

pub child_at-first-requires : goal.child_at-first-requires
child_at-first-requires c = (c.requires.0, omega (arith, sound_root (record_from c.args.s.now) c.requires.1, c.root_of-root.ensures.0))

pub returns : goal.returns
returns c =
    let q = c.root_of-root in
    let f = c.child_at-first in
    first_is (record_from c.args.s.now) c.args.k.now c.requires.1 (key (goal.at.returns c).Else-not-is_key) q.result f.result q.ensures.0 f.ensures.0 c.first_from.result c.first_from.ensures
