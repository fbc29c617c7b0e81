-- Assumes nothing.
use mathlib.Core.Path.{refl, ap, ◌∙◌}
use native.Mathlib.Omega.{arith}
use lib.ListN.{length}
use Rattle.octets.specs.Bytes.{Bytes}
use Rattle.decimal.proofs.Laws.{text_length}
use Rattle.node_reply.proofs.Known.{number_is, string_is}
use Rattle.node_reply.proofs.strings.string_len.Goals as goal
use Rattle.node_reply.proofs.strings.string_len.Goals.{After-shared_slice_known-1}

bytes : (c : After-shared_slice_known-1) → Bytes c.args.s.now
bytes c = record { byte = λ j. (c.type_inv.s j).fits }

pub returns-then-t-eq0 : goal.returns-then-t-eq0
returns-then-t-eq0 c =
    let p = c.known_integer in
    (c.text_size.ensures ∙ ap length (number_is _ _ (bytes (goal.at.returns-then-t-eq0 c).After-shared_slice_known-1) c.requires _ c.known_text-t.ensures c.if-t-eq0.true _ p.ensures), omega (arith, c.text_size.ensures, text_length p.result))

pub returns : goal.returns
returns c = let x = string_is _ _ (bytes (goal.at.returns c).After-shared_slice_known-1) c.requires _ c.known_text-t.ensures c.if-t-eq0.false _ refl in (x.2, x.3)
