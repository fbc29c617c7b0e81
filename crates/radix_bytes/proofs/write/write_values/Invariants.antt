-- `write_values` meets its contract. Assumes nothing.
use mathlib.Core.Path.{◌≡◌}
use Prim.Native.Nat.{◌+◌, ◌*◌}
use lib.ListN.{length, drop}
use Rattle.octets.specs.Place.{put}
use Rattle.radix_bytes.specs.Bytes.{word_bytes, Fit}
use Rattle.radix_bytes.proofs.write.write_values.Given as goal

abbrev pub invariant-loop-i : goal.invariant-loop-i
invariant-loop-i l =
    (length l.out ≡ length l.initial.out)
    × ((put l.initial.out l.at (word_bytes 4 l.a) ≡ put l.out (l.at + 4 * l.i) (word_bytes 4 (drop l.i l.a))) × (Fit 4 (drop l.i l.a) → Fit 4 l.a))
