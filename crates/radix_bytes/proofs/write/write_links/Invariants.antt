-- `write_links` meets its contract. Assumes nothing.
use mathlib.Core.Path.{◌≡◌}
use Prim.Native.Nat.{◌+◌, ◌*◌}
use lib.ListN.{length, drop}
use Rattle.octets.specs.Place.{put}
use Rattle.radix_bytes.specs.Bytes.{word_bytes, Fit}
use Rattle.radix_bytes.proofs.write.write_links.Given as goal

abbrev pub invariant-loop-i : goal.invariant-loop-i
invariant-loop-i l =
    (length l.out ≡ length l.initial.out)
    × ((put l.initial.out l.at (word_bytes 2 l.a) ≡ put l.out (l.at + 2 * l.i) (word_bytes 2 (drop l.i l.a))) × (Fit 2 (drop l.i l.a) → Fit 2 l.a))
