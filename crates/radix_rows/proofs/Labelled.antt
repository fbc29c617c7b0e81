-- A label as a part of the bytes, and the root of bytes that were judged. Assumes nothing.
use mathlib.Core.Bool.{true}
use mathlib.Core.Path.{◌≡◌, ap, ◌∙◌}
use mathlib.Core.List.{List}
use Prim.Native.Nat.{ℕ, ◌+◌, ◌*◌, ◌-◌, ◌≤◌, ◌<◌}
use native.Mathlib.Omega.{arith}
use lib.ListN.{length, take, drop}
use Rattle.octets.specs.Place.{area}
use Rattle.octets.proofs.Laws.{part_area}
use Rattle.keys.proofs.Laws.{sound_some}
use Rattle.radix.specs.Record.{entries_of}
use Rattle.radix.proofs.Laws.{holds, root_within}
use Rattle.radix_bytes.specs.Bytes.{labels_at, record_size, record_from, pool_in}
use Rattle.radix_bytes.proofs.Laws.{label_in, label_size}
use Rattle.radix_judge.specs.Visit.{is_sound}
use Rattle.radix_judge.proofs.Laws.{sound_holds}

pub label_part : (s : List ℕ) (p n : ℕ) → p < 256 → n ≤ 16 → take (labels_at + 16 * p + n - (labels_at + 16 * p)) (drop (labels_at + 16 * p) s) ≡ area (16 * p) n (pool_in s).label
label_part s p n h k =
    let e : labels_at + 16 * p + n - (labels_at + 16 * p) ≡ n = omega arith in
    part_area (labels_at + 16 * p) (labels_at + 16 * p + n - (labels_at + 16 * p)) s ∙ ap (λ (j : ℕ). area (labels_at + 16 * p) j s) e ∙ label_in s p n h k

pub root_in : (s : List ℕ) → length s ≡ record_size → is_sound (record_from s) ≡ true → (record_from s).root < 256
root_in s z e =
    let (es, h) = sound_some (entries_of (record_from s)) (sound_holds (record_from s) (label_size s z) e) in
    root_within (record_from s) (holds (record_from s) es h).placed
