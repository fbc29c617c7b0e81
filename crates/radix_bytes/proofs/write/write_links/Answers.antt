use mathlib.Core.Path.{refl, sym, ap, ◌∙◌}
use Prim.Native.Nat.{ℕ, ◌+◌, ◌*◌, ◌≤◌, ◌<◌}
use mathlib.Core.List.{List}
use native.Mathlib.Omega.{arith}
use lib.ListN.{length, drop, get_or}
use Rattle.octets.specs.Place.{put}
use Rattle.radix_bytes.specs.Bytes.{word_bytes}
use Rattle.radix_bytes.proofs.Words.{write_start, write_next, write_length, write_end, fit_next, fit_end}
use Rattle.radix_bytes.proofs.write.write_links.Goals as goal

pub loop-i-init : goal.loop-i-init
loop-i-init c = let x = c.args in (refl, (write_start 2 x.at x.a.now x.out.now, λ f. f))

pub write_le-requires : goal.write_le-requires
write_le-requires c = let l = c.loop-i in (omega arith, omega (arith, l.invariant.0, c.requires.0))

pub loop-i-preserved : goal.loop-i-preserved
loop-i-preserved c =
    let l = c.loop-i in
    let p = c.requires in
    let x = c.args in
    let v = get_or x.a.now l.i 0 in
    let e = c.write_le.ensures in
    let i : l.i < length x.a.now = omega (arith, p.1) in
    let q : x.at + 2 * l.i + 2 ≤ length l.out = omega (arith, l.invariant.0, p.0) in (
      ap length e ∙ write_length 2 x.at x.a.now l.i v l.out q ∙ l.invariant.0,
      (
        l.invariant.1.0
            ∙ write_next 2 x.at x.a.now l.i v l.out i (omega arith) refl
            ∙ ap (λ (o : List ℕ). put o (x.at + 2 * (l.i + 1)) (word_bytes 2 (drop (l.i + 1) x.a.now))) (sym e),
        λ g. l.invariant.1.1 (fit_next 2 x.at x.a.now l.i v i refl (c.type_inv.a l.i).fits g),
      ),
    )

pub shape_of-out : goal.shape_of-out
shape_of-out c = c.loop-i.invariant.0

pub returns : goal.returns
returns c =
    let l = c.loop-i in
    let x = c.args in
    let e : length x.a.now ≤ l.i = omega (arith, c.requires.1) in (
      sym (l.invariant.1.0 ∙ write_end 2 x.at x.a.now l.i l.out e),
      l.invariant.1.1 (fit_end 2 x.at x.a.now l.i e),
    )
