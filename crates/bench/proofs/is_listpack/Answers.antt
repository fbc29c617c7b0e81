-- Assumes nothing.
use Rattle.std.proofs.Common.{◌≡◌, ℕ, [], ◌∷◌, length, drop, sym, ap, ◌∙◌, arith, eq-eqb, ne_eqb, le-leb}
use borrow.Author.Tests.{lt-leb}
use Rattle.octets.specs.Bytes.{le_value}
use Rattle.octets.specs.Place.{area}
use Rattle.octets.specs.Compare.{same}
use Rattle.listpack.specs.AtPlace.{end_after}
use Rattle.bench.specs.Whole.{holds_strings}
use Rattle.bench.proofs.is_listpack.Goals as goal

pub returns-then-s-lt7 : goal.returns-then-s-lt7
unfolding holds_strings
returns-then-s-lt7 c = let s = c.args.s.now in sym (rw (lt-leb 7 (length s) (omega arith)))

pub returns-then-read_total-s : goal.returns-then-read_total-s
unfolding holds_strings
returns-then-read_total-s c = let s = c.args.s.now in sym (rw (le-leb 7 (length s) (omega arith), ne_eqb (le_value (area 0 4 s)) (length s) (omega arith)))

pub returns : goal.returns
unfolding holds_strings
returns c =
    let s = c.args.s.now in
    let n : c.read_count-count.result ≡ le_value (area 4 2 s) = c.read_count-count.ensures.0 in
    let e : c.strings_end.result ≡ end_after (le_value (area 4 2 s)) s 6 = c.strings_end.ensures ∙ ap (λ (i : ℕ). end_after i s 6) n in
    c.end_at.ensures ∙ ap (λ (i : ℕ). same (drop i s) (255 ∷ [])) e ∙ sym (rw (le-leb 7 (length s) (omega arith), eq-eqb (le_value (area 0 4 s)) (length s) (omega arith)))
