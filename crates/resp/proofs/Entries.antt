-- Entries in rising ID order: what is read is what was written, and what is written is read back. Assumes nothing.
use mathlib.Core.Path.{◌≡◌, refl, ap, ◌∙◌}
use mathlib.Core.Bool.{true}
use mathlib.Core.List.{List, [], ◌∷◌, ◌++◌, append_assoc}
use Rattle.std.proofs.Common.{Some}
use Prim.Native.Nat.{ℕ, zero, suc, ◌≤◌}
use native.Mathlib.Omega.{arith}
use lib.ListN.{length, length-append}
use Rattle.octets.specs.Pick.{both}
use Rattle.octets.specs.Bytes.{Bytes}
use Rattle.octets.proofs.Laws.{needed, answered, some_is, both_true, both_of}
use Rattle.id.specs.declared.Id.{Id}
use Rattle.id.specs.Id.{below}
use Rattle.node.specs.Message.{Message, is_message}
use Rattle.node.specs.Step.{fits_alone}
use Rattle.resp.specs.Reply.{head, opening, entry, entries, are_live}
use Rattle.resp.specs.Parse.{Got, gives, cut_entry, cut_entries}
use Rattle.resp.proofs.Openings.{entry_is, entry_here}

-- what entries that were read keep
pub record AreEntries (n : ℕ) (i : Id) (s : List ℕ) (ms : List Message) (r : List ℕ) : Type 0 where
  pub text : s ≡ entries ms ++ r
  pub count : length ms ≡ n
  pub live : Bytes s → (are_live i ms ≡ true) × Bytes r

pub entries_is : (n : ℕ) (i : Id) (s : List ℕ) (c : Got (List Message)) → cut_entries n i s ≡ Some c → AreEntries n i s c.got c.rest
unfolding cut_entries entries are_live
entries_is zero i s c e = rw (← some_is e) (record { text = refl; count = refl; live = λ b. (refl, b) })
entries_is (suc n) i s c e =
    answered (cut_entry s) _ e λ m p e. needed (below i m.got.id) _ e λ q e. answered (cut_entries n m.got.id m.rest) _ e λ ms u e.
    let x = entry_is s m p in
    let y = entries_is n m.got.id m.rest ms u in
    let text : s ≡ entry m.got ++ (entries ms.got ++ ms.rest) = x.0 ∙ ap (λ (l : List ℕ). entry m.got ++ l) y.text in
    let live : Bytes s → (are_live i (m.got ∷ ms.got) ≡ true) × Bytes ms.rest = λ b.
    let z = x.2 b in
    let w = y.live z.1 in
    (both_of q (both_of (both_of z.0 x.1) w.0), w.1) in
    rw (← some_is e) (record { text = rw append_assoc text; count = ap suc y.count; live = live })

-- the rules of the first message, and of those after it
pub live_first : (i : Id) (m : Message) (ms : List Message) → are_live i (m ∷ ms) ≡ true
    → (below i m.id ≡ true) × (is_message m ≡ true) × (fits_alone m ≡ true) × (are_live m.id ms ≡ true)
unfolding are_live
live_first i m ms e =
    let x = both_true (below i m.id) (both (both (is_message m) (fits_alone m)) (are_live m.id ms)) e in
    let y = both_true (both (is_message m) (fits_alone m)) (are_live m.id ms) x.1 in
    let z = both_true (is_message m) (fits_alone m) y.0 in
    (x.0, z.0, z.1, y.1)

pub entries_here : (i : Id) (ms : List Message) (r : List ℕ) → are_live i ms ≡ true → cut_entries (length ms) i (entries ms ++ r) ≡ Some (gives ms r)
unfolding cut_entries entries
entries_here i [] r e = refl
entries_here i (m ∷ ms) r e =
    let x = live_first i m ms e in
    rw (append_assoc, entry_here m (entries ms ++ r) x.1 x.2, x.0, entries_here m.id ms r x.3)

-- each entry has a byte
pub entries_few : (ms : List Message) → length ms ≤ length (entries ms)
unfolding entries entry opening head
entries_few [] = omega arith
entries_few (m ∷ ms) = omega (arith, length-append (entry m) (entries ms), entries_few ms)
