-- What a judged slot is known to be, and the answers at each return. Assumes nothing.
use mathlib.Core.Path.{◌≡◌, refl, sym, ap, ◌∙◌}
use mathlib.Core.Bool.{Bool, true, false, not}
use mathlib.Core.List.{List}
use Prim.Native.Nat.{ℕ, ◌≤◌, ◌<◌}
use native.Mathlib.Omega.{arith}
use lib.Dec.{leb}
use mir.Val.{bool_byte}
use borrow.Author.Tests.{le-leb, lt-leb}
use Rattle.octets.specs.Pick.{pick, both}
use Rattle.std.proofs.Common.{is_some, is_none, Option, Some, None}
use Rattle.octets.proofs.Options.{some_injective}
use Rattle.id.specs.declared.Id.{Id}
use Rattle.id.specs.Id.{least, greatest, below, at_most}
use Rattle.slip.specs.Answer.{is_slip}
use Rattle.node.specs.Message.{Entry, live_in, live_count, deleted_count}
use Rattle.node.specs.Bytes.{key_of, slot_of}
use Rattle.node.specs.Parse.{parse_slot}
use Rattle.node.specs.Step.{append, takes, mark_deleted, find_message}
use Rattle.node.specs.Answer.{last_of, entries_by, entries_in, SoundSlot, judge_by, judge_of, found_sound}
use Rattle.node_write.specs.Answer.{message_in}
use Rattle.bench_node.specs.Answer.{as_number}
use Rattle.bench_node.specs.Node.{live_by, live_of, is_sound, is_live, finds, appends, appended, deletes, deleted}
use Rattle.node.specs.declared.judging.Judged.{Judged}

-- what `u32::from` gives of a yes or no
pub from_is : (t : Bool) → bool_byte t ≡ as_number t
from_is true = refl
from_is false = refl

-- a slot that was judged sound
judged_sound : (key above most : Id) (slot : List ℕ) (live deleted : ℕ) (last : Id) → judge_of key above most slot ≡ found_sound live deleted last
    → SoundSlot key slot × (live_count (entries_in key slot) ≡ live)
unfolding judge_of entries_in
judged_sound key above most slot live deleted last e = by (parse_slot key slot) refl e
  where
    by : (o : Option (List Entry)) → parse_slot key slot ≡ o → judge_by above most o ≡ found_sound live deleted last → SoundSlot key slot × (live_count (entries_in key slot) ≡ live)
    by None q f = absurd (let z : ◌≡◌ {A = ℕ} 0 1 = cc in omega arith)
    by (Some es) q f = next (both (below above (key_of es)) (at_most (last_of (key_of es) es) most)) f
      where
        next : (t : Bool) → pick t (found_sound (live_count es) (deleted_count es) (last_of (key_of es) es)) None ≡ found_sound live deleted last
            → SoundSlot key slot × (live_count (entries_in key slot) ≡ live)
        next false g = absurd (let z : ◌≡◌ {A = ℕ} 0 1 = cc in omega arith)
        next true g =
            let i : entries_in key slot ≡ es = ap entries_by q in
            let a : live_count es ≡ live = ap (λ (j : Judged). j.live) (some_injective _ _ g) in
            (record { parsed = q ∙ ap Some (sym i) }, ap live_count i ∙ a)

module _ (key : Id) (slot : List ℕ) where
  pub sound_by_lem : (j : Option Judged) → j ≡ judge_of key least greatest slot → is_some j ≡ is_sound key slot
  unfolding is_sound
  sound_by_lem j e = ap is_some e

  pub live_by_lem : (j : Option Judged) → j ≡ judge_of key least greatest slot → live_by j ≡ live_of key slot
  unfolding live_of
  live_by_lem j e = ap live_by e

  pub sound_slot : is_sound key slot ≡ true → SoundSlot key slot
  unfolding is_sound
  sound_slot t = by (judge_of key least greatest slot) refl t
    where
      by : (j : Option Judged) → judge_of key least greatest slot ≡ j → is_some j ≡ true → SoundSlot key slot
      by (Some x) q u = (judged_sound key least greatest slot x.live x.deleted x.last q).0
      by None q u = absurd (let z : ◌≡◌ {A = ℕ} 0 1 = ap as_number u in omega arith)

  pub live_slot : 2 ≤ live_of key slot → SoundSlot key slot × (2 ≤ live_count (entries_in key slot))
  unfolding live_of
  live_slot t = by (judge_of key least greatest slot) refl t
    where
      by : (j : Option Judged) → judge_of key least greatest slot ≡ j → 2 ≤ live_by j → SoundSlot key slot × (2 ≤ live_count (entries_in key slot))
      by (Some x) q u =
          let s = judged_sound key least greatest slot x.live x.deleted x.last q in
          (s.0, omega (arith, s.1))
      by None q u = absurd (omega arith)

  module _ (i : Id) where
    pub live_is : not (is_none (find_message i (live_in (entries_in key slot)))) ≡ is_live key i slot
    unfolding is_live
    live_is = refl

    pub finds_not : is_sound key slot ≡ false → 0 ≡ as_number (finds key i slot)
    unfolding finds
    finds_not t = simp t

    pub finds_is : is_sound key slot ≡ true → (r : Bool) → r ≡ is_live key i slot → as_number r ≡ as_number (finds key i slot)
    unfolding finds
    finds_is t r e = ap as_number e ∙ simp t

    pub deletes_few : live_of key slot < 2 → (0 ≡ as_number (deletes key i slot)) × (slot ≡ deleted key i slot)
    unfolding deletes deleted
    deletes_few h = let t : leb 2 (live_of key slot) ≡ false = lt-leb _ _ h in (simp t, simp t)

    pub deletes_is : 2 ≤ live_of key slot → (r : Bool) → r ≡ is_live key i slot → as_number r ≡ as_number (deletes key i slot)
    unfolding deletes
    deletes_is h r e = let t : leb 2 (live_of key slot) ≡ true = le-leb _ _ h in ap as_number e ∙ simp t

    pub deleted_is : 2 ≤ live_of key slot → slot_of (mark_deleted i (entries_in key slot)) ≡ deleted key i slot
    unfolding deleted
    deleted_is h = let t : leb 2 (live_of key slot) ≡ true = le-leb _ _ h in simp t

    module _ (slip : List ℕ) where
      appends_not : appends key i slot slip ≡ false → (0 ≡ as_number (appends key i slot slip)) × (slot ≡ appended key i slot slip)
      unfolding appended
      appends_not t = (simp t, simp t)

      pub appends_bad : is_sound key slot ≡ false → (0 ≡ as_number (appends key i slot slip)) × (slot ≡ appended key i slot slip)
      unfolding appends
      appends_bad t = appends_not (simp t)

      pub appends_other : is_sound key slot ≡ true → is_slip slip ≡ false → (0 ≡ as_number (appends key i slot slip)) × (slot ≡ appended key i slot slip)
      unfolding appends
      appends_other t u = appends_not (simp (t, u))

      pub appends_full : is_sound key slot ≡ true → is_slip slip ≡ true → takes (entries_in key slot) (message_in i slip) ≡ false
          → (0 ≡ as_number (appends key i slot slip)) × (slot ≡ appended key i slot slip)
      unfolding appends
      appends_full t u v = appends_not (simp (t, u, v))

      pub appends_is : is_sound key slot ≡ true → is_slip slip ≡ true → takes (entries_in key slot) (message_in i slip) ≡ true
          → (1 ≡ as_number (appends key i slot slip)) × (slot_of (append (entries_in key slot) (message_in i slip)) ≡ appended key i slot slip)
      unfolding appends appended
      appends_is t u v = (simp (t, u, v), simp (t, u, v))
