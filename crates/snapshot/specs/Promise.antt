-- The promises of save and load, and so of every command, over what is told of an answer. Assumes nothing.
use Rattle.std.specs.Prelude.{◌≡◌, Bool, true, false, List, ℕ}
use Rattle.refusal.specs.declared.Refusal.{Refusal}
use Rattle.stream.specs.Command as Stream
use Rattle.stream.specs.Promise.{Lent, held_by, slots_of, Follows, Becomes, SetsUp}
use Rattle.snapshot.specs.Command.{Command, on_stream, save, load, save_by, loaded, Loading, refusing, loading, loads, is_set_up}

module _ {T : Type 0} (tell : Stream.Answer → T) where
  -- a refusal of a command that is accepted on whatever bytes: every byte is kept
  abbrev pub Refuses : Refusal → Lent → T → Lent → Type 0
  Refuses r i t j = (t ≡ tell (Stream.refused r)) × (j ≡ i)

  abbrev pub LoadsBy : Loading → Lent → T → Lent → Type 0
  LoadsBy (refusing r) i t j = Refuses r i t j
  LoadsBy (loading l) i t j = Becomes tell (loaded l) i t j

  abbrev pub Loads : List ℕ → Lent → T → Lent → Type 0
  Loads file i t j = LoadsBy (loads (slots_of i) file) i t j

  abbrev pub DoesStream : Bool → Stream.Command → Lent → T → Lent → Type 0
  DoesStream true c i t j = SetsUp tell i t j
  DoesStream false c i t j = Follows tell c i t j

  -- every command; save changes no byte of store and state
  abbrev pub Does : Command → Lent → T → Lent → Type 0
  Does (on_stream c) i t j = DoesStream (is_set_up c) c i t j
  Does (save room) i t j = (t ≡ tell (save_by room (held_by i))) × (j ≡ i)
  Does (load file) i t j = Loads file i t j
