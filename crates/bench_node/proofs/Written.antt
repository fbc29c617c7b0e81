-- The answers of reading and of the field search at each return. Assumes nothing.
use mathlib.Core.Path.{◌≡◌, refl, sym, ap, ◌∙◌}
use mathlib.Core.Bool.{true, false}
use mathlib.Core.List.{List}
use Rattle.std.proofs.Common.{Option, Some, None, Result}
use Prim.Native.Nat.{ℕ, ◌≤◌, ◌<◌}
use native.Mathlib.Omega.{arith}
use lib.Dec.{leb}
use lib.ListN.{length}
use borrow.Author.Tests.{le-leb, lt-leb}
use Rattle.octets.specs.Place.{put}
use Rattle.id.specs.declared.Id.{Id}
use Rattle.listpack.specs.Known.{string_at}
use Rattle.node.specs.Step.{value_of}
use Rattle.node_read.specs.Answer.{reading_by, output_by}
use Rattle.node_read.specs.Pairs.{pairs_from}
use Rattle.node_read.specs.Held.{HeldAt, FieldAt}
use Rattle.refusal.specs.declared.Refusal.{Refusal}
use Rattle.node_read.specs.declared.pairs.PairCursor.{PairCursor}
use Rattle.bench_node.specs.Node.{is_sound, message_at, size_read, read_length, read_output, value_by, value_length, value_output, field_length, field_output}

module _ (key i : Id) (slot out : List ℕ) where
  pub reads_not : is_sound key slot ≡ false → (0 ≡ read_length key i slot (length out)) × (out ≡ read_output key i slot out)
  unfolding read_length read_output
  reads_not t = (rw t, rw t)

  pub reads_is : is_sound key slot ≡ true → (r e : Result ℕ Refusal) → r ≡ reading_by (length out) (message_at key i slot) → r ≡ e → (w : List ℕ) → w ≡ output_by out (message_at key i slot)
      → (size_read e ≡ read_length key i slot (length out)) × (w ≡ read_output key i slot out)
  unfolding read_length read_output
  reads_is t r e p q w o = (rw t (ap size_read (sym q ∙ p)), rw t o)

  module _ (name : List ℕ) where
    pub fields_not : is_sound key slot ≡ false → (0 ≡ field_length key i name slot (length out)) × (out ≡ field_output key i name slot out)
    unfolding field_length field_output
    fields_not t = (rw t, rw t)

    module _ (t : is_sound key slot ≡ true) where
      by_value : (o : Option (List ℕ)) → value_by name (message_at key i slot) ≡ o → (n : ℕ) (w : List ℕ) → n ≡ value_length (length out) o → w ≡ value_output out o
          → (n ≡ field_length key i name slot (length out)) × (w ≡ field_output key i name slot out)
      unfolding field_length field_output
      by_value o e n w p q = (rw t (p ∙ ap (value_length (length out)) (sym e)), rw t (q ∙ ap (value_output out) (sym e)))

      pub field_missing : message_at key i slot ≡ None → (0 ≡ field_length key i name slot (length out)) × (out ≡ field_output key i name slot out)
      field_missing e = by_value None (ap (value_by name) e) 0 out refl refl

      module _ (q : PairCursor) (h : HeldAt key i slot q) where
        held_value : value_by name (message_at key i slot) ≡ value_of name (pairs_from slot q)
        held_value = ap (value_by name) h.found ∙ ap (value_of name) (sym h.pairs_are)

        pub field_absent : value_of name (pairs_from slot q) ≡ None → (0 ≡ field_length key i name slot (length out)) × (out ≡ field_output key i name slot out)
        field_absent e = by_value None (held_value ∙ e) 0 out refl refl

        module _ (at len : ℕ) (f : FieldAt slot (value_of name (pairs_from slot q)) at len) where
          pub field_short : length out < len → (0 ≡ field_length key i name slot (length out)) × (out ≡ field_output key i name slot out)
          field_short l =
              let u : leb (length (string_at slot at)) (length out) ≡ false = lt-leb (length (string_at slot at)) (length out) (omega (arith, f.length_is)) in
              by_value (Some (string_at slot at)) (held_value ∙ f.is) 0 out (rw u) (rw u)

          pub field_written : len ≤ length out → (w : List ℕ) → w ≡ put out 0 (string_at slot at) → (len ≡ field_length key i name slot (length out)) × (w ≡ field_output key i name slot out)
          field_written l w e =
              let u : leb (length (string_at slot at)) (length out) ≡ true = le-leb (length (string_at slot at)) (length out) (omega (arith, f.length_is)) in
              by_value (Some (string_at slot at)) (held_value ∙ f.is) len w (rw u f.length_is) (rw u e)
