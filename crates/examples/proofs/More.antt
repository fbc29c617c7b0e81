-- More examples computed: nodes, a snapshot with a group, a group's region, an image and a run of commands. Assumes nothing.
use mathlib.Core.Bool.{false}
use mathlib.Core.Path.{◌≡◌, refl}
use mathlib.Core.List.{List, [], ◌∷◌, ◌++◌, map}
use Rattle.std.proofs.Common.{Option, Some, None}
use Prim.Native.Nat.{ℕ, zero, suc, ◌+◌, ◌-◌, ◌^◌}
use lib.ListN.{length, take, replicate}
use Rattle.refusal.specs.declared.Refusal.TheVariants.{NoSlot, Damaged, BadArgument, LowId, NoIdLeft, LongMessage, Full, ShortOutput, NoGroup, GroupExists, MostGroups, MostConsumers, MostPending, NotLive, NoSnapshot, SmallStore}
use Rattle.octets.specs.Bytes.{zeros}
use Rattle.id.specs.Id.{id_of, top, least, greatest}
use Rattle.keys.specs.Entries as Index
use Rattle.keys.specs.Operation as Indexed
use Rattle.node.specs.Message.{Message, Entry, live, Pair, pair}
use Rattle.groups.specs.Group.{Group, Pending}
use Rattle.stream.specs.Ledger.{Ledger, empty_ledger, with_messages, with_last, with_groups}
use Rattle.stream.specs.Command as Command
use Rattle.snapshot.specs.Command.{Command, on_stream, save, load, run_all, answers_all}
use Rattle.examples.specs.Case.{Case, node, snapshot, bytes_of, read_in, Row, row, message}
use Rattle.node.specs.Message.{are_strings, are_pairs}
use Rattle.slip.specs.Slip.{slip_pairs, slip, cut_string, parse_pairs, parse_slip}
use Rattle.octets.specs.Bytes.{le, le_value, be, be_from, be_value}
use Rattle.octets.specs.Compare.{all_zero, same, order_of}
use Rattle.octets.specs.Place.{area, put, spliced, take_bytes}
use Rattle.id.specs.Bytes.{id_bytes, id_from}
use Rattle.id.specs.Difference.{difference_of, rebuilt_of}
use Rattle.id.specs.Id.{id_order, following_of}
use Rattle.decimal.specs.Integer.{digits_after, positive_of, unsigned_of, negative_of, signed_of, pattern_of}
use Rattle.decimal.specs.Text.{digits_of, natural_text, text_of}
use Rattle.listpack.specs.Element.{item_of, integer_body, text_head, back_length, encode_item, element, text_size, element_size}
use Rattle.listpack.specs.Listpack as Listpack
use Rattle.listpack.specs.Read.{back_at, integer_stands, as_integer, close_integer, text_stands, as_text, close_text, tag_width, read_wide, read_by, read_element, parse, parse_many, parse_listpack}
use Rattle.listpack.specs.Width.{fits, narrow, extend}
use Rattle.slip.specs.Pair.{are_strings, are_pairs}
use Rattle.slip.specs.Slip.{slip_pairs, slip, cut_string, parse_pairs, parse_slip}
use Rattle.node.specs.Bytes.{master_strings, pair_strings, entry_strings, entries_strings, node_strings, node_bytes, node_size, slot_of}
use Rattle.node.specs.Message.{is_message, same_strings, live_in, live_count, deleted_count}
use Rattle.node.specs.Parse.{read_number, read_exactly, read_strings, read_values, read_pairs, read_entry, read_entries, parse_strings, parse_node, parse_slot}
use Rattle.node.specs.Rules.{rising_from, are_messages, all_up_to, is_node, are_counts, has_room}
use Rattle.node.specs.Step as NodeStep
use Rattle.groups.specs.Area.{are_groups, is_groups, regions, area_bytes, parse_regions, parse_area}
use Rattle.groups.specs.Bytes.{place_of_name, pending_bytes, all_pending, all_names, body_bytes, all_name_fields, region_bytes}
use Rattle.groups.specs.Group.{are_names, names_above, rising_names, is_among, pending_above, pending_up_to, is_pending, are_pending, is_group}
use Rattle.groups.specs.Parse.{name_in, is_field, names_in, are_fields, entry_id, pending_in, is_entry, all_pending_in, are_entries, delivered_in, group_in, names_pass, entries_pass, is_region, parse_region, take_name, take_names, parse_body}
use Rattle.groups.specs.Step as Groups
use Rattle.stream.specs.Cut as Cut
use Rattle.stream.specs.Image.{node_of, nodes_of, free_zero, image_from}
use Rattle.stream.specs.Ledger.{messages_above, is_ledger}
use Rattle.stream.specs.LedgerStep.{on_set_up, add_as, clock_id, on_trim, on_create, ids_after, batch, ids_bytes}
use Rattle.stream.specs.Run.{run, answers}
use Rattle.stream.specs.Step.{step}
use Rattle.snapshot.specs.Bytes.{parts_of, contents, bodies, file_of, snapshot_of}
use Rattle.snapshot.specs.Command.{save_reply, loads}
use Rattle.snapshot.specs.Parse.{take_parts, parse_file, read_node, read_parts, parse_snapshot}

abbrev a : List ℕ
a = 97 ∷ []

abbrev b : List ℕ
b = 98 ∷ []

abbrev one : List ℕ
one = 49 ∷ []

-- 5-0 with a=1, then 6-0 with b empty: 43 bytes, 17 elements
abbrev second : List Entry
second = live (message 5 0 a one) ∷ live (message 6 0 b []) ∷ []

-- 6-0 under the key 5-9 stores 1 and −9
abbrev backwards : List Entry
backwards = live (message 5 9 a one) ∷ live (message 6 0 a one) ∷ []

-- n messages from the ID 1-seq on
pub series : ℕ → ℕ → List Entry
series zero seq = []
series (suc n) seq = live (message 1 seq a one) ∷ series n (seq + 1)

-- 130 messages, the oldest n of them deleted: from 128 on the deleted count takes a byte more
pub aged : ℕ → List Entry
unfolding series NodeStep.mark_oldest
aged n = NodeStep.mark_oldest n (series 130 0)

-- the group g: 5-0 pending for the consumer c since 7
abbrev group : Group
group =
    record {
      name = 103 ∷ [];
      delivered = id_of 5 0;
      consumers = (99 ∷ []) ∷ [];
      pending = record { id = id_of 5 0; consumer = 99 ∷ []; time = 7; count = 1 } ∷ [];
    }

abbrev ledger : Ledger
ledger = with_groups (with_last (with_messages empty_ledger (message 5 0 a one ∷ [])) (id_of 5 0)) (group ∷ [])

pub table : List Row
table =
    row (node second) (0x2B ∷ 0x00 ∷ 0x00 ∷ 0x00 ∷ 0x11 ∷ 0x00 ∷ 0x02 ∷ 0x01 ∷ 0x00 ∷ 0x01 ∷ 0x01 ∷ 0x01 ∷ 0x81 ∷ 0x61 ∷ 0x02 ∷ 0x00 ∷ 0x01 ∷ 0x02 ∷ 0x01 ∷ 0x00 ∷ 0x01 ∷ 0x00 ∷ 0x01 ∷ 0x01 ∷ 0x01 ∷ 0x04 ∷ 0x01 ∷ 0x00 ∷ 0x01 ∷ 0x01 ∷ 0x01 ∷ 0x00 ∷ 0x01 ∷ 0x01 ∷ 0x01 ∷ 0x81 ∷ 0x62 ∷ 0x02 ∷ 0x80 ∷ 0x01 ∷ 0x06 ∷ 0x01 ∷ 0xFF ∷ [])
    ∷ row (node backwards) (0x27 ∷ 0x00 ∷ 0x00 ∷ 0x00 ∷ 0x0F ∷ 0x00 ∷ 0x02 ∷ 0x01 ∷ 0x00 ∷ 0x01 ∷ 0x01 ∷ 0x01 ∷ 0x81 ∷ 0x61 ∷ 0x02 ∷ 0x00 ∷ 0x01 ∷ 0x02 ∷ 0x01 ∷ 0x00 ∷ 0x01 ∷ 0x00 ∷ 0x01 ∷ 0x01 ∷ 0x01 ∷ 0x04 ∷ 0x01 ∷ 0x02 ∷ 0x01 ∷ 0x01 ∷ 0x01 ∷ 0xDF ∷ 0xF7 ∷ 0x02 ∷ 0x01 ∷ 0x01 ∷ 0x04 ∷ 0x01 ∷ 0xFF ∷ [])
    ∷ row (snapshot ledger) (0x01 ∷ 0x03 ∷ 0x00 ∷ 0x01 ∷ 0x1E ∷ 0x00 ∷ 0x00 ∷ 0x00 ∷ 0x10 ∷ 0x00 ∷ 0x00 ∷ 0x00 ∷ 0x02 ∷ 0x2E ∷ 0x00 ∷ 0x00 ∷ 0x00 ∷ 0x2C ∷ 0x00 ∷ 0x00 ∷ 0x00 ∷ 0x03 ∷ 0x5A ∷ 0x00 ∷ 0x00 ∷ 0x00 ∷ 0x32 ∷ 0x00 ∷ 0x00 ∷ 0x00 ∷ 0x00 ∷ 0x00 ∷ 0x00 ∷ 0x00 ∷ 0x00 ∷ 0x00 ∷ 0x00 ∷ 0x05 ∷ 0x00 ∷ 0x00 ∷ 0x00 ∷ 0x00 ∷ 0x00 ∷ 0x00 ∷ 0x00 ∷ 0x00 ∷ 0x00 ∷ 0x00 ∷ 0x00 ∷ 0x00 ∷ 0x00 ∷ 0x00 ∷ 0x00 ∷ 0x05 ∷ 0x00 ∷ 0x00 ∷ 0x00 ∷ 0x00 ∷ 0x00 ∷ 0x00 ∷ 0x00 ∷ 0x00 ∷ 0x1C ∷ 0x00 ∷ 0x00 ∷ 0x00 ∷ 0x0A ∷ 0x00 ∷ 0x01 ∷ 0x01 ∷ 0x00 ∷ 0x01 ∷ 0x01 ∷ 0x01 ∷ 0x81 ∷ 0x61 ∷ 0x02 ∷ 0x00 ∷ 0x01 ∷ 0x02 ∷ 0x01 ∷ 0x00 ∷ 0x01 ∷ 0x00 ∷ 0x01 ∷ 0x01 ∷ 0x01 ∷ 0x04 ∷ 0x01 ∷ 0xFF ∷ 0x01 ∷ 0x67 ∷ 0x00 ∷ 0x00 ∷ 0x00 ∷ 0x00 ∷ 0x00 ∷ 0x00 ∷ 0x00 ∷ 0x05 ∷ 0x00 ∷ 0x00 ∷ 0x00 ∷ 0x00 ∷ 0x00 ∷ 0x00 ∷ 0x00 ∷ 0x00 ∷ 0x01 ∷ 0x01 ∷ 0x63 ∷ 0x01 ∷ 0x00 ∷ 0x00 ∷ 0x00 ∷ 0x00 ∷ 0x00 ∷ 0x00 ∷ 0x00 ∷ 0x00 ∷ 0x05 ∷ 0x00 ∷ 0x00 ∷ 0x00 ∷ 0x00 ∷ 0x00 ∷ 0x00 ∷ 0x00 ∷ 0x00 ∷ 0x00 ∷ 0x07 ∷ 0x00 ∷ 0x00 ∷ 0x00 ∷ 0x00 ∷ 0x00 ∷ 0x00 ∷ 0x00 ∷ 0x01 ∷ 0x00 ∷ [])
    ∷ []

abbrev cases : List Case
cases = node second ∷ node backwards ∷ node (aged 127) ∷ node (aged 128) ∷ snapshot ledger ∷ []

abbrev slip_of : List ℕ → List ℕ → List ℕ
slip_of f v = slip (pair f v ∷ [])

abbrev g : List ℕ
g = 103 ∷ []

abbrev c : List ℕ
c = 99 ∷ []

abbrev d : List ℕ
d = 100 ∷ []

abbrev moved : Pending
moved = record { id = id_of 5 0; consumer = d; time = 9; count = 2 }

pub record Asked : Type 0 where
  pub command : Command
  pub answer : Command.Answer

abbrev asked : Command.Command → Command.Answer → Asked
asked x y = record { command = on_stream x; answer = y }

-- commands on a store of one slot, and what each answers
pub asks : List Asked
asks =
    asked Command.set_up Command.done
    ∷ asked (Command.add (id_of 0 0) (slip_of a one)) (Command.refused LowId)
    ∷ asked (Command.add (id_of 5 0) (slip_of a one)) (Command.given (id_of 5 0))
    ∷ asked (Command.add (id_of 5 0) (slip_of a one)) (Command.refused LowId)
    ∷ asked (Command.add (id_of 6 0) (0 ∷ [])) (Command.refused BadArgument)
    ∷ asked (Command.add_by_clock 5 (slip_of b [])) (Command.given (id_of 5 1))
    ∷ asked (Command.add_by_clock 7 (slip_of a (replicate 1000 120))) (Command.given (id_of 7 0))
    ∷ asked (Command.asks (Command.next (id_of 5 1))) (Command.given (id_of 5 1))
    ∷ asked (Command.asks (Command.next (id_of 8 0))) Command.nothing
    ∷ asked (Command.asks (Command.read (id_of 5 0) 100)) (Command.written (slip_of a one))
    ∷ asked (Command.asks (Command.read (id_of 5 0) 6)) (Command.refused ShortOutput)
    ∷ asked (Command.asks (Command.read (id_of 5 2) 6)) (Command.refused NotLive)
    ∷ asked (Command.asks (Command.field (id_of 5 1) b 0)) (Command.written [])
    ∷ asked (Command.asks (Command.field (id_of 5 1) a 0)) Command.absent
    ∷ asked (Command.in_group g (Command.group_read c 7)) (Command.refused NoGroup)
    ∷ asked (Command.create_group g least) Command.done
    ∷ asked (Command.create_group g least) (Command.refused GroupExists)
    ∷ asked (Command.create_group [] least) (Command.refused BadArgument)
    ∷ asked (Command.in_group g (Command.group_read c 7)) (Command.given (id_of 5 0))
    ∷ asked (Command.in_group g (Command.claim d 3 (id_of 5 0) 9)) Command.not_moved
    ∷ asked (Command.in_group g (Command.claim d 2 (id_of 5 0) 9)) Command.moved
    ∷ asked (Command.delete (id_of 5 0)) (Command.counted 1)
    ∷ asked (Command.delete (id_of 5 0)) (Command.counted 0)
    ∷ asked (Command.in_group g (Command.next_pending d least)) (Command.entry moved false)
    ∷ asked (Command.in_group g (Command.next_pending c least)) Command.nothing
    ∷ asked (Command.in_group g (Command.acknowledge (id_of 5 1))) (Command.counted 0)
    ∷ asked (Command.in_group g (Command.drop_consumer d)) (Command.counted 1)
    ∷ asked (Command.destroy_group g) Command.done
    ∷ asked (Command.trim 1) (Command.counted 1)
    ∷ asked (Command.trim 0) (Command.counted 1)
    ∷ record { command = save 28; answer = Command.written (snapshot_of (with_last empty_ledger (id_of 7 0))) }
    ∷ record { command = save 27; answer = Command.refused ShortOutput }
    ∷ record { command = load (1 ∷ []); answer = Command.refused NoSnapshot }
    ∷ record { command = load (snapshot_of ledger); answer = Command.done }
    ∷ asked (Command.asks (Command.next least)) (Command.given (id_of 5 0))
    ∷ []

-- batch reading (02, CR 1)
abbrev many : List ℕ → ℕ → ℕ → Command.Command
many consumer n room = Command.in_group g (Command.group_read_many consumer 7 n room)

pub batches : List Asked
batches =
    asked Command.set_up Command.done
    ∷ asked (Command.add (id_of 1 0) (slip_of a one)) (Command.given (id_of 1 0))
    ∷ asked (Command.add (id_of 2 0) (slip_of a one)) (Command.given (id_of 2 0))
    ∷ asked (Command.add (id_of 3 0) (slip_of a one)) (Command.given (id_of 3 0))
    ∷ asked (many c 1 15) (Command.refused ShortOutput)
    ∷ asked (many c 1 16) (Command.refused NoGroup)
    ∷ asked (Command.create_group g least) Command.done
    ∷ asked (many c 257 4112) (Command.refused BadArgument)
    ∷ asked (many [] 1 15) (Command.refused BadArgument)
    ∷ asked (many c 0 0) (Command.written [])
    ∷ asked (Command.in_group g (Command.drop_consumer c)) (Command.counted 0)
    ∷ asked (Command.delete (id_of 2 0)) (Command.counted 1)
    ∷ asked (many c 256 4096) (Command.written (id_bytes (id_of 1 0) ++ id_bytes (id_of 3 0)))
    ∷ asked (many c 1 16) (Command.written [])
    ∷ asked (Command.in_group g (Command.group_read c 7)) Command.nothing
    ∷ asked (Command.in_group g (Command.drop_consumer c)) (Command.counted 2)
    ∷ []

-- n pairs of a with a long value
pub wide : ℕ → List Pair
wide zero = []
wide (suc n) = pair a (replicate 1000 120) ∷ wide n

abbrev names : ℕ → List ℕ
names n = n ∷ []

abbrev creates : ℕ → Asked
creates n = asked (Command.create_group (names n) least) Command.done

abbrev claims : ℕ → Asked
claims n = asked (Command.in_group (names 1) (Command.claim (names n) 0 (id_of 1 0) 0)) Command.moved

-- two nodes of a message each
abbrev two : Ledger
two = with_last (with_messages empty_ledger (record { id = id_of 1 0; pairs = wide 3 } ∷ record { id = id_of 2 0; pairs = wide 3 } ∷ [])) (id_of 2 0)

-- refusals, on a store of one slot; and what set up answers where there is none
pub refusals : List Asked
unfolding wide
refusals =
    record { command = save 0; answer = Command.refused Damaged }
    ∷ asked Command.set_up Command.done
    ∷ asked (Command.add (id_of 1 0) (slip_of a one)) (Command.given (id_of 1 0))
    ∷ asked (Command.add (id_of 2 0) (slip (wide 5))) (Command.refused LongMessage)
    ∷ asked (Command.add (id_of 2 0) (slip (wide 3))) (Command.given (id_of 2 0))
    ∷ asked (Command.add (id_of 3 0) (slip (wide 2))) (Command.refused Full)
    ∷ (map creates (1 ∷ 2 ∷ 3 ∷ 4 ∷ 5 ∷ 6 ∷ 7 ∷ 8 ∷ [])
    ++ (asked (Command.create_group (names 9) least) (Command.refused MostGroups)
    ∷ asked (Command.create_group (names 8) least) (Command.refused GroupExists)
    ∷ asked (Command.in_group (names 1) (Command.group_read (names 1) 0)) (Command.given (id_of 1 0))
    ∷ (map claims (2 ∷ 3 ∷ 4 ∷ 5 ∷ 6 ∷ 7 ∷ 8 ∷ 9 ∷ 10 ∷ 11 ∷ 12 ∷ 13 ∷ 14 ∷ 15 ∷ 16 ∷ 1 ∷ [])
    ++ (asked (Command.in_group (names 1) (Command.claim (names 17) 0 (id_of 1 0) 0)) (Command.refused MostConsumers)
    ∷ asked (Command.in_group (names 1) (Command.group_read (names 17) 0)) (Command.refused MostConsumers)
    ∷ asked (Command.add greatest (slip_of a one)) (Command.given greatest)
    ∷ asked (Command.add_by_clock (2 ^ 64 - 1) (slip_of a one)) (Command.refused NoIdLeft)
    ∷ record { command = load (snapshot_of two); answer = Command.refused SmallStore }
    ∷ []))))

-- a message that fills more than half of a node
pub half : ℕ → Message
unfolding wide
half ms = record { id = id_of ms 0; pairs = wide 3 }

abbrev adds : ℕ → Asked
adds ms = asked (Command.add (id_of ms 0) (slip (half ms).pairs)) (Command.given (id_of ms 0))

-- two slots: a freed slot is used again, the lowest first; a trim counts across nodes
abbrev slotted : List Asked
slotted =
    asked Command.set_up Command.done ∷ adds 1 ∷ adds 2
    ∷ asked (Command.add (id_of 3 0) (slip (wide 3))) (Command.refused Full)
    ∷ asked (Command.delete (id_of 1 0)) (Command.counted 1)
    ∷ adds 3
    ∷ asked (Command.add_by_clock 3 (slip_of a one)) (Command.given (id_of 3 1))
    ∷ asked (Command.trim 1) (Command.counted 2)
    ∷ []

abbrev slots_held : Option Cut.Model → List ℕ
slots_held None = []
slots_held (Some m) = map (λ (n : Cut.Node). n.slot) m.nodes

-- 01's errors that look reasonable: field names through the master, a negative difference, last seq plus 1 at its end, saving a
-- deleted message
abbrev tempting : List Asked
tempting =
    asked Command.set_up Command.done
    ∷ asked (Command.add (id_of 5 9) (slip_of a one)) (Command.given (id_of 5 9))
    ∷ asked (Command.add (id_of 6 0) (slip_of b [])) (Command.given (id_of 6 0))
    ∷ asked (Command.asks (Command.read (id_of 6 0) 100)) (Command.written (slip_of b []))
    ∷ asked (Command.asks (Command.next (id_of 5 10))) (Command.given (id_of 6 0))
    ∷ asked (Command.add (id_of 7 top) (slip_of a one)) (Command.given (id_of 7 top))
    ∷ asked (Command.add_by_clock 6 (slip_of a one)) (Command.given (id_of 8 0))
    ∷ asked (Command.delete (id_of 7 top)) (Command.counted 1)
    ∷ asked (Command.trim 1) (Command.counted 2)
    ∷ record { command = save 100; answer = Command.written (snapshot_of (with_last (with_messages empty_ledger (message 8 0 a one ∷ [])) (id_of 8 0))) }
    ∷ []

-- n entries of the consumer c, from the ID 1-seq on
pub backlog : ℕ → ℕ → List Pending
backlog zero seq = []
backlog (suc n) seq = record { id = id_of 1 seq; consumer = 99 ∷ []; time = 0; count = 1 } ∷ backlog n (seq + 1)

-- the group g with so many of them, and two messages above its last delivered
abbrev behind : ℕ → Cut.Model
behind n =
    Cut.model_of (Cut.node_at 0 (live (message 2 0 a one) ∷ live (message 3 0 a one) ∷ []) ∷ [])
    (with_groups (with_last empty_ledger (id_of 3 0))
    (record { name = 103 ∷ []; delivered = id_of 1 n; consumers = (99 ∷ []) ∷ []; pending = backlog n 1 } ∷ []))

-- n nodes of a message each
pub halves : ℕ → ℕ → List Message
unfolding half
halves zero ms = []
halves (suc n) ms = half ms ∷ halves n (ms + 1)

pub half_nodes : ℕ → List Message → List Cut.Node
half_nodes s [] = []
half_nodes s (m ∷ ms) = Cut.node_at s (live m ∷ []) ∷ half_nodes (s + 1) ms

abbrev filled : ℕ → Cut.Model
filled n = Cut.model_of (half_nodes 0 (halves n 1)) (with_last empty_ledger (id_of n 0))

abbrev codes : ℕ → List Command → Cut.Model → List ℕ
codes slots cs m = map Command.code_of (answers_all slots cs (Some m))

-- what is computed
pub record Computed : Type 0 where
  pub written : map (λ (r : Row). bytes_of r.what) table ≡ map (λ (r : Row). r.bytes) table
  pub elements17 : length (node_strings second) ≡ 17
  pub sizes : map node_size (second ∷ aged 127 ∷ aged 128 ∷ []) ≡ 43 ∷ 1320 ∷ 1321 ∷ []
  pub read_back : map read_in cases ≡ map Some cases
  -- a region and a body give the group back
  pub region : (length (region_bytes group) ≡ 7220) × (parse_region (region_bytes group) ≡ Some group) × (parse_body (body_bytes group) ≡ Some group)
  pub area8 : parse_area (id_of 5 0) (area_bytes (group ∷ [])) ≡ Some (group ∷ [])
  -- a store of two slots and a tail: the second slot holds the node
  pub image : image_from (zeros 4096 ++ (slot_of second ++ (9 ∷ []))) (id_of 6 0) (Index.entry (id_bytes (id_of 5 0)) 1 ∷ []) (area_bytes (group ∷ []))
      ≡ Some (Cut.model_of (Cut.node_at 1 second ∷ []) (with_groups (with_last empty_ledger (id_of 6 0)) (group ∷ [])))
  pub answered : answers_all 1 (map (λ (x : Asked). x.command) asks) None ≡ map (λ (x : Asked). x.answer) asks
  pub refused : answers_all 1 (map (λ (x : Asked). x.command) refusals) None ≡ map (λ (x : Asked). x.answer) refusals
  pub no_slot : answers_all 0 (on_stream Command.set_up ∷ load [] ∷ []) (Some Cut.empty_model) ≡ Command.refused NoSlot ∷ Command.refused NoSlot ∷ []
  pub slots2 : answers_all 2 (map (λ (x : Asked). x.command) slotted) None ≡ map (λ (x : Asked). x.answer) slotted
  -- after the second add of ID 3-0 the nodes stand in the slots 1 and 0; after the trim the first of them is free
  pub reused : slots_held (run_all 2 (map (λ (x : Asked). x.command) (take 6 slotted)) None) ≡ 1 ∷ 0 ∷ []
  pub trimmed : slots_held (run_all 2 (map (λ (x : Asked). x.command) slotted) None) ≡ 0 ∷ []
  pub tempted : answers_all 1 (map (λ (x : Asked). x.command) tempting) None ≡ map (λ (x : Asked). x.answer) tempting
  -- 256 pending
  pub pending255 : codes 1 (on_stream (Command.in_group g (Command.group_read c 7)) ∷ []) (behind 255) ≡ 0 ∷ []
  pub pending256 : codes 1 (on_stream (Command.in_group g (Command.group_read c 7)) ∷ []) (behind 256) ≡ 13 ∷ []
  pub batched : answers_all 1 (map (λ (x : Asked). x.command) batches) None ≡ map (λ (x : Asked). x.answer) batches
  pub batch255 : answers_all 1 (on_stream (many c 2 32) ∷ []) (Some (behind 255)) ≡ Command.written (id_bytes (id_of 2 0)) ∷ []
  pub batch256 : answers_all 1 (on_stream (many c 0 0) ∷ on_stream (many c 2 32) ∷ []) (Some (behind 256)) ≡ Command.written [] ∷ Command.refused MostPending ∷ []
  -- a fresh cut of 64 nodes, and of 65
  pub nodes64 : codes 64 (save 0 ∷ []) (filled 64) ≡ 8 ∷ []
  pub nodes65 : codes 64 (save 0 ∷ []) (filled 65) ≡ 15 ∷ []
  -- two nodes fit two slots
  pub loaded2 : slots_held (run_all 2 (load (snapshot_of two) ∷ []) None) ≡ 0 ∷ 1 ∷ []
  -- the index by its entries
  pub indexed : Indexed.replies
      (Indexed.put [] 1 ∷ Indexed.put a 1 ∷ Indexed.put c 3 ∷ Indexed.put a 2 ∷ Indexed.find a ∷ Indexed.first_at_or_above b
      ∷ Indexed.last_at_or_below b ∷ Indexed.remove a ∷ Indexed.remove a ∷ Indexed.last_at_or_below b ∷ []) []
      ≡ Indexed.refused 3 ∷ Indexed.done ∷ Indexed.done ∷ Indexed.done ∷ Indexed.value 2 ∷ Indexed.found (Index.entry c 3)
      ∷ Indexed.found (Index.entry a 2) ∷ Indexed.removed 1 ∷ Indexed.removed 0 ∷ Indexed.nothing ∷ []

pub computed : Computed
unfolding batches ids_after batch ids_bytes Groups.deliver_all half halves half_nodes backlog Index.first_from Index.insert Index.last_up_to Index.lookup Index.without Indexed.put_to Indexed.remove_from Indexed.replies aged asks refusals series table wide le le_value be be_from be_value all_zero same order_of area put spliced take_bytes id_bytes id_from difference_of rebuilt_of id_order following_of digits_after positive_of unsigned_of negative_of signed_of pattern_of digits_of natural_text text_of item_of integer_body text_head back_length encode_item element text_size element_size Listpack.elements Listpack.header Listpack.listpack back_at integer_stands as_integer close_integer text_stands as_text close_text tag_width read_wide read_by read_element parse parse_many parse_listpack fits narrow extend are_strings are_pairs slip_pairs slip cut_string parse_pairs parse_slip master_strings pair_strings entry_strings entries_strings node_strings node_bytes node_size slot_of is_message same_strings live_in live_count deleted_count read_number read_exactly read_strings read_values read_pairs read_entry read_entries parse_strings parse_node parse_slot rising_from are_messages is_node are_counts has_room NodeStep.append NodeStep.takes NodeStep.fits_alone NodeStep.mark_deleted NodeStep.mark_oldest NodeStep.find_message NodeStep.first_from NodeStep.without_message NodeStep.value_of are_groups is_groups regions area_bytes parse_regions parse_area place_of_name pending_bytes all_pending all_names body_bytes all_name_fields region_bytes are_names names_above rising_names is_among pending_above pending_up_to is_pending are_pending is_group name_in is_field names_in are_fields entry_id pending_in is_entry all_pending_in are_entries delivered_in group_in names_pass entries_pass is_region parse_region take_name take_names parse_body Groups.with_name Groups.without_name Groups.find_pending Groups.put_pending Groups.without_pending Groups.pending_of Groups.pending_of_others Groups.first_above Groups.deliver Groups.acknowledge Groups.claim Groups.next_pending Groups.drop_consumer Groups.find_group Groups.put_group Groups.without_group Cut.entries_of Cut.is_taken Cut.are_nodes all_up_to Cut.is_model Cut.free_from Cut.lowest_free Cut.goes_to_highest Cut.append_to_highest Cut.add_to Cut.add_message Cut.lacks_slot Cut.freed Cut.mark_in_nodes Cut.delete_message Cut.mark_oldest_in_nodes Cut.delete_oldest Cut.add_all Cut.fresh_cut node_of nodes_of free_zero image_from messages_above is_ledger on_set_up add_as clock_id on_trim on_create Groups.lacks_consumer NodeStep.first_after run answers step parts_of contents bodies file_of snapshot_of save_reply loads take_parts parse_file read_node read_parts parse_snapshot
computed =
    record {
      written = refl;
      elements17 = refl;
      sizes = refl;
      read_back = refl;
      region = (refl, refl, refl);
      area8 = refl;
      image = refl;
      answered = refl;
      refused = refl;
      no_slot = refl;
      slots2 = refl;
      reused = refl;
      trimmed = refl;
      tempted = refl;
      pending255 = refl;
      pending256 = refl;
      batched = refl;
      batch255 = refl;
      batch256 = refl;
      nodes64 = refl;
      nodes65 = refl;
      loaded2 = refl;
      indexed = refl;
    }
