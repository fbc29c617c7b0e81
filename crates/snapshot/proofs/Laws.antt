-- What callers cite. Assumes nothing.
--   Table       a file's contents and bodies, inverse both ways
--   Rows        the parts of a file by the places of their rows
--   Parts       what save writes, part after part, and how many bytes
--   Sizes       a snapshot of at most 64 nodes is short: 321,604 bytes at most
--   Snapshots   a file is read as a ledger exactly when it is its snapshot; a snapshot is that of one ledger
--   Judged      the structural test of a file is parse_snapshot
--   Saved       save and load on models: when accepted; each undoes the other
--   Turned      every command on a model is the plain ledger's; of the answers only refusal 7 depends on the cut
--   Slips       a message of a ledger is a slip of 5,353 bytes at most
pub use Rattle.snapshot.proofs.Table.{length_contents, length_file, read_file_lem, FileRead, file_read}
pub use Rattle.snapshot.proofs.Rows.{RowAt, FileRows, file_rows}
pub use Rattle.snapshot.proofs.Parts.{cut_parts, parts_of_lem, bodies_join, contents_join, cut_length, cut_size, snapshot_size}
pub use Rattle.snapshot.proofs.Sizes.{body_most, parts_count, bodies_most, snapshot_most}
pub use Rattle.snapshot.proofs.Snapshots.{snapshot_parse, SnapshotOf, parse_snapshot_lem, snapshot_injective}
pub use Rattle.snapshot.proofs.Judged.{node_in_lem, snapshot_judge, judge_snapshot, judge_is}
pub use Rattle.snapshot.proofs.Saved.{SaveAccepted, save_accepted, save_writes, LoadAccepted, load_accepted, load_refused, load_no_slot, load_no_snapshot, load_too_many, load_fits, load_does, load_model, load_after_save, save_after_load, saves_same}
pub use Rattle.snapshot.proofs.Turned.{turn_answer, turn_ledger, turn_alone}
pub use Rattle.snapshot.proofs.Slips.{slip_most}
