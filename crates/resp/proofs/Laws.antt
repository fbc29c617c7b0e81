-- What callers cite. Assumes nothing.
--   Numbers    a number in decimal
--   Parts      a byte, CR LF, a head, a bulk string, an ID
--   Openings   an entry: its opening and its pairs
--   Entries    entries in rising ID order
--   Replies    whole replies
--   Joined     entries of lists that are joined
-- X-is: what is read is what was written; X-here: what is written is read back, whatever follows it.
pub use Rattle.resp.proofs.Numbers.{no_digit, number_is, number_here}
pub use Rattle.resp.proofs.Parts.{byte_is, end_is, head_is, bulk_is, id_is, nothing_left, bytes_parts, bulk_bytes, byte_here, end_here, head_here, bulk_here, id_here}
pub use Rattle.resp.proofs.Openings.{id_short, IsOpening, opening_is, ArePairs, pairs_is, entry_is, opening_here, pairs_here, entry_here}
pub use Rattle.resp.proofs.Entries.{AreEntries, entries_is, live_first, entries_here, entries_few}
pub use Rattle.resp.proofs.Replies.{reply_is, range_here, reply_here}
pub use Rattle.resp.proofs.Joined.{entries_join}
