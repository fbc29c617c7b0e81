-- 01, Refusal numbers: the number of each refusal. Assumes nothing.
use Rattle.std.specs.Prelude.{ℕ}
use Rattle.refusal.specs.declared.Refusal.{Refusal}
use Rattle.refusal.specs.declared.Refusal.TheVariants.{NoSlot, Damaged, BadArgument, LowId, NoIdLeft, LongMessage, Full, ShortOutput, NoGroup, GroupExists, MostGroups, MostConsumers, MostPending, NotLive, MostNodes, NoSnapshot, SmallStore}

abbrev pub number_of : Refusal → ℕ
number_of NoSlot = 1
number_of Damaged = 2
number_of BadArgument = 3
number_of LowId = 4
number_of NoIdLeft = 5
number_of LongMessage = 6
number_of Full = 7
number_of ShortOutput = 8
number_of NoGroup = 9
number_of GroupExists = 10
number_of MostGroups = 11
number_of MostConsumers = 12
number_of MostPending = 13
number_of NotLive = 14
number_of MostNodes = 15
number_of NoSnapshot = 16
number_of SmallStore = 17
