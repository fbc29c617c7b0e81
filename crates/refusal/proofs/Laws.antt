-- What callers cite. Assumes nothing.
use Rattle.std.proofs.Common.{◌≤◌, arith}
use Rattle.refusal.specs.declared.Refusal.{Refusal}
use Rattle.refusal.specs.declared.Refusal.TheVariants.{NoSlot, Damaged, BadArgument, LowId, NoIdLeft, LongMessage, Full, ShortOutput, NoGroup, GroupExists, MostGroups, MostConsumers, MostPending, NotLive, MostNodes, NoSnapshot, SmallStore}
use Rattle.refusal.specs.Number.{number_of}

-- 0 is no refusal's number
pub number_some : (r : Refusal) → 1 ≤ number_of r
number_some NoSlot = omega arith
number_some Damaged = omega arith
number_some BadArgument = omega arith
number_some LowId = omega arith
number_some NoIdLeft = omega arith
number_some LongMessage = omega arith
number_some Full = omega arith
number_some ShortOutput = omega arith
number_some NoGroup = omega arith
number_some GroupExists = omega arith
number_some MostGroups = omega arith
number_some MostConsumers = omega arith
number_some MostPending = omega arith
number_some NotLive = omega arith
number_some MostNodes = omega arith
number_some NoSnapshot = omega arith
number_some SmallStore = omega arith
