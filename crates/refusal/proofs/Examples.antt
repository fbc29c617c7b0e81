-- The table of 01 (Refusal numbers), computed. Assumes nothing.
use Rattle.std.proofs.Common.{◌≡◌, refl, [], ◌∷◌, map}
use Rattle.refusal.specs.declared.Refusal.TheVariants.{NoSlot, Damaged, BadArgument, LowId, NoIdLeft, LongMessage, Full, ShortOutput, NoGroup, GroupExists, MostGroups, MostConsumers, MostPending, NotLive, MostNodes, NoSnapshot, SmallStore}
use Rattle.refusal.specs.Number.{number_of}

pub numbers : map number_of (NoSlot ∷ Damaged ∷ BadArgument ∷ LowId ∷ NoIdLeft ∷ LongMessage ∷ Full ∷ ShortOutput ∷ NoGroup ∷ GroupExists
    ∷ MostGroups ∷ MostConsumers ∷ MostPending ∷ NotLive ∷ MostNodes ∷ NoSnapshot ∷ SmallStore ∷ [])
    ≡ 1 ∷ 2 ∷ 3 ∷ 4 ∷ 5 ∷ 6 ∷ 7 ∷ 8 ∷ 9 ∷ 10 ∷ 11 ∷ 12 ∷ 13 ∷ 14 ∷ 15 ∷ 16 ∷ 17 ∷ []
numbers = refl
