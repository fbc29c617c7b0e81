-- `number_at` meets its contract. Assumes nothing.
use mathlib.Core.Path.{◌≡◌, sym, ap, ◌∙◌}
use Prim.Native.Nat.{ℕ}
use lib.ListN.{get_or}
use Rattle.stream.specs.declared.Reply.{Reply}
use Rattle.wallathi.specs.Telling.{numbers_by}
use Rattle.wallathi.proofs.telling.number_at.Goals as goal

-- the reply as it was matched
by_reply : {r q : Reply} {n : ℕ} (k old : ℕ) → r ≡ q → n ≡ get_or (numbers_by q) k old → n ≡ get_or (numbers_by r) k old
by_reply k old e p = p ∙ sym (ap (λ (r : Reply). get_or (numbers_by r) k old) e)

pub returns-in-Given : goal.returns-in-Given
returns-in-Given c = let x = c.args in by_reply x.k x.old c.in-Given.is c.pair_at.ensures

pub returns-in-Counted : goal.returns-in-Counted
returns-in-Counted c = let x = c.args in by_reply x.k x.old c.in-Counted.is c.first_at.ensures

pub returns-in-Written : goal.returns-in-Written
returns-in-Written c = let x = c.args in by_reply x.k x.old c.in-Written.is c.first_at-in-Written.ensures

pub returns-in-Entry : goal.returns-in-Entry
returns-in-Entry c = let x = c.args in by_reply x.k x.old c.in-Entry.is c.entry_at.ensures

pub returns-in-Reported : goal.returns-in-Reported
returns-in-Reported c = let x = c.args in by_reply x.k x.old c.in-Reported.is c.report_at.ensures

pub returns-in-NoIntegers : goal.returns-in-NoIntegers
returns-in-NoIntegers c = let x = c.args in by_reply x.k x.old c.in-NoIntegers.is c.counts_at.ensures
