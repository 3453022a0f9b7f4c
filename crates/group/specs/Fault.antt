-- The refusal that tells a fault of group i: lookups and the full check tell it alike, by the byte in the group and the group
-- beside it.
use Rattle.std.specs.Prelude.{ℕ}
use Rattle.codes.specs.declared.varint.Unread.{Unread}
use Rattle.refusal.specs.declared.Refusal.{Refusal}
use Rattle.group.specs.declared.fault.Flaw.{Flaw}
use Rattle.group.specs.declared.fault.Fault.{Fault}

-- a flaw at a byte of the group
abbrev pub fault_at : Flaw → ℕ → Fault
fault_at flaw at = record { flaw = flaw; at = at }

-- "Split 17 into cut, not shortest and too large"
abbrev pub unread_of : ℕ → ℕ → Unread → Refusal
unread_of at i Unread.Cut = Refusal.VarintCut at i
unread_of at i Unread.Long = Refusal.VarintLong at i
unread_of at i Unread.Large = Refusal.VarintLarge at i

-- "Split 18 into degree 0, partner order, upper half too large, group cut short and bytes left over"
abbrev pub flaw_of : ℕ → ℕ → Flaw → Refusal
flaw_of at i Flaw.Tag = Refusal.Tag at i
flaw_of at i (Flaw.Number why) = unread_of at i why
flaw_of at i Flaw.Degree = Refusal.DegreeZero at i
flaw_of at i Flaw.Order = Refusal.PartnerOrder at i
flaw_of at i Flaw.Upper = Refusal.UpperHalf at i
flaw_of at i Flaw.Cut = Refusal.GroupCut at i
flaw_of at i Flaw.Spare = Refusal.SpareBytes at i

-- "The place becomes a byte inside the group, the group's index beside it"
abbrev pub refusal_of : ℕ → Fault → Refusal
refusal_of i f = flaw_of f.at i f.flaw

-- "28 to 32 in the place of 18, 33 to 35 in the place of 17", and 16 as before
abbrev pub number_for : Flaw → ℕ
number_for Flaw.Tag = 16
number_for Flaw.Degree = 28
number_for Flaw.Order = 29
number_for Flaw.Upper = 30
number_for Flaw.Cut = 31
number_for Flaw.Spare = 32
number_for (Flaw.Number Unread.Cut) = 33
number_for (Flaw.Number Unread.Long) = 34
number_for (Flaw.Number Unread.Large) = 35
