-- A lookup by the start index: when it gives 19, exactly, where the group's log numbers begin, and that it reads no other group.
use Rattle.std.proofs.Math.Path.{◌≡◌}
use Prim.Native.Nat.{ℕ, ◌+◌, ◌/◌}
use Rattle.std.proofs.Math.ListN.{length}
use Rattle.base.specs.Over.{part}
use Rattle.frame.specs.Open.{Known, offset_at}

-- ---- no other group is read: two files that know the same but for the partners and the offsets of other groups

-- group i is the same in both
pub record SameGroup (k j : Known) (i : ℕ) : Type 0 where
  pub begins : offset_at k.offsets (k.bits / 8) i ≡ offset_at j.offsets (j.bits / 8) i
  pub ends : offset_at k.offsets (k.bits / 8) (i + 1) ≡ offset_at j.offsets (j.bits / 8) (i + 1)
  pub size : length k.partners ≡ length j.partners
  pub bytes : part k.partners (offset_at k.offsets (k.bits / 8) i) (offset_at k.offsets (k.bits / 8) (i + 1))
      ≡ part j.partners (offset_at j.offsets (j.bits / 8) i) (offset_at j.offsets (j.bits / 8) (i + 1))

pub record SameBut (k j : Known) : Type 0 where
  pub keys : k.keys ≡ j.keys
  pub logs : k.logs ≡ j.logs
  pub dead : k.dead ≡ j.dead
  pub starts : k.starts ≡ j.starts
  pub keycount : k.keycount ≡ j.keycount
  pub edgecount : k.edgecount ≡ j.edgecount
