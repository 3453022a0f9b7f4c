-- One group of partners: "Degree as a varint, then a tag byte, then the payload", where g is the whole group's bytes.
-- Its first fault in reading order decides. A fault has its place, counted from the group's first byte.
use Rattle.std.specs.Prelude.{ℕ, zero, suc, ◌+◌, ◌^◌, List, [], ◌∷◌, ◌++◌, Bool, true, false, length, get_or, ltb, leb, eqb, Result, Ok, Err}
use Rattle.base.specs.Pick.{pick}
use Rattle.codes.specs.declared.ids.Id.{Id}
use Rattle.codes.specs.declared.varint.Unread.{Unread}
use Rattle.codes.specs.Little.{le_at}
use Rattle.codes.specs.Ids.{halves_at, id_number, id_bytes}
use Rattle.codes.specs.Varint.{varint_at, Varint}
use Rattle.group.specs.declared.fault.Flaw.{Flaw}
use Rattle.group.specs.declared.fault.Fault.{Fault}
use Rattle.group.specs.Fault.{fault_at}
use Rattle.group.specs.declared.head.Head.{Head}
use Rattle.group.specs.declared.Group.{Group}
pub mod Laws

-- a partner and the place after it, or the fault that is met instead
abbrev pub Step : Type 0
Step = Result (Id × ℕ) Fault

-- what a check tells of a good group, or its first fault
abbrev pub GroupVerdict : Type 0
GroupVerdict = Result Group Fault

-- what a group holds: whether it is dense, and its partners; or its first fault
pub data Decoded : Type 0 where
  good : Bool → List Id → Decoded
  bad : Fault → Decoded

-- what is made of a varint's number and the place after it, or of why there is none
unfoldable pub onVarint {ℓ} : {X : Type ℓ} → Varint → (Unread → X) → (ℕ → ℕ → X) → X
onVarint (Ok (v, n)) unread go = go v n
onVarint (Err why) unread go = unread why

-- ---- one partner, at i

-- bytes of a dense partner, and of a split one's lower half; the tags
abbrev pub dense_size : ℕ
dense_size = 16

abbrev pub lower_size : ℕ
lower_size = 8

abbrev pub split_tag : ℕ
split_tag = 0x01

abbrev pub dense_tag : ℕ
dense_tag = 0x10

-- "the upper half's difference as a varint and the lower half as u64": hi is the upper half before, 0 for the first;
-- "An upper half never passes 2^64 − 1", which is told when the difference is read. i is the varint's first byte and the partner's
unfoldable pub split_step : List ℕ → ℕ → ℕ → Step
split_step g i hi =
    onVarint (varint_at g i) (λ why. Err (fault_at (Flaw.Number why) i))
    (λ v n.
    pick (ltb (hi + v) (2 ^ 64))
    (pick (leb (n + lower_size) (length g)) (Ok (record { hi = hi + v; lo = le_at g n lower_size }, n + lower_size)) (Err (fault_at Flaw.Cut i)))
    (Err (fault_at Flaw.Upper i)))

-- "16 bytes for each partner"
unfoldable pub dense_step : List ℕ → ℕ → Step
dense_step g i = pick (leb (i + dense_size) (length g)) (Ok (halves_at g i, i + dense_size)) (Err (fault_at Flaw.Cut i))

unfoldable pub step_at : Bool → List ℕ → ℕ → ℕ → Step
step_at dense g i hi = pick dense (dense_step g i) (split_step g i hi)

-- ---- the partners, one after the other

unfoldable pub on_step : Step → (Id → ℕ → Decoded) → Decoded
on_step (Ok (p, n)) go = go p n
on_step (Err f) go = bad f

unfoldable pub cons : Id → Decoded → Decoded
cons p (good dense ps) = good dense (p ∷ ps)
cons p (bad f) = bad f

-- d partners from i on, which end the group: "Partners strictly increase", so the floor is the least number that the next
-- may be, 0 for the first. Order is told at the later partner's first byte; what is left after the last partner is spare
unfoldable pub walk_from : Bool → ℕ → List ℕ → ℕ → ℕ → ℕ → Decoded
walk_from dense zero g i hi floor = pick (eqb i (length g)) (good dense []) (bad (fault_at Flaw.Spare i))
walk_from dense (suc d) g i hi floor =
    on_step (step_at dense g i hi)
    (λ p n. pick (leb floor (id_number p)) (cons p (walk_from dense d g n p.hi (suc (id_number p)))) (bad (fault_at Flaw.Order i)))

-- the floor of partner k after the last one
unfoldable pub floor_of : ℕ → Id → ℕ
floor_of k last = pick (eqb k 0) 0 (suc (id_number last))

-- ---- the whole group

-- the degree is the only thing that a sum of degrees reads of a group
unfoldable pub degree_of : List ℕ → Varint
degree_of g = varint_at g 0

-- "Degree is at least 1": a degree of 0 is told before the tag is looked at. A group that ends before its tag is cut,
-- where the tag would stand. Tag 0x01 is split, tag 0x10 dense
unfoldable pub head_of : List ℕ → Result Head Fault
head_of g =
    onVarint (degree_of g) (λ why. Err (fault_at (Flaw.Number why) 0))
    (λ d n.
    pick (eqb d 0) (Err (fault_at Flaw.Degree 0))
    (pick (leb (length g) n) (Err (fault_at Flaw.Cut n))
    (pick (eqb (get_or g n 0) split_tag) (Ok (Head.Split d (n + 1)))
    (pick (eqb (get_or g n 0) dense_tag) (Ok (Head.Dense d (n + 1))) (Err (fault_at Flaw.Tag n))))))

unfoldable pub on_head : Result Head Fault → (Bool → ℕ → ℕ → Decoded) → Decoded
on_head (Ok (Head.Split d i)) go = go false d i
on_head (Ok (Head.Dense d i)) go = go true d i
on_head (Err f) go = bad f

unfoldable pub group_of : List ℕ → Decoded
group_of g = on_head (head_of g) (λ dense d i. walk_from dense d g i 0 0)

-- ---- what is answered

unfoldable pub is_good : Decoded → Bool
is_good (good dense ps) = true
is_good (bad f) = false

-- the partners, none where there is a fault
unfoldable pub partners_of : Decoded → List Id
partners_of (good dense ps) = ps
partners_of (bad f) = []

-- 16 bytes each
unfoldable pub bytes_of : List Id → List ℕ
bytes_of [] = []
bytes_of (p ∷ ps) = id_bytes p ++ bytes_of ps

-- what a check answers: the degree is the number of partners
unfoldable pub verdict_of : Decoded → GroupVerdict
verdict_of (good dense ps) = Ok (record { degree = length ps; dense = dense })
verdict_of (bad f) = Err f
