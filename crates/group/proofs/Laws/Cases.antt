-- Groups by computing: a case for each fault with its place, and for what comes first.
use Rattle.std.specs.Prelude.{◌≡◌, refl, ℕ, List, [], ◌∷◌, ◌++◌, true, false, replicate}
use Rattle.codes.specs.declared.ids.Id.{Id}
use Rattle.codes.specs.declared.varint.Unread.{Unread}
use Rattle.codes.specs.Little.{le_at, le_bytes}
use Rattle.codes.specs.Ids.{be_at, be_bytes, id_bytes, halves_at}
use Rattle.codes.specs.Varint.{last_byte, var_from, varint_at, bytes_from, var_bytes}
use Rattle.group.specs.declared.fault.Flaw.{Flaw}
use Rattle.group.specs.Fault.{fault_at}
use Rattle.group.specs.Group.{good, bad, onVarint, split_step, dense_step, step_at, on_step, cons, walk_from, degree_of, head_of, on_head, group_of, bytes_of}
use Rattle.group.specs.Written.{split_from, split_bytes, dense_bytes}

abbrev id : ℕ → ℕ → Id
id hi lo = record { hi = hi; lo = lo }

-- a partner of upper half 5 and lower half 1
abbrev first : List ℕ
first = 5 ∷ 1 ∷ 0 ∷ 0 ∷ 0 ∷ 0 ∷ 0 ∷ 0 ∷ 0 ∷ []

-- a difference of 0 and the lower half n
abbrev same : ℕ → List ℕ
same n = 0 ∷ n ∷ 0 ∷ 0 ∷ 0 ∷ 0 ∷ 0 ∷ 0 ∷ 0 ∷ []

-- the upper half 2^64 − 1, and the lower half 0
abbrev most : List ℕ
most = replicate 9 0xFF ++ (1 ∷ replicate 8 0)

pub record Cases : Type 0 where
  -- the head: a varint that is no number, and what a tenth byte above 1 settles whatever follows
  pub empty : group_of [] ≡ bad (fault_at (Flaw.Number Unread.Cut) 0)
  pub nine_bytes : group_of (replicate 9 0x80) ≡ bad (fault_at (Flaw.Number Unread.Cut) 0)
  pub long_degree : group_of (0x81 ∷ 0 ∷ 1 ∷ first) ≡ bad (fault_at (Flaw.Number Unread.Long) 0)
  pub long_none : group_of (0x80 ∷ 0 ∷ []) ≡ bad (fault_at (Flaw.Number Unread.Long) 0)
  pub tenth_0 : group_of (replicate 9 0x80 ++ (0 ∷ 1 ∷ first)) ≡ bad (fault_at (Flaw.Number Unread.Long) 0)
  pub tenth_1 : group_of (replicate 9 0x80 ++ (1 ∷ 0x10 ∷ replicate 16 0)) ≡ bad (fault_at Flaw.Cut 27)
  pub tenth_2 : group_of (replicate 9 0x80 ++ (2 ∷ 1 ∷ first)) ≡ bad (fault_at (Flaw.Number Unread.Large) 0)
  pub tenth_127 : group_of (replicate 9 0x80 ++ (0x7F ∷ [])) ≡ bad (fault_at (Flaw.Number Unread.Large) 0)
  pub tenth_128 : group_of (replicate 9 0x80 ++ (0x80 ∷ [])) ≡ bad (fault_at (Flaw.Number Unread.Large) 0)
  pub tenth_255 : group_of (replicate 9 0x80 ++ (0xFF ∷ 0 ∷ [])) ≡ bad (fault_at (Flaw.Number Unread.Large) 0)
  -- degree 0 comes before the tag; a tag that is missing or unknown has the place after the degree
  pub none : group_of (0 ∷ []) ≡ bad (fault_at Flaw.Degree 0)
  pub none_first : group_of (0 ∷ 0xFF ∷ []) ≡ bad (fault_at Flaw.Degree 0)
  pub no_tag : group_of (1 ∷ []) ≡ bad (fault_at Flaw.Cut 1)
  pub no_tag_2 : group_of (0x81 ∷ 1 ∷ []) ≡ bad (fault_at Flaw.Cut 2)
  pub tag : group_of (1 ∷ 2 ∷ first) ≡ bad (fault_at Flaw.Tag 1)
  pub tag_2 : group_of (0x81 ∷ 1 ∷ 0 ∷ first) ≡ bad (fault_at Flaw.Tag 2)
  -- split partners
  pub one : group_of (1 ∷ 1 ∷ first) ≡ good false (id 5 1 ∷ [])
  pub no_varint : group_of (2 ∷ 1 ∷ first) ≡ bad (fault_at (Flaw.Number Unread.Cut) 11)
  pub huge : group_of (replicate 9 0xFF ++ (1 ∷ 1 ∷ first)) ≡ bad (fault_at (Flaw.Number Unread.Cut) 20)
  pub cut_upper : group_of (1 ∷ 1 ∷ 0x85 ∷ []) ≡ bad (fault_at (Flaw.Number Unread.Cut) 2)
  pub cut_upper_second : group_of (2 ∷ 1 ∷ first ++ (0x80 ∷ 0x80 ∷ [])) ≡ bad (fault_at (Flaw.Number Unread.Cut) 11)
  pub long_upper : group_of (2 ∷ 1 ∷ first ++ (0x85 ∷ same 2)) ≡ bad (fault_at (Flaw.Number Unread.Long) 11)
  pub large_upper : group_of (1 ∷ 1 ∷ replicate 9 0xFF ++ (2 ∷ replicate 8 0)) ≡ bad (fault_at (Flaw.Number Unread.Large) 2)
  pub no_lower : group_of (1 ∷ 1 ∷ 5 ∷ []) ≡ bad (fault_at Flaw.Cut 2)
  pub cut_lower : group_of (1 ∷ 1 ∷ 5 ∷ replicate 7 0) ≡ bad (fault_at Flaw.Cut 2)
  pub cut_second : group_of (2 ∷ 1 ∷ first ++ (0x80 ∷ 1 ∷ replicate 7 0)) ≡ bad (fault_at Flaw.Cut 11)
  pub spare : group_of (1 ∷ 1 ∷ first ++ (0 ∷ [])) ≡ bad (fault_at Flaw.Spare 11)
  pub spare_second : group_of (2 ∷ 1 ∷ first ++ (same 2 ++ (0 ∷ []))) ≡ bad (fault_at Flaw.Spare 20)
  pub largest : group_of (1 ∷ 1 ∷ most) ≡ good false (id 18446744073709551615 0 ∷ [])
  pub too_large : group_of (2 ∷ 1 ∷ most ++ (1 ∷ replicate 8 0)) ≡ bad (fault_at Flaw.Upper 20)
  pub too_large_cut : group_of (2 ∷ 1 ∷ most ++ (1 ∷ [])) ≡ bad (fault_at Flaw.Upper 20)
  pub too_large_part : group_of (2 ∷ 1 ∷ most ++ (1 ∷ 0 ∷ [])) ≡ bad (fault_at Flaw.Upper 20)
  -- an order fault comes before a varint fault of the next partner, and has the later partner's place
  pub order_first : group_of (3 ∷ 1 ∷ first ++ same 1) ≡ bad (fault_at Flaw.Order 11)
  pub varint_next : group_of (3 ∷ 1 ∷ first ++ same 2) ≡ bad (fault_at (Flaw.Number Unread.Cut) 20)
  pub order_last : group_of (3 ∷ 1 ∷ first ++ (same 3 ++ same 2)) ≡ bad (fault_at Flaw.Order 20)
  pub order_spare : group_of (2 ∷ 1 ∷ first ++ (same 1 ++ (0 ∷ []))) ≡ bad (fault_at Flaw.Order 11)
  -- dense partners: order before a cut and before bytes left over
  pub dense : group_of (1 ∷ 0x10 ∷ replicate 15 0 ++ (7 ∷ [])) ≡ good true (id 0 7 ∷ [])
  pub dense_equal : group_of (2 ∷ 0x10 ∷ replicate 32 0) ≡ bad (fault_at Flaw.Order 18)
  pub dense_none : group_of (1 ∷ 0x10 ∷ []) ≡ bad (fault_at Flaw.Cut 2)
  pub dense_cut : group_of (1 ∷ 0x10 ∷ replicate 15 0) ≡ bad (fault_at Flaw.Cut 2)
  pub dense_less : group_of (2 ∷ 0x10 ∷ replicate 16 0) ≡ bad (fault_at Flaw.Cut 18)
  pub dense_cut_second : group_of (2 ∷ 0x10 ∷ replicate 31 0) ≡ bad (fault_at Flaw.Cut 18)
  pub dense_spare : group_of (1 ∷ 0x10 ∷ replicate 17 0) ≡ bad (fault_at Flaw.Spare 18)
  pub dense_order_cut : group_of (3 ∷ 0x10 ∷ replicate 47 0) ≡ bad (fault_at Flaw.Order 18)
  pub dense_order_spare : group_of (2 ∷ 0x10 ∷ replicate 33 0) ≡ bad (fault_at Flaw.Order 18)
  pub dense_written : dense_bytes (id 0 7 ∷ []) ≡ 1 ∷ 0x10 ∷ replicate 15 0 ++ (7 ∷ [])

pub cases : Cases
unfolding le_at le_bytes be_at be_bytes id_bytes halves_at last_byte var_from varint_at bytes_from var_bytes onVarint split_step dense_step step_at on_step cons walk_from degree_of head_of on_head group_of bytes_of split_from split_bytes dense_bytes
cases = record {
  empty = refl;
  nine_bytes = refl;
  long_degree = refl;
  long_none = refl;
  tenth_0 = refl;
  tenth_1 = refl;
  tenth_2 = refl;
  tenth_127 = refl;
  tenth_128 = refl;
  tenth_255 = refl;
  none = refl;
  none_first = refl;
  no_tag = refl;
  no_tag_2 = refl;
  tag = refl;
  tag_2 = refl;
  one = refl;
  no_varint = refl;
  huge = refl;
  cut_upper = refl;
  cut_upper_second = refl;
  long_upper = refl;
  large_upper = refl;
  no_lower = refl;
  cut_lower = refl;
  cut_second = refl;
  spare = refl;
  spare_second = refl;
  largest = refl;
  too_large = refl;
  too_large_cut = refl;
  too_large_part = refl;
  order_first = refl;
  varint_next = refl;
  order_last = refl;
  order_spare = refl;
  dense = refl;
  dense_equal = refl;
  dense_none = refl;
  dense_cut = refl;
  dense_less = refl;
  dense_cut_second = refl;
  dense_spare = refl;
  dense_order_cut = refl;
  dense_order_spare = refl;
  dense_written = refl;
}
