-- Opening taken apart and put together: a file opens exactly if each rule is fine.
use Rattle.std.proofs.Math.Path.{◌≡◌}
use Rattle.std.specs.Prelude.{ℕ, ◌-◌, List, true, length, Ok}
use Rattle.frame.specs.Frame.{rows_of, counts_good, flags_of, foot_len, body_of, framed_of, size_check, head_check, tail_check, sum_check, reserved_check, codec_check, range_check}
use Rattle.frame.specs.Frame.Laws.{Table}

-- ---- rules 1 to 12 and 36, of a size, first bytes h and last bytes t

pub record FramesBy (n : ℕ) (h t : List ℕ) : Type 0 where
  pub size : size_check n ≡ (Ok tt)
  pub head : head_check h ≡ (Ok tt)
  pub tail : tail_check n t ≡ (Ok tt)
  pub sum : sum_check t ≡ (Ok tt)
  pub table : Table (body_of t)
  pub unreserved : reserved_check (rows_of (body_of t)) ≡ (Ok tt)
  pub raw : codec_check (rows_of (body_of t)) ≡ (Ok tt)
  pub apart : range_check (n - foot_len t) (rows_of (body_of t)) ≡ (Ok tt)
  pub counts : counts_good (flags_of h) (framed_of t) ≡ true

-- of a file
abbrev pub Frames : List ℕ → Type 0
Frames f = FramesBy (length f) f f
