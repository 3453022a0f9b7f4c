-- The laws by which a chunk is fed in larger pieces than bytes: up to the buffer's end, over it, and buffer by buffer.
use Rattle.std.specs.Prelude.{◌≡◌, ℕ, zero, suc, ◌+◌, ◌-◌, ◌*◌, ◌/◌, ◌%◌, ◌≤◌, ◌<◌, List, length, drop}
use Rattle.std.proofs.lemmas.List.Edits.{sets}
use Rattle.base.specs.Over.{part}

-- what the buffer held before the last bytes of s came, of which k whole buffers come first: the last of those, or b where there is none
abbrev pub buffer_before : List ℕ → List ℕ → ℕ → List ℕ
buffer_before b s zero = b
buffer_before b s (suc k) = part s (256 * k) (256 * k + 256)

-- with the bytes after them over it
abbrev pub buffer_after : List ℕ → List ℕ → ℕ → List ℕ
buffer_after b s k = sets (buffer_before b s k) 0 (drop (256 * k) s)

-- the whole buffers of s before its last byte
abbrev pub buffers_in : List ℕ → ℕ
buffers_in s = (length s - 1) / 256

-- ---- a chunk, by the place where it meets the buffer's end

-- r bytes more after t make the buffer full
abbrev pub UntilFull : ℕ → ℕ → Type 0
UntilFull t r = (r ≤ 256) × ((t + r) % 256 ≡ 0) × (0 < t + r) × (255 < r → t ≡ 0)
