-- The header of a file: what its bytes say where the file opens, otherwise opening's refusal.
use Rattle.std.specs.Prelude.{ℕ, List, Result, Ok, Err}
use Rattle.frame.specs.declared.ends.Header.{Header}
use Rattle.frame.specs.Frame.{header_in}
use Rattle.frame.specs.Open.{file_check}
use Rattle.refusal.specs.Check.{Check}
use Rattle.refusal.specs.declared.Refusal.{Refusal}

-- the answer, by what opening's rules say
unfoldable pub header_read : Check → Header → Result Header Refusal
header_read (Ok _) h = Ok h
header_read (Err r) h = Err r

unfoldable pub header_of : List ℕ → Result Header Refusal
header_of f = header_read (file_check f) (header_in f)
