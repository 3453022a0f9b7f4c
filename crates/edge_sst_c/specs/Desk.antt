-- What the release desk's C calls tell of the library's answers.
use Rattle.refusal.specs.Refusal.{number_of, place_of, beside_of}
use Rattle.edge_sst_c.specs.declared.desk.EdgeSstTold.{EdgeSstTold}
use Rattle.edge_sst_c.specs.declared.desk.EdgeSstDone.{EdgeSstDone}
use Rattle.std.specs.Prelude.{ℕ, Result, Ok, Err}
use Rattle.refusal.specs.Check.{Check}
use Rattle.refusal.specs.declared.Refusal.{Refusal}

unfoldable pub check_told : Check → EdgeSstTold
check_told (Ok _) = record { number = 0; place = 0; beside = 0 }
check_told (Err r) = record { number = number_of r; place = place_of r; beside = beside_of r }

-- how many bytes were written, by the read-out or the writer, or would be
unfoldable pub done_told : Result ℕ Refusal → EdgeSstDone
done_told (Ok bytes) = record { number = 0; place = 0; beside = 0; bytes = bytes }
done_told (Err r) = record { number = number_of r; place = place_of r; beside = beside_of r; bytes = 0 }
