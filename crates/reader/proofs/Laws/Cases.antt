-- Headers by computation: of the two files that the second program made, and of damaged ones.
use Rattle.std.specs.Prelude.{◌≡◌, refl, set, Err, Ok}
use Rattle.std.proofs.Common.{ap, ◌∙◌}
use Rattle.codes.specs.Little.{le_at}
use Rattle.refusal.specs.declared.Refusal.{Refusal}
use Rattle.frame.specs.Frame.{size_check, head_check, tail_check, ends_check, shape_check, frame_check}
use Rattle.frame.specs.Open.{file_check}
use Rattle.frame.proofs.Laws.Cases as frame
use Rattle.frame.proofs.Laws.Cases.{heading_only, one_edge, header_with}
use Rattle.reader.specs.Header.{header_read, header_of}
use Rattle.reader.proofs.Laws.Header.{header_good}

pub headers : (header_of heading_only ≡ Ok (header_with 0 0 0)) × (header_of one_edge ≡ Ok (header_with 0 0 0))
headers = (
  header_good heading_only _ (frame.opened).0 ∙ ap Ok (frame.headers).0,
  header_good one_edge _ (frame.opened).1 ∙ ap Ok (frame.headers).1,
)

-- another major version; a header size of 0; a flag bit 4; a tail that is not the magic
pub damaged :
    (header_of (set one_edge 8 2) ≡ Err Refusal.Major)
    × (header_of (set one_edge 10 0) ≡ Err Refusal.HeaderSize)
    × (header_of (set one_edge 12 24) ≡ Err Refusal.Flags)
    × (header_of (set one_edge 255 1) ≡ Err Refusal.TailMagic)
unfolding one_edge le_at size_check head_check tail_check ends_check shape_check frame_check file_check header_read header_of
damaged = (refl, refl, refl, refl)
