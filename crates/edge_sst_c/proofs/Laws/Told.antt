-- What the C calls tell of the library's answers.
use Rattle.std.specs.Prelude.{◌≡◌, Ok, Err}
use Rattle.refusal.specs.declared.Refusal.{Refusal}
use Rattle.refusal.specs.Refusal.{number_of, place_of, beside_of}
use Rattle.frame.specs.declared.Opened.{Opened}
use Rattle.edge_sst_c.specs.Told.{truth, record_with, refusal_with, opened_told}
use Rattle.frame.specs.Opening.{Opening}

-- ---- laws

pub told_good : (x : Opening) (o : Opened) → x ≡ Ok o → opened_told x ≡ record_with o (truth o.marked) (truth o.indexed)
unfolding opened_told
told_good x o e = rw e

pub told_refused : (x : Opening) (r : Refusal) → x ≡ Err r → opened_told x ≡ refusal_with (number_of r) (place_of r) (beside_of r)
unfolding opened_told
told_refused x r e = rw e
