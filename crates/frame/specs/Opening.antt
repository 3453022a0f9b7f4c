-- What opening answers: of the frame alone, and of the whole.
use Rattle.std.specs.Prelude.{Result}
use Rattle.refusal.specs.declared.Refusal.{Refusal}
use Rattle.frame.specs.declared.Framed.{Framed}
use Rattle.frame.specs.declared.Opened.{Opened}

abbrev pub Framing : Type 0
Framing = Result Framed Refusal

abbrev pub Opening : Type 0
Opening = Result Opened Refusal
