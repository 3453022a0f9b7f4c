-- Demand 3, in one statement: "For every file that opens, take those sections away and set the minor version to 0, mending
-- offsets, lengths and checksums: the copy opens too, and with equal room every key gets the same answer from both, refusals
-- and places included." "Demand 3 now speaks of added sections outside the range only": those of unknown kinds (`kind.unknown`),
-- which the reserved range is no part of, nor is kind 0x0200: it is kept, and where it is present the copy has minor 1. And the
-- other way: a later writer's file, with such sections and any minor version, opens where that copy does.
use Rattle.std.specs.Prelude.{◌≡◌, ℕ, List, Ok}
use Rattle.std.proofs.Common.{sym, ap, ◌∙◌}
use Rattle.base.specs.Bytes.{Bytes}
use Rattle.frame.specs.declared.Opened.{Opened}
use Rattle.frame.specs.Frame.{rows_of, body_of, record_of, at_minor}
use Rattle.frame.proofs.Laws.Frame.{header_minor}
use Rattle.frame.specs.Open.{open_of}
use Rattle.reader.proofs.Laws.Header.{header_opens, header_good}
use Rattle.reader.proofs.Laws.Look.{with_record}
use Rattle.laid_out.proofs.Laws.Laid.{file_rows}
use Rattle.demand3.specs.Stripped.{Stripped, Later}
use Rattle.demand3.proofs.Laws.Stripped.{opened_later, copy_opens, copy_answers, added_opens}
use Rattle.demand3.specs.Strip.{strip, stripped}
use Rattle.demand3.proofs.Laws.Strip.{is_copy, h64, small, fits}
use Rattle.demand3.proofs.Laws.Whole.{byted_strip, none_unknown}
use Rattle.demand3.specs.Demand3.{Alike, Copy, Demand3}

alike : (f : List ℕ) (o : Opened) → open_of f ≡ Ok o → (g : List ℕ) → Stripped f g → Alike f o g
alike f o e g s = record {
  opens = copy_opens f g s o e;
  answers = copy_answers f g s o e;
  answers_with = λ full rooms key.
      with_record full rooms key g (record_of g) (copy_opens f g s o e) ∙ copy_answers f g s o e full rooms key ∙ sym (with_record full rooms key f o e);
  header = λ h q.
      header_good g (record_of g) (copy_opens f g s o e)
      ∙ ap Ok (header_minor g f s.header ∙ (λ j. at_minor (s.minor j) (((header_opens f h).0 q).1 j)));
}

stripped_copy : (f : List ℕ) → Bytes f → (o : Opened) → open_of f ≡ Ok o → Copy f o (strip f)
unfolding strip stripped
stripped_copy f by o op =
    let l : Later f = opened_later f o op in
    let copy : Stripped f (strip f) = is_copy f by l in record {
      bytes = byted_strip f by;
      copy = copy;
      known = rw (file_rows (stripped f) (h64 f by l) (small f by l) (fits f by l)) (none_unknown f (body_of f) (rows_of (body_of f)) 64 2);
      alike = alike f o op (strip f) copy;
    }

pub demand_3 : Demand3
demand_3 = record {
  any_copy = alike;
  one_copy = stripped_copy;
  later = λ f l g s e. let o = added_opens f g s l e in record { opens = o; alike = alike f (record_of f) o g s };
  exactly = λ f by. (
    λ e. let l = opened_later f (record_of f) e in (l, copy_opens f (strip f) (is_copy f by l) (record_of f) e),
    λ h. added_opens f (strip f) (is_copy f by h.0) h.0 h.1,
  );
}
