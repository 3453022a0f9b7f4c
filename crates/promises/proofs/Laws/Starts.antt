-- The start index: when opening refuses it, what a lookup takes from it, and that it does not show in a file that passes the full
-- check.
use Rattle.std.specs.Prelude.{◌≡◌, refl, ◌↔◌, ℕ, List, Bool, true, false, length, Ok}
use Rattle.std.proofs.Common.{sym, ◌∙◌, arith}
use Rattle.std.proofs.Math.Logic.Iff.{trans as iff_trans}
use Rattle.refusal.specs.declared.Refusal.{Refusal}
use Rattle.frame.specs.declared.Opened.{Opened}
use Rattle.refusal.proofs.Laws.Check.{fine_parts, fine_both}
use Rattle.frame.specs.Frame.{rows_of, body_of, flags_of, record_of}
use Rattle.frame.specs.Open.{Known, known_of, record_good, file_check}
use Rattle.frame.proofs.Laws.Open.{Recorded, recorded_parts, recorded_made}
use Rattle.frame.proofs.Laws.Starts.{StartAt, starts_exactly}
use Rattle.lookup.specs.Lookup.{refused, Rooms, look_in, look_with}
use Rattle.lookup.proofs.Laws.Given.{look_numbers_lem, look_unplaced}
use Rattle.lookup.proofs.Laws.Starts.{unlike_exactly, no_other, taken, known_starts, summed_there}
use Rattle.reader.proofs.Laws.Look.{with_bad, with_good, of_good}
use Rattle.full_check.specs.Full.{sums_from, edges_check, full_check}
use Rattle.full_check.specs.Starts.{edges_exactly, stray_told}
use Rattle.agreement.proofs.Laws.Index.{same_without}
use Rattle.promises.specs.Given.{Gives, Every}
use Rattle.promises.proofs.Laws.Given.{gives_is, every}
use Rattle.promises.specs.Starts.{UnlikeIn, StartIndex}

-- ---- 37 at i: every other rule of opening passes, there is a start index, and entry i is its first bad one

pub start_index : (f : List ℕ) (i : ℕ) → Every f 37 i 0 (StartAt f i)
start_index f i = every f (Refusal.Start i) refl refl (starts_exactly f i)

unlike_here : (k : Known) → k.indexed ≡ true → (full : Bool) (rooms : Rooms) (key i : ℕ)
    → (look_in full rooms k key ≡ refused (Refusal.Degrees i)) ↔ ((full ≡ true) × UnlikeIn k key i)
unlike_here k there full rooms key i =
    let t = look_unplaced full rooms k key i in (
      λ e.
          let x = t.0 e in
          let g = x.1 in
          (x.0, record { compared = g.compared; found = g.found; rises = g.rises; inside = g.inside; group = (g.group.0, (unlike_exactly k there i _).0 g.group.1) }),
      λ x.
          let g = x.1 in
          t.1 (x.0, record { compared = g.compared; found = g.found; rises = g.rises; inside = g.inside; group = (g.group.0, (unlike_exactly k there i _).1 g.group.1) }),
    )

record_here : (full : Bool) (rooms : Rooms) (key : ℕ) (f : List ℕ) (o : Opened) → Gives refused (look_with full rooms key f o) 21 0 0 ↔ (Recorded (length f) o → ⊥)
record_here full rooms key f o = iff_trans (gives_is refused (look_with full rooms key f o) Refusal.Record) (there (record_good f o) refl, back (record_good f o) refl)
  where
    clash : {A : Type 0} {t : Bool} → t ≡ true → t ≡ false → A
    clash a b = let z : ◌≡◌ {A = ℕ} 0 1 = cc in absurd (omega arith)

    there : (b : Bool) → record_good f o ≡ b → look_with full rooms key f o ≡ refused Refusal.Record → Recorded (length f) o → ⊥
    there true g e s = clash (look_numbers_lem full rooms (known_of f o) key Refusal.Record (sym (with_good full rooms key f o g) ∙ e)) refl
    there false g e s = clash (recorded_made (length f) o s) g

    back : (b : Bool) → record_good f o ≡ b → (Recorded (length f) o → ⊥) → look_with full rooms key f o ≡ refused Refusal.Record
    back true g un = absurd (un (recorded_parts (length f) o g))
    back false g un = with_bad full rooms key f o g

passes_here : (f : List ℕ)
    → (full_check f ≡ (Ok tt)) ↔ ((file_check f ≡ (Ok tt)) × (sums_from f (rows_of (body_of f)) 0 ≡ (Ok tt)) × (edges_check (flags_of f) (known_of f (record_of f)) ≡ (Ok tt)))
unfolding full_check
passes_here f = (
  λ e. let a = fine_parts (file_check f) _ e in let b = fine_parts (sums_from f (rows_of (body_of f)) 0) _ a.1 in (a.0, b.0, b.1),
  λ h. fine_both h.0 (fine_both h.1 h.2),
)

pub start_index_kept : StartIndex
start_index_kept = record {
  unlike = unlike_here;
  taken = λ k there rooms key e. taken rooms k there key e;
  record_looks = with_good;
  file_looks = of_good;
  own = known_starts;
  summed = summed_there;
  record_told = record_here;
  passes = passes_here;
  checked = edges_exactly;
  stray = stray_told;
  alone = λ k j a b s full rooms key same. no_other full rooms k j a b s key same;
  unseen = same_without;
}
