-- The printed example of the rules, marked case 12, of the file itself; a refused file; and lines at the edges of their fields.
use Rattle.std.specs.Prelude.{◌≡◌, refl, ℕ, true, List, [], ◌∷◌, ◌++◌, set}
use Rattle.std.proofs.Common.{ap, ap₂, ◌∙◌}
use Rattle.codes.specs.Little.{le_at}
use Rattle.codes.specs.Ids.{be_at, halves_at}
use Rattle.frame.specs.declared.ends.Header.{Header}
use Rattle.frame.specs.Frame.{record_from, record_of, body_of}
use Rattle.frame.proofs.Laws.Cases.{one_edge, headers}
use Rattle.batch.specs.Batch.{edge_at, edges_at, edges_of}
use Rattle.readout.specs.ReadOut.{batch_in}
use Rattle.readout.specs.Cases.{cases_pass, damaged, read}
use Rattle.refusal.specs.declared.Refusal.{Refusal}
use Rattle.text.specs.Text.{decimal_in, hex, refused_text}
use Rattle.printing.specs.Printed.{edge_line, first_line, dead_in, edge_lines, printed, printed_by, printed_of}
use Rattle.refusal.specs.Check.{Check}

-- "edge-sst forward minor 0 keys 1 edges 1 dead 0"
abbrev one : List ℕ
one = 101 ∷ 100 ∷ 103 ∷ 101 ∷ 45 ∷ 115 ∷ 115 ∷ 116 ∷ 32 ∷ 102 ∷ 111 ∷ 114 ∷ 119 ∷ 97 ∷ 114 ∷ 100 ∷ 32 ∷ 109 ∷ 105 ∷ 110 ∷ 111 ∷ 114 ∷ 32 ∷ 48 ∷ 32 ∷ 107 ∷ 101 ∷ 121 ∷ 115 ∷ 32 ∷ 49 ∷ 32 ∷ 101 ∷ 100 ∷ 103 ∷ 101 ∷ 115 ∷ 32 ∷ 49 ∷ 32 ∷ 100 ∷ 101 ∷ 97 ∷ 100 ∷ 32 ∷ 48 ∷ 10 ∷ []

-- "00000000000000010000000000000002 00000000000000050000000000000001 lsn 7 live"
abbrev two : List ℕ
two = 48 ∷ 48 ∷ 48 ∷ 48 ∷ 48 ∷ 48 ∷ 48 ∷ 48 ∷ 48 ∷ 48 ∷ 48 ∷ 48 ∷ 48 ∷ 48 ∷ 48 ∷ 49 ∷ 48 ∷ 48 ∷ 48 ∷ 48 ∷ 48 ∷ 48 ∷ 48 ∷ 48 ∷ 48 ∷ 48 ∷ 48 ∷ 48 ∷ 48 ∷ 48 ∷ 48 ∷ 50 ∷ 32 ∷ 48 ∷ 48 ∷ 48 ∷ 48 ∷ 48 ∷ 48 ∷ 48 ∷ 48 ∷ 48 ∷ 48 ∷ 48 ∷ 48 ∷ 48 ∷ 48 ∷ 48 ∷ 53 ∷ 48 ∷ 48 ∷ 48 ∷ 48 ∷ 48 ∷ 48 ∷ 48 ∷ 48 ∷ 48 ∷ 48 ∷ 48 ∷ 48 ∷ 48 ∷ 48 ∷ 48 ∷ 49 ∷ 32 ∷ 108 ∷ 115 ∷ 110 ∷ 32 ∷ 55 ∷ 32 ∷ 108 ∷ 105 ∷ 118 ∷ 101 ∷ 10 ∷ []

-- "ok"
abbrev three : List ℕ
three = 111 ∷ 107 ∷ 10 ∷ []

lines : printed 0 1 (batch_in one_edge) ≡ one ++ (two ++ three)
unfolding printed first_line dead_in edges_of edges_at edge_at edge_lines edge_line hex decimal_in halves_at be_at le_at
lines = ap (printed 0 1) read.1

keys : (record_of one_edge).keycount ≡ 1
unfolding one_edge record_of record_from body_of le_at
keys = refl

pub example : printed_of one_edge ≡ one ++ (two ++ three)
unfolding printed_by
example =
    ap (λ (c : Check). printed_by c one_edge) cases_pass.1
    ∙ ap₂ (λ (m n : ℕ). printed m n (batch_in one_edge)) (ap (λ (h : Header). h.minor) headers.1) keys
    ∙ lines

-- "refused 22 at 3": a byte of the fourth section is another
pub refused_line : printed_of (set one_edge 97 8) ≡ 114 ∷ 101 ∷ 102 ∷ 117 ∷ 115 ∷ 101 ∷ 100 ∷ 32 ∷ 50 ∷ 50 ∷ 32 ∷ 97 ∷ 116 ∷ 32 ∷ 51 ∷ 10 ∷ []
unfolding printed_by refused_text decimal_in
refused_line = ap (λ (c : Check). printed_by c (set one_edge 97 8)) damaged.0

-- "refused 29 at 11": a partner of group 3 is not above the one before; the place is the byte, and the group is not shown
pub fault_line : refused_text (Refusal.PartnerOrder 11 3) ≡ 114 ∷ 101 ∷ 102 ∷ 117 ∷ 115 ∷ 101 ∷ 100 ∷ 32 ∷ 50 ∷ 57 ∷ 32 ∷ 97 ∷ 116 ∷ 32 ∷ 49 ∷ 49 ∷ []
unfolding refused_text decimal_in
fault_line = refl

-- "edge-sst inverse minor 200 keys 12 edges 4096 dead 18446744073709551615"
pub inverse_line : first_line 1 200 12 4096 18446744073709551615 ≡ 101 ∷ 100 ∷ 103 ∷ 101 ∷ 45 ∷ 115 ∷ 115 ∷ 116 ∷ 32 ∷ 105 ∷ 110 ∷ 118 ∷ 101 ∷ 114 ∷ 115 ∷ 101 ∷ 32 ∷ 109 ∷ 105 ∷ 110 ∷ 111 ∷ 114 ∷ 32 ∷ 50 ∷ 48 ∷ 48 ∷ 32 ∷ 107 ∷ 101 ∷ 121 ∷ 115 ∷ 32 ∷ 49 ∷ 50 ∷ 32 ∷ 101 ∷ 100 ∷ 103 ∷ 101 ∷ 115 ∷ 32 ∷ 52 ∷ 48 ∷ 57 ∷ 54 ∷ 32 ∷ 100 ∷ 101 ∷ 97 ∷ 100 ∷ 32 ∷ 49 ∷ 56 ∷ 52 ∷ 52 ∷ 54 ∷ 55 ∷ 52 ∷ 52 ∷ 48 ∷ 55 ∷ 51 ∷ 55 ∷ 48 ∷ 57 ∷ 53 ∷ 53 ∷ 49 ∷ 54 ∷ 49 ∷ 53 ∷ 10 ∷ []
unfolding first_line decimal_in
inverse_line = refl

-- "0123456789abcdeffedcba9876543210 0000000000000000ffffffffffffffff lsn 18446744073709551615 dead"
pub dead_line :
    edge_line (record {
      key = record { hi = 0x0123456789abcdef; lo = 0xfedcba9876543210 };
      partner = record { hi = 0; lo = 0xffffffffffffffff };
      log = 18446744073709551615;
      dead = true;
    })
    ≡ 48 ∷ 49 ∷ 50 ∷ 51 ∷ 52 ∷ 53 ∷ 54 ∷ 55 ∷ 56 ∷ 57 ∷ 97 ∷ 98 ∷ 99 ∷ 100 ∷ 101 ∷ 102 ∷ 102 ∷ 101 ∷ 100 ∷ 99 ∷ 98 ∷ 97 ∷ 57 ∷ 56 ∷ 55 ∷ 54 ∷ 53 ∷ 52 ∷ 51 ∷ 50 ∷ 49 ∷ 48 ∷ 32 ∷ 48 ∷ 48 ∷ 48 ∷ 48 ∷ 48 ∷ 48 ∷ 48 ∷ 48 ∷ 48 ∷ 48 ∷ 48 ∷ 48 ∷ 48 ∷ 48 ∷ 48 ∷ 48 ∷ 102 ∷ 102 ∷ 102 ∷ 102 ∷ 102 ∷ 102 ∷ 102 ∷ 102 ∷ 102 ∷ 102 ∷ 102 ∷ 102 ∷ 102 ∷ 102 ∷ 102 ∷ 102 ∷ 32 ∷ 108 ∷ 115 ∷ 110 ∷ 32 ∷ 49 ∷ 56 ∷ 52 ∷ 52 ∷ 54 ∷ 55 ∷ 52 ∷ 52 ∷ 48 ∷ 55 ∷ 51 ∷ 55 ∷ 48 ∷ 57 ∷ 53 ∷ 53 ∷ 49 ∷ 54 ∷ 49 ∷ 53 ∷ 32 ∷ 100 ∷ 101 ∷ 97 ∷ 100 ∷ 10 ∷ []
unfolding edge_line hex decimal_in
dead_line = refl
