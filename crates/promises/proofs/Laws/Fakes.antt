-- The four fakes, each with the promise that stops it: no reader or writer that does so keeps its promise. Ours keep each of them.
use Rattle.std.specs.Prelude.{◌≡◌, refl, ℕ, zero, suc, ◌+◌, ◌-◌, ◌^◌, ◌≤◌, List, [], ◌∷◌, Bool, true, false, length, get_or, Ok, Err}
use Rattle.std.proofs.Common.{sym, ap, ◌∙◌, arith}
use Rattle.base.specs.Over.{over}
use Rattle.codes.specs.Little.{le_at}
use Rattle.codes.specs.Ids.{be_at, halves_at}
use Rattle.refusal.specs.declared.Refusal.{Refusal}
use Rattle.frame.specs.Frame.{record_of}
use Rattle.frame.proofs.Laws.Cases.{heading_only}
use Rattle.lookup.specs.Lookup.{Outcome, found, absent, refused, Rooms, look_of, look_with}
use Rattle.batch.specs.declared.Edge.{Edge}
use Rattle.batch.specs.Batch.{edge_at, edges_at, edges_of, partners_in}
use Rattle.write_image.specs.Cases.{mixed, mixed_edges}
use Rattle.agreement.specs.SameEdges.{of_key, Says, shown_by, Enough}
use Rattle.agreement.specs.OutBytes.{byted}
use Rattle.agreement.proofs.Laws.OutBytes.{bytes_are}
use Rattle.full_check.specs.Full.{full_check}
use Rattle.write_file.specs.Written.{written_of, file_in, write_leaves}
use Rattle.demand2.specs.Demand2.{file_for, Lawful}
use Rattle.demand2.proofs.Laws.Demand2.{demand_2}
use Rattle.demand2.proofs.Laws.Cases.{mixed_lawful}
use Rattle.promises.proofs.Laws.Calls.{takes, writes}
use Rattle.promises.specs.Marked.{empty, live, one}
use Rattle.promises.proofs.Laws.Marked.{marked}
use Rattle.promises.specs.Fakes.{Passes, Reader, Looks, Writer, Writes}
use Rattle.refusal.specs.Check.{Check}

-- ---- three lawful batches: those of the marked cases, without edges and with one, and `mixed`, of two keys

empty_lawful : Lawful empty
unfolding empty byted
empty_lawful = (takes empty (bytes_are empty refl) 218 marked.c11.1).0

one_lawful : Lawful one
unfolding one empty live byted
one_lawful = (takes one (bytes_are one refl) 256 marked.c12.1).0

abbrev edge : ℕ → ℕ → ℕ → ℕ → Bool → Edge
edge k hi lo log dead = record { key = record { hi = 1; lo = k }; partner = record { hi = hi; lo = lo }; log = log; dead = dead }

edges_one : edges_of one ≡ edge 2 5 1 7 false ∷ []
unfolding edges_of edges_at edge_at one empty live halves_at be_at le_at
edges_one = refl

-- the keys 1, 2 and 1, 3
abbrev first : ℕ
first = 2 ^ 64 + 2

abbrev second : ℕ
second = 2 ^ 64 + 3

abbrev firsts : List Edge
firsts = edge 2 5 1 7 true ∷ edge 2 5 2 (2 ^ 64 - 1) false ∷ []

abbrev seconds : List Edge
seconds = edge 3 (2 ^ 49) 1 8 false ∷ []

one_first : of_key first (edges_of one) ≡ edge 2 5 1 7 false ∷ []
unfolding of_key
one_first = ap (of_key first) edges_one

mixed_first : of_key first (edges_of mixed) ≡ firsts
unfolding of_key
mixed_first = ap (of_key first) mixed_edges

mixed_second : of_key second (edges_of mixed) ≡ seconds
unfolding of_key
mixed_second = ap (of_key second) mixed_edges

-- room for two edges
abbrev room : Rooms
room = record { bytes = 32; logs = 2; marks = 2 }

enough : (es fs : List Edge) → es ≡ fs → length fs ≤ 2 → Enough room (length es)
enough es fs e h = let n : length es ≡ length fs = ap length e in record { bytes = omega arith; logs = omega arith; marks = omega arith }

pub our_check : Passes full_check
our_check s lawful = (demand_2 s lawful).passes_check

pub refuse_every_file : (check : List ℕ → Check) → Passes check → ((f : List ℕ) → (r : Refusal) × (check f ≡ Err r)) → ⊥
refuse_every_file check promise fake =
    let (r, e) = fake (file_for empty) in
    let q : (Ok tt) ≡ Err r = sym (promise empty empty_lawful) ∙ e in
    let z : ◌≡◌ {A = ℕ} 0 1 = cc in omega arith

-- of a file, and by the record that opening gave
pub our_lookup : Looks (look_of true)
our_lookup s lawful key rooms room = (demand_2 s lawful).looks_up key rooms room

pub our_lookup_with : Looks (λ rooms key f. look_with true rooms key f (record_of f))
our_lookup_with s lawful key rooms room = (demand_2 s lawful).looks_up_with key rooms room

absent_none : (c : ℕ) (es : List Edge) → Says true (absent c) es → es ≡ []
unfolding Says
absent_none c es h = h

pub absent_always : (look : Reader) → Looks look → ((rooms : Rooms) (key : ℕ) (f : List ℕ) → (c : ℕ) × (look rooms key f ≡ absent c)) → ⊥
absent_always look promise fake =
    let (c, e) = fake room first (file_for one) in
    let says = promise one one_lawful first room (enough _ _ one_first (omega arith)) in
    let none = absent_none c (of_key first (edges_of one)) (rw e at says) in
    let n : ◌≡◌ {A = ℕ} 1 0 = ap length (sym one_first ∙ none) in
    omega arith

-- ---- 3: "read the first group and repeat it (demand 2, every key)"

-- a key that has edges is there, with their partners
says_shown : (x : Outcome) (es fs : List Edge) → es ≡ fs → 1 ≤ length fs → Says true x es → ((shown_by x).there ≡ true) × ((shown_by x).partners ≡ partners_in fs)
unfolding Says shown_by
says_shown (found i c ps logs marks) es fs e some h = (refl, h.1 ∙ ap partners_in e)
says_shown (absent c) es fs e some h = absurd (omega (arith, ap length (sym e ∙ h)))
says_shown (refused r) es fs e some h = absurd h

-- whichever key is found, it is given the same partners
pub first_group_again : (look : Reader) → Looks look
    → ((rooms : Rooms) (k l : ℕ) (f : List ℕ) → (shown_by (look rooms k f)).there ≡ true → (shown_by (look rooms l f)).there ≡ true
    → (shown_by (look rooms k f)).partners ≡ (shown_by (look rooms l f)).partners) → ⊥
unfolding partners_in
first_group_again look promise fake =
    let (here, a) = says_shown _ _ firsts mixed_first (omega arith) (promise mixed mixed_lawful first room (enough _ _ mixed_first (omega arith))) in
    let (there, b) = says_shown _ _ seconds mixed_second (omega arith) (promise mixed mixed_lawful second room (enough _ _ mixed_second (omega arith))) in
    let n : ◌≡◌ {A = ℕ} 2 1 = ap length (sym a ∙ fake room first second (file_for mixed) here there ∙ b) in
    omega arith

pub our_writer : Writes (record { says = λ s o. written_of s (length o); leaves = λ s o. write_leaves (written_of s (length o)) (file_in s) o })
our_writer = writes

zeros : ℕ → List ℕ
zeros zero = []
zeros (suc n) = 0 ∷ zeros n

-- wherever it says done, the output is as it was
pub nothing_written : (w : Writer) → Writes w → ((s o : List ℕ) (n : ℕ) → w.says s o ≡ Ok n → w.leaves s o ≡ o) → ⊥
unfolding zeros heading_only
nothing_written w promise fake =
    let size : length (file_for empty) ≡ 218 = ap length marked.c11.0 in
    let long : length (zeros 218) ≡ 218 = refl in
    let (done, output) = promise empty empty_lawful (zeros 218) (omega arith) in
    let whole : over (file_for empty) (zeros 218) ≡ zeros 218 = sym output ∙ fake empty (zeros 218) _ done in
    let byte : ◌≡◌ {A = ℕ} 84 0 = sym (ap (λ (t : List ℕ). get_or (over t (zeros 218)) 0 0) marked.c11.0) ∙ ap (λ (t : List ℕ). get_or t 0 0) whole in
    omega arith
