-- What the C lookups tell of the library's answers, and which record C lends.
use Rattle.std.specs.Prelude.{◌≡◌, ℕ, ◌≤◌, ◌<◌, List, Result, Ok, Err}
use Rattle.std.proofs.Common.{ap, ◌∙◌, lt-ltb, le-ltb}
use Rattle.refusal.specs.declared.Refusal.{Refusal}
use Rattle.refusal.specs.Refusal.{number_of, place_of, beside_of}
use Rattle.frame.specs.declared.Opened.{Opened}
use Rattle.lookup.specs.declared.Looked.{Looked}
use Rattle.lookup.specs.Lookup.{Outcome}
use Rattle.lookup.specs.Calls.{Alone, Whole}
use Rattle.edge_sst_c.specs.declared.look.EdgeSstLooked.{EdgeSstLooked}
use Rattle.edge_sst_c.specs.Look.{refused_told, looked_told, byte_or, PartnersTold, EdgesTold}

-- ---- laws

pub looked_found : (x : Looked) (d i c : ℕ) → x ≡ Looked.Found d i c → looked_told (Ok x) ≡ record { number = 0; place = 0; beside = 0; found = 1; degree = d; index = i; compared = c }
unfolding looked_told
looked_found x d i c e = rw e

pub looked_absent : (x : Looked) (c : ℕ) → x ≡ Looked.Absent c → looked_told (Ok x) ≡ record { number = 0; place = 0; beside = 0; found = 0; degree = 0; index = 0; compared = c }
unfolding looked_told
looked_absent x c e = rw e

pub looked_refused : (l : Result Looked Refusal) (r : Refusal) → l ≡ Err r → looked_told l ≡ refused_told (number_of r) (place_of r) (beside_of r)
unfolding looked_told
looked_refused l r e = rw e

pub byte_small : (x : ℕ) → x < 256 → byte_or x ≡ x
unfolding byte_or
byte_small x h = simp (lt-ltb x 256 h)

pub byte_large : (x : ℕ) → 256 ≤ x → byte_or x ≡ 0
unfolding byte_or
byte_large x h = simp (le-ltb x 256 h)

-- a library's answer for record o, told for the same record by another name
pub told_as : (f : Opened → Outcome) {o p : Opened} {l : Result Looked Refusal} {r : EdgeSstLooked} {a b : List ℕ} → o ≡ p → Alone (f o) l a b → r ≡ looked_told l
    → PartnersTold (f p) r a b
told_as f e w t = rw (← e) (record { answer = t ∙ ap looked_told w.answer; partners = w.partners })

pub told : {x : Outcome} {l : Result Looked Refusal} {r : EdgeSstLooked} {a b : List ℕ} → Alone x l a b → r ≡ looked_told l → PartnersTold x r a b
told w t = record { answer = t ∙ ap looked_told w.answer; partners = w.partners }

pub edges_told : {x : Outcome} {k : Result Looked Refusal} {r : EdgeSstLooked} {o out l logs m marks : List ℕ} → Whole x k o out l logs m marks → r ≡ looked_told k
    → EdgesTold x r o out l logs m marks
edges_told w t = record { answer = t ∙ ap looked_told w.answer; partners = w.partners; numbers = w.numbers; dead = w.dead }

pub edges_told_as : (f : Opened → Outcome) {p q : Opened} {k : Result Looked Refusal} {r : EdgeSstLooked} {o out l logs m marks : List ℕ} → p ≡ q
    → Whole (f p) k o out l logs m marks → r ≡ looked_told k → EdgesTold (f q) r o out l logs m marks
edges_told_as f e w t = rw (← e) (edges_told w t)
