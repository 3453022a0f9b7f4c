-- What is read as a number, an id or a varint is what is written for it: bytes that were read can be put back.
use Rattle.std.specs.Prelude.{◌≡◌, ℕ, zero, suc, ◌+◌, ◌-◌, ◌*◌, ◌/◌, ◌%◌, ◌≤◌, List, ◌∷◌, ◌++◌, length, get_or, take, drop, Ok}
use Rattle.std.proofs.Common.{sym, ap, ap₂, ◌∙◌, add-zero, add-one, arith, append_assoc, take-append-drop, drop-cons, drop-drop, take_at}
use Rattle.std.proofs.Math.Seq.{append_snoc}
use Rattle.std.proofs.Math.Arith.{digits_div, digits_mod}
use Rattle.base.specs.Bytes.{Bytes}
use Rattle.codes.specs.Little.{le_at, le_bytes}
use Rattle.codes.specs.Little.Laws.{le_at_low, length_le_bytes}
use Rattle.codes.specs.Ids.{be_at, be_bytes, id_bytes, halves_at}
use Rattle.codes.specs.Ids.Laws.{length_id_bytes}
use Rattle.codes.specs.Varint.{varint_at, var_bytes}
use Rattle.codes.specs.Varint.Laws.{varint_next, varint_bytes}

pub le_stood : (n : ℕ) (g : List ℕ) (i : ℕ) → Bytes g → i + n ≤ length g → drop i g ≡ le_bytes n (le_at g i n) ++ drop (i + n) g
unfolding le_bytes
le_stood zero g i b h = ap (λ (t : ℕ). drop t g) (sym (add-zero i))
le_stood (suc n) g i b h =
    let x : ℕ = get_or g i 0 in
    let y : ℕ = le_at g (i + 1) n in
    let low : le_at g i (suc n) ≡ y * 256 + x = le_at_low g i n in
    let first : le_at g i (suc n) % 256 ≡ x = rw low (digits_mod y (b i)) in
    let others : le_at g i (suc n) / 256 ≡ y = rw low (digits_div y (b i)) in
    let ih = le_stood n g (i + 1) b (omega arith) in
    let place : i + 1 + n ≡ i + suc n = omega arith in
    rw (first, others)
    (rw (add-one i) (drop-cons g i 0 (omega arith)) ∙ ap (λ (t : List ℕ). x ∷ t) (ih ∙ ap (λ (t : ℕ). le_bytes n y ++ drop t g) place))

pub be_stood : (n : ℕ) (g : List ℕ) (i : ℕ) → Bytes g → i + n ≤ length g → drop i g ≡ be_bytes n (be_at g i n) ++ drop (i + n) g
unfolding be_at be_bytes
be_stood zero g i b h = ap (λ (t : ℕ). drop t g) (sym (add-zero i))
be_stood (suc n) g i b h =
    let x : ℕ = get_or g (i + n) 0 in
    let y : ℕ = be_at g i n in
    let last : (y * 256 + x) % 256 ≡ x = digits_mod y (b (i + n)) in
    let others : (y * 256 + x) / 256 ≡ y = digits_div y (b (i + n)) in
    let place : suc (i + n) ≡ i + suc n = omega arith in
    rw (last, others)
    (be_stood n g i b (omega arith)
    ∙ ap (λ (t : List ℕ). be_bytes n y ++ t) (drop-cons g (i + n) 0 (omega arith) ∙ ap (λ (t : ℕ). x ∷ drop t g) place)
    ∙ sym (append_snoc (be_bytes n y) x (drop (i + suc n) g)))

pub id_stood : (g : List ℕ) (i : ℕ) → Bytes g → i + 16 ≤ length g → drop i g ≡ id_bytes (halves_at g i) ++ drop (i + 16) g
unfolding id_bytes halves_at
id_stood g i b h =
    let up : List ℕ = be_bytes 8 (be_at g i 8) in
    let low : List ℕ = be_bytes 8 (be_at g (i + 8) 8) in
    let place : i + 8 + 8 ≡ i + 16 = omega arith in
    be_stood 8 g i b (omega arith)
    ∙ ap (λ (t : List ℕ). up ++ t) (be_stood 8 g (i + 8) b (omega arith) ∙ ap (λ (t : ℕ). low ++ drop t g) place)
    ∙ sym (append_assoc up low (drop (i + 16) g))

pub varint_stood : (g : List ℕ) (i v n : ℕ) → Bytes g → varint_at g i ≡ Ok (v, n) → drop i g ≡ var_bytes v ++ drop n g
varint_stood g i v n b e =
    let after = varint_next g i v n e in
    let place : i + (n - i) ≡ n = omega arith in
    sym (take-append-drop (n - i) (drop i g))
    ∙ ap₂ (λ (x y : List ℕ). x ++ y) (varint_bytes g i v n b e) (drop-drop (n - i) i g ∙ ap (λ (t : ℕ). drop t g) place)

-- the same bytes, taken out

pub le_same : (s : List ℕ) → Bytes s → (n i : ℕ) → i + n ≤ length s → le_bytes n (le_at s i n) ≡ take n (drop i s)
le_same s b n i h =
    sym (take_at (le_bytes n (le_at s i n)) (drop (i + n) s) n (length_le_bytes n (le_at s i n))) ∙ ap (take n) (sym (le_stood n s i b h))

pub id_same : (s : List ℕ) → Bytes s → (i : ℕ) → i + 16 ≤ length s → id_bytes (halves_at s i) ≡ take 16 (drop i s)
id_same s b i h =
    sym (take_at (id_bytes (halves_at s i)) (drop (i + 16) s) 16 (length_id_bytes (halves_at s i))) ∙ ap (take 16) (sym (id_stood s i b h))
