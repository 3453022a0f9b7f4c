-- Runs of numbers, written one after the other: header, table entries, counts, trailer.
use Rattle.std.specs.Prelude.{◌≡◌}
use Rattle.std.proofs.Math.Path.{refl, ap}
use Rattle.std.proofs.Common.{sym, ◌∙◌}
use Prim.Native.Nat.{ℕ, ◌+◌, ◌%◌, ◌^◌, ◌<◌}
use native.Mathlib.Omega.{arith}
use mathlib.Core.List.{List, [], ◌∷◌, ◌++◌}
use Rattle.std.proofs.Math.ListN.{length}
use Rattle.std.proofs.lemmas.List.Edits.{sets}
use Rattle.base.specs.Put as P
use Rattle.base.specs.Put.{Put, Left}
use Rattle.codes.specs.Little.{le_bytes}
use Rattle.codes.specs.Little.Laws.{length_le_bytes}
use Rattle.xxh3_spec.specs.Xxh3.{xxh3}
use Rattle.frame.specs.declared.Row.{Row}
use Rattle.frame.specs.Kind as kind
use Rattle.frame.specs.Frame.{raw_row}
use Rattle.frame.specs.Layout.{raw_section, head_bytes, entry, trailer}

-- one number is written
number : {out : List ℕ} {to : ℕ} {o : List ℕ} {at : ℕ} {ys : List ℕ} {xs : List ℕ} {out' : List ℕ} {to' : ℕ} (n x : ℕ) → Left out to (le_bytes n x ++ xs) o at ys
    → out' ≡ sets out to (le_bytes n x) → to' ≡ to + n → Left out' to' xs o at ys
number {out} {to} {out' = out'} {to' = to'} n x l e p =
    let q : Put out out' to to' (le_bytes n x) = record { place = p ∙ ap (λ (t : ℕ). to + t) (sym (length_le_bytes n x)); bytes = e } in P.put l q

byte : (x : ℕ) → x < 2 ^ 8 → le_bytes 1 x ≡ x ∷ []
unfolding le_bytes
byte x h = let q : x % 256 ≡ x = omega arith in ap (λ (t : ℕ). t ∷ []) q

-- ---- the header

module _ (o : List ℕ) (minor flags : ℕ) (ids : List ℕ) where
  pub head_parts : minor < 2 ^ 8 → {o₁ o₂ o₃ o₄ o₅ o₆ : List ℕ}
      → o₁ ≡ sets o 0 (le_bytes 8 kind.magic) → o₂ ≡ sets o₁ 8 (le_bytes 1 1) → o₃ ≡ sets o₂ 9 (le_bytes 1 minor) → o₄ ≡ sets o₃ 10 (le_bytes 2 64)
      → o₅ ≡ sets o₄ 12 (le_bytes 4 flags) → o₆ ≡ sets o₅ 16 ids → o₆ ≡ sets o 0 (head_bytes minor flags ids)
  unfolding head_bytes le_bytes
  head_parts small {o₁} {o₂} {o₃} {o₄} {o₅} {o₆} a b c d e f =
      let all : List ℕ = head_bytes minor flags ids in
      let one : le_bytes 1 minor ≡ minor ∷ [] = byte minor small in
      let l₁ : Left o₁ 8 (le_bytes 1 1 ++ ((minor ∷ []) ++ (le_bytes 2 64 ++ (le_bytes 4 flags ++ ids)))) o 0 all = number 8 kind.magic (P.start o 0 all) a refl in
      let l₂ : Left o₂ 9 ((minor ∷ []) ++ (le_bytes 2 64 ++ (le_bytes 4 flags ++ ids))) o 0 all = number 1 1 l₁ b refl in
      let l₃ : Left o₃ 10 (le_bytes 2 64 ++ (le_bytes 4 flags ++ ids)) o 0 all =
      number 1 minor (P.is (ap (λ (t : List ℕ). t ++ (le_bytes 2 64 ++ (le_bytes 4 flags ++ ids))) (sym one)) l₂) c refl in
      let l₄ : Left o₄ 12 (le_bytes 4 flags ++ ids) o 0 all = number 2 64 l₃ d refl in
      let l₅ : Left o₅ 16 ids o 0 all = number 4 flags l₄ e refl in
      f ∙ l₅.whole

pub length_head : (minor flags : ℕ) (ids : List ℕ) → length (head_bytes minor flags ids) ≡ 16 + length ids
unfolding head_bytes le_bytes
length_head minor flags ids = omega arith

-- ---- an entry without its name

unfoldable pub row_bytes : Row → List ℕ
row_bytes r =
    le_bytes 2 r.kind ++ (le_bytes 1 r.codec ++ (le_bytes 1 r.namelen ++ (le_bytes 8 r.start ++ (le_bytes 8 r.len ++ le_bytes 8 r.sum))))

module _ (o : List ℕ) (at : ℕ) (r : Row) where
  pub length_row : length (row_bytes r) ≡ kind.entry_size
  unfolding row_bytes le_bytes
  length_row = refl

  pub row_parts : {o₁ o₂ o₃ o₄ o₅ o₆ : List ℕ}
      → o₁ ≡ sets o at (le_bytes 2 r.kind) → o₂ ≡ sets o₁ (at + 2) (le_bytes 1 r.codec) → o₃ ≡ sets o₂ (at + 3) (le_bytes 1 r.namelen)
      → o₄ ≡ sets o₃ (at + 4) (le_bytes 8 r.start) → o₅ ≡ sets o₄ (at + 12) (le_bytes 8 r.len) → o₆ ≡ sets o₅ (at + 20) (le_bytes 8 r.sum)
      → Put o o₆ at (at + 28) (row_bytes r)
  unfolding row_bytes
  row_parts {o₁} {o₂} {o₃} {o₄} {o₅} {o₆} a b c d e f =
      let x₁ : List ℕ = le_bytes 1 r.codec in
      let x₂ : List ℕ = le_bytes 1 r.namelen in
      let x₃ : List ℕ = le_bytes 8 r.start in
      let x₄ : List ℕ = le_bytes 8 r.len in
      let x₅ : List ℕ = le_bytes 8 r.sum in
      let p₂ : at + 3 ≡ at + 2 + 1 = omega arith in
      let p₃ : at + 4 ≡ at + 3 + 1 = omega arith in
      let p₄ : at + 12 ≡ at + 4 + 8 = omega arith in
      let p₅ : at + 20 ≡ at + 12 + 8 = omega arith in
      let l₁ : Left o₁ (at + 2) (x₁ ++ (x₂ ++ (x₃ ++ (x₄ ++ x₅)))) o at (row_bytes r) = number 2 r.kind (P.start o at (row_bytes r)) a refl in
      let l₂ : Left o₂ (at + 3) (x₂ ++ (x₃ ++ (x₄ ++ x₅))) o at (row_bytes r) = number 1 r.codec l₁ b p₂ in
      let l₃ : Left o₃ (at + 4) (x₃ ++ (x₄ ++ x₅)) o at (row_bytes r) = number 1 r.namelen l₂ c p₃ in
      let l₄ : Left o₄ (at + 12) (x₄ ++ x₅) o at (row_bytes r) = number 8 r.start l₃ d p₄ in
      let l₅ : Left o₅ (at + 20) x₅ o at (row_bytes r) = number 8 r.len l₄ e p₅ in
      record { place = ap (λ (t : ℕ). at + t) (sym length_row); bytes = f ∙ l₅.whole }

-- the entry of a raw section
pub entry_row : (k start len : ℕ) (bytes : List ℕ) → length bytes ≡ len → entry start (raw_section k bytes) ≡ row_bytes (raw_row k start len (xxh3 bytes))
unfolding entry row_bytes le_bytes
entry_row k start len bytes e =
    ap (λ (n : ℕ). le_bytes 2 k ++ (0 ∷ 0 ∷ (le_bytes 8 start ++ (le_bytes 8 n ++ (le_bytes 8 (xxh3 bytes) ++ []))))) e

-- ---- the end of the body, and the trailer

unfoldable pub count_bytes : ℕ → ℕ → ℕ → List ℕ
count_bytes n e bits = le_bytes 8 n ++ (le_bytes 8 e ++ (bits ∷ []))

pub length_trailer : (body : List ℕ) → length (trailer body) ≡ 20
unfolding trailer le_bytes
length_trailer body = refl

pub length_counts : (n e bits : ℕ) → length (count_bytes n e bits) ≡ 17
unfolding count_bytes le_bytes
length_counts n e bits = refl

module _ (o : List ℕ) (at : ℕ) where
  pub count_parts : (n e bits : ℕ) → bits < 2 ^ 8 → {o₁ o₂ o₃ : List ℕ}
      → o₁ ≡ sets o at (le_bytes 8 n) → o₂ ≡ sets o₁ (at + 8) (le_bytes 8 e) → o₃ ≡ sets o₂ (at + 16) (le_bytes 1 bits) → Put o o₃ at (at + 17) (count_bytes n e bits)
  unfolding count_bytes
  count_parts n e bits small {o₁} {o₂} {o₃} a b c =
      let all : List ℕ = count_bytes n e bits in
      let one : le_bytes 1 bits ≡ bits ∷ [] = byte bits small in
      let len : length all ≡ 17 = length_counts n e bits in
      let p : at + 16 ≡ at + 8 + 8 = omega arith in
      let l₁ : Left o₁ (at + 8) (le_bytes 8 e ++ (bits ∷ [])) o at all = number 8 n (P.start o at all) a refl in
      let l₂ : Left o₂ (at + 16) (bits ∷ []) o at all = number 8 e l₁ b p in
      record { place = ap (λ (t : ℕ). at + t) (sym len); bytes = c ∙ ap (sets o₂ (at + 16)) one ∙ l₂.whole }

  pub tail_parts : (body : List ℕ) {o₁ o₂ o₃ : List ℕ}
      → o₁ ≡ sets o at (le_bytes 8 (xxh3 body)) → o₂ ≡ sets o₁ (at + 8) (le_bytes 4 (length body + 20)) → o₃ ≡ sets o₂ (at + 12) (le_bytes 8 kind.magic) → Put o o₃ at (at + 20) (trailer body)
  unfolding trailer le_bytes
  tail_parts body {o₁} {o₂} {o₃} a b c =
      let all : List ℕ = trailer body in
      let p : at + 12 ≡ at + 8 + 4 = omega arith in
      let l₁ : Left o₁ (at + 8) (le_bytes 4 (length body + 20) ++ kind.magic_bytes) o at all = number 8 (xxh3 body) (P.start o at all) a refl in
      let l₂ : Left o₂ (at + 12) kind.magic_bytes o at all = number 4 (length body + 20) l₁ b p in
      record { place = refl; bytes = c ∙ l₂.whole }
