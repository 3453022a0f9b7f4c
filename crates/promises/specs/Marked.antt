-- Document 01's twelve marked cases, one table, computed through the definitions.
use Rattle.std.specs.Prelude.{◌≡◌, ℕ, zero, suc, ◌+◌, ◌-◌, ◌*◌, ◌^◌, List, [], ◌∷◌, ◌++◌, true, false, length, leb, Ok, Err}
use Rattle.codes.specs.declared.ids.Id.{Id}
use Rattle.codes.specs.declared.varint.Unread.TheVariants.{Long}
use Rattle.codes.specs.Varint.{varint_at, var_bytes}
use Rattle.frame.proofs.Laws.Cases.{ids, heading_only, one_edge}
use Rattle.group.specs.Group.{good, group_of}
use Rattle.lookup.specs.Lookup.{group_check}
use Rattle.write_image.specs.Image.{split_cost, is_dense, group_bytes}
use Rattle.write_file.specs.Written.{needed_of}
use Rattle.demand2.specs.Demand2.{file_for}
use Rattle.promises.specs.Given.{Gives}

abbrev id : ℕ → ℕ → Id
id hi lo = record { hi = hi; lo = lo }

-- a batch of a forward heading
unfoldable pub empty : List ℕ
empty = 3 ∷ 0 ∷ ids

-- the record of a live edge of key 1, k and partner p, 1, with log number 7
unfoldable pub live : ℕ → ℕ → List ℕ
live k p = 1 ∷ 0 ∷ 0 ∷ 0 ∷ 0 ∷ 0 ∷ 0 ∷ 0 ∷ 1 ∷ 0 ∷ 0 ∷ 0 ∷ 0 ∷ 0 ∷ 0 ∷ 0 ∷ k
    ∷ 0 ∷ 0 ∷ 0 ∷ 0 ∷ 0 ∷ 0 ∷ 0 ∷ p ∷ 0 ∷ 0 ∷ 0 ∷ 0 ∷ 0 ∷ 0 ∷ 0 ∷ 1 ∷ 7 ∷ 0 ∷ 0 ∷ 0 ∷ 0 ∷ 0 ∷ 0 ∷ 0 ∷ []

-- and one edge, of key 1, 2 and partner 5, 1
unfoldable pub one : List ℕ
one = empty ++ live 2 5

-- two partners of the upper half 5, with the lower halves a and b
abbrev two : ℕ → ℕ → List ℕ
two a b = 2 ∷ 1 ∷ 5 ∷ a ∷ 0 ∷ 0 ∷ 0 ∷ 0 ∷ 0 ∷ 0 ∷ 0 ∷ 0 ∷ b ∷ 0 ∷ 0 ∷ 0 ∷ 0 ∷ 0 ∷ 0 ∷ 0 ∷ []

-- n partners of the upper half 5, with the lower halves from lo on
unfoldable pub rising : ℕ → ℕ → List Id
rising zero lo = []
rising (suc n) lo = id 5 lo ∷ rising n (lo + 1)

pub record Marked : Type 0 where
  -- "1. Varint 0: `00`. 2. 127: `7F`. 3. 128: `80 01`. 4. 300: `Ac 02`."
  pub c1 : (var_bytes 0 ≡ 0x00 ∷ []) × (varint_at (0x00 ∷ []) 0 ≡ Ok (0, 1))
  pub c2 : (var_bytes 127 ≡ 0x7f ∷ []) × (varint_at (0x7f ∷ []) 0 ≡ Ok (127, 1))
  pub c3 : (var_bytes 128 ≡ 0x80 ∷ 0x01 ∷ []) × (varint_at (0x80 ∷ 0x01 ∷ []) 0 ≡ Ok (128, 2))
  pub c4 : (var_bytes 300 ≡ 0xac ∷ 0x02 ∷ []) × (varint_at (0xac ∷ 0x02 ∷ []) 0 ≡ Ok (300, 2))
  -- "5. `80 00` is refused": as a group's degree, 34 at byte 0 of the group
  pub c5 : (varint_at (0x80 ∷ 0x00 ∷ []) 0 ≡ Err Long) × ((g : ℕ) → Gives Err (group_check g (group_of (0x80 ∷ 0x00 ∷ []))) 34 0 g)
  -- "6. One partner, upper half 2^49 − 1: cost 15, split. 7. 2^49: cost 16, dense."
  pub c6 : (split_cost 0 (id (2 ^ 49 - 1) 1 ∷ []) ≡ 15) × (is_dense 1 (id (2 ^ 49 - 1) 1 ∷ []) ≡ false)
  pub c7 : (split_cost 0 (id (2 ^ 49) 1 ∷ []) ≡ 16) × (is_dense 1 (id (2 ^ 49) 1 ∷ []) ≡ true)
  -- "8. Two partners, upper halves 5 and 5, lower 1 and 2: .., 20 bytes."
  pub c8 : (group_bytes 1 (id 5 1 ∷ id 5 2 ∷ []) ≡ two 1 2) × (length (two 1 2) ≡ 20) × (group_of (two 1 2) ≡ good false (id 5 1 ∷ id 5 2 ∷ []))
  -- "9. The same with lower 2 and 2": 29 at the second partner, byte 11 of the group
  pub c9 : (g : ℕ) → Gives Err (group_check g (group_of (two 2 2))) 29 11 g
  -- "10. Degree 1,025 with 65,536 keys is dense; 1,024 isn't forced": any 1,025 partners; and 1,024 by their cost alone, so that
  -- those of the upper half 5 are split
  pub c10 : ((ps : List Id) → length ps ≡ 1025 → is_dense 65536 ps ≡ true)
      × ((ps : List Id) → length ps ≡ 1024 → is_dense 65536 ps ≡ leb (16 * 1024) (split_cost 0 ps)) × (is_dense 65536 (rising 1024 1) ≡ false)
  -- "11. Heading-only batch: 218 bytes. 12. One live edge with partner upper half 5: 256 bytes.": from the batch's bytes
  pub c11 : (file_for empty ≡ heading_only) × (needed_of empty ≡ Ok 218)
  pub c12 : (file_for one ≡ one_edge) × (needed_of one ≡ Ok 256)
