-- Each public contract of the crate leaves one result and one content of lent memory.
use mathlib.Core.Path.{◌≡◌, refl, sym, ap, ◌∙◌}
use Prim.Native.Nat.{ℕ}
use native.Mathlib.Omega.{arith}
use mathlib.Core.List.{List}
use mathlib.Core.Bool.{true≢false}
use lib.ListN.{length, replicate, length-replicate}
use Rattle.batch.specs.declared.Edge.{Edge}
use Rattle.batch.specs.Batch.{Heading}
use Rattle.batch_groups.specs.Groups.{groups_of}
use Rattle.write_image.specs.Image.{any_dense, partner_bytes, width_of}
use Rattle.write_plan.specs.declared.Plan.{Plan}
use Rattle.write_plan.specs.Size.{file_size}
use Rattle.write_plan.specs.Parts.{length_file}
use Rattle.write_plan.specs.Bounds.{few, PlanFits, Measured, fits_measured, many_measured}
use Rattle.base.proofs.Determined.{Determined}
use Rattle.write_plan.specs.contracts.measure as measure
use Rattle.write_plan.proofs.measure.Reads as measure_reads
use Rattle.write_plan.specs.contracts.tomb_size as tomb_size
use Rattle.write_plan.proofs.tomb_size.Reads as tomb_size_reads
use Rattle.write_plan.specs.contracts.fences_size as fences_size
use Rattle.write_plan.proofs.fences_size.Reads as fences_size_reads
use Rattle.write_plan.specs.contracts.section_count as section_count
use Rattle.write_plan.proofs.section_count.Reads as section_count_reads
use Rattle.std.specs.Prelude.{Option, Some, None}

pub tomb_size_determined : Determined tomb_size.ended tomb_size_reads.Pre tomb_size_reads.Post
tomb_size_determined κs a pre r₁ r₂ w₁ w₂ p q = (p.0 ∙ sym q.0, refl)

pub fences_size_determined : Determined fences_size.ended fences_size_reads.Pre fences_size_reads.Post
fences_size_determined κs a pre r₁ r₂ w₁ w₂ p q = (p.0 ∙ sym q.0, refl)

pub section_count_determined : Determined section_count.ended section_count_reads.Pre section_count_reads.Post
section_count_determined κs a pre r₁ r₂ w₁ w₂ p q = (p.0 ∙ sym q.0, refl)

-- counts that fit are those of the edges
fits_one : (es : List Edge) (p q : Plan) → PlanFits es p → PlanFits es q → p ≡ q
fits_one es p q f g =
    let a = f.fitting in
    let b = g.fitting in
    let edges : p.edges ≡ q.edges = a.edges_is ∙ sym b.edges_is in
    let keys : p.keys ≡ q.keys = a.keys_is ∙ sym b.keys_is in
    let partners : p.partners ≡ q.partners = a.bytes_is ∙ ap (λ (n : ℕ). length (partner_bytes n (groups_of es))) keys ∙ sym b.bytes_is in
    let width : p.width ≡ q.width = a.width_is ∙ ap width_of partners ∙ sym b.width_is in
    let dense : p.dense ≡ q.dense = a.dense_is ∙ ap (λ (n : ℕ). any_dense n (groups_of es)) keys ∙ sym b.dense_is in
    let dead : p.dead ≡ q.dead = a.dead_is ∙ sym b.dead_is in
    let bytes : p.bytes ≡ q.bytes = f.size ∙ (λ i. file_size (keys i) (width i) (partners i) (edges i) (dead i)) ∙ sym g.size in
    (λ i. record { edges = edges i; keys = keys i; width = width i; partners = partners i; dense = dense i; dead = dead i; bytes = bytes i })

-- and edges that fit are not too many
not_both : (es : List Edge) (p : Plan) → PlanFits es p → Measured es None → ⊥
not_both es p f m =
    let h : Heading = record { direction = 0; ids = replicate 48 0 } in
    let i : length h.ids ≡ 48 = length-replicate {0} {A = ℕ} 48 0 in
    let a = f.fitting in
    let k = a.keys_is in
    let e = a.edges_is in
    let x = f.keys_few in
    let y = f.edges_few in
    let z = f.bytes_few in
    let s = f.size in
    let l = length_file h es p.edges p.keys p.width p.partners p.dense p.dead a i in
    true≢false (sym (many_measured es m h i) ∙ few h es (omega arith) (omega arith) (omega arith))

measured_one : (es : List Edge) (r t : Option Plan) → Measured es r → Measured es t → r ≡ t
measured_one es (Some p) (Some q) m n = ap Some (fits_one es p q (fits_measured es p m) (fits_measured es q n))
measured_one es (Some p) None m n = absurd (not_both es p (fits_measured es p m) n)
measured_one es None (Some q) m n = absurd (not_both es q (fits_measured es q n) m)
measured_one es None None m n = refl

pub measure_determined : Determined measure.ended measure_reads.Pre measure_reads.Post
measure_determined κs a pre r₁ r₂ w₁ w₂ p q = (measured_one _ _ _ p q, refl)
