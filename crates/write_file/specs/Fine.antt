-- The edges of a batch without fault may be measured, and what is measured of them is the file's.
use Rattle.std.specs.Prelude.{◌≡◌, ℕ, List, Bool, true, false, length, Option, Some, None, Result, Ok, Err, ok_or}
use Rattle.std.proofs.Math.Path.{sym}
use Rattle.std.proofs.Common.{◌∙◌, arith}
use Rattle.base.specs.Over.{part, length_part}
use Rattle.base.specs.Bytes.{Bytes}
use Rattle.refusal.specs.declared.Refusal.{Refusal}
use Rattle.batch.specs.Batch.{heading_of, edges_of, batch_check, record_count}
use Rattle.batch_groups.specs.Groups.{groups_of, Grouped}
use Rattle.batch_groups.proofs.Laws.Groups.{grouped}
use Rattle.batch_groups.proofs.Laws.Order.{edges_count, batch_ordered, fine_long}
use Rattle.batch_faults.specs.Tally.{Clean}
use Rattle.write_plan.specs.declared.Plan.{Plan}
use Rattle.write_plan.specs.Size.{Tallied}
use Rattle.write_plan.specs.Parts.{length_file}
use Rattle.write_plan.specs.Bounds.{PlanFits, Measured, too_many, few, fits_measured, many_measured}
use Rattle.write_file.specs.Written.{file_in, needed_of}
use Rattle.write_file.specs.Written.Laws.{needed_many, needed_done}

-- the counts of a batch that may be written, or why it is refused
abbrev pub Planned : List ℕ → Result Plan Refusal → Type 0
Planned s (Ok p) = (batch_check s ≡ (Ok tt)) × PlanFits (edges_of s) p × Grouped 0 (groups_of (edges_of s))
Planned s (Err r) = Err r ≡ needed_of s

module _ (s : List ℕ) (f : batch_check s ≡ (Ok tt)) where
  pub ids_long : length (part s 2 50) ≡ 48
  ids_long = length_part s 2 50 (fine_long s f)

  module _ (p : Plan) (fits : PlanFits (edges_of s) p) where
    size : p.bytes ≡ length (file_in s)
    unfolding heading_of
    size =
        fits.size
        ∙ sym (length_file (heading_of s) (edges_of s) p.edges p.keys p.width p.partners p.dense p.dead fits.fitting ids_long)

    pub needed_is : Ok p.bytes ≡ needed_of s
    needed_is =
        let g = fits.fitting in
        let k = g.keys_is in
        let e = g.edges_is in
        let z = size in
        let x = fits.keys_few in
        let y = fits.edges_few in
        let w = fits.bytes_few in
        needed_done s f (few (heading_of s) (edges_of s) (omega arith) (omega arith) (omega arith)) p.bytes size

module _ (s : List ℕ) (b : Bytes s) (keys : ℕ) (dead : Bool) (c : Clean s keys dead) where
  pub in_groups : Grouped 0 (groups_of (edges_of s))
  in_groups = grouped (edges_of s) (batch_ordered s b c.check)

  pub ready : Tallied (edges_of s) (record_count s) keys dead × Grouped 0 (groups_of (edges_of s))
  ready = (record { edges_is = sym (edges_count s); keys_is = c.keys_are; dead_is = c.dead_is }, in_groups)

  pub planned : (m : Option Plan) → Measured (edges_of s) m → Planned s (ok_or m Refusal.Bounds)
  unfolding heading_of
  planned (Some p) m = (c.check, fits_measured (edges_of s) p m, in_groups)
  planned None m = needed_many s c.check (many_measured (edges_of s) m (heading_of s) (ids_long s c.check))
