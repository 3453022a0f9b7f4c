use mathlib.Core.Path.{◌≡◌}
use Prim.Native.Nat.{ℕ, ◌≤◌, ◌<◌}
use native.Mathlib.Omega.{arith}
use mathlib.Core.List.{List}
use mathlib.Core.Bool.{Bool}
use lib.ListN.{length}
use Rattle.batch.specs.declared.Edge.{Edge}
use Rattle.batch_groups.specs.Groups.{groups_of}
use Rattle.write_image.specs.Image.{any_dense, partner_bytes, width_of}
use Rattle.batch.specs.Batch.{edges_of}
use Rattle.write_plan.specs.Size.{file_size, Tallied, Fitting}
use Rattle.write_plan.specs.Parts.{length_file}
use Rattle.write_plan.specs.Bounds.{many_keys, many_edges, many_bytes, Measured, measured_many, measured_fits}
use Rattle.write_plan.proofs.measure.Goals as goal
use Rattle.std.specs.Prelude.{Some, None}

module _ (es : List Edge) (n keys : ℕ) (dead : Bool) (t : Tallied es n keys dead) where
  too_many_edges : 67108864 < n → Measured es None
  too_many_edges l = measured_many es (λ h i. many_edges h es (omega (arith, t.edges_is)))

  too_many_keys : 16777216 < keys → Measured es None
  too_many_keys l = measured_many es (λ h i. many_keys h es (omega (arith, t.keys_is)))

  module _ (w partners : ℕ) (dense : Bool) (p : partners ≡ length (partner_bytes keys (groups_of es))) (d : dense ≡ any_dense keys (groups_of es)) (v : w ≡ width_of partners)
      (bytes : ℕ) (b : bytes ≡ file_size keys w partners n dead) where
    fitting : Fitting es n keys w partners dense dead
    fitting = record { edges_is = t.edges_is; keys_is = t.keys_is; bytes_is = p; width_is = v; dense_is = d; dead_is = t.dead_is }

    too_many_bytes : 1073741824 < bytes → Measured es None
    too_many_bytes l = measured_many es (λ h i. many_bytes h es (omega (arith, length_file h es n keys w partners dense dead fitting i)))

    fits : n ≤ 67108864 → keys ≤ 16777216 → bytes ≤ 1073741824
        → Measured es (Some (record { edges = n; keys = keys; width = w; partners = partners; dense = dense; dead = dead; bytes = bytes }))
    fits x y z = measured_fits es _ (record { fitting = fitting; size = b; keys_few = y; edges_few = x; bytes_few = z })

pub returns-then-n : goal.returns-then-n
returns-then-n c = let a = c.args in let es = edges_of a.batch.now in let t = c.requires.0 in too_many_edges es a.n a.keys a.dead t c.if-n.true

pub returns-then-keys : goal.returns-then-keys
returns-then-keys c = let a = c.args in let es = edges_of a.batch.now in let t = c.requires.0 in too_many_keys es a.n a.keys a.dead t c.if-keys.true

pub partners_size-total-requires : goal.partners_size-total-requires
partners_size-total-requires c = (c.requires.0.edges_is, omega arith, omega arith, c.requires.1)

pub returns-then-bytes : goal.returns-then-bytes
returns-then-bytes c =
    let a = c.args in let es = edges_of a.batch.now in let t = c.requires.0 in
    let z = c.partners_size-total.ensures in
    too_many_bytes es a.n a.keys a.dead t _ _ _ z.0 z.1 c.width_of-width.ensures.0 _ c.file_size-bytes.ensures c.if-bytes.true

pub returns : goal.returns
returns c =
    let a = c.args in let es = edges_of a.batch.now in let t = c.requires.0 in
    let z = c.partners_size-total.ensures in
    fits es a.n a.keys a.dead t _ _ _ z.0 z.1 c.width_of-width.ensures.0 _ c.file_size-bytes.ensures (omega arith) (omega arith) (omega arith)
