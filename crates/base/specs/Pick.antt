-- One of two values, by a test: `pick (ltb m n) a b` is a where m is below n, otherwise b.
use Rattle.std.specs.Prelude.{Bool, true, false}

abbrev pub pick {ℓ} : {X : Type ℓ} → Bool → X → X → X
pick true a b = a
pick false a b = b
