use mathlib.Core.Path.{refl}
use Rattle.xxh3_spec.specs.Xxh3.{start_lanes}
use Rattle.xxh3_running.specs.Running.{new_state}
use Rattle.xxh3_running.proofs.new.Goals as goal

pub returns : goal.returns
unfolding new_state start_lanes
returns c = refl
