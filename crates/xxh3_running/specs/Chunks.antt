-- What users may rely on: chunks, however they are cut, have the sum of their bytes in a row; asking for it midway changes nothing; 27 is
-- given exactly past 2^30 bytes, and then the state stays.
use Rattle.std.specs.Prelude.{ℕ, ◌+◌, List, [], ◌∷◌, ◌++◌, leb, length}
use Rattle.base.specs.Pick.{pick}
use Rattle.xxh3_spec.specs.Xxh3.{xxh3}
use Rattle.xxh3_running.specs.declared.State.{State}
use Rattle.xxh3_running.specs.Running.{most_fed, feed_of, sum_of}
use Rattle.refusal.specs.Check.{Check}

-- ---- chunks one after the other

-- their bytes in a row
unfoldable pub in_row : List (List ℕ) → List ℕ
in_row [] = []
in_row (c ∷ cs) = c ++ in_row cs

-- the state after them
unfoldable pub feed_all : State → List (List ℕ) → State
feed_all st [] = st
feed_all st (c ∷ cs) = feed_all (feed_of st c).state cs

-- what was told of each
unfoldable pub told_all : State → List (List ℕ) → List Check
told_all st [] = []
told_all st (c ∷ cs) = (feed_of st c).told ∷ told_all (feed_of st c).state cs

-- ---- sums asked for midway

-- what a user does with a state: another chunk, or a question for the sum
pub data Step : Type 0 where
  Feed : List ℕ → Step
  Ask : Step

-- the answers, in their order
unfoldable pub answers : State → List Step → List ℕ
answers st [] = []
answers st (Feed c ∷ ss) = answers (feed_of st c).state ss
answers st (Ask ∷ ss) = sum_of st ∷ answers st ss

-- the bytes s with a chunk more, where it is taken
abbrev pub taking : List ℕ → List ℕ → List ℕ
taking s c = pick (leb (length s + length c) most_fed) (s ++ c) s

-- the sums of all bytes that were taken before each question
unfoldable pub sums_before : List ℕ → List Step → List ℕ
sums_before s [] = []
sums_before s (Feed c ∷ ss) = sums_before (taking s c) ss
sums_before s (Ask ∷ ss) = xxh3 s ∷ sums_before s ss
