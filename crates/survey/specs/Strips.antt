-- Survey strips (02, Q-9): "On each axis the survey strip is free, has a lower stop, an upper stop, or both, as floats, its stops belonging to it."
use Rattle.std.specs.Prelude.{Bool, true, ◌&&◌, Float}
use Rattle.std.specs.Float.Ieee.{le}
use Rattle.floats.specs.Values.{finite}
use Rattle.survey.specs.declared.Strip.{Strip}
use Rattle.survey.specs.declared.Strip.TheVariants.{Free, From, To, Between}

-- two finite floats, the first not above the second
abbrev pub ordered : Float → Float → Bool
ordered low high = finite low && finite high && le low high

-- 21 does not apply: "a stop not finite or the lower above the upper"
abbrev pub sound_strip : Strip → Bool
sound_strip Free = true
sound_strip (From a) = finite a
sound_strip (To b) = finite b
sound_strip (Between a b) = ordered a b

-- the closed extent from low to high meets the strip: some value lies in both (specs/Theorems.antt, `kept`)
abbrev pub meets_strip : Strip → Float → Float → Bool
meets_strip Free low high = true
meets_strip (From a) low high = le a high
meets_strip (To b) low high = le low b
meets_strip (Between a b) low high = le a high && le low b
