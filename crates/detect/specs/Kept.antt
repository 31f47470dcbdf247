-- The value computed from what a record keeps of a symbol.
use Rattle.std.specs.Prelude.{ℕ, ◌^◌, Bool, true, false, List, ℤ, ◌-ℤ◌}
use Rattle.constellation.specs.Meaning.{Meaning}
use Rattle.metric.specs.Exhaustive.{at_bit}
use Rattle.observation.specs.declared.Record.{Record}
use Rattle.detect.specs.Tops.{coded, top_of, value_of}

-- the best doubled metric at position k = b
abbrev pub kept_best : Meaning → ℕ → Record → List ℤ → ℕ → Bool → ℤ
kept_best M s r priors k b = coded (top_of r s priors M.m M.u M.v k b M.points)

-- the extrinsic value of position k, at the shift s
unfoldable pub kept_value : Meaning → ℕ → Record → List ℤ → ℕ → ℤ
kept_value M s r priors k = value_of (2 ^ s) (at_bit priors k) (kept_best M s r priors k true -ℤ kept_best M s r priors k false)
