-- Which shift a number makes.
use Rattle.std.specs.Prelude.{◌≡◌, ℕ, true, false, Ok, Err, Result, nat_le}
use Rattle.refusal.specs.declared.Cause.TheVariants.{Shift as BadShift}
use Rattle.refusal.specs.declared.Refusal.{Refusal}
use Rattle.observation.specs.declared.shift.Shift.{Shift}

-- the number itself up to 40, and above it the refusal
abbrev pub MakesShift : ℕ → Result Shift Refusal → Type 0
MakesShift n (Ok s) = (nat_le n 40 ≡ true) × (s.exponent ≡ n)
MakesShift n (Err e) = (nat_le n 40 ≡ false) × (e ≡ record { cause = BadShift; place = 0 })
