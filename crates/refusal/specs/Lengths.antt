-- What the test of a length answers.
use Rattle.std.specs.Prelude.{ℕ, cond, Ok, Err, Result, ◌==◌}
use Rattle.refusal.specs.declared.Refusal.{Refusal}
use Rattle.refusal.specs.declared.Cause.TheVariants.{Length}

-- the needed length, or the refusal that names it
abbrev pub length_reply : ℕ → ℕ → Result (Unit {0}) Refusal
length_reply n needed = cond (n == needed) (Ok tt) (Err (record { cause = Length; place = needed }))
