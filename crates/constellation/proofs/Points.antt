-- The point of a number keeps what each point keeps.
use Rattle.std.proofs.Common.{ℕ, length, arith}
use Rattle.std.proofs.ByRecursion.{All-get_or}
use Rattle.constellation.specs.Meaning.{Meaning, Lawful, Good, origin, place, nth}

pub good_nth : (M : Meaning) → Lawful M → (k : ℕ) → Good M.m M.u M.v (nth M.points k)
good_nth M L k = All-get_or _ M.points (place k (length M.points)) origin (omega (arith, L.some)) L.good
