-- Phase-shift keying: 4, 8 or 16 points on one circle. Coordinates are 1024 times cosine and sine, to the nearest whole number.
use Rattle.std.specs.Prelude.{ℕ, ◌^◌, cond, List, [], ◌∷◌, Ok, Err, Result, ◌==◌}
use Rattle.refusal.specs.declared.Refusal.{Refusal}
use Rattle.refusal.specs.declared.Cause.TheVariants.{Size}
use Rattle.constellation.specs.Gray.{gray}
use Rattle.constellation.specs.Meaning.{Meaning}
use Rattle.constellation.specs.declared.Point.{Point}
use Rattle.kinds.specs.declared.psk.Psk.{Psk}
use Rattle.kinds.specs.declared.psk.Psk.TheVariants.{Four, Eight, Sixteen}

-- the quadrant point of an index, from 0: after the two signs its label has the index in Gray code
abbrev pub on_circle : ℕ → ℕ → ℕ → Point
on_circle i a b = record { x = a; y = b; e = 2 ^ 20; label = gray i }

abbrev pub circle : Psk → List Point
circle Four = on_circle 0 724 724 ∷ []
circle Eight = on_circle 0 946 392 ∷ on_circle 1 392 946 ∷ []
circle Sixteen = on_circle 0 1004 200 ∷ on_circle 1 851 569 ∷ on_circle 2 569 851 ∷ on_circle 3 200 1004 ∷ []

abbrev pub psk_bits : Psk → ℕ
psk_bits Four = 2
psk_bits Eight = 3
psk_bits Sixteen = 4

abbrev pub psk_meaning : Psk → Meaning
psk_meaning k = record { m = psk_bits k; u = 1; v = 2; points = circle k }

-- what a number of points asks for
abbrev pub psk_of : ℕ → Result Psk Refusal
psk_of n = cond (n == 4) (Ok Four) (cond (n == 8) (Ok Eight) (cond (n == 16) (Ok Sixteen) (Err (record { cause = Size; place = 0 }))))
