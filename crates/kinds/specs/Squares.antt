-- Square QAM: 16, 64 or 256 points on a grid of evenly spaced coordinates.
use Rattle.std.specs.Prelude.{ℕ, zero, suc, ◌+◌, ◌-◌, ◌*◌, ◌^◌, cond, List, [], ◌∷◌, ◌++◌, map, Ok, Err, Result, ◌==◌}
use Rattle.refusal.specs.declared.Refusal.{Refusal}
use Rattle.refusal.specs.declared.Cause.TheVariants.{Size}
use Rattle.constellation.specs.Gray.{gray}
use Rattle.constellation.specs.Meaning.{Meaning}
use Rattle.constellation.specs.declared.Point.{Point}
use Rattle.kinds.specs.declared.square.Square.{Square}
use Rattle.kinds.specs.declared.square.Square.TheVariants.{Sixteen, SixtyFour, TwoFiftySix}

-- g: the smallest magnitude
abbrev pub step_of : Square → ℕ
step_of Sixteen = 324
step_of SixtyFour = 158
step_of TwoFiftySix = 79

-- n: how many magnitudes an axis has
abbrev pub side_of : Square → ℕ
side_of Sixteen = 2
side_of SixtyFour = 4
side_of TwoFiftySix = 8

-- m / 2: the bits of an axis, its sign and the index of the magnitude
abbrev pub half_of : Square → ℕ
half_of Sixteen = 2
half_of SixtyFour = 3
half_of TwoFiftySix = 4

-- the magnitude of an index, from 0, the outermost first
abbrev pub magnitude_of : Square → ℕ → ℕ
magnitude_of k i = (2 * (side_of k - 1 - i) + 1) * step_of k

-- the quadrant point of an imaginary and a real index. The label has a zero for the imaginary sign, the imaginary index in Gray code,
-- a zero for the real sign, and the real index in Gray code
abbrev pub on_grid : Square → ℕ → ℕ → Point
on_grid k i r = record { x = magnitude_of k r; y = magnitude_of k i; e = 2 ^ 20; label = gray i * 2 ^ half_of k + gray r }

-- n numbers from a on
abbrev pub counting : ℕ → ℕ → List ℕ
counting a zero = []
counting a (suc n) = a ∷ counting (suc a) n

-- for each of the imaginary indices, the points of every real index
abbrev pub rows : Square → List ℕ → List Point
rows k [] = []
rows k (i ∷ rest) = map (on_grid k i) (counting 0 (side_of k)) ++ rows k rest

abbrev pub grid : Square → List Point
grid k = rows k (counting 0 (side_of k))

abbrev pub square_meaning : Square → Meaning
square_meaning k = record { m = 2 * half_of k; u = 1; v = half_of k + 1; points = grid k }

-- what a number of points asks for
abbrev pub square_of : ℕ → Result Square Refusal
square_of n = cond (n == 16) (Ok Sixteen) (cond (n == 64) (Ok SixtyFour) (cond (n == 256) (Ok TwoFiftySix) (Err (record { cause = Size; place = 0 }))))
