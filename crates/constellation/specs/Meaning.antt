-- What a constellation means: the number of bits of a label, the positions of the two sign bits, and the points of the first quadrant.
use Rattle.std.specs.Prelude.{◌≡◌, ℕ, ◌-◌, ◌/◌, ◌%◌, ◌^◌, ◌<◌, ◌≤◌, min, List, length, slice_index_or}
use Rattle.std.specs.List.{AllByRecursion}
use Rattle.constellation.specs.declared.Point.{Point}

-- m: bits of a label. u: the position of the imaginary sign. v: that of the real sign.
-- Each quadrant point (x, y) stands for (±x, ±y): bit v is 1 in the two with −x, bit u in the two with −y.
pub record Meaning : Type 0 where
  pub m : ℕ
  pub u : ℕ
  pub v : ℕ
  pub points : List Point

-- bit j of a label of m bits, counted from 1, the most significant
abbrev pub bit : ℕ → ℕ → ℕ → ℕ
bit m j l = (l / 2 ^ (m - j)) % 2

-- what stands past the end of a list of points
abbrev pub origin : Point
origin = record { x = 0; y = 0; e = 0; label = 0 }

-- the index that a number stands for: 0 is the first, a number past the end the last
abbrev pub place : ℕ → ℕ → ℕ
place n size = min (n - 1) (size - 1)

-- the point of a number, counted from 1
abbrev pub nth : List Point → ℕ → Point
nth ps n = slice_index_or ps (place n (length ps)) origin

-- what each quadrant point keeps
pub record Good (m u v : ℕ) (p : Point) : Type 0 where
  pub x_most : p.x ≤ 4095
  pub y_most : p.y ≤ 4095
  pub e_least : 2 ^ 20 ≤ p.e
  pub e_most : p.e ≤ 2 ^ 27
  pub fits : p.label < 2 ^ m
  pub u_zero : bit m u p.label ≡ 0
  pub v_zero : bit m v p.label ≡ 0

-- some point carries the label l
abbrev pub Carried : List Point → ℕ → Type 0
Carried ps l = (k : ℕ) × (k < length ps) × ((slice_index_or ps k origin).label ≡ l)

-- the laws of every constellation
pub record Lawful (M : Meaning) : Type 0 where
  pub m_least : 2 ≤ M.m
  pub m_most : M.m ≤ 8
  pub u_least : 1 ≤ M.u
  pub u_most : M.u ≤ M.m
  pub v_least : 1 ≤ M.v
  pub v_most : M.v ≤ M.m
  pub apart : M.u ≡ M.v → ⊥
  pub some : 1 ≤ length M.points
  pub few : length M.points ≤ 64
  pub good : AllByRecursion (Good M.m M.u M.v) M.points
  pub carried : (l : ℕ) → l < 2 ^ M.m → bit M.m M.u l ≡ 0 → bit M.m M.v l ≡ 0 → Carried M.points l
