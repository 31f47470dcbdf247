-- Examples that were worked by hand: labels and points of constellations, weights, and the values that leave the detector.
use Rattle.std.specs.Prelude.{◌≡◌, ℕ, List, [], ◌∷◌, map, ℤ, pos, neg_ℤ, Some, None, Option}
use Rattle.constellation.specs.Meaning.{Meaning, bit, nth}
use Rattle.kinds.specs.Squares.{counting}
use Rattle.catalogue.specs.Modes.{mode_meaning}
use Rattle.metric.specs.Exhaustive.{Complex, Symbol, weighed}
use Rattle.metric.specs.Value.{extrinsic_value, posterior_value}

-- ---- how the examples are written
-- a constellation of the catalogue; one that has no points where there is none
abbrev pub or_empty : Option Meaning → Meaning
or_empty None = record { m = 0; u = 0; v = 0; points = [] }
or_empty (Some M) = M

abbrev pub mode : ℕ → Meaning
mode k = or_empty (mode_meaning k)

-- bits j, j + 1 and so on of a label of m bits, n of them
abbrev pub digits : ℕ → ℕ → ℕ → ℕ → List ℕ
digits m j n l = map (λ i. bit m i l) (counting j n)

abbrev pub minus : ℕ → ℤ
minus n = neg_ℤ (pos n)

abbrev pub at : ℤ → ℤ → Complex
at a b = record { re = a; im = b }

-- y received over the reference h at one antenna, with the weight w
abbrev pub heard : Complex → Complex → ℕ → Symbol
heard y h w = record { antennas = record { received = y; reference = h } ∷ []; weight = w }

-- the extrinsic values of all positions, and the posterior values, at the shift s
abbrev pub extrinsics : Meaning → ℕ → Symbol → List ℤ → List ℤ
extrinsics M s sym priors = map (extrinsic_value M s sym priors) (counting 1 M.m)

abbrev pub posteriors : Meaning → ℕ → Symbol → List ℤ → List ℤ
posteriors M s sym priors = map (posterior_value M s sym priors) (counting 1 M.m)

-- ---- constellations
-- four ratios over PSK 16, at exponents -3, -2 and -1: the last two bits of a label
abbrev pub RatioCodes : Type 0
RatioCodes = map (λ n. digits 6 5 2 (nth (mode 10).points n).label) (1 ∷ 5 ∷ 9 ∷ []) ≡ (0 ∷ 1 ∷ []) ∷ (1 ∷ 1 ∷ []) ∷ (1 ∷ 0 ∷ []) ∷ []

-- (946, 392) in two rings
abbrev pub RingPoints : Type 0
RingPoints =
    (((nth (mode 2).points 1).x ≡ 946) × ((nth (mode 2).points 1).y ≡ 392))
    × (((nth (mode 7).points 1).x ≡ 599) × ((nth (mode 7).points 1).y ≡ 248))
    × (((nth (mode 7).points 3).x ≡ 1196) × ((nth (mode 7).points 3).y ≡ 496))

-- square QAM with 16 points: the whole quadrant, and its labels bit by bit
abbrev pub SquarePoints : Type 0
SquarePoints =
    (map (λ p. p.x) (mode 4).points ≡ 972 ∷ 324 ∷ 972 ∷ 324 ∷ [])
    × (map (λ p. p.y) (mode 4).points ≡ 972 ∷ 972 ∷ 324 ∷ 324 ∷ [])
    × (map (λ p. digits 4 1 4 p.label) (mode 4).points ≡ (0 ∷ 0 ∷ 0 ∷ 0 ∷ []) ∷ (0 ∷ 0 ∷ 0 ∷ 1 ∷ []) ∷ (0 ∷ 1 ∷ 0 ∷ 0 ∷ []) ∷ (0 ∷ 1 ∷ 0 ∷ 1 ∷ []) ∷ [])

-- two ratios over PSK 8 at the weight 1000: the weight at each quadrant point
abbrev pub RatioWeights : Type 0
RatioWeights = map (weighed (heard (at (pos 200) (pos 0)) (at (pos 100) (pos 0)) 1000)) (mode 9).points ≡ 800 ∷ 800 ∷ 500 ∷ 500 ∷ 200 ∷ 200 ∷ []

-- ---- values
-- PSK 4, y = 100 + 50i, h = 100, w = 1, s = 24; then with a priori values
abbrev pub PskValues : Type 0
PskValues =
    (extrinsics (mode 1) 24 (heard (at (pos 100) (pos 50)) (at (pos 100) (pos 0)) 1) (pos 0 ∷ pos 0 ∷ []) ≡ minus 884 ∷ minus 1768 ∷ [])
    × (posteriors (mode 1) 24 (heard (at (pos 100) (pos 50)) (at (pos 100) (pos 0)) 1) (pos 100 ∷ minus 50 ∷ []) ≡ minus 784 ∷ minus 1818 ∷ [])

-- PSK 4, y = i, then y = -i, h = 1, w = 1, s = 15: a half is rounded up
abbrev pub HalfValues : Type 0
HalfValues =
    (extrinsics (mode 1) 15 (heard (at (pos 0) (pos 1)) (at (pos 1) (pos 0)) 1) (pos 0 ∷ pos 0 ∷ []) ≡ minus 90 ∷ pos 0 ∷ [])
    × (extrinsics (mode 1) 15 (heard (at (pos 0) (minus 1)) (at (pos 1) (pos 0)) 1) (pos 0 ∷ pos 0 ∷ []) ≡ pos 91 ∷ pos 0 ∷ [])

-- square QAM with 16 points, y = 0, h = 1, w = 1, s = 10
abbrev pub SquareValues : Type 0
SquareValues = extrinsics (mode 4) 10 (heard (at (pos 0) (pos 0)) (at (pos 1) (pos 0)) 1) (pos 0 ∷ pos 0 ∷ pos 0 ∷ pos 0 ∷ []) ≡ pos 0 ∷ pos 820 ∷ pos 0 ∷ pos 820 ∷ []

-- two ratios over PSK 8, y = 200, h = 100, w = 1000: at s = 32, and at s = 30, where two values are held at the limit
abbrev pub RatioValues : Type 0
RatioValues =
    (extrinsics (mode 9) 32 (heard (at (pos 200) (pos 0)) (at (pos 100) (pos 0)) 1000) (pos 0 ∷ pos 0 ∷ pos 0 ∷ pos 0 ∷ []) ≡ pos 0 ∷ minus 5104 ∷ minus 2113 ∷ pos 1295 ∷ [])
    × (extrinsics (mode 9) 30 (heard (at (pos 200) (pos 0)) (at (pos 100) (pos 0)) 1000) (pos 0 ∷ pos 0 ∷ pos 0 ∷ pos 0 ∷ []) ≡ pos 0 ∷ minus 8191 ∷ minus 8191 ∷ pos 5180 ∷ [])

-- the whole table
abbrev pub Worked : Type 0
Worked = RatioCodes × RingPoints × SquarePoints × RatioWeights × PskValues × HalfValues × SquareValues × RatioValues
