-- The exhaustive Max-Log-MAP detector: every point of the constellation is tried, for every bit. All numbers are whole.
use Rattle.std.specs.Prelude.{◌≡◌, ℕ, zero, suc, ◌*◌, ◌/◌, ◌^◌, Bool, true, false, cond, List, [], ◌∷◌, ◌++◌, map, ℤ, pos, ◌+ℤ◌, ◌-ℤ◌, ◌*ℤ◌, neg_ℤ, Some, None, filter, Option, ◌==◌, slice_index_or}
use Rattle.std.specs.Bool.{beq}
use Rattle.std.specs.Int.Signed.{shr_z}
use Rattle.std.specs.Int.{int_max, int_min}
use Rattle.constellation.specs.Meaning.{Meaning, bit}
use Rattle.constellation.specs.declared.Point.{Point}

-- ---- complex numbers with whole parts
pub record Complex : Type 0 where
  pub re : ℤ
  pub im : ℤ

-- the product
abbrev pub times : Complex → Complex → Complex
times a b = record { re = a.re *ℤ b.re -ℤ a.im *ℤ b.im; im = a.re *ℤ b.im +ℤ a.im *ℤ b.re }

-- the difference
abbrev pub minus : Complex → Complex → Complex
minus a b = record { re = a.re -ℤ b.re; im = a.im -ℤ b.im }

-- a whole number times a complex one
abbrev pub scaled : ℤ → Complex → Complex
scaled k a = record { re = k *ℤ a.re; im = k *ℤ a.im }

-- the square of the absolute value
abbrev pub square : Complex → ℤ
square a = a.re *ℤ a.re +ℤ a.im *ℤ a.im

-- ---- what arrives
-- at one antenna: the received value, and the reference that a point is multiplied by on its way
pub record Antenna : Type 0 where
  pub received : Complex
  pub reference : Complex

-- of one symbol: what each antenna has, and a weight
pub record Symbol : Type 0 where
  pub antennas : List Antenna
  pub weight : ℕ

-- ---- the points
-- one of the four points that a quadrant point stands for: `left` where its real part is turned, `low` where its imaginary part is
pub record Corner : Type 0 where
  pub of : Point
  pub left : Bool
  pub low : Bool

-- the four points of a quadrant point
abbrev pub corners : Point → List Corner
corners q =
    record { of = q; left = false; low = false }
    ∷ record { of = q; left = true; low = false }
    ∷ record { of = q; left = false; low = true }
    ∷ record { of = q; left = true; low = true }
    ∷ []

-- the points of all quadrant points
abbrev pub all_points : List Point → List Corner
all_points [] = []
all_points (q ∷ qs) = corners q ++ all_points qs

-- n, turned or not
abbrev pub signed : Bool → ℤ → ℤ
signed false n = n
signed true n = neg_ℤ n

-- where a point stands in the complex plane
abbrev pub place : Corner → Complex
place p = record { re = signed p.left (pos p.of.x); im = signed p.low (pos p.of.y) }

-- whether bit j of a label of m bits is 1; bits are counted from 1, the most significant
abbrev pub label_bit : ℕ → ℕ → ℕ → Bool
label_bit m label j = bit m j label == 1

-- whether bit j of a point is 1: bit v in the two points on the left, bit u in the two low ones, else the label's bit
abbrev pub point_bit : Meaning → Corner → ℕ → Bool
point_bit C p j = cond (j == C.v) p.left (cond (j == C.u) p.low (label_bit C.m p.of.label j))

-- ---- the a priori values; A j is that of bit j
-- a list of a priori values as such a function: its first entry is that of bit 1
abbrev pub at_bit : List ℤ → ℕ → ℤ
at_bit xs zero = pos 0
at_bit xs (suc j) = slice_index_or xs j (pos 0)

-- f 1 + f 2 + .. + f n
unfoldable pub sum_to : ℕ → (ℕ → ℤ) → ℤ
sum_to zero f = pos 0
sum_to (suc n) f = sum_to n f +ℤ f (suc n)

-- the sum of the a priori values of a point's bits that are 1
abbrev pub prior : Meaning → (ℕ → ℤ) → Corner → ℤ
prior C A p = sum_to C.m (λ j. cond (point_bit C p j) (A j) (pos 0))

-- ---- the metric
-- the sum over the antennas of |1024 · received − c · reference|²
unfoldable pub distance : Complex → List Antenna → ℤ
distance c [] = pos 0
distance c (a ∷ rest) = square (minus (scaled (pos 1024) a.received) (times c a.reference)) +ℤ distance c rest

-- the weight of a distance: the symbol's, over the point's noise energy, rounded down
abbrev pub weighed : Symbol → Point → ℕ
weighed sym q = (sym.weight * 2 ^ 20) / q.e

-- the metric of a point: its weighed distance turned, and S times its a priori values
unfoldable pub metric : Meaning → ℕ → Symbol → (ℕ → ℤ) → Corner → ℤ
metric C S sym A p = neg_ℤ (pos (weighed sym p.of) *ℤ distance (place p) sym.antennas) +ℤ pos S *ℤ prior C A p

-- ---- the largest metric
-- the greater of two numbers, where there may be none
abbrev pub greater : Option ℤ → Option ℤ → Option ℤ
greater None b = b
greater (Some a) None = Some a
greater (Some a) (Some b) = Some (int_max a b)

-- the largest number of a list; of no number, `None`
abbrev pub largest : List ℤ → Option ℤ
largest [] = None
largest (a ∷ rest) = greater (Some a) (largest rest)

-- the largest metric over the points whose bit k is b; `None` if there is no such point
unfoldable pub best : Meaning → ℕ → Symbol → (ℕ → ℤ) → ℕ → Bool → Option ℤ
best C S sym A k b = largest (map (metric C S sym A) (filter (λ p. beq (point_bit C p k) b) (all_points C.points)))

-- ---- the extrinsic value
-- the difference of two numbers, where there are both
abbrev pub apart : Option ℤ → Option ℤ → Option ℤ
apart None b = None
apart (Some a) None = None
apart (Some a) (Some b) = Some (a -ℤ b)

-- f of a number, where there is one
abbrev pub mapped : (ℤ → ℤ) → Option ℤ → Option ℤ
mapped f None = None
mapped f (Some a) = Some (f a)

-- z, held within −8191 to 8191
abbrev pub clipped : ℤ → ℤ
clipped z = int_max (neg_ℤ (pos 8191)) (int_min (pos 8191) z)

-- d over S, rounded to the nearest with halves upward, and held: `shr_z z n` is z / n rounded down
abbrev pub rounded : ℕ → ℤ → ℤ
rounded S d = clipped (shr_z (pos 2 *ℤ d +ℤ pos S) (2 * S))

-- the extrinsic value of bit k: the largest metric at 1 less the largest at 0, less the bit's own part, over S;
-- `None` where no point has bit k = 1, or none has bit k = 0
unfoldable pub extrinsic : Meaning → ℕ → Symbol → (ℕ → ℤ) → ℕ → Option ℤ
extrinsic C S sym A k = mapped (λ D. rounded S (D -ℤ pos S *ℤ A k)) (apart (best C S sym A k true) (best C S sym A k false))

-- ---- where there is one
-- some element passes the test
abbrev pub some_of : {X : Type 0} → (X → Bool) → List X → Bool
some_of t [] = false
some_of t (x ∷ xs) = cond (t x) true (some_of t xs)

-- some point has bit k = b
unfoldable pub seen : Meaning → ℕ → Bool → Bool
seen C k b = some_of (λ p. beq (point_bit C p k) b) (all_points C.points)

-- where both values of bit k occur, there is an extrinsic value
abbrev pub Answers : Type 0
Answers = (C : Meaning) (S : ℕ) (sym : Symbol) (A : ℕ → ℤ) (k : ℕ) → seen C k true ≡ true → seen C k false ≡ true → (l : ℤ) × (extrinsic C S sym A k ≡ Some l)
