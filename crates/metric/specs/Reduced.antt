-- The reduced way: quadrant points only. Metrics are doubled, and of a quadrant point's four only the best is formed.
use Rattle.std.specs.Prelude.{◌≡◌, ℕ, ◌*◌, ◌≤◌, Bool, true, false, cond, ◌≢◌, List, [], ◌∷◌, ℤ, pos, ◌+ℤ◌, ◌-ℤ◌, ◌*ℤ◌, neg_ℤ, Some, None, Option, ◌==◌, unsigned_abs}
use Rattle.std.specs.Bool.{beq}
use Rattle.std.specs.Int.Signed.{shr_z}
use Rattle.std.specs.List.{AllByRecursion}
use Rattle.constellation.specs.Meaning.{Meaning}
use Rattle.constellation.specs.declared.Point.{Point}
use Rattle.metric.specs.Exhaustive.{mapped, Complex, Antenna, Symbol, times, square, signed, label_bit, sum_to, weighed, greater, best, apart, clipped, extrinsic}

-- the energy of the received values: the sum over the antennas of |received|²
unfoldable pub energy_y : List Antenna → ℤ
energy_y [] = pos 0
energy_y (a ∷ rest) = square a.received +ℤ energy_y rest

-- the energy of the references
unfoldable pub energy_h : List Antenna → ℤ
energy_h [] = pos 0
energy_h (a ∷ rest) = square a.reference +ℤ energy_h rest

-- the conjugate
abbrev pub conj : Complex → Complex
conj a = record { re = a.re; im = neg_ℤ a.im }

-- the sum
abbrev pub plus : Complex → Complex → Complex
plus a b = record { re = a.re +ℤ b.re; im = a.im +ℤ b.im }

-- the received values matched to the references: the sum over the antennas of received · the reference's conjugate
unfoldable pub matched : List Antenna → Complex
matched [] = record { re = pos 0; im = pos 0 }
matched (a ∷ rest) = plus (times a.received (conj a.reference)) (matched rest)

-- the absolute value
abbrev pub absolute : ℤ → ℤ
absolute z = pos (unsigned_abs z)

-- the sum of the a priori values of the label's bits that are 1
abbrev pub label_prior : Meaning → (ℕ → ℤ) → Point → ℤ
label_prior C A q = sum_to C.m (λ j. cond (label_bit C.m q.label j) (A j) (pos 0))

-- what the doubled metrics of a quadrant point's four points share, but for `own` below
unfoldable pub base : Meaning → ℕ → Symbol → (ℕ → ℤ) → Point → ℤ
base C S sym A q =
    neg_ℤ (pos 2 *ℤ pos (weighed sym q) *ℤ (pos 1048576 *ℤ energy_y sym.antennas +ℤ (pos q.x *ℤ pos q.x +ℤ pos q.y *ℤ pos q.y) *ℤ energy_h sym.antennas))
    +ℤ pos 2 *ℤ pos S *ℤ label_prior C A q

-- what they add with the real part as it is, and subtract with it turned
unfoldable pub turn_v : Meaning → ℕ → Symbol → (ℕ → ℤ) → Point → ℤ
turn_v C S sym A q = pos 4096 *ℤ pos (weighed sym q) *ℤ pos q.x *ℤ (matched sym.antennas).re -ℤ pos S *ℤ A C.v

-- what they add with the imaginary part as it is, and subtract with it turned
unfoldable pub turn_u : Meaning → ℕ → Symbol → (ℕ → ℤ) → Point → ℤ
turn_u C S sym A q = pos 4096 *ℤ pos (weighed sym q) *ℤ pos q.y *ℤ (matched sym.antennas).im -ℤ pos S *ℤ A C.u

-- the best of a quadrant point's four, of those whose bit k is b: is_v says that k is v, is_u that k is u, and bit is the label's bit k;
-- own is what the two sign bits' a priori values add to all four
abbrev pub choice : (is_v is_u bit b : Bool) → (base tv tu own : ℤ) → Option ℤ
choice is_v is_u bit b base tv tu own =
    cond is_v (Some (base +ℤ signed b tv +ℤ absolute tu +ℤ own))
    (cond is_u (Some (base +ℤ absolute tv +ℤ signed b tu +ℤ own))
    (cond (beq bit b) (Some (base +ℤ absolute tv +ℤ absolute tu +ℤ own)) None))

-- the same, of a quadrant point
unfoldable pub quadrant_best : Meaning → ℕ → Symbol → (ℕ → ℤ) → ℕ → Bool → Point → Option ℤ
quadrant_best C S sym A k b q =
    choice (k == C.v) (k == C.u) (label_bit C.m q.label k) b
    (base C S sym A q) (turn_v C S sym A q) (turn_u C S sym A q) (pos S *ℤ A C.u +ℤ pos S *ℤ A C.v)

-- the best over a list of quadrant points
unfoldable pub best_over : Meaning → ℕ → Symbol → (ℕ → ℤ) → ℕ → Bool → List Point → Option ℤ
best_over C S sym A k b [] = None
best_over C S sym A k b (q ∷ qs) = greater (quadrant_best C S sym A k b q) (best_over C S sym A k b qs)

-- what the reduced way asks of a constellation: two sign positions, and labels that are 0 there
pub record Clear (C : Meaning) : Type 0 where
  pub u_low : 1 ≤ C.u
  pub u_high : C.u ≤ C.m
  pub v_low : 1 ≤ C.v
  pub v_high : C.v ≤ C.m
  pub apart : C.u ≢ C.v
  pub clear : AllByRecursion (λ q. (label_bit C.m q.label C.u ≡ false) × (label_bit C.m q.label C.v ≡ false)) C.points

-- the reduced way finds the exhaustive one's best, doubled
abbrev pub Reduces : Type 0
Reduces = (C : Meaning) → Clear C → (S : ℕ) (sym : Symbol) (A : ℕ → ℤ) (k : ℕ) (b : Bool) →
    mapped (λ d. pos 2 *ℤ d) (best C S sym A k b) ≡ best_over C S sym A k b C.points

-- the extrinsic value of bit k, from the doubled bests
unfoldable pub reduced_value : Meaning → ℕ → Symbol → (ℕ → ℤ) → ℕ → Option ℤ
reduced_value C S sym A k =
    mapped (λ D. clipped (shr_z (D -ℤ pos 2 *ℤ (pos S *ℤ A k) +ℤ pos S) (2 * S))) (apart (best_over C S sym A k true C.points) (best_over C S sym A k false C.points))

-- and the same extrinsic value
abbrev pub SameValue : Type 0
SameValue = (C : Meaning) → Clear C → (S : ℕ) (sym : Symbol) (A : ℕ → ℤ) (k : ℕ) → extrinsic C S sym A k ≡ reduced_value C S sym A k
