-- N by the sums Y, H and z, for any number of antennas.
use Rattle.std.proofs.Common.{◌≡◌, List, [], ◌∷◌, ℤ, pos, ◌+ℤ◌, ◌-ℤ◌, ◌*ℤ◌, refl, ap, ◌∙◌}
use Rattle.arith.specs.Ring.{Poly, var, con, ◌:+◌, ◌:-◌, ◌:*◌, neg}
use Rattle.metric.specs.Exhaustive.{Complex, Antenna, distance, square, minus, scaled, times}
use Rattle.metric.specs.Reduced.{energy_y, energy_h, matched}
use Rattle.arith.proofs.RingLaws.{ring}

abbrev pub Expanded : Complex → ℤ → Complex → ℤ → ℤ
Expanded c Y z H = pos 1048576 *ℤ Y -ℤ pos 2048 *ℤ (c.re *ℤ z.re +ℤ c.im *ℤ z.im) +ℤ (c.re *ℤ c.re +ℤ c.im *ℤ c.im) *ℤ H

pub distance_is : (c : Complex) (l : List Antenna) → distance c l ≡ Expanded c (energy_y l) (matched l) (energy_h l)
unfolding distance energy_y energy_h matched
distance_is c [] = ring (c.re ∷ c.im ∷ []) (con (pos 0)) (con (pos 1048576) :* con (pos 0) :- con (pos 2048) :* (x :* con (pos 0) :+ w :* con (pos 0)) :+ (x :* x :+ w :* w) :* con (pos 0)) refl
  where
    x : Poly
    x = var 0

    w : Poly
    w = var 1
distance_is c (a ∷ l) =
    ap (λ t. square (minus (scaled (pos 1024) a.received) (times c a.reference)) +ℤ t) (distance_is c l)
    ∙ ring (c.re ∷ c.im ∷ a.received.re ∷ a.received.im ∷ a.reference.re ∷ a.reference.im ∷ energy_y l ∷ energy_h l ∷ (matched l).re ∷ (matched l).im ∷ [])
    (R :* R :+ I :* I :+ form Y zr zi H)
    (form (A :* A :+ B :* B :+ Y) (A :* P :- B :* neg Q :+ zr) (A :* neg Q :+ B :* P :+ zi) (P :* P :+ Q :* Q :+ H)) refl
  where
    X : Poly
    X = var 0

    V : Poly
    V = var 1

    A : Poly
    A = var 2

    B : Poly
    B = var 3

    P : Poly
    P = var 4

    Q : Poly
    Q = var 5

    Y : Poly
    Y = var 6

    H : Poly
    H = var 7

    zr : Poly
    zr = var 8

    zi : Poly
    zi = var 9

    form : Poly → Poly → Poly → Poly → Poly
    form y r i h = con (pos 1048576) :* y :- con (pos 2048) :* (X :* r :+ V :* i) :+ (X :* X :+ V :* V) :* h

    R : Poly
    R = con (pos 1024) :* A :- (X :* P :- V :* Q)

    I : Poly
    I = con (pos 1024) :* B :- (X :* Q :+ V :* P)
