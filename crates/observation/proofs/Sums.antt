-- Energies are natural numbers, and add up antenna by antenna.
use Rattle.std.proofs.Common.{◌≡◌, ℕ, ◌+◌, ◌*◌, List, [], ◌∷◌, ◌++◌, ℤ, pos, negsuc, ◌+ℤ◌, ◌*ℤ◌, nat_abs, refl, ap, ◌∙◌, arith}
use Rattle.std.proofs.lemmas.Int.{ints}
use Rattle.metric.specs.Exhaustive.{Complex, Antenna, square, times}
use Rattle.metric.specs.Reduced.{energy_y, energy_h, matched, conj}

-- |a|² as a natural number
abbrev pub size : Complex → ℕ
size a = nat_abs a.re * nat_abs a.re + nat_abs a.im * nat_abs a.im

pub square_is : (a : Complex) → square a ≡ pos (size a)
square_is a = go a.re a.im
  where
    go : (x y : ℤ) → x *ℤ x +ℤ y *ℤ y ≡ pos (nat_abs x * nat_abs x + nat_abs y * nat_abs y)
    go (pos x) (pos y) = refl
    go (pos x) (negsuc y) = refl
    go (negsuc x) (pos y) = refl
    go (negsuc x) (negsuc y) = refl

-- a sum of natural numbers is one
sum_is : (n : ℕ) (s z : ℤ) → s ≡ pos n → z ≡ pos (nat_abs z) → s +ℤ z ≡ pos (nat_abs (s +ℤ z))
sum_is n s z e f = omega (arith, ints)

pub energy_y_is : (l : List Antenna) → energy_y l ≡ pos (nat_abs (energy_y l))
unfolding energy_y
energy_y_is [] = refl
energy_y_is (a ∷ l) = sum_is (size a.received) (square a.received) (energy_y l) (square_is a.received) (energy_y_is l)

pub energy_h_is : (l : List Antenna) → energy_h l ≡ pos (nat_abs (energy_h l))
unfolding energy_h
energy_h_is [] = refl
energy_h_is (a ∷ l) = sum_is (size a.reference) (square a.reference) (energy_h l) (square_is a.reference) (energy_h_is l)

-- ---- one antenna more
last : (z : ℤ) → z +ℤ pos 0 ≡ pos 0 +ℤ z
last z = omega (arith, ints)

regroup : (p q r : ℤ) → p +ℤ (q +ℤ r) ≡ p +ℤ q +ℤ r
regroup p q r = omega (arith, ints)

-- the size of a sum of natural numbers
size_push : (n : ℕ) (s z t : ℤ) → t ≡ z +ℤ s → s ≡ pos n → z ≡ pos (nat_abs z) → nat_abs t ≡ nat_abs z + n
size_push n s z t e f g = omega (arith, ints)

pub y_push : (l : List Antenna) (a : Antenna) → nat_abs (energy_y (l ++ (a ∷ []))) ≡ nat_abs (energy_y l) + size a.received
unfolding energy_y
y_push l a = size_push (size a.received) (square a.received) (energy_y l) (energy_y (l ++ (a ∷ []))) (go l) (square_is a.received) (energy_y_is l)
  where
    go : (l : List Antenna) → energy_y (l ++ (a ∷ [])) ≡ energy_y l +ℤ square a.received
    go [] = last (square a.received)
    go (b ∷ l) = ap (λ t. square b.received +ℤ t) (go l) ∙ regroup (square b.received) (energy_y l) (square a.received)

pub h_push : (l : List Antenna) (a : Antenna) → nat_abs (energy_h (l ++ (a ∷ []))) ≡ nat_abs (energy_h l) + size a.reference
unfolding energy_h
h_push l a = size_push (size a.reference) (square a.reference) (energy_h l) (energy_h (l ++ (a ∷ []))) (go l) (square_is a.reference) (energy_h_is l)
  where
    go : (l : List Antenna) → energy_h (l ++ (a ∷ [])) ≡ energy_h l +ℤ square a.reference
    go [] = last (square a.reference)
    go (b ∷ l) = ap (λ t. square b.reference +ℤ t) (go l) ∙ regroup (square b.reference) (energy_h l) (square a.reference)

pub re_push : (l : List Antenna) (a : Antenna) → (matched (l ++ (a ∷ []))).re ≡ (matched l).re +ℤ (times a.received (conj a.reference)).re
unfolding matched
re_push [] a = last (times a.received (conj a.reference)).re
re_push (b ∷ l) a =
    ap (λ t. (times b.received (conj b.reference)).re +ℤ t) (re_push l a)
    ∙ regroup (times b.received (conj b.reference)).re (matched l).re (times a.received (conj a.reference)).re

pub im_push : (l : List Antenna) (a : Antenna) → (matched (l ++ (a ∷ []))).im ≡ (matched l).im +ℤ (times a.received (conj a.reference)).im
unfolding matched
im_push [] a = last (times a.received (conj a.reference)).im
im_push (b ∷ l) a =
    ap (λ t. (times b.received (conj b.reference)).im +ℤ t) (im_push l a)
    ∙ regroup (times b.received (conj b.reference)).im (matched l).im (times a.received (conj a.reference)).im
