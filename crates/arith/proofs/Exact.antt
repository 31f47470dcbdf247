-- A machine's signed number t that is the number z, of size n at most: a proof goes as the expression does.
use Rattle.std.proofs.Common.{◌≡◌, ℕ, ◌+◌, ◌*◌, ◌^◌, ◌<◌, ◌≤◌, T, ltb, leb, ℤ, pos, negsuc, ◌+ℤ◌, ◌-ℤ◌, ◌*ℤ◌, neg_ℤ, nat_abs, sym, refl, ap, ◌∙◌, subst, ap₂, div-le_self, arith, lit<, lit≤, SFits, to_z, of_z}
use lib.Signed.{shr_z}
use mir.Syntax.{Width}
use mir.Val.{hbits}
use Rattle.std.proofs.lemmas.Int.{ints, clamps, to_z-of_z, to_z_pos}
use Rattle.std.specs.Int.{int_max}
use Rattle.arith.proofs.Within.{abs_neg, times-within, plus-within, minus-within, fits_within}

pub record Is (t z : ℤ) (n : ℕ) : Type 0 where
  pub same : t ≡ z
  pub within : nat_abs z ≤ n

pub given : (z : ℤ) {n : ℕ} → nat_abs z ≤ n → Is z z n
given z h = record { same = refl; within = h }

-- a value that is known to be another
pub equal : {t z : ℤ} {n : ℕ} → t ≡ z → nat_abs t ≤ n → Is t z n
equal {n = n} e h = record { same = e; within = subst (λ (y : ℤ). nat_abs y ≤ n) e h }

-- a value that is known to be a natural number
pub counted : {t : ℤ} {k n : ℕ} → t ≡ pos k → k ≤ n → Is t (pos k) n
counted {k = k} {n} e h = record { same = e; within = small k n h }
  where
    small : (k n : ℕ) → k ≤ n → nat_abs (pos k) ≤ n
    small k n h = omega (arith, ints)

-- a literal
pub literal : (k : ℕ) → Is (pos k) (pos k) k
literal k = record { same = refl; within = omega (arith, ints) }

-- an unsigned number cast to a signed type
pub number : (w : Width) {k n : ℕ} → k ≤ n → T (ltb n (2 ^ hbits w)) → Is (to_z w k) (pos k) n
number w {k} {n} h l = record { same = to_z_pos w k (below k n (2 ^ hbits w) h (lit< l)); within = small k n h }
  where
    below : (k n m : ℕ) → k ≤ n → n < m → k < m
    below k n m h l = omega arith

    small : (k n : ℕ) → k ≤ n → nat_abs (pos k) ≤ n
    small k n h = omega (arith, ints)

pub fits : (w : Width) {t z : ℤ} {n : ℕ} → Is t z n → T (ltb n (2 ^ hbits w)) → SFits w t
fits w {t} {z} {n} i l = subst (SFits w) (sym i.same) (fits_within w z n i.within (lit< l))

-- a value as the machine keeps it
pub kept : (w : Width) {t z : ℤ} {n : ℕ} → Is t z n → T (ltb n (2 ^ hbits w)) → Is (to_z w (of_z w t)) z n
kept w {t} i l = record { same = to_z-of_z w t (fits w i l) ∙ i.same; within = i.within }

pub times : {s t a b : ℤ} {m n : ℕ} → Is s a m → Is t b n → Is (s *ℤ t) (a *ℤ b) (m * n)
times {a = a} {b} {m} {n} i j = record { same = ap₂ ◌*ℤ◌ i.same j.same; within = times-within a b m n i.within j.within }

pub plus : {s t a b : ℤ} {m n : ℕ} → Is s a m → Is t b n → Is (s +ℤ t) (a +ℤ b) (m + n)
plus {a = a} {b} {m} {n} i j = record { same = ap₂ ◌+ℤ◌ i.same j.same; within = plus-within a b m n i.within j.within }

pub minus : {s t a b : ℤ} {m n : ℕ} → Is s a m → Is t b n → Is (s -ℤ t) (a -ℤ b) (m + n)
minus {a = a} {b} {m} {n} i j = record { same = ap₂ ◌-ℤ◌ i.same j.same; within = minus-within a b m n i.within j.within }

pub negated : {t z : ℤ} {n : ℕ} → Is t z n → Is (neg_ℤ t) (neg_ℤ z) n
negated {z = z} {n} i = record { same = ap neg_ℤ i.same; within = subst (λ (k : ℕ). k ≤ n) (sym (abs_neg z)) i.within }

-- what `abs` and `max` return
pub sized : {r t z : ℤ} {n : ℕ} → r ≡ pos (nat_abs t) → Is t z n → Is r (pos (nat_abs z)) n
sized {r} {t} {z} {n} e i = record { same = e ∙ ap (λ (y : ℤ). pos (nat_abs y)) i.same; within = same (nat_abs z) n i.within }
  where
    same : (k n : ℕ) → k ≤ n → nat_abs (pos k) ≤ n
    same k n h = omega (arith, ints)

pub topmost : {r s t a b : ℤ} {n : ℕ} → r ≡ int_max s t → Is s a n → Is t b n → Is r (int_max a b) n
topmost {a = a} {b} {n} e i j = record { same = e ∙ ap₂ int_max i.same j.same; within = either a b n i.within j.within }
  where
    either : (a b : ℤ) (n : ℕ) → nat_abs a ≤ n → nat_abs b ≤ n → nat_abs (int_max a b) ≤ n
    either a b n h k = omega (arith, ints, clamps)

-- what `>>` does, at either sign
pub shifted : {t z : ℤ} {n : ℕ} (k : ℕ) → Is t z n → Is (shr_z t k) (shr_z z k) n
shifted {t} {z} {n} k i = record { same = ap (λ (y : ℤ). shr_z y k) i.same; within = go z i.within }
  where
    go : (z : ℤ) → nat_abs z ≤ n → nat_abs (shr_z z k) ≤ n
    go (pos a) h = omega (arith, ints, div-le_self a k)
    go (negsuc a) h = omega (arith, ints, div-le_self a k)

pub looser : {t z : ℤ} {m : ℕ} (n : ℕ) → Is t z m → T (leb m n) → Is t z n
looser {z = z} {m} n i l = record { same = i.same; within = go (nat_abs z) m n i.within (lit≤ l) }
  where
    go : (k m n : ℕ) → k ≤ m → m ≤ n → k ≤ n
    go k m n h l = omega arith

-- the value's size, with a rounder bound
pub small : {t z : ℤ} {n : ℕ} (k : ℕ) → Is t z n → T (leb n k) → nat_abs t ≤ k
small {t} {z} {n} k i l = go t z n k i.same i.within (lit≤ l)
  where
    go : (t z : ℤ) (n k : ℕ) → t ≡ z → nat_abs z ≤ n → n ≤ k → nat_abs t ≤ k
    go t z n k e h l = omega (arith, ints)

-- ---- the same, with the three numbers inside: a helper can then be shared by several answers
pub record Known : Type 0 where
  pub t : ℤ
  pub z : ℤ
  pub n : ℕ
  pub is : Is t z n

abbrev pub know : {t z : ℤ} {n : ℕ} → Is t z n → Known
know {t} {z} {n} i = record { t = t; z = z; n = n; is = i }

abbrev pub arg : (z : ℤ) {n : ℕ} → nat_abs z ≤ n → Known
arg z h = know (given z h)

abbrev pub lit : ℕ → Known
lit k = know (literal k)

abbrev pub num : (w : Width) {k n : ℕ} → k ≤ n → T (ltb n (2 ^ hbits w)) → Known
num w h l = know (number w h l)

abbrev pub keep : (w : Width) (k : Known) → T (ltb k.n (2 ^ hbits w)) → Known
keep w k l = know (kept w k.is l)

infixl 6 ◌⊕◌ ◌⊖◌
infixl 7 ◌⊗◌
-- the machine's product, sum and difference at 64 bits of what it keeps
abbrev pub ◌⊗◌ : Known → Known → Known
j ⊗ k = know (times j.is k.is)

abbrev pub ◌⊕◌ : Known → Known → Known
j ⊕ k = know (plus j.is k.is)

abbrev pub ◌⊖◌ : Known → Known → Known
j ⊖ k = know (minus j.is k.is)

abbrev pub opposite : Known → Known
opposite k = know (negated k.is)
