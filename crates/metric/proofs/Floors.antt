-- Orders of products, quotients rounded down, and what is held within bounds.
use Rattle.std.proofs.Common.{◌≡◌, ℕ, ◌+◌, ◌*◌, ◌<◌, [], ◌∷◌, ℤ, pos, negsuc, ◌+ℤ◌, ◌*ℤ◌, ◌≤ℤ◌, ◌<ℤ◌, refl, mul-le-mul_left, arith}
use native.Mathlib.Nat.{lt_of_mul-lt-mul_left}
use lib.Signed.{shr_z}
use borrow.Author.Differences.{up, down, le_out, below_in}
use Rattle.std.proofs.lemmas.Int.{ints, clamps}
use Rattle.arith.specs.Ring.{var, con, ◌:+◌, ◌:*◌}
use Rattle.metric.specs.Exhaustive.{clipped, rounded}
use Rattle.arith.proofs.RingLaws.{ring}

pub times_le : (n : ℕ) (x y : ℤ) → x ≤ℤ y → (pos n *ℤ x) ≤ℤ (pos n *ℤ y)
times_le n x y h = omega (arith, ints, mul-le-mul_left n (le_out x y h))

-- n q ≤ z < n q + n
floor_is : (z : ℤ) (n : ℕ) → 0 < n → ((pos n *ℤ shr_z z n) ≤ℤ z) × (z <ℤ (pos n *ℤ shr_z z n +ℤ pos n))
floor_is (pos a) n h = (omega (arith, ints), omega (arith, ints))
floor_is (negsuc a) n h = (omega (arith, ints), omega (arith, ints))

-- from n a < n b
cancel : (n : ℕ) (a b : ℤ) → (pos n *ℤ a) <ℤ (pos n *ℤ b) → a <ℤ b
cancel n a b h = below_in a b (lt_of_mul-lt-mul_left n {m = up a + down b} {n = up b + down a} (omega (arith, ints)))

pub clip_le : (a b c : ℤ) → a ≤ℤ (b +ℤ c) → pos 0 ≤ℤ c → clipped a ≤ℤ (clipped b +ℤ c)
clip_le a b c h k = omega (arith, ints, clamps)

-- to add n c before the quotient by n is to add c after it
pub floor_le : (n : ℕ) (z y c : ℤ) → 0 < n → z ≤ℤ (y +ℤ pos n *ℤ c) → shr_z z n ≤ℤ (shr_z y n +ℤ c)
floor_le n z y c pn h = below (shr_z z n) (shr_z y n) c (cancel n (shr_z z n) (shr_z y n +ℤ c +ℤ pos 1) less)
  where
    spread : (n q c : ℤ) → n *ℤ (q +ℤ c +ℤ pos 1) ≡ n *ℤ q +ℤ n +ℤ n *ℤ c
    spread n q c = ring (n ∷ q ∷ c ∷ []) (var 0 :* (var 1 :+ var 2 :+ con (pos 1))) (var 0 :* var 1 :+ var 0 :+ var 0 :* var 2) refl

    join : (a b c d e f : ℤ) → a ≤ℤ z → z ≤ℤ (y +ℤ c) → y <ℤ b → d ≡ b +ℤ c → a <ℤ d
    join a b c d e f h₁ h₂ h₃ h₄ = omega (arith, ints)

    less : (pos n *ℤ shr_z z n) <ℤ (pos n *ℤ (shr_z y n +ℤ c +ℤ pos 1))
    less = join (pos n *ℤ shr_z z n) (pos n *ℤ shr_z y n +ℤ pos n) (pos n *ℤ c) (pos n *ℤ (shr_z y n +ℤ c +ℤ pos 1)) z z (floor_is z n pn).0 h (floor_is y n pn).1 (spread (pos n) (shr_z y n) c)

    below : (a b c : ℤ) → a <ℤ (b +ℤ c +ℤ pos 1) → a ≤ℤ (b +ℤ c)
    below a b c h = omega (arith, ints)

pub rounded_le : (S : ℕ) (d e c : ℤ) → 0 < S → d ≤ℤ (e +ℤ pos S *ℤ c) → pos 0 ≤ℤ c → rounded S d ≤ℤ (rounded S e +ℤ c)
rounded_le S d e c pS h k = clip_le (shr_z (pos 2 *ℤ d +ℤ pos S) (2 * S)) (shr_z (pos 2 *ℤ e +ℤ pos S) (2 * S)) c
    (floor_le (2 * S) (pos 2 *ℤ d +ℤ pos S) (pos 2 *ℤ e +ℤ pos S) c (omega arith) (more (pos S *ℤ c) (pos (2 * S) *ℤ c) h (double (pos S) c))) k
  where
    double : (s c : ℤ) → (pos 2 *ℤ s) *ℤ c ≡ pos 2 *ℤ (s *ℤ c)
    double s c = ring (s ∷ c ∷ []) (con (pos 2) :* var 0 :* var 1) (con (pos 2) :* (var 0 :* var 1)) refl

    more : (p q : ℤ) → d ≤ℤ (e +ℤ p) → q ≡ pos 2 *ℤ p → (pos 2 *ℤ d +ℤ pos S) ≤ℤ (pos 2 *ℤ e +ℤ pos S +ℤ q)
    more p q f g = omega (arith, ints)
