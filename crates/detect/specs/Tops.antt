-- The best doubled metrics over the quadrant points so far, with a low number for none.
use Rattle.std.specs.Prelude.{ℕ, ◌*◌, ◌≤◌, Bool, true, false, List, [], ◌∷◌, ℤ, pos, negsuc, ◌+ℤ◌, ◌-ℤ◌, ◌*ℤ◌, Some, None, Option, ◌==◌, unsigned_abs}
use Rattle.std.specs.Int.{int_max}
use Rattle.std.specs.Coded.{le_prop}
use Rattle.std.specs.List.{AllByRecursion, AllByRecursion-prop}
use Rattle.std.specs.Int.Signed.{shr_z}
use Rattle.constellation.specs.declared.Point.{Point}
use Rattle.metric.specs.Exhaustive.{label_bit, greater, clipped}
use Rattle.metric.specs.Reduced.{choice, absolute}
use Rattle.observation.specs.declared.Record.{Record}
use Rattle.detect.specs.Parts.{base_of, tv_of, tu_of}

-- below every metric: −2^61
abbrev pub lowest : ℤ
lowest = negsuc 2305843009213693951

-- a best, with the low number for none
abbrev pub coded : Option ℤ → ℤ
coded None = lowest
coded (Some d) = d

-- what a quadrant point offers for bit k = b, but for the a priori part of bits u and v, which is the same for every point
unfoldable pub offer_of : Record → ℕ → List ℤ → (m u v : ℕ) → ℕ → Bool → Point → Option ℤ
offer_of r shift a m u v k b p =
    choice (k == v) (k == u) (label_bit m p.label k) b (base_of p r shift a m) (tv_of p r shift a v) (tu_of p r shift a u) (pos 0)

-- the best of what the points offer
unfoldable pub top_of : Record → ℕ → List ℤ → (m u v : ℕ) → ℕ → Bool → List Point → Option ℤ
top_of r shift a m u v k b [] = None
top_of r shift a m u v k b (p ∷ ps) = greater (offer_of r shift a m u v k b p) (top_of r shift a m u v k b ps)

-- the extrinsic value, from the difference D of the doubled bests: S is the scale, a the bit's a priori value
abbrev pub value_of : ℕ → ℤ → ℤ → ℤ
value_of S a D = clipped (shr_z (D -ℤ pos 2 *ℤ (pos S *ℤ a) +ℤ pos S) (2 * S))

-- ---- bounds
-- of a pair of bests, each the best so far or the low number
pub record Held (p : ℤ × ℤ) : Type 0 where
  pub one : unsigned_abs p.0 ≤ 2305843009213693952
  pub zero : unsigned_abs p.1 ≤ 2305843009213693952

-- of the buckets of half labels
abbrev pub Filled : List ℤ → Type 0
Filled xs = AllByRecursion (λ x. unsigned_abs x ≤ 2305843009213693952) xs

pub Filled-prop : (xs : List ℤ) → IsProp (Filled xs)
Filled-prop xs = AllByRecursion-prop (λ x. unsigned_abs x ≤ 2305843009213693952) (λ x. le_prop) xs

-- of one quadrant point's parts
pub record Bounded (base tv tu : ℤ) : Type 0 where
  pub base_in : unsigned_abs base ≤ 760000000000000000
  pub tv_in : unsigned_abs tv ≤ 152700000000000000
  pub tu_in : unsigned_abs tu ≤ 152700000000000000

-- of what a value is computed from
pub record Valuing (one zero : ℤ) (shift : ℕ) (a : ℤ) : Type 0 where
  pub one_in : unsigned_abs one ≤ 2305843009213693952
  pub zero_in : unsigned_abs zero ≤ 2305843009213693952
  pub shift_in : shift ≤ 40
  pub a_in : unsigned_abs a ≤ 8191

-- ---- what the functions answer
-- a sign's pair, after a quadrant point is offered to it: the sign turns `turn`, the other one `cross`
abbrev pub raised_by : ℤ × ℤ → (base turn cross : ℤ) → ℤ × ℤ
raised_by p base turn cross = (int_max p.0 (base +ℤ absolute cross -ℤ turn), int_max p.1 (base +ℤ absolute cross +ℤ turn))

-- the pair of position k, over the points
abbrev pub pair_of : Record → ℕ → List ℤ → (m u v : ℕ) → ℕ → List Point → ℤ × ℤ
pair_of r shift a m u v k ps = (coded (top_of r shift a m u v k true ps), coded (top_of r shift a m u v k false ps))
