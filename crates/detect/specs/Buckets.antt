-- The best of each half label, and from those the best of each bit.
use Rattle.std.specs.Prelude.{◌≡◌, ℕ, zero, suc, ◌+◌, ◌-◌, ◌/◌, ◌%◌, ◌^◌, ◌<◌, ◌≤◌, Bool, true, false, cond, List, [], ◌∷◌, length, ℤ, pos, ◌+ℤ◌, ◌≤ℤ◌, Some, None, Option, ◌==◌, nat_eq, nat_lt, slice_index_or, slice_set, unsigned_abs}
use Rattle.std.specs.Bool.{beq}
use Rattle.std.specs.Int.{int_max}
use Rattle.std.specs.List.{AllByRecursion}
use Rattle.constellation.specs.declared.Point.{Point}
use Rattle.metric.specs.Exhaustive.{greater}
use Rattle.metric.specs.Reduced.{absolute}
use Rattle.observation.specs.declared.Record.{Record}
use Rattle.detect.specs.Parts.{base_of, tv_of, tu_of}
use Rattle.detect.specs.Tops.{lowest, coded, Held, pair_of}

-- the best of a quadrant point's four
abbrev pub cross_of : Record → ℕ → List ℤ → (m u v : ℕ) → Point → ℤ
cross_of r shift a m u v p = base_of p r shift a m +ℤ absolute (tv_of p r shift a v) +ℤ absolute (tu_of p r shift a u)

-- the largest of f over the points that pass t
unfoldable pub tops_by : (Point → ℤ) → (Point → Bool) → List Point → Option ℤ
tops_by f t [] = None
tops_by f t (p ∷ ps) = greater (cond (t p) (Some (f p)) None) (tops_by f t ps)

-- the largest of the first n of xs whose index has bit i = b
unfoldable pub over_codes : ℕ → Bool → List ℤ → ℕ → ℤ
over_codes i b xs zero = lowest
over_codes i b xs (suc n) = int_max (over_codes i b xs n) (cond (beq ((n / 2 ^ i) % 2 == 1) b) (slice_index_or xs n (pos 0)) lowest)

-- the buckets after a metric is noted in the one of a code
abbrev pub noted_by : List ℤ → ℕ → ℤ → List ℤ
noted_by xs code c = slice_set xs code (int_max (slice_index_or xs code (pos 0)) c)

-- the two halves of a label
abbrev pub low_half : Point → ℕ
low_half p = p.label % 16

abbrev pub high_half : Point → ℕ
high_half p = (p.label / 16) % 16

-- xs has at l the best of the points whose code is l
pub record Bucketed (f : Point → ℤ) (g : Point → ℕ) (ps : List Point) (xs : List ℤ) : Type 0 where
  pub long : length xs ≡ 16
  pub bounded : AllByRecursion (λ x. unsigned_abs x ≤ 2305843009213693952) xs
  pub at : (l : ℕ) → l < 16 → slice_index_or xs l (pos 0) ≡ coded (tops_by f (λ p. nat_eq (g p) l) ps)

-- the best of the half labels whose bit i is 1, and of those whose bit i is 0
abbrev pub overs : ℕ → List ℤ → ℤ × ℤ
overs i xs = (over_codes i true xs 16, over_codes i false xs 16)

-- the pair of position k, counted from 0
abbrev pub place_of : (m u v : ℕ) → (lows highs : List ℤ) → (pv pu : ℤ × ℤ) → ℕ → ℤ × ℤ
place_of m u v lows highs pv pu k =
    cond (k + 1 == v) pv (cond (k + 1 == u) pu (cond (nat_lt (m - (k + 1)) 4) (overs (m - (k + 1)) lows) (overs (m - (k + 1) - 4) highs)))

-- what the pass has gathered
pub record Gathered (r : Record) (shift : ℕ) (a : List ℤ) (m u v : ℕ) (ps : List Point) (lows highs : List ℤ) (pv pu : ℤ × ℤ) : Type 0 where
  pub low : Bucketed (cross_of r shift a m u v) low_half ps lows
  pub high : Bucketed (cross_of r shift a m u v) high_half ps highs
  pub v_at : pv ≡ pair_of r shift a m u v v ps
  pub u_at : pu ≡ pair_of r shift a m u v u ps
  pub v_held : Held pv
  pub u_held : Held pu
  pub above : AllByRecursion (λ p. lowest ≤ℤ cross_of r shift a m u v p) ps
