-- The parts of a quadrant point's doubled metric, over plain numbers.
use Rattle.std.specs.Prelude.{◌≡◌, ℕ, ◌*◌, ◌/◌, ◌^◌, ◌≤◌, cond, List, length, ℤ, pos, ◌+ℤ◌, ◌-ℤ◌, ◌*ℤ◌, unsigned_abs}
use Rattle.std.specs.Coded.{le_prop}
use Rattle.std.specs.List.{AllByRecursion, AllByRecursion-prop}
use Rattle.constellation.specs.declared.Point.{Point}
use Rattle.metric.specs.Exhaustive.{sum_to, label_bit, at_bit}
use Rattle.observation.specs.declared.Record.{Record}
use Rattle.observation.specs.Observed.{Measured}

-- W: the weight w over the noise energy e, in units of 1/2^20
abbrev pub weight : ℕ → ℕ → ℕ
weight w e = (w * 1048576) / e

-- the a priori values of the label's bits that are 1, over the first n bits of m
abbrev pub prior_sum : ℕ → ℕ → List ℤ → ℕ → ℤ
prior_sum m label xs n = sum_to n (λ j. cond (label_bit m label j) (at_bit xs j) (pos 0))

-- the part that no sign turns: w is W, s is S, p the label's a priori sum
abbrev pub middle : (w : ℤ) (x y Y H : ℕ) (s p : ℤ) → ℤ
middle w x y Y H s p = pos 2 *ℤ s *ℤ p -ℤ pos 2 *ℤ w *ℤ (pos 1048576 *ℤ pos Y +ℤ (pos x *ℤ pos x +ℤ pos y *ℤ pos y) *ℤ pos H)

-- what one coordinate's sign turns
abbrev pub turn : (w : ℤ) (x : ℕ) (s z a : ℤ) → ℤ
turn w x s z a = pos 4096 *ℤ w *ℤ pos x *ℤ z -ℤ s *ℤ a

-- the three parts, of a point over a record
abbrev pub base_of : Point → Record → ℕ → List ℤ → ℕ → ℤ
base_of p r shift a m = middle (pos (weight r.weight p.e)) p.x p.y r.y_energy r.h_energy (pos (2 ^ shift)) (prior_sum m p.label a m)

abbrev pub tv_of : Point → Record → ℕ → List ℤ → ℕ → ℤ
tv_of p r shift a v = turn (pos (weight r.weight p.e)) p.x (pos (2 ^ shift)) r.z_re (at_bit a v)

abbrev pub tu_of : Point → Record → ℕ → List ℤ → ℕ → ℤ
tu_of p r shift a u = turn (pos (weight r.weight p.e)) p.y (pos (2 ^ shift)) r.z_im (at_bit a u)

-- ---- bounds
-- of a point's numbers
pub record Placed (p : Point) : Type 0 where
  pub x : p.x ≤ 4095
  pub y : p.y ≤ 4095
  pub e : 1048576 ≤ p.e

-- of a symbol's other numbers: positions are counted from 1
pub record Given (shift : ℕ) (a : List ℤ) (m u v : ℕ) : Type 0 where
  pub shift_in : shift ≤ 40
  pub m_in : m ≤ 8
  pub a_long : m ≤ length a
  pub a_in : AllByRecursion (λ x. unsigned_abs x ≤ 8191) a
  pub u_low : 1 ≤ u
  pub u_high : u ≤ m
  pub v_low : 1 ≤ v
  pub v_high : v ≤ m

-- of one coordinate's product and its a priori part
pub record Turning (w : ℤ) (x : ℕ) (z s a : ℤ) : Type 0 where
  pub w_in : unsigned_abs w ≤ 1023
  pub x_in : x ≤ 4095
  pub z_in : unsigned_abs z ≤ 8372232
  pub s_in : unsigned_abs s ≤ 2 ^ 40
  pub a_in : unsigned_abs a ≤ 8191

-- of a base
pub record Basing (w : ℤ) (x y : ℕ) (r : Record) (s p : ℤ) : Type 0 where
  pub w_in : unsigned_abs w ≤ 1023
  pub x_in : x ≤ 4095
  pub y_in : y ≤ 4095
  pub r_in : Measured r
  pub s_in : unsigned_abs s ≤ 2 ^ 40
  pub p_in : unsigned_abs p ≤ 65528

pub Given-prop : {shift : ℕ} {a : List ℤ} {m u v : ℕ} → IsProp (Given shift a m u v)
Given-prop {a = a} g h i = record {
  shift_in = le_prop g.shift_in h.shift_in i;
  m_in = le_prop g.m_in h.m_in i;
  a_long = le_prop g.a_long h.a_long i;
  a_in = AllByRecursion-prop (λ x. unsigned_abs x ≤ 8191) (λ x. le_prop) a g.a_in h.a_in i;
  u_low = le_prop g.u_low h.u_low i;
  u_high = le_prop g.u_high h.u_high i;
  v_low = le_prop g.v_low h.v_low i;
  v_high = le_prop g.v_high h.v_high i;
}

-- the parts of a point's doubled metrics, and their bounds
pub record Parted (p : Point) (r : Record) (shift : ℕ) (a : List ℤ) (m u v : ℕ) (middle real imaginary : ℤ) : Type 0 where
  pub base : middle ≡ base_of p r shift a m
  pub tv : real ≡ tv_of p r shift a v
  pub tu : imaginary ≡ tu_of p r shift a u
  pub base_in : unsigned_abs middle ≤ 736600000000000000
  pub tv_in : unsigned_abs real ≤ 152700000000000000
  pub tu_in : unsigned_abs imaginary ≤ 152700000000000000
