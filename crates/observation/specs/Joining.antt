-- One antenna more.
use Rattle.std.specs.Prelude.{◌≡◌, ℕ, ◌+◌, ◌*◌, ◌≤◌, ℤ, ◌+ℤ◌, ◌-ℤ◌, ◌*ℤ◌, neg_ℤ, unsigned_abs}
use Rattle.observation.specs.declared.Sample.{Sample}
use Rattle.observation.specs.declared.Record.{Record}

-- |s|²
abbrev pub energy_of : Sample → ℕ
energy_of s = unsigned_abs s.re * unsigned_abs s.re + unsigned_abs s.im * unsigned_abs s.im

-- a times b
abbrev pub product_of : Sample → Sample → ℤ × ℤ
product_of a b = (a.re *ℤ b.re -ℤ a.im *ℤ b.im, a.re *ℤ b.im +ℤ a.im *ℤ b.re)

-- the conjugate
abbrev pub conjugated : Sample → Sample
conjugated s = record { re = s.re; im = neg_ℤ s.im }

-- what n antennas add up to at most, each 2 × 1023²
pub record Summed (n : ℕ) (r : Record) : Type 0 where
  pub re : unsigned_abs r.z_re ≤ n * 2093058
  pub im : unsigned_abs r.z_im ≤ n * 2093058
  pub y : r.y_energy ≤ n * 2093058
  pub h : r.h_energy ≤ n * 2093058

-- a record that has room for one antenna more: 4 at most
abbrev pub Room : Record → Type 0
Room r = Summed 3 r

-- s is r with an antenna's part added
pub record Joined (r : Record) (y h : Sample) (s : Record) : Type 0 where
  pub re : s.z_re ≡ r.z_re +ℤ (product_of y (conjugated h)).0
  pub im : s.z_im ≡ r.z_im +ℤ (product_of y (conjugated h)).1
  pub y_energy : s.y_energy ≡ r.y_energy + energy_of y
  pub h_energy : s.h_energy ≡ r.h_energy + energy_of h
  pub weight : s.weight ≡ r.weight
