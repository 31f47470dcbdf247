-- A symbol's vectors as the detector's mathematics has them, and what a record keeps of them.
use Rattle.std.specs.Prelude.{ℕ, ◌≤◌, List, [], ◌∷◌, unsigned_abs}
use Rattle.metric.specs.Exhaustive.{Complex, Antenna, Symbol}
use Rattle.metric.specs.Reduced.{energy_y, energy_h, matched}
use Rattle.observation.specs.declared.Sample.{Sample}
use Rattle.observation.specs.declared.Record.{Record}

abbrev pub complex : Sample → Complex
complex s = record { re = s.re; im = s.im }

-- received and reference, antenna by antenna
abbrev pub antennas_of : List Sample → List Sample → List Antenna
antennas_of [] hs = []
antennas_of (y ∷ ys) [] = []
antennas_of (y ∷ ys) (h ∷ hs) = record { received = complex y; reference = complex h } ∷ antennas_of ys hs

-- the symbol that was received as ys over the reference hs
abbrev pub symbol_of : List Sample → List Sample → ℕ → Symbol
symbol_of ys hs w = record { antennas = antennas_of ys hs; weight = w }

-- what a record keeps of a symbol
abbrev pub held : Symbol → Record
held s = record {
  z_re = (matched s.antennas).re;
  z_im = (matched s.antennas).im;
  y_energy = unsigned_abs (energy_y s.antennas);
  h_energy = unsigned_abs (energy_h s.antennas);
  weight = s.weight;
}

-- both parts of a sample are from −1023 to 1023
pub record Ranged (s : Sample) : Type 0 where
  pub re : unsigned_abs s.re ≤ 1023
  pub im : unsigned_abs s.im ≤ 1023

-- how large a record's numbers can be: 4 antennas, each 2 × 1023² at most
pub record Measured (r : Record) : Type 0 where
  pub re : unsigned_abs r.z_re ≤ 8372232
  pub im : unsigned_abs r.z_im ≤ 8372232
  pub y : r.y_energy ≤ 8372232
  pub h : r.h_energy ≤ 8372232
  pub w : r.weight ≤ 1023
