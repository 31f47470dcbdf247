-- The code in which neighbours differ in one bit.
use Rattle.std.specs.Prelude.{ℕ, ◌/◌, bit_xor}

abbrev pub gray : ℕ → ℕ
gray n = bit_xor n (n / 2)
