-- A burst file: what it holds, the bytes that it is written as, and the rules of its fields and values. Nothing here is about reading.
use Rattle.std.specs.Prelude.{◌≡◌, ℕ, ◌+◌, ◌-◌, ◌*◌, ◌/◌, ◌%◌, ◌<◌, ◌≤◌, cond, ◌⊎◌, List, [], ◌∷◌, ◌++◌, length, ℤ, FitsSigned, ◌==◌, nat_le, unsigned_abs}
use Rattle.std.specs.Int.{w16}
use Rattle.std.proofs.Common.{of_z}
use Rattle.std.specs.List.{flat_map, AllByRecursion}

-- what one antenna received, or its channel
pub record Pair : Type 0 where
  pub re : ℤ
  pub im : ℤ

-- a vector record: y as received, and h, the channel, where the mode has one
pub record Vector : Type 0 where
  pub weight : ℕ
  pub y : List Pair
  pub h : List Pair

pub record Contents : Type 0 where
  pub mode : ℕ
  pub shift : ℕ
  pub antennas : ℕ
  pub vectors : List Vector
  pub priors : List ℤ

-- a number in 16 bits, the high byte first
abbrev pub word : ℕ → List ℕ
word n = n / 256 ∷ n % 256 ∷ []

-- a signed number in 16 bits, in two's complement
abbrev pub signed : ℤ → List ℕ
signed z = word (of_z w16 z)

abbrev pub pair : Pair → List ℕ
pair p = signed p.re ++ signed p.im

abbrev pub vector : Vector → List ℕ
vector v = word v.weight ++ (flat_map pair v.y ++ flat_map pair v.h)

-- the bytes of a file
abbrev pub encode : Contents → List ℕ
encode c =
    2 ∷ c.mode ∷ c.shift ∷ c.antennas ∷
    (word (length c.vectors) ++ (flat_map vector c.vectors ++ (word (length c.priors) ++ flat_map signed c.priors)))

-- how many pairs of h a vector has: in modes 9 and 10, which are differential, none
abbrev pub channel_of : ℕ → ℕ → ℕ
channel_of mode antennas = cond (nat_le mode 8) antennas 0

-- the bytes of a vector with a pairs of y and b of h
abbrev pub vector_size : ℕ → ℕ → ℕ
vector_size a b = 2 + 4 * a + 4 * b

-- how many symbols n vectors are: in modes 9 and 10 the first only gives the reference
abbrev pub symbols_of : ℕ → ℕ → ℕ
symbols_of mode n = cond (nat_le mode 8) n (n - 1)

-- the bits of a symbol: 2, 3, 4, 4, 6, 8, 4, 6, 4, 6 in modes 1 to 10
abbrev pub bits_of : ℕ → ℕ
bits_of mode =
    cond (mode == 1) 2 (cond (mode == 2) 3 (cond (mode == 5) 6 (cond (mode == 6) 8 (cond (mode == 8) 6 (cond (mode == 10) 6 4)))))

pub record PairShape (p : Pair) : Type 0 where
  pub re : FitsSigned w16 p.re
  pub im : FitsSigned w16 p.im

-- a vector of a pairs of y and b of h
pub record VectorShape (a b : ℕ) (v : Vector) : Type 0 where
  pub weight : v.weight < 65536
  pub y : length v.y ≡ a
  pub h : length v.h ≡ b
  pub y_fits : AllByRecursion PairShape v.y
  pub h_fits : AllByRecursion PairShape v.h

-- What can be written: each number fits its field, each field keeps its rule, and the counts agree.
pub record Shape (c : Contents) : Type 0 where
  pub mode_low : 1 ≤ c.mode
  pub mode_high : c.mode ≤ 10
  pub shift : c.shift < 256
  pub antennas_low : 1 ≤ c.antennas
  pub antennas_high : c.antennas ≤ 4
  pub count : length c.vectors < 65536
  pub vectors : AllByRecursion (VectorShape c.antennas (channel_of c.mode c.antennas)) c.vectors
  pub prior_count : length c.priors < 65536
  pub prior_rule : (length c.priors ≡ 0) ⊎ (length c.priors ≡ symbols_of c.mode (length c.vectors) * bits_of c.mode)
  pub priors : AllByRecursion (FitsSigned w16) c.priors

pub record PairInRange (p : Pair) : Type 0 where
  pub re : unsigned_abs p.re ≤ 1023
  pub im : unsigned_abs p.im ≤ 1023

pub record VectorInRange (v : Vector) : Type 0 where
  pub weight : v.weight ≤ 1023
  pub y : AllByRecursion PairInRange v.y
  pub h : AllByRecursion PairInRange v.h

-- What a burst takes of what can be written.
pub record InRange (c : Contents) : Type 0 where
  pub shift : c.shift ≤ 40
  pub vectors : AllByRecursion VectorInRange c.vectors
  pub symbols : symbols_of c.mode (length c.vectors) ≤ 128
  pub priors : AllByRecursion (λ z. unsigned_abs z ≤ 8191) c.priors

pub record Rules (c : Contents) : Type 0 where
  pub shape : Shape c
  pub range : InRange c
