-- The bytes of elements, the high one first, and the elements that bytes say.
use Rattle.std.specs.Prelude.{ℕ, zero, suc, ◌+◌, ◌-◌, ◌*◌, ◌/◌, ◌%◌, cond, List, [], ◌∷◌, take, drop, ℤ, pos, negsuc, nat_lt, slice_index}

-- a signed value of 16 bits as an unsigned one: -1, which is negsuc 0, is 65535
abbrev pub word16 : ℤ → ℕ
word16 (pos n) = n
word16 (negsuc n) = 65535 - n

-- and back
abbrev pub signed16 : ℕ → ℤ
signed16 n = cond (nat_lt n 32768) (pos n) (negsuc (65535 - n))

-- the two bytes of an unsigned value of 16 bits
abbrev pub bytes16 : ℕ → List ℕ
bytes16 n = (n / 256 % 256) ∷ (n % 256) ∷ []

-- and back
abbrev pub number16 : List ℕ → ℕ
number16 bs = slice_index bs 0 * 256 + slice_index bs 1

-- the first n elements that bs says, with width bytes each
unfoldable pub read_back : {X : Type 0} → ℕ → (List ℕ → X) → ℕ → List ℕ → List X
read_back width decode zero bs = []
read_back width decode (suc n) bs = decode (take width bs) ∷ read_back width decode n (drop width bs)
