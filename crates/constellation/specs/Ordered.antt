-- A constellation whose labels have their bits in another order. A bit order lists, for each new position, the old position whose bit it carries.
use Rattle.std.specs.Prelude.{ℕ, zero, suc, ◌+◌, ◌*◌, ◌^◌, Bool, true, cond, ◌&&◌, List, [], ◌∷◌, map, length, take, ◌==◌, nat_le, slice_index}
use Rattle.constellation.specs.Meaning.{Meaning, bit}
use Rattle.constellation.specs.declared.Point.{Point}

-- the label whose position j has the bit that stood at the j-th listed position of l
abbrev pub reorder : ℕ → List ℕ → ℕ → ℕ
reorder m [] l = 0
reorder m (p ∷ ps) l = bit m p l * 2 ^ length ps + reorder m ps l

-- where q stands first, counted from 1; past the end where it does not
abbrev pub position : ℕ → List ℕ → ℕ
position q [] = 1
position q (p ∷ ps) = cond (p == q) 1 (position q ps + 1)

-- the test passes at each number below n
abbrev pub each : (ℕ → Bool) → ℕ → Bool
each f zero = true
each f (suc n) = f n && each f n

-- each number from 1 to m stands in the list
abbrev pub whole : ℕ → List ℕ → Bool
whole m ps = each (λ k. nat_le (position (k + 1) ps) m) m

-- each place holds a number from 1 to m, for the first time
abbrev pub fresh : ℕ → List ℕ → ℕ → Bool
fresh m ps j = nat_le 1 (slice_index ps j) && (nat_le (slice_index ps j) m && position (slice_index ps j) ps == j + 1)

abbrev pub permutes : ℕ → List ℕ → Bool
permutes m ps = length ps == m && (whole m ps && each (fresh m ps) m)

abbrev pub relabel : ℕ → List ℕ → Point → Point
relabel m ps p = record { x = p.x; y = p.y; e = p.e; label = reorder m ps p.label }

abbrev pub shuffled : List ℕ → Meaning → Meaning
shuffled ps M = record { m = M.m; u = position M.u ps; v = position M.v ps; points = map (relabel M.m ps) M.points }

-- over any meaning: where the list is no order of its bits, the one below
abbrev pub arranged : List ℕ → Meaning → Meaning
arranged ps M = cond (permutes M.m ps) (shuffled ps M) M

-- the same by a list of which only the front of m entries counts
abbrev pub ordered : List ℕ → Meaning → Meaning
ordered list M = arranged (take M.m list) M
