-- The copies that a layer of rings or of ratios makes of the points below.
use Rattle.std.specs.Prelude.{ℕ, ◌*◌, cond, Some, None, Option, ◌==◌, List, [], ◌∷◌, ℤ, pos, neg_ℤ, unsigned_abs}
use Rattle.std.specs.Int.{int_rem_euclid}
use Rattle.constellation.specs.Gray.{gray}
use Rattle.rings.specs.declared.copied.Copied.{Copied}
use Rattle.rings.specs.declared.count.Count.{Count}
use Rattle.rings.specs.declared.count.Count.TheVariants.{Two, Four}

-- what stands past the end of a list of copies
abbrev pub nothing : Copied
nothing = record { scale = 0; code = 0; added = 0 }

-- ring a, from 0, with its radius in 1024ths
abbrev pub ring : ℕ → ℕ → Copied
ring a r = record { scale = r; code = gray a; added = 0 }

-- one of n ratios, by its exponent, with the ratio in 1024ths
abbrev pub ratio : ℕ → ℤ → ℕ → Copied
ratio n exponent r = record { scale = r; code = gray (unsigned_abs (int_rem_euclid exponent (pos n))); added = r * r }

-- the count that a number of rings is
abbrev pub count_of : ℕ → Option Count
count_of n = cond (n == 2) (Some Two) (cond (n == 4) (Some Four) None)

abbrev pub rings_in : Count → ℕ
rings_in Two = 2
rings_in Four = 4

-- the bits that a code takes
abbrev pub bits : Count → ℕ
bits Two = 1
bits Four = 2

abbrev pub ring_copies : Count → List Copied
ring_copies Two = ring 0 648 ∷ ring 1 1295 ∷ []
ring_copies Four = ring 0 541 ∷ ring 1 757 ∷ ring 2 1060 ∷ ring 3 1484 ∷ []

abbrev pub ratio_copies : Count → List Copied
ratio_copies Two = ratio 2 (neg_ℤ (pos 1)) 512 ∷ ratio 2 (pos 0) 1024 ∷ ratio 2 (pos 1) 2048 ∷ []
ratio_copies Four = ratio 4 (neg_ℤ (pos 3)) 373 ∷ ratio 4 (neg_ℤ (pos 2)) 522 ∷ ratio 4 (neg_ℤ (pos 1)) 731 ∷ ratio 4 (pos 0) 1024 ∷ ratio 4 (pos 1) 1434 ∷ ratio 4 (pos 2) 2007 ∷ ratio 4 (pos 3) 2810 ∷ []

-- what a layer makes of the points below: copies, each with a code of so many bits
pub record Plan : Type 0 where
  pub bits : ℕ
  pub copies : List Copied

-- the plan of a kind of layer, by its copies
abbrev pub plan_of : (Count → List Copied) → Count → Plan
plan_of copies count = record { bits = bits count; copies = copies count }
