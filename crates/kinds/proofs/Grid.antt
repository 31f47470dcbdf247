-- The point of an index on the grid, as quotient and remainder find it: one test over every index.
use Rattle.std.proofs.Common.{◌≡◌, ℕ, ◌-◌, ◌*◌, ◌/◌, ◌%◌, ◌^◌, ◌<◌, ◌≤◌, Bool, true, ◌&&◌, eqb, length, get_or, refl, lit≤}
use lib.Bits.{bit_and}
use Rattle.std.proofs.lemmas.Bool.{eqb-true, and_parts}
use Rattle.constellation.specs.Meaning.{origin}
use Rattle.constellation.specs.Ordered.{each}
use Rattle.constellation.specs.declared.Point.{Point}
use Rattle.constellation.proofs.Tested.{every_from}
use Rattle.kinds.specs.Squares.{grid, half_of, on_grid}
use Rattle.kinds.specs.declared.square.Square.{Square}
use Rattle.kinds.specs.declared.square.Square.TheVariants.{Sixteen, SixtyFour, TwoFiftySix}

abbrev sameb : Point → Point → Bool
sameb p q = eqb p.x q.x && (eqb p.y q.y && (eqb p.e q.e && eqb p.label q.label))

same : (p q : Point) → p.x ≡ q.x → p.y ≡ q.y → p.e ≡ q.e → p.label ≡ q.label → p ≡ q
same p q x y e l =
    let t : ◌≡◌ {A = Point} (record { x = p.x; y = p.y; e = p.e; label = p.label }) (record { x = q.x; y = q.y; e = q.e; label = q.label }) = cc in t

same_from : (p q : Point) → sameb p q ≡ true → p ≡ q
same_from p q h =
    let a = and_parts _ _ h in
    let b = and_parts _ _ a.1 in
    let c = and_parts _ _ b.1 in
    same p q (eqb-true _ _ a.0) (eqb-true _ _ b.0) (eqb-true _ _ c.0) (eqb-true _ _ c.1)

-- the two indices of a point, by a shift and a mask
abbrev pub imaginary_of : Square → ℕ → ℕ
imaginary_of k j = j / 2 ^ (half_of k - 1)

abbrev pub real_of : Square → ℕ → ℕ
real_of k j = bit_and j (1 * 2 ^ (half_of k - 1) % 256 - 1)

abbrev pub found : Square → ℕ → Point
found k j = on_grid k (imaginary_of k j) (real_of k j)

abbrev foundb : Square → ℕ → Bool
foundb k j = sameb (found k j) (get_or (grid k) j origin)

all_found : (k : Square) → each (foundb k) (length (grid k)) ≡ true
all_found Sixteen = refl
all_found SixtyFour = refl
all_found TwoFiftySix = refl

pub found_there : (k : Square) (j : ℕ) → j < length (grid k) → found k j ≡ get_or (grid k) j origin
found_there k j h = same_from _ _ (every_from (foundb k) (length (grid k)) (all_found k) j h)

pub some_point : (k : Square) → 1 ≤ length (grid k)
some_point Sixteen = lit≤ tt
some_point SixtyFour = lit≤ tt
some_point TwoFiftySix = lit≤ tt
