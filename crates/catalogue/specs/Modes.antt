-- The catalogue: what each mode of a burst file means.
use Rattle.std.specs.Prelude.{◌≡◌, ℕ, zero, suc, List, [], ◌∷◌, Some, None, Option}
use Rattle.constellation.specs.Meaning.{Meaning}
use Rattle.kinds.specs.Psks.{psk_meaning}
use Rattle.kinds.specs.Squares.{square_meaning}
use Rattle.kinds.specs.declared.psk.Psk.TheVariants.{Four, Eight, Sixteen}
use Rattle.kinds.specs.declared.square.Square.TheVariants.{Sixteen as Square16, SixtyFour as Square64, TwoFiftySix as Square256}
use Rattle.rings.specs.Copies.{plan_of, ring_copies, ratio_copies}
use Rattle.rings.specs.Layered.{stacked}
use Rattle.rings.specs.Made.{rings_meaning, ratios_meaning}
use Rattle.rings.specs.declared.count.Count.TheVariants.{Two as TwoRings, Four as FourRings}
use Rattle.catalogue.specs.declared.Catalogue.{Catalogue}
use Rattle.catalogue.specs.declared.Catalogue.TheVariants.{Psk, Square, Rings, Ratios}

abbrev pub catalogue_meaning : Catalogue → Meaning
catalogue_meaning (Psk k) = psk_meaning k
catalogue_meaning (Square k) = square_meaning k
catalogue_meaning (Rings s) = rings_meaning psk_meaning s
catalogue_meaning (Ratios s) = ratios_meaning psk_meaning s

-- the k-th of a list, counted from 1
abbrev pub pick : List Meaning → ℕ → Option Meaning
pick [] k = None
pick (M ∷ rest) zero = None
pick (M ∷ rest) (suc zero) = Some M
pick (M ∷ rest) (suc (suc k)) = pick rest (suc k)

-- modes 1 to 10, in order
abbrev pub modes : List Meaning
modes =
    psk_meaning Four
    ∷ psk_meaning Eight
    ∷ psk_meaning Sixteen
    ∷ square_meaning Square16
    ∷ square_meaning Square64
    ∷ square_meaning Square256
    ∷ stacked (plan_of ring_copies TwoRings) (psk_meaning Eight)
    ∷ stacked (plan_of ring_copies FourRings) (psk_meaning Sixteen)
    ∷ stacked (plan_of ratio_copies TwoRings) (psk_meaning Eight)
    ∷ stacked (plan_of ratio_copies FourRings) (psk_meaning Sixteen)
    ∷ []

abbrev pub mode_meaning : ℕ → Option Meaning
mode_meaning mode = pick modes mode

-- a constellation of this meaning, or none
abbrev pub Offered : Option Meaning → Option Catalogue → Type 0
Offered None None = Unit {0}
Offered None (Some c) = ⊥
Offered (Some M) None = ⊥
Offered (Some M) (Some c) = catalogue_meaning c ≡ M
