-- Both kinds keep the laws of a constellation: a test over each written-out table.
use Rattle.std.specs.Prelude.{refl}
use Rattle.constellation.specs.Meaning.{Lawful}
use Rattle.constellation.proofs.Tested.{lawful_by}
use Rattle.kinds.specs.Psks.{psk_meaning}
use Rattle.kinds.specs.Squares.{square_meaning}
use Rattle.kinds.specs.declared.psk.Psk.{Psk}
use Rattle.kinds.specs.declared.psk.Psk.TheVariants.{Four, Eight, Sixteen}
use Rattle.kinds.specs.declared.square.Square.{Square}
use Rattle.kinds.specs.declared.square.Square.TheVariants.{Sixteen as Square16, SixtyFour as Square64, TwoFiftySix as Square256}

pub psk_lawful : (k : Psk) → Lawful (psk_meaning k)
psk_lawful Four = lawful_by (psk_meaning Four) refl refl refl
psk_lawful Eight = lawful_by (psk_meaning Eight) refl refl refl
psk_lawful Sixteen = lawful_by (psk_meaning Sixteen) refl refl refl

pub square_lawful : (k : Square) → Lawful (square_meaning k)
square_lawful Square16 = lawful_by (square_meaning Square16) refl refl refl
square_lawful Square64 = lawful_by (square_meaning Square64) refl refl refl
square_lawful Square256 = lawful_by (square_meaning Square256) refl refl refl
