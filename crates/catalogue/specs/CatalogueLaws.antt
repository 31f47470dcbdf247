-- Every constellation of the catalogue keeps the laws.
use Rattle.constellation.specs.Meaning.{Lawful}
use Rattle.kinds.specs.KindLaws.{psk_lawful, square_lawful}
use Rattle.rings.specs.Copies.{plan_of, ring_copies, ratio_copies}
use Rattle.rings.specs.KindLaws.{rings_fair, ratios_fair}
use Rattle.rings.specs.LayerLaws.{layered_lawful}
use Rattle.catalogue.specs.Modes.{catalogue_meaning}
use Rattle.catalogue.specs.declared.Catalogue.{Catalogue}
use Rattle.catalogue.specs.declared.Catalogue.TheVariants.{Psk, Square, Rings, Ratios}

pub catalogue_lawful : (c : Catalogue) → Lawful (catalogue_meaning c)
catalogue_lawful (Psk k) = psk_lawful k
catalogue_lawful (Square k) = square_lawful k
catalogue_lawful (Rings s) = layered_lawful (plan_of ring_copies s.count) (rings_fair s.count) _ (psk_lawful s.below)
catalogue_lawful (Ratios s) = layered_lawful (plan_of ratio_copies s.count) (ratios_fair s.count) _ (psk_lawful s.below)
