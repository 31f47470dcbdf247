use Rattle.std.proofs.Common.{sym}
use Rattle.rings.specs.Copies.{plan_of}
use Rattle.rings.specs.LayerLaws.{label_room, layered_at}
use Rattle.rings.proofs.layer.Layer.at.Goals as goal

pub lift-requires-clause-fits : goal.lift-requires-clause-fits
lift-requires-clause-fits g c =
    let s = c.args.self.now in
    let room = label_room (plan_of g.K.Kind.copies s.count) (g.met.K.Kind.fair s.count) (g.C.Constellation.meaning s.below) (g.met.C.Constellation.lawful s.below) c.requires.fits c.args.index c.requires.within in
    rw (c.bits.ensures.value, c.copy-by.ensures, c.point.ensures, c.size-size.ensures) (room _)

pub returns : goal.returns
returns g c =
    let s = c.args.self.now in
    let is = layered_at (plan_of g.K.Kind.copies s.count) (g.met.K.Kind.fair s.count) (g.C.Constellation.meaning s.below) (g.met.C.Constellation.lawful s.below) c.requires.fits c.args.index c.requires.within in
    rw (c.lift.ensures, c.bits.ensures.value, c.copy-by.ensures, c.point.ensures, c.size-size.ensures) (sym is)
