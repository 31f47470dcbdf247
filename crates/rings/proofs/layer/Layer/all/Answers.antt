use Rattle.std.proofs.Common.{sym}
use Rattle.std.proofs.lemmas.List.{length-map}
use Rattle.rings.specs.Copies.{plan_of}
use Rattle.rings.specs.LayerLaws.{layered_size}
use Rattle.rings.proofs.layer.Layer.all.Goals as goal

pub returns-clause-where_it_fits : goal.returns-clause-where_it_fits
returns-clause-where_it_fits g c t =
    let s = c.args.self.now in
    let size = layered_size (plan_of g.K.Kind.copies s.count) (g.met.K.Kind.fair s.count) (g.C.Constellation.meaning s.below) (g.met.C.Constellation.lawful s.below) t in
    rw (c.size.ensures, c.scales.ensures.each, length-map) (sym size)
