use Rattle.table.specs.Kept.{blank}
use Rattle.soft.proofs.Rows.{record_fits}
use Rattle.soft.proofs.detector.Detector.row.Goals as goal

pub extrinsic_values-requires-clause-measured : goal.extrinsic_values-requires-clause-measured
extrinsic_values-requires-clause-measured c =
    let t = c.args.self.now.table.now in
    record_fits t.records.items c.deref.result.now c.args.i blank c.deref.ensures.0 c.requires.within t.sized
