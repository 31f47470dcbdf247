use Rattle.std.proofs.Common.{arith}
use Rattle.burstfile.specs.Reading.{laid, size_of, shown}
use Rattle.burstfile.proofs.Walks.{row_within, vector-at}
use Rattle.burstfile.proofs.view.File.record.Goals as goal

pub part-requires : goal.part-requires
part-requires c =
    let f = c.args.self.now in
    row_within f.count c.args.i (size_of (laid f)) c.record_size-size.result f.records.now c.requires.within c.requires.whole.records c.record_size-size.ensures

pub returns : goal.returns
returns c =
    let f = c.args.self.now in
    let v = c.record_view.result in
    record {
      entry = cc (c.record_view.ensures.entry, c.part.ensures.value, c.record_size-size.ensures, vector-at f.count c.args.i (size_of (laid f)) f.settings.antennas f.records.now (shown v) c.requires.within);
      y = c.record_view.ensures.y;
      h = omega (arith, c.part.ensures.long, c.record_size-size.ensures, c.record_view.ensures.y, c.record_view.ensures.h);
    }
