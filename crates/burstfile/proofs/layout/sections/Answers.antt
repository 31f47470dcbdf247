use Rattle.burstfile.proofs.Format.{whole_sections, shaped_sections}
use Rattle.burstfile.proofs.layout.sections.Goals as goal

pub returns : goal.returns
returns c =
    let bs = c.args.bytes.now in
    let r = c.take_sections.result in
    record {
      cuts = c.take_sections.ensures;
      whole = whole_sections bs r c.take_sections.ensures;
      format = shaped_sections bs r c.are_bytes.ensures c.take_sections.ensures;
    }
