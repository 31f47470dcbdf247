use Rattle.std.proofs.Common.{◌≡◌, length, take, ◌∙◌, arith, ap}
use Rattle.std.specs.List.{flat_map}
use Rattle.std.proofs.lemmas.List.{take_all}
use Rattle.std.proofs.lemmas.List.Elements.{All-more}
use Rattle.std.proofs.lemmas.Grind.{common_steps, rows}
use Rattle.sheet.proofs.Pages.{page_step, read_joined}
use Rattle.sheet.proofs.paper.bytes.Goals as goal

pub loop-i-preserved : goal.loop-i-preserved
loop-i-preserved g c =
    let x = c.index-cells-i.result in
    let y : c.put.new.out ≡ g.T.Element.coded x = c.in_ok-put.ensures.bytes in
    let b = c.put.ensures.back in
    record {
      written = page_step g.T.Element.coded c.args.cells.now c.loop-i.i g.T.Element.WIDTH _ _ x c.loop-i.out c.put.new.out c.loop-i-test.true c.index-cells-i.is y (ap length y ∙ g.met.T.Element.wide x) (cc) (grind (arith, common_steps, rows)) c.loop-i.invariant.written;
      back = All-more (λ x. g.T.Element.decoded (g.T.Element.coded x) ≡ x) _ _ x c.loop-i-test.true c.loop-i.invariant.back (cc);
    }

pub returns-clause-back : goal.returns-clause-back
returns-clause-back g c =
    let t : take c.loop-i.i c.args.cells.now ≡ c.args.cells.now = take_all _ _ (omega arith) in
    let o : c.loop-i.out ≡ flat_map g.T.Element.coded c.args.cells.now = grind (arith, common_steps) in
    let h = c.loop-i.invariant.back in
    rw o (read_joined g.T.Element.coded g.T.Element.WIDTH g.met.T.Element.wide g.T.Element.decoded c.args.cells.now (rw t at h))
