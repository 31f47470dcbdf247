use Rattle.std.proofs.Common.{◌≡◌, ◌*◌, take}
use Rattle.std.specs.List.{All, flat_map}
use Rattle.sheet.proofs.paper.bytes.Given as goal

abbrev pub invariant-loop-i : goal.invariant-loop-i
invariant-loop-i g l = record {
  written : take (l.i * g.T.Element.WIDTH) l.out ≡ flat_map g.T.Element.coded (take l.i l.cells);
  back : All (λ x. g.T.Element.decoded (g.T.Element.coded x) ≡ x) (take l.i l.cells);
}
