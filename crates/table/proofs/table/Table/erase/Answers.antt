use Rattle.std.proofs.Common.{◌-◌, arith}
use Rattle.table.proofs.Fronts.{erased_fits}
use Rattle.table.proofs.table.Table.erase.Goals as goal

pub invariant_of-self-clause-sized : goal.invariant_of-self-clause-sized
invariant_of-self-clause-sized c =
    let t = c.args.self.now in
    let within = c.in_ok-check_symbol.ensures.within in
    erased_fits t.records c.deref_mut.result.now (c.args.symbol - 1) c.deref_mut.ensures.value (grind (arith, within)) t.sized
