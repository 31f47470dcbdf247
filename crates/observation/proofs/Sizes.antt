-- The test says what the record of bounds says.
use Rattle.std.proofs.Common.{◌≡◌, true}
use Rattle.std.proofs.lemmas.Bool.{and_parts, and_from, leb-true, le-leb}
use Rattle.observation.specs.declared.Record.{Record}
use Rattle.observation.specs.Observed.{Measured}
use Rattle.observation.specs.Sizes.{measured}

pub measured_from : (r : Record) → Measured r → measured r ≡ true
measured_from r M = and_from _ _ (le-leb _ _ M.re) (and_from _ _ (le-leb _ _ M.im) (and_from _ _ (le-leb _ _ M.y) (and_from _ _ (le-leb _ _ M.h) (le-leb _ _ M.w))))

pub measured_is : (r : Record) → measured r ≡ true → Measured r
measured_is r h =
    let a = and_parts _ _ h in
    let b = and_parts _ _ a.1 in
    let c = and_parts _ _ b.1 in
    let d = and_parts _ _ c.1 in
    record { re = leb-true _ _ a.0; im = leb-true _ _ b.0; y = leb-true _ _ c.0; h = leb-true _ _ d.0; w = leb-true _ _ d.1 }
