use Rattle.burstfile.proofs.Walks.{priors_inside, priors_outside}
use Rattle.burstfile.proofs.numbers.check_priors.Goals as goal

pub returns-in-Some : goal.returns-in-Some
returns-in-Some c =
    let first = c.in-Some.ensures in
    let refused = priors_outside c.args.priors.now c.in-Some.position first.0 first.1 in
    cc (refused, c.at.ensures)

pub returns-in-None : goal.returns-in-None
returns-in-None c = priors_inside c.args.priors.now c.in-None.ensures
