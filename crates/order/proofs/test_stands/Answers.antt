use Rattle.order.proofs.OnceLaws.{once_from, once_to}
use Rattle.order.proofs.test_stands.Goals as goal

pub returns : goal.returns
returns c = λ m ps. (once_from m ps, once_to m ps)
