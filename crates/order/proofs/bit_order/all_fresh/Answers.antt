use Rattle.std.proofs.Common.{length, ◌≡◌, ◌-◌, ℕ, Bool, arith, refl, tests, ◌∙◌, rules}
use Rattle.std.proofs.lemmas.Iterator.{YieldsList-from_range}
use Rattle.std.proofs.lemmas.Iterator.Search.{all_from_yields_List}
use Rattle.constellation.specs.Ordered.{fresh}
use Rattle.order.proofs.Loops.{each_listed}
use Rattle.order.proofs.bit_order.all_fresh.Goals as goal

pub returns : goal.returns
returns c =
    let n : ℕ = length c.args.list.now in
    let test : ℕ → Bool = fresh n c.args.list.now in
    let all : n - 0 ≡ n = omega arith in
    all_from_yields_List test _ _ c.all.result c.all.ensures.ran (YieldsList-from_range 0 n n refl all) (λ x b q k. search (rules, tests)) ∙ each_listed test n
