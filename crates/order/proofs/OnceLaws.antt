-- The test of a bit order passes exactly where the list is each of 1 to m once.
use Rattle.std.proofs.Common.{◌≡◌, Bool, ℕ, zero, suc, ◌+◌, ◌-◌, ◌<◌, ◌≤◌, true, eqb, leb, List, [], ◌∷◌, length, get_or, sym, refl, ap, ◌∙◌, not-suc-le-zero, arith}
use Rattle.std.proofs.lemmas.Bool.{cond_both, cond-true, and_from, eq-eqb, le-leb}
use Rattle.constellation.specs.Ordered.{position, each, fresh, permutes}
use Rattle.constellation.proofs.OrderLaws.{order_from}
use Rattle.constellation.proofs.Reorder.{position_least, at_position}
use Rattle.order.specs.Once.{EachOnce}

each_from : (f : ℕ → Bool) (n : ℕ) → ((k : ℕ) → k < n → f k ≡ true) → each f n ≡ true
each_from f zero h = refl
each_from f (suc n) h = and_from _ _ (h n (omega arith)) (each_from f n (λ k l. h k (omega arith)))

-- a number stands first no later than where it stands
position_by : (q : ℕ) (ps : List ℕ) (j : ℕ) → j < length ps → get_or ps j 0 ≡ q → position q ps ≤ j + 1
position_by q [] j h e = absurd (not-suc-le-zero h)
position_by q (p ∷ ps) zero h e = omega (arith, cond-true (eqb p q) 1 (position q ps + 1) (eq-eqb p q e))
position_by q (p ∷ ps) (suc j) h e =
    cond_both (eqb p q) 1 (position q ps + 1) (λ z. z ≤ suc j + 1) (λ _. omega arith) (λ _. omega (arith, position_by q ps j (omega arith) e))

pub once_from : (m : ℕ) (ps : List ℕ) → permutes m ps ≡ true → EachOnce m ps
once_from m ps t =
    let O = order_from m ps t in
    record {
      size = O.size;
      least = O.least;
      most = O.most;
      stands = λ q a b.
          let p : position q ps ≤ m = O.found q a b in
          (position q ps - 1, omega (arith, position_least q ps), at_position q ps (omega (arith, O.size)));
      once = λ i j a b e.
          let s : i + 1 ≡ j + 1 = sym (O.first i a) ∙ ap (λ z. position z ps) e ∙ O.first j b in
          omega arith;
    }

pub once_to : (m : ℕ) (ps : List ℕ) → EachOnce m ps → permutes m ps ≡ true
once_to m ps E =
    let n : length ps ≡ m = E.size in
    let near : (j : ℕ) → j < m → position (get_or ps j 0) ps ≤ j + 1 = λ j h. position_by (get_or ps j 0) ps j (omega arith) refl in
    let all : (k : ℕ) → k < m → leb (position (k + 1) ps) m ≡ true = λ k h.
    let w = E.stands (k + 1) (omega arith) (omega arith) in
    le-leb _ _ (omega (arith, w.1, position_by (k + 1) ps w.0 (omega (arith, w.1)) w.2)) in
    let new : (j : ℕ) → j < m → fresh m ps j ≡ true = λ j h.
    let p : ℕ = position (get_or ps j 0) ps in
    let same : p - 1 ≡ j = E.once (p - 1) j (omega (arith, near j h)) h (at_position (get_or ps j 0) ps (omega (arith, near j h))) in
    let first : p ≡ j + 1 = omega (arith, position_least (get_or ps j 0) ps) in
    and_from _ _ (le-leb _ _ (E.least j h)) (and_from _ _ (le-leb _ _ (E.most j h)) (eq-eqb _ _ first)) in
    and_from _ _ (eq-eqb _ _ n) (and_from _ _ (each_from _ m all) (each_from (fresh m ps) m new))
