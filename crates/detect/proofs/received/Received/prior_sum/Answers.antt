use Rattle.detect.proofs.received.Received.prior_sum.Goals as goal
use Rattle.std.proofs.Common.{◌≡◌, ℕ, ◌+◌, ◌*◌, ◌<◌, ◌≤◌, cond, eqb, List, length, get_or, ℤ, pos, ◌+ℤ◌, nat_abs, refl, ap, ◌∙◌, ap₂, add-one, arith, w16, w64}
use Rattle.std.proofs.lemmas.Int.{ints}
use Rattle.std.proofs.ByRecursion.{All-get_or}
use Rattle.std.specs.List.{AllByRecursion}
use Rattle.metric.specs.Exhaustive.{sum_to, label_bit, at_bit}
use Rattle.metric.proofs.Loops.{sum_more}
use Rattle.detect.specs.Parts.{prior_sum}
use Rattle.arith.proofs.Exact.{Is, given, equal, kept, plus}

abbrev Small : ℤ → Type 0
Small x = nat_abs x ≤ 8191

-- what bit j adds, counted from 0
abbrev part : (m label : ℕ) (xs : List ℤ) (j : ℕ) → ℤ
part m label xs j = cond (label_bit m label (j + 1)) (get_or xs j (pos 0)) (pos 0)

prior_sum-more : (m label : ℕ) (xs : List ℤ) (j : ℕ) → prior_sum m label xs (j + 1) ≡ prior_sum m label xs j +ℤ part m label xs j
prior_sum-more m label xs j = sum_more j f ∙ ap (λ (x : ℤ). prior_sum m label xs j +ℤ cond (label_bit m label (j + 1)) x (pos 0)) at
  where
    f : ℕ → ℤ
    f j = cond (label_bit m label j) (at_bit xs j) (pos 0)

    at : at_bit xs (j + 1) ≡ get_or xs j (pos 0)
    at = rw add-one

value_at : (xs : List ℤ) (j : ℕ) → j < length xs → AllByRecursion Small xs → Small (get_or xs j (pos 0))
value_at xs j h all = All-get_or Small xs j (pos 0) h all

counted_is : {r x y : ℤ} {b d : ℕ} → r ≡ cond (eqb b 1) x (pos 0) → nat_abs r ≤ 8191 → b ≡ d → Is x y 8191 → Is r (cond (eqb d 1) y (pos 0)) 8191
counted_is e h f i = equal (e ∙ ap₂ (λ (n : ℕ) (z : ℤ). cond (eqb n 1) z (pos 0)) f i.same) h

-- what is so far, and one part more
so_far : {s : ℤ} (j : ℕ) {m n : ℕ} → nat_abs s ≤ j * 8191 → j < n → n ≡ m → m ≤ 8 → Is s s 65528
so_far {s} j h k e l = given s (omega arith)

sum_next : {t s p q : ℤ} (x : ℤ) (j : ℕ) → Is t (s +ℤ x) (65528 + 8191) → s ≡ p → q ≡ p +ℤ x → nat_abs s ≤ j * 8191 → nat_abs x ≤ 8191 → (t ≡ q) × (nat_abs t ≤ (j + 1) * 8191)
sum_next {t} {s} {p} {q} x j i f g h k = go i.same
  where
    go : t ≡ s +ℤ x → (t ≡ q) × (nat_abs t ≤ (j + 1) * 8191)
    go e = (omega (arith, ints), omega (arith, ints))

pub loop-index-init : goal.loop-index-init
unfolding sum_to
loop-index-init c = (refl, omega arith)

pub loop-index-preserved : goal.loop-index-preserved
loop-index-preserved c =
    let s = c.args.self.now in
    let x = kept w16 (given (get_or s.priors.now c.loop-index.index (pos 0)) (value_at s.priors.now c.loop-index.index c.loop-index-test.true s.given.a_in)) tt in
    let one = kept w64 (counted_is c.counted-sum.ensures.value c.counted-sum.ensures.small c.bit_at.ensures.value x) tt in
    sum_next (part s.chart.now.m c.args.label s.priors.now c.loop-index.index) c.loop-index.index (kept w64 (plus (so_far c.loop-index.index c.loop-index.invariant.1 c.loop-index-test.true s.known s.given.m_in) one) tt)
    c.loop-index.invariant.0 (prior_sum-more s.chart.now.m c.args.label s.priors.now c.loop-index.index) c.loop-index.invariant.1 one.within
