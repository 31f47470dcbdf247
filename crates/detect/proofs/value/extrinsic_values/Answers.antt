use Rattle.detect.proofs.value.extrinsic_values.Goals as goal
use Rattle.std.proofs.Common.{◌≡◌, ℕ, zero, suc, ◌+◌, ◌^◌, ◌<◌, ◌≤◌, ◌≢◌, List, ◌∷◌, map, length, get_or, set, ℤ, pos, ◌-ℤ◌, nat_abs, refl, ap, ◌∙◌, add-one, arith, get_or-set_other, get_or-set_same, w16, w64, SFits, to_z, of_z, below_more}
use Rattle.std.specs.List.{range_with_len}
use Rattle.std.proofs.lemmas.Int.{to_z-of_z}
use Rattle.std.proofs.ByRecursion.{All-get_or}
use Rattle.std.proofs.lemmas.List.FromFn.{fill_by_all}
use Rattle.arith.proofs.Exact.{given, kept}
use Rattle.metric.specs.Exhaustive.{at_bit}
use Rattle.metric.specs.Value.{extrinsic_value}
use Rattle.observation.specs.declared.Record.{Record}
use Rattle.detect.specs.Tops.{value_of}
use Rattle.detect.specs.Charts.{chart_meaning}
use Rattle.detect.specs.Kept.{kept_value}
use Rattle.detect.proofs.Charted.{most, kept_same}
use Rattle.detect.proofs.Gathering.{place_is}

-- one place more is written
put_more : (f : ℕ → ℤ) (out : List ℤ) (j : ℕ) (x : ℤ) → j < length out → ((k : ℕ) → k < j → get_or out k (pos 0) ≡ f k) → x ≡ f j → (k : ℕ) → k < j + 1 → get_or (set out j x) k (pos 0) ≡ f k
put_more f out j x h inv e = below_more _ _ (λ k l. let ne : k ≢ j = omega arith in rw get_or-set_other (inv k l)) (rw get_or-set_same e)

value_same : (S : ℕ) {a b o p z y : ℤ} → a ≡ b → o ≡ p → z ≡ y → value_of S a (o -ℤ z) ≡ value_of S b (p -ℤ y)
value_same S e f g = rw (e, f, g)

at_next : (a : List ℤ) (k : ℕ) → get_or a k (pos 0) ≡ at_bit a (k + 1)
at_next a k = rw add-one

pub loop-index-preserved : goal.loop-index-preserved
unfolding kept_value
loop-index-preserved c =
    let j = c.loop-index.index in
    let chart = c.args.chart.now in
    let held = c.pair_at-one.ensures.held in
    let here : j < chart.m = omega (arith, c.requires.room) in
    let at = c.pair_at-one.ensures.value ∙ place_is (chart_meaning chart).points j here (most chart.lawful) c.gather.ensures in
    let o = kept w64 (given c.pair_at-one.result.0 held.one) tt in
    let z = kept w64 (given c.pair_at-one.result.1 held.zero) tt in
    let a = kept w16 (given (get_or c.args.priors.now j (pos 0)) (All-get_or (λ (x : ℤ). nat_abs x ≤ 8191) c.args.priors.now j (pos 0) (omega (arith, c.requires.known)) c.requires.ranged)) tt in
    let fit : SFits w16 c.valued.result = record { sfits = c.valued.type_inv } in
    put_more (λ k. kept_value (chart_meaning chart) c.args.shift.exponent c.args.observed.now c.args.priors.now (k + 1))
    c.loop-index.out j (to_z w16 (of_z w16 c.valued.result)) (omega arith) c.loop-index.invariant
    (to_z-of_z w16 c.valued.result fit ∙ c.valued.ensures
    ∙ value_same (2 ^ c.args.shift.exponent) (a.same ∙ at_next c.args.priors.now j) (o.same ∙ ap (λ (p : ℤ × ℤ). p.0) at) (z.same ∙ ap (λ (p : ℤ × ℤ). p.1) at))

-- a list by its entries, which are counted from 1
shift_map : (f : ℕ → ℤ) (a n : ℕ) → map (λ k. f (k + 1)) (range_with_len a n) ≡ map f (range_with_len (a + 1) n)
shift_map f a zero = refl
shift_map f a (suc n) = ap (λ (l : List ℤ). f (a + 1) ∷ l) (shift_map f (a + 1) n)

listed : (f : ℕ → ℤ) (xs : List ℤ) (n : ℕ) → length xs ≡ n → ((k : ℕ) → k < n → get_or xs k (pos 0) ≡ f (k + 1)) → xs ≡ map f (range_with_len 1 n)
listed f xs n e h = fill_by_all (λ k. f (k + 1)) xs n (pos 0) e h ∙ shift_map f 0 n

pub returns : goal.returns
returns c =
    let M = chart_meaning c.args.chart.now in
    let long : length c.loop-index.out ≡ M.m = omega (arith, c.requires.room) in
    record {
      values = listed (kept_value M c.args.shift.exponent c.args.observed.now c.args.priors.now) c.loop-index.out M.m long (λ k h. c.loop-index.invariant k (enough k h));
      exhaustive = λ s e. listed (extrinsic_value M c.args.shift.exponent s c.args.priors.now) c.loop-index.out M.m long
          (λ k h. c.loop-index.invariant k (enough k h) ∙ ap (λ (r : Record). kept_value M c.args.shift.exponent r c.args.priors.now (k + 1)) e
          ∙ kept_same c.args.chart.now.lawful c.args.shift.exponent s c.args.priors.now (k + 1) (omega arith) (omega arith));
    }
  where
    enough : (k : ℕ) → k < c.args.chart.now.m → k < c.loop-index.index
    enough k h = omega (arith, c.requires.room)
