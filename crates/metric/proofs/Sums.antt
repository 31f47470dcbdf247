-- Sums of a function over 1..n, and the a priori part of a point's metric.
use Rattle.std.proofs.Common.{◌≡◌, ℕ, zero, suc, ◌<◌, ◌≤◌, Bool, true, false, cond, T, eqb, ◌≢◌, ℤ, pos, ◌+ℤ◌, sym, refl, ap, ◌∙◌, subst, ap₂, inl, inr, arith, eqb→eq}
use borrow.Author.Differences.{ints}
use Rattle.std.proofs.lemmas.Bool.Decides.{eqb_tells}
use Rattle.constellation.specs.Meaning.{Meaning}
use Rattle.metric.specs.Exhaustive.{Corner, label_bit, point_bit, prior, sum_to}
use Rattle.metric.specs.Reduced.{label_prior}

pub sum_zero : (n : ℕ) → sum_to n (λ j. pos 0) ≡ pos 0
unfolding sum_to
sum_zero zero = refl
sum_zero (suc n) = ap (λ t. t +ℤ pos 0) (sum_zero n)

pub sum_same : (n : ℕ) (f g : ℕ → ℤ) → ((j : ℕ) → 1 ≤ j → j ≤ n → f j ≡ g j) → sum_to n f ≡ sum_to n g
unfolding sum_to
sum_same zero f g h = refl
sum_same (suc n) f g h = ap₂ ◌+ℤ◌ (sum_same n f g (λ j p q. h j p (omega arith))) (h (suc n) (omega arith) (omega arith))

pub sum_add : (n : ℕ) (f g : ℕ → ℤ) → sum_to n (λ j. f j +ℤ g j) ≡ sum_to n f +ℤ sum_to n g
unfolding sum_to
sum_add zero f g = refl
sum_add (suc n) f g = ap (λ t. t +ℤ (f (suc n) +ℤ g (suc n))) (sum_add n f g) ∙ four (sum_to n f) (sum_to n g) (f (suc n)) (g (suc n))
  where
    four : (a b c d : ℤ) → a +ℤ b +ℤ (c +ℤ d) ≡ a +ℤ c +ℤ (b +ℤ d)
    four a b c d = omega (arith, ints)

cond_no : (b : Bool) (x : ℤ) → b ≡ false → cond b x (pos 0) ≡ pos 0
cond_no true x e = absurd (subst (λ (t : Bool). T (cond t false true)) (sym e) tt)
cond_no false x e = refl

cond_yes : (b : Bool) (x y : ℤ) → b ≡ true → cond b x y ≡ x
cond_yes true x y e = refl
cond_yes false x y e = absurd (subst T (sym e) tt)

pub eqb_same : (n : ℕ) → eqb n n ≡ true
eqb_same n = elim (eqb_tells n n) [ inl p ↦ p.0 | inr p ↦ absurd (p.1 refl) ]

pub eqb_apart : (m n : ℕ) → m ≢ n → eqb m n ≡ false
eqb_apart m n h = elim (eqb_tells m n) [ inl p ↦ absurd (h p.1) | inr p ↦ p.0 ]

-- two tests that say the same
pub eqb_iff : (a b c d : ℕ) → (a ≡ b → c ≡ d) → (c ≡ d → a ≡ b) → eqb a b ≡ eqb c d
eqb_iff a b c d h k = elim (eqb_tells a b) [
  | inl p ↦ p.0 ∙ sym (ap (λ (i : ℕ). eqb i d) (h p.1) ∙ eqb_same d)
  | inr p ↦ p.0 ∙ sym (eqb_apart c d (λ e. p.1 (k e)))
]

sum_none : (n i : ℕ) (x : ℤ) → n < i → sum_to n (λ j. cond (eqb j i) x (pos 0)) ≡ pos 0
unfolding sum_to
sum_none zero i x h = refl
sum_none (suc n) i x h = ap₂ ◌+ℤ◌ (sum_none n i x (omega arith)) (cond_no (eqb (suc n) i) x (eqb_apart (suc n) i (omega arith)))

pub sum_single : (n i : ℕ) (x : ℤ) → 1 ≤ i → i ≤ n → sum_to n (λ j. cond (eqb j i) x (pos 0)) ≡ x
unfolding sum_to
sum_single zero i x p q = absurd (omega arith)
sum_single (suc n) i x p q = elim (eqb_tells (suc n) i) [
  | inl t ↦ ap₂ ◌+ℤ◌ (sum_none n i x (omega arith)) (cond_yes (eqb (suc n) i) x (pos 0) t.0) ∙ left_zero x
  | inr t ↦ ap₂ ◌+ℤ◌ (sum_single n i x p (omega arith)) (cond_no (eqb (suc n) i) x t.0) ∙ right_zero x
]
  where
    left_zero : (a : ℤ) → pos 0 +ℤ a ≡ a
    left_zero a = omega (arith, ints)

    right_zero : (a : ℤ) → a +ℤ pos 0 ≡ a
    right_zero a = omega (arith, ints)

-- one summand, by the tests
summand : (bv bu lb left low : Bool) (a av au : ℤ) → (bv ≡ true → (a ≡ av) × (lb ≡ false) × (bu ≡ false)) → (bu ≡ true → (a ≡ au) × (lb ≡ false)) →
    cond (cond bv left (cond bu low lb)) a (pos 0) ≡ cond lb a (pos 0) +ℤ cond bv (cond left av (pos 0)) (pos 0) +ℤ cond bu (cond low au (pos 0)) (pos 0)
summand bv bu lb left low a av au h k = grind (arith, ints)

-- a point's a priori part: the label's, and the two of the signs
pub prior_is : (C : Meaning) (A : ℕ → ℤ) (p : Corner) → 1 ≤ C.u → C.u ≤ C.m → 1 ≤ C.v → C.v ≤ C.m → C.u ≢ C.v →
    label_bit C.m p.of.label C.u ≡ false → label_bit C.m p.of.label C.v ≡ false →
    prior C A p ≡ label_prior C A p.of +ℤ cond p.left (A C.v) (pos 0) +ℤ cond p.low (A C.u) (pos 0)
prior_is C A p u1 um v1 vm uv lu lv =
    sum_same C.m (λ j. cond (point_bit C p j) (A j) (pos 0)) (λ j. L j +ℤ V j +ℤ U j) (λ j _ _. each j)
    ∙ sum_add C.m (λ j. L j +ℤ V j) U
    ∙ ap₂ ◌+ℤ◌ (sum_add C.m L V ∙ ap (λ t. sum_to C.m L +ℤ t) (sum_single C.m C.v (cond p.left (A C.v) (pos 0)) v1 vm))
    (sum_single C.m C.u (cond p.low (A C.u) (pos 0)) u1 um)
  where
    L : ℕ → ℤ
    L j = cond (label_bit C.m p.of.label j) (A j) (pos 0)

    V : ℕ → ℤ
    V j = cond (eqb j C.v) (cond p.left (A C.v) (pos 0)) (pos 0)

    U : ℕ → ℤ
    U j = cond (eqb j C.u) (cond p.low (A C.u) (pos 0)) (pos 0)

    same : (j i : ℕ) → eqb j i ≡ true → j ≡ i
    same j i e = eqb→eq j i (subst T (sym e) tt)

    each : (j : ℕ) → cond (point_bit C p j) (A j) (pos 0) ≡ L j +ℤ V j +ℤ U j
    each j = summand (eqb j C.v) (eqb j C.u) (label_bit C.m p.of.label j) p.left p.low (A j) (A C.v) (A C.u)
        (λ e. (ap A (same j C.v e), ap (label_bit C.m p.of.label) (same j C.v e) ∙ lv, eqb_apart j C.u (λ f. uv (sym f ∙ same j C.v e))))
        (λ e. (ap A (same j C.u e), ap (label_bit C.m p.of.label) (same j C.u e) ∙ lu))
