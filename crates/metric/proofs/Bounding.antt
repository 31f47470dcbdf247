-- How far an extrinsic value moves with the a priori values.
use Rattle.std.proofs.Common.{◌≡◌, ℕ, zero, suc, ◌≤◌, Bool, true, false, cond, T, eqb, List, [], ◌∷◌, map, ℤ, pos, ◌+ℤ◌, ◌-ℤ◌, ◌≤ℤ◌, Some, None, filter, Option, sym, refl, ap, ◌∙◌, subst, ap₂, subst₂, arith, eqb→eq}
use borrow.Author.Differences.{up}
use Rattle.std.proofs.lemmas.Int.{ints, clamps}
use Rattle.metric.specs.Exhaustive.{sum_to, greater, largest}
use Rattle.metric.proofs.Sums.{sum_add, sum_single}
use Rattle.metric.proofs.Maxes.{largest-kept}

pub sum_le : (n : ℕ) (f g : ℕ → ℤ) → ((j : ℕ) → f j ≤ℤ g j) → sum_to n f ≤ℤ sum_to n g
unfolding sum_to
sum_le zero f g h = omega (arith, ints)
sum_le (suc n) f g h = both (sum_to n f) (sum_to n g) (f (suc n)) (g (suc n)) (sum_le n f g h) (h (suc n))
  where
    both : (a b c d : ℤ) → a ≤ℤ b → c ≤ℤ d → (a +ℤ c) ≤ℤ (b +ℤ d)
    both a b c d h k = omega (arith, ints)

-- ---- maxima: `Below c a b`, b plus c is at least a, or both are None
abbrev pub Below : ℤ → Option ℤ → Option ℤ → Type 0
Below c None None = Unit {0}
Below c None (Some b) = ⊥
Below c (Some a) None = ⊥
Below c (Some a) (Some b) = a ≤ℤ (b +ℤ c)

greater_below : (c : ℤ) (a b a' b' : Option ℤ) → Below c a b → Below c a' b' → Below c (greater a a') (greater b b')
greater_below c None None a' b' h k = k
greater_below c None (Some b) a' b' h k = absurd h
greater_below c (Some a) None a' b' h k = absurd h
greater_below c (Some a) (Some b) None None h k = h
greater_below c (Some a) (Some b) None (Some b') h k = absurd k
greater_below c (Some a) (Some b) (Some a') None h k = absurd k
greater_below c (Some a) (Some b) (Some a') (Some b') h k = omega (arith, ints, clamps)

pub largest_below : {X : Type 0} (f g : X → ℤ) (t : X → Bool) (c : ℤ) → ((p : X) → t p ≡ true → f p ≤ℤ (g p +ℤ c)) → (ps : List X) →
    Below c (largest (map f (filter t ps))) (largest (map g (filter t ps)))
largest_below f g t c h [] = tt
largest_below f g t c h (p ∷ ps) = subst₂ (Below c) (sym (largest-kept f t p ps)) (sym (largest-kept g t p ps))
    (greater_below c (cond (t p) (Some (f p)) None) (cond (t p) (Some (g p)) None) (largest (map f (filter t ps))) (largest (map g (filter t ps)))
    (go (t p) (h p)) (largest_below f g t c h ps))
  where
    go : (b : Bool) → (b ≡ true → f p ≤ℤ (g p +ℤ c)) → Below c (cond b (Some (f p)) None) (cond b (Some (g p)) None)
    go true h = h refl
    go false h = tt

-- ---- what the a priori values add, but for bit k
unfoldable pub part : ℤ → ℤ
part z = pos (up z)

unfoldable pub rise : ℕ → ℕ → (ℕ → ℤ) → (ℕ → ℤ) → ℤ
rise m k A B = sum_to m (λ j. cond (eqb j k) (pos 0) (part (A j -ℤ B j)))

-- one summand
summand : (e b : Bool) (a c r d : ℤ) → (e ≡ true → r ≡ pos 0) → (e ≡ true → d ≡ cond b (a -ℤ c) (pos 0)) → (e ≡ false → r ≡ part (a -ℤ c)) → (e ≡ false → d ≡ pos 0) →
    cond b a (pos 0) ≤ℤ (cond b c (pos 0) +ℤ r +ℤ d)
unfolding part
summand true true a c r d h₁ h₂ h₃ h₄ = omega (arith, ints, h₁ refl, h₂ refl)
summand true false a c r d h₁ h₂ h₃ h₄ = omega (arith, ints, h₁ refl, h₂ refl)
summand false true a c r d h₁ h₂ h₃ h₄ = omega (arith, ints, h₃ refl, h₄ refl)
summand false false a c r d h₁ h₂ h₃ h₄ = omega (arith, ints, h₃ refl, h₄ refl)

-- over any bits
pub bits_le : (m k : ℕ) (bit : ℕ → Bool) (A B : ℕ → ℤ) → 1 ≤ k → k ≤ m →
    sum_to m (λ j. cond (bit j) (A j) (pos 0)) ≤ℤ (sum_to m (λ j. cond (bit j) (B j) (pos 0)) +ℤ rise m k A B +ℤ cond (bit k) (A k -ℤ B k) (pos 0))
unfolding rise
bits_le m k bit A B k1 km = subst (λ (t : ℤ). sum_to m (λ j. cond (bit j) (A j) (pos 0)) ≤ℤ t)
    (sum_add m (λ j. F j +ℤ R j) K ∙ ap₂ ◌+ℤ◌ (sum_add m F R) (sum_single m k (cond (bit k) (A k -ℤ B k) (pos 0)) k1 km))
    (sum_le m (λ j. cond (bit j) (A j) (pos 0)) (λ j. F j +ℤ R j +ℤ K j) each)
  where
    F : ℕ → ℤ
    F j = cond (bit j) (B j) (pos 0)

    R : ℕ → ℤ
    R j = cond (eqb j k) (pos 0) (part (A j -ℤ B j))

    K : ℕ → ℤ
    K j = cond (eqb j k) (cond (bit k) (A k -ℤ B k) (pos 0)) (pos 0)

    picks : (e : Bool) (x y : ℤ) → (e ≡ true → cond e x y ≡ x) × (e ≡ false → cond e x y ≡ y)
    picks true x y = ((λ _. refl), (λ p. absurd (subst (λ (t : Bool). T (cond t false true)) (sym p) tt)))
    picks false x y = ((λ p. absurd (subst T (sym p) tt)), (λ _. refl))

    at : (j : ℕ) → eqb j k ≡ true → j ≡ k
    at j e = eqb→eq j k (subst T (sym e) tt)

    each : (j : ℕ) → cond (bit j) (A j) (pos 0) ≤ℤ (F j +ℤ R j +ℤ K j)
    each j = summand (eqb j k) (bit j) (A j) (B j) (R j) (K j)
        (picks (eqb j k) (pos 0) (part (A j -ℤ B j))).0
        (λ e. (picks (eqb j k) (cond (bit k) (A k -ℤ B k) (pos 0)) (pos 0)).0 e ∙ ap (λ (i : ℕ). cond (bit i) (A i -ℤ B i) (pos 0)) (sym (at j e)))
        (picks (eqb j k) (pos 0) (part (A j -ℤ B j))).1
        (picks (eqb j k) (cond (bit k) (A k -ℤ B k) (pos 0)) (pos 0)).1
