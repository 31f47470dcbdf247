-- The extrinsic value does not depend on its own bit's a priori value, and moves by at most the sum of the others' moves.
use Rattle.std.proofs.Common.{◌≡◌, ℕ, zero, suc, ◌^◌, ◌<◌, ◌≤◌, Bool, true, false, cond, T, eqb, ◌≢◌, [], ◌∷◌, ℤ, pos, negsuc, ◌+ℤ◌, ◌-ℤ◌, ◌*ℤ◌, neg_ℤ, ◌≤ℤ◌, Some, None, Option, sym, refl, ap, ◌∙◌, subst, subst₂, inl, inr, arith, pow_pos}
use mathlib.Core.Bool.{beq}
use Rattle.std.proofs.lemmas.Int.{ints}
use Rattle.std.proofs.lemmas.Bool.Decides.{eqb_tells}
use Rattle.arith.specs.Ring.{var, con, ◌:+◌, ◌:-◌, ◌:*◌}
use Rattle.constellation.specs.Meaning.{Meaning}
use Rattle.metric.specs.Exhaustive.{mapped, Symbol, Corner, point_bit, all_points, weighed, distance, place, prior, metric, best, apart, rounded, extrinsic}
use Rattle.metric.specs.Reduced.{absolute}
use Rattle.metric.specs.Bounds.{others, Independent, Bounded}
use Rattle.arith.proofs.RingLaws.{ring}
use Rattle.metric.proofs.Sums.{sum_zero, sum_same, sum_add}
use Rattle.metric.proofs.Floors.{times_le, rounded_le}
use Rattle.metric.proofs.Bounding.{Below, largest_below, bits_le, rise, part, sum_le}

metric_le : (C : Meaning) (S : ℕ) (sym : Symbol) (A B : ℕ → ℤ) (k : ℕ) → 1 ≤ k → k ≤ C.m → (p : Corner) →
    metric C S sym A p ≤ℤ (metric C S sym B p +ℤ pos S *ℤ (rise C.m k A B +ℤ cond (point_bit C p k) (A k -ℤ B k) (pos 0)))
unfolding metric
metric_le C S sym A B k k1 km p = move (neg_ℤ (pos (weighed sym p.of) *ℤ distance (place p) sym.antennas)) (prior C A p) (prior C B p) (rise C.m k A B) (cond (point_bit C p k) (A k -ℤ B k) (pos 0))
    (bits_le C.m k (point_bit C p) A B k1 km)
  where
    spread : (s b r d : ℤ) → s *ℤ (b +ℤ r +ℤ d) ≡ s *ℤ b +ℤ s *ℤ (r +ℤ d)
    spread s b r d = ring (s ∷ b ∷ r ∷ d ∷ []) (var 0 :* (var 1 :+ var 2 :+ var 3)) (var 0 :* var 1 :+ var 0 :* (var 2 :+ var 3)) refl

    step : (n a b c e : ℤ) → a ≤ℤ e → e ≡ b +ℤ c → (n +ℤ a) ≤ℤ (n +ℤ b +ℤ c)
    step n a b c e h g = omega (arith, ints)

    move : (n a b r d : ℤ) → a ≤ℤ (b +ℤ r +ℤ d) → (n +ℤ pos S *ℤ a) ≤ℤ (n +ℤ pos S *ℤ b +ℤ pos S *ℤ (r +ℤ d))
    move n a b r d h = step n (pos S *ℤ a) (pos S *ℤ b) (pos S *ℤ (r +ℤ d)) (pos S *ℤ (b +ℤ r +ℤ d)) (times_le S a (b +ℤ r +ℤ d) h) (spread (pos S) b r d)

beq-true : (a b : Bool) → beq a b ≡ true → a ≡ b
beq-true true true e = refl
beq-true true false e = absurd (subst T (sym e) tt)
beq-true false true e = absurd (subst T (sym e) tt)
beq-true false false e = refl

best_below : (C : Meaning) (S : ℕ) (sym : Symbol) (A B : ℕ → ℤ) (k : ℕ) → 1 ≤ k → k ≤ C.m → (b : Bool) →
    Below (pos S *ℤ (rise C.m k A B +ℤ cond b (A k -ℤ B k) (pos 0))) (best C S sym A k b) (best C S sym B k b)
unfolding best
best_below C S sym' A B k k1 km b = largest_below (metric C S sym' A) (metric C S sym' B) (λ p. beq (point_bit C p k) b) (pos S *ℤ (rise C.m k A B +ℤ cond b (A k -ℤ B k) (pos 0)))
    (λ p e. subst (λ (t : Bool). metric C S sym' A p ≤ℤ (metric C S sym' B p +ℤ pos S *ℤ (rise C.m k A B +ℤ cond t (A k -ℤ B k) (pos 0)))) (beq-true (point_bit C p k) b e) (metric_le C S sym' A B k k1 km p))
    (all_points C.points)

joined : (S : ℕ) (ak bk r q : ℤ) (m₁ n₁ m₀ n₀ : Option ℤ) → 0 < S → pos 0 ≤ℤ (r +ℤ q) → Below (pos S *ℤ (r +ℤ (ak -ℤ bk))) m₁ n₁ → Below (pos S *ℤ (q +ℤ pos 0)) n₀ m₀ →
    Below (r +ℤ q) (mapped (λ D. rounded S (D -ℤ pos S *ℤ ak)) (apart m₁ m₀)) (mapped (λ D. rounded S (D -ℤ pos S *ℤ bk)) (apart n₁ n₀))
joined S ak bk r q None None m₀ n₀ pS nn h k = tt
joined S ak bk r q None (Some b) m₀ n₀ pS nn h k = absurd h
joined S ak bk r q (Some a) None m₀ n₀ pS nn h k = absurd h
joined S ak bk r q (Some a) (Some b) None None pS nn h k = tt
joined S ak bk r q (Some a) (Some b) None (Some n) pS nn h k = absurd k
joined S ak bk r q (Some a) (Some b) (Some m) None pS nn h k = absurd k
joined S ak bk r q (Some a) (Some b) (Some m) (Some n) pS nn h k =
    rounded_le S (a -ℤ m -ℤ pos S *ℤ ak) (b -ℤ n -ℤ pos S *ℤ bk) (r +ℤ q) pS
    (step (pos S *ℤ ak) (pos S *ℤ bk) (pos S *ℤ (r +ℤ (ak -ℤ bk))) (pos S *ℤ (q +ℤ pos 0)) (pos S *ℤ (r +ℤ q)) h k (spread (pos S) r q ak bk)) nn
  where
    spread : (s r q c d : ℤ) → s *ℤ (r +ℤ q) ≡ s *ℤ (r +ℤ (c -ℤ d)) +ℤ s *ℤ (q +ℤ pos 0) -ℤ s *ℤ c +ℤ s *ℤ d
    spread s r q c d = ring (s ∷ r ∷ q ∷ c ∷ d ∷ []) (var 0 :* (var 1 :+ var 2)) (var 0 :* (var 1 :+ (var 3 :- var 4)) :+ var 0 :* (var 2 :+ con (pos 0)) :- var 0 :* var 3 :+ var 0 :* var 4) refl

    step : (c d p t w : ℤ) → a ≤ℤ (b +ℤ p) → n ≤ℤ (m +ℤ t) → w ≡ p +ℤ t -ℤ c +ℤ d → (a -ℤ m -ℤ c) ≤ℤ (b -ℤ n -ℤ d +ℤ w)
    step c d p t w h k g = omega (arith, ints)

turn : (a b : ℤ) → b -ℤ a ≡ neg_ℤ (a -ℤ b)
turn a b = omega (arith, ints)

parts : (z : ℤ) → part z +ℤ part (neg_ℤ z) ≡ absolute z
unfolding part
parts (pos zero) = refl
parts (pos (suc n)) = ap pos (omega arith)
parts (negsuc n) = ap pos (omega arith)

-- the two rises make the sum of the others' moves
rises : (m k : ℕ) (A B : ℕ → ℤ) → rise m k A B +ℤ rise m k B A ≡ others m k A B
unfolding rise part
rises m k A B = sym (sum_add m (λ j. cond (eqb j k) (pos 0) (part (A j -ℤ B j))) (λ j. cond (eqb j k) (pos 0) (part (B j -ℤ A j))))
    ∙ sum_same m (λ j. cond (eqb j k) (pos 0) (part (A j -ℤ B j)) +ℤ cond (eqb j k) (pos 0) (part (B j -ℤ A j))) (λ j. cond (eqb j k) (pos 0) (absolute (A j -ℤ B j))) (λ j _ _. go (eqb j k) (A j) (B j))
  where
    go : (e : Bool) (a b : ℤ) → cond e (pos 0) (part (a -ℤ b)) +ℤ cond e (pos 0) (part (b -ℤ a)) ≡ cond e (pos 0) (absolute (a -ℤ b))
    go true a b = refl
    go false a b = ap (λ (t : ℤ). part (a -ℤ b) +ℤ part t) (turn a b) ∙ parts (a -ℤ b)

others_least : (m k : ℕ) (A B : ℕ → ℤ) → pos 0 ≤ℤ others m k A B
others_least m k A B = subst (λ (t : ℤ). t ≤ℤ others m k A B) (sum_zero m) (sum_le m (λ j. pos 0) (λ j. cond (eqb j k) (pos 0) (absolute (A j -ℤ B j))) (λ j. go (eqb j k) (A j -ℤ B j)))
  where
    go : (e : Bool) (z : ℤ) → pos 0 ≤ℤ cond e (pos 0) (absolute z)
    go true z = omega (arith, ints)
    go false z = omega (arith, ints)

pub extrinsic_below : (C : Meaning) (S : ℕ) (s : Symbol) (A B : ℕ → ℤ) (k : ℕ) → 0 < S → 1 ≤ k → k ≤ C.m → Below (others C.m k A B) (extrinsic C S s A k) (extrinsic C S s B k)
unfolding extrinsic
extrinsic_below C S s A B k pS k1 km = subst (λ (c : ℤ). Below c (extrinsic C S s A k) (extrinsic C S s B k)) (rises C.m k A B)
    (joined S (A k) (B k) (rise C.m k A B) (rise C.m k B A) (best C S s A k true) (best C S s B k true) (best C S s A k false) (best C S s B k false) pS
    (subst (λ (t : ℤ). pos 0 ≤ℤ t) (sym (rises C.m k A B)) (others_least C.m k A B))
    (best_below C S s A B k k1 km true) (best_below C S s B A k k1 km false))

pub others-turn : (m k : ℕ) (A B : ℕ → ℤ) → others m k B A ≡ others m k A B
others-turn m k A B = sym (rises m k B A) ∙ swap (rise m k B A) (rise m k A B) ∙ rises m k A B
  where
    swap : (a b : ℤ) → a +ℤ b ≡ b +ℤ a
    swap a b = omega (arith, ints)

pub bounded : Bounded
bounded C s S A B k k1 km l n e f =
    within l n (others C.m k A B) (others C.m k B A)
    (subst₂ (Below (others C.m k A B)) e f (extrinsic_below C (2 ^ s) S A B k (pow_pos s) k1 km))
    (subst₂ (Below (others C.m k B A)) f e (extrinsic_below C (2 ^ s) S B A k (pow_pos s) k1 km))
    (others-turn C.m k A B)
  where
    within : (l n c d : ℤ) → l ≤ℤ (n +ℤ c) → n ≤ℤ (l +ℤ d) → d ≡ c → absolute (l -ℤ n) ≤ℤ c
    within l n c d h k g = omega (arith, ints)

others_none : (m k : ℕ) (A B : ℕ → ℤ) → ((j : ℕ) → j ≢ k → A j ≡ B j) → others m k A B ≡ pos 0
others_none m k A B h = sum_same m (λ j. cond (eqb j k) (pos 0) (absolute (A j -ℤ B j))) (λ j. pos 0) (λ j _ _. each j) ∙ sum_zero m
  where
    zeroed : (a b : ℤ) → a ≡ b → absolute (a -ℤ b) ≡ pos 0
    zeroed a b e = omega (arith, ints)

    go : (e : Bool) (j : ℕ) → eqb j k ≡ e → cond e (pos 0) (absolute (A j -ℤ B j)) ≡ pos 0
    go true j e = refl
    go false j e = zeroed (A j) (B j) (h j (elim (eqb_tells j k) [ inl p ↦ absurd (subst T (sym p.0 ∙ e) tt) | inr p ↦ p.1 ]))

    each : (j : ℕ) → cond (eqb j k) (pos 0) (absolute (A j -ℤ B j)) ≡ pos 0
    each j = go (eqb j k) j refl

same_from : (o p : Option ℤ) (c d : ℤ) → Below c o p → Below d p o → c ≡ pos 0 → d ≡ pos 0 → o ≡ p
same_from None None c d h k e f = refl
same_from None (Some p) c d h k e f = absurd h
same_from (Some o) None c d h k e f = absurd h
same_from (Some o) (Some p) c d h k e f = ap Some (omega (arith, ints))

pub independent : Independent
independent C s S A B k k1 km h =
    same_from (extrinsic C (2 ^ s) S A k) (extrinsic C (2 ^ s) S B k) (others C.m k A B) (others C.m k B A)
    (extrinsic_below C (2 ^ s) S A B k (pow_pos s) k1 km) (extrinsic_below C (2 ^ s) S B A k (pow_pos s) k1 km)
    (others_none C.m k A B h) (others_none C.m k B A (λ j g. sym (h j g)))
