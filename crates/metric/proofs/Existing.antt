-- Where both values of a bit occur, there is an extrinsic value.
use Rattle.std.proofs.Common.{◌≡◌, Bool, true, false, cond, T, List, [], ◌∷◌, map, ℤ, pos, ◌-ℤ◌, ◌*ℤ◌, Some, None, filter, Option, sym, refl, subst, ap₂}
use mathlib.Core.Bool.{beq}
use Rattle.std.specs.Int.{int_max}
use Rattle.metric.specs.Exhaustive.{mapped, point_bit, all_points, metric, greater, largest, best, apart, rounded, extrinsic, some_of, seen, Answers}
use Rattle.metric.proofs.Maxes.{largest-kept}

abbrev Is : Option ℤ → Type 0
Is o = (d : ℤ) × (o ≡ Some d)

greater_is : (a : ℤ) (o : Option ℤ) → Is (greater (Some a) o)
greater_is a None = (a, refl)
greater_is a (Some b) = (int_max a b, refl)

pub largest_is : {X : Type 0} (f : X → ℤ) (t : X → Bool) (ps : List X) → some_of t ps ≡ true → Is (largest (map f (filter t ps)))
largest_is f t [] e = absurd (subst T (sym e) tt)
largest_is f t (p ∷ ps) e = subst Is (sym (largest-kept f t p ps)) (go (largest_is f t ps) (t p) e)
  where
    go : (some_of t ps ≡ true → Is (largest (map f (filter t ps)))) → (b : Bool) → cond b true (some_of t ps) ≡ true → Is (greater (cond b (Some (f p)) None) (largest (map f (filter t ps))))
    go ih true e = greater_is (f p) (largest (map f (filter t ps)))
    go ih false e = ih e

pub answers : Answers
unfolding extrinsic best seen
answers C S s A k e₁ e₀ = go (largest_is (metric C S s A) (λ p. beq (point_bit C p k) true) (all_points C.points) e₁) (largest_is (metric C S s A) (λ p. beq (point_bit C p k) false) (all_points C.points) e₀)
  where
    go : {o z : Option ℤ} → Is o → Is z → Is (mapped (λ D. rounded S (D -ℤ pos S *ℤ A k)) (apart o z))
    go p q = (rounded S (p.0 -ℤ q.0 -ℤ pos S *ℤ A k), ap₂ (λ (o z : Option ℤ). mapped (λ D. rounded S (D -ℤ pos S *ℤ A k)) (apart o z)) p.1 q.1)
