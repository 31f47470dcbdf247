-- One more quadrant point: the pairs of bests keep their meaning.
use Rattle.std.proofs.Common.{◌≡◌, ℕ, ◌+◌, ◌<◌, ◌≤◌, Bool, List, [], ◌∷◌, ◌++◌, length, get_or, take, ℤ, nat_abs, ◌≤ℤ◌, Some, None, Option, sym, refl, ap, ◌∙◌, ap₂, arith}
use Rattle.std.specs.Int.{int_max}
use Rattle.std.proofs.lemmas.Int.{ints, clamps}
use Rattle.std.proofs.lemmas.List.{take_more}
use Rattle.arith.proofs.Exact.{Is}
use Rattle.metric.specs.Exhaustive.{greater}
use Rattle.metric.proofs.Maxes.{greater_assoc}
use Rattle.metric.proofs.Loops.{greater_none}
use Rattle.constellation.specs.declared.Point.{Point}
use Rattle.observation.specs.declared.Record.{Record}
use Rattle.detect.specs.Tops.{lowest, coded, offer_of, top_of}

pub both : {a b c d : ℤ} → a ≡ c → b ≡ d → ◌≡◌ {A = ℤ × ℤ} (a, b) (c, d)
both e f = ap₂ (λ (a b : ℤ). (a, b)) e f

-- what is said of a number, of one that is the same
pub is_by : {t o z : ℤ} {n : ℕ} → t ≡ o → Is o z n → Is t z n
is_by e i = record { same = e ∙ i.same; within = i.within }

-- the low number stands for none: the larger of two codes is the code of the greater
pub coded-greater : (o p : Option ℤ) → lowest ≤ℤ coded o → lowest ≤ℤ coded p → coded (greater o p) ≡ int_max (coded o) (coded p)
coded-greater None None h k = refl
coded-greater None (Some b) h k = right b k
  where
    right : (b : ℤ) → lowest ≤ℤ b → b ≡ int_max lowest b
    right b h = omega (arith, ints, clamps)
coded-greater (Some a) None h k = left a h
  where
    left : (a : ℤ) → lowest ≤ℤ a → a ≡ int_max a lowest
    left a h = omega (arith, ints, clamps)
coded-greater (Some a) (Some b) h k = refl

pub within_above : (z : ℤ) → nat_abs z ≤ 2305843009213693952 → lowest ≤ℤ z
within_above z h = omega (arith, ints)

-- the best over one point more
top_push : (r : Record) (shift : ℕ) (a : List ℤ) (m u v k : ℕ) (b : Bool) (ps : List Point) (p : Point) →
    top_of r shift a m u v k b (ps ++ (p ∷ [])) ≡ greater (top_of r shift a m u v k b ps) (offer_of r shift a m u v k b p)
unfolding top_of
top_push r shift a m u v k b [] p = greater_none (offer_of r shift a m u v k b p)
top_push r shift a m u v k b (q ∷ ps) p =
    ap (greater (offer_of r shift a m u v k b q)) (top_push r shift a m u v k b ps p)
    ∙ sym (greater_assoc (offer_of r shift a m u v k b q) (top_of r shift a m u v k b ps) (offer_of r shift a m u v k b p))

pub top_more : (r : Record) (shift : ℕ) (a : List ℤ) (m u v k : ℕ) (b : Bool) (ps : List Point) (i : ℕ) (d : Point) → i < length ps →
    top_of r shift a m u v k b (take (i + 1) ps) ≡ greater (top_of r shift a m u v k b (take i ps)) (offer_of r shift a m u v k b (get_or ps i d))
top_more r shift a m u v k b ps i d h = ap (top_of r shift a m u v k b) (take_more ps i d h) ∙ top_push r shift a m u v k b (take i ps) (get_or ps i d)
