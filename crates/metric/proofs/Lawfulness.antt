-- What a lawful constellation gives the detector: labels clear at the sign positions, and both values of each bit.
use Rattle.std.proofs.Common.{◌≡◌, ℕ, zero, suc, ◌+◌, ◌-◌, ◌/◌, ◌%◌, ◌^◌, ◌<◌, ◌≤◌, Bool, true, false, cond, eqb, ◌⊎◌, List, [], ◌∷◌, length, get_or, sym, refl, ap, ◌∙◌, inl, inr, not-suc-le-zero, arith}
use native.Mathlib.Nat.{zero-div}
use mathlib.Core.Bool.{beq}
use Rattle.std.proofs.lemmas.Nat.{pow_pos}
use Rattle.std.proofs.ByRecursion.{All-weaker}
use Rattle.std.proofs.lemmas.Bool.{cases_eq, cond-true, cond-false, eq-eqb, ne_eqb}
use Rattle.constellation.specs.Meaning.{Meaning, Lawful, bit, origin}
use Rattle.constellation.specs.declared.Point.{Point}
use Rattle.constellation.proofs.Signs.{set_fits, set_same, set_other}
use Rattle.metric.specs.Exhaustive.{Corner, all_points, point_bit, some_of, seen}
use Rattle.metric.specs.Reduced.{Clear}

-- the record that the reduced way asks for
pub lawful_clear : (M : Meaning) → Lawful M → Clear M
lawful_clear M L = record {
  u_low = L.u_least;
  u_high = L.u_most;
  v_low = L.v_least;
  v_high = L.v_most;
  apart = L.apart;
  clear = All-weaker _ _ (λ q g. (ap (λ z. eqb z 1) g.u_zero, ap (λ z. eqb z 1) g.v_zero)) M.points L.good;
}

abbrev corner : Point → Bool → Bool → Corner
corner q left low = record { of = q; left = left; low = low }

-- of four tests and what follows: one of the four passes, or what follows does
one_of : (a b c d : Bool) {r : Bool} → (a ≡ true) ⊎ ((b ≡ true) ⊎ ((c ≡ true) ⊎ ((d ≡ true) ⊎ (r ≡ true)))) → cond a true (cond b true (cond c true (cond d true r))) ≡ true
one_of a b c d h = grind arith

-- a test that one corner of one quadrant point passes, some point passes
some_corner : (t : Corner → Bool) (left low : Bool) (qs : List Point) (i : ℕ) → i < length qs → t (corner (get_or qs i origin) left low) ≡ true → some_of t (all_points qs) ≡ true
some_corner t left low [] i h e = absurd (not-suc-le-zero h)
some_corner t left low (q ∷ qs) i h e = one_of (t (corner q false false)) (t (corner q true false)) (t (corner q false true)) (t (corner q true true)) (go left low i h e (some_corner t left low qs))
  where
    go : (left low : Bool) (i : ℕ) → i < length (q ∷ qs) → t (corner (get_or (q ∷ qs) i origin) left low) ≡ true →
        ((j : ℕ) → j < length qs → t (corner (get_or qs j origin) left low) ≡ true → some_of t (all_points qs) ≡ true) →
        (t (corner q false false) ≡ true) ⊎ ((t (corner q true false) ≡ true) ⊎ ((t (corner q false true) ≡ true) ⊎ ((t (corner q true true) ≡ true) ⊎ (some_of t (all_points qs) ≡ true))))
    go false false zero h e rest = inl e
    go true false zero h e rest = inr (inl e)
    go false true zero h e rest = inr (inr (inl e))
    go true true zero h e rest = inr (inr (inr (inl e)))
    go left low (suc i) h e rest = inr (inr (inr (inr (rest i (omega arith) e))))

beq_same : (b : Bool) → beq b b ≡ true
beq_same true = refl
beq_same false = refl

module _ (M : Meaning) (L : Lawful M) where
  -- the label with bit k alone set, or no bit
  only : ℕ → Bool → ℕ
  only k true = 0 + 2 ^ (M.m - k)
  only k false = 0

  no_bit : (d : ℕ) → 0 / 2 ^ d % 2 ≡ 0
  no_bit d = ap (λ z. z % 2) (zero-div (2 ^ d))

  only_fits : (k : ℕ) (b : Bool) → 1 ≤ k → k ≤ M.m → only k b < 2 ^ M.m
  unfolding only
  only_fits k true k1 km = set_fits 0 (M.m - k) (no_bit (M.m - k)) M.m (omega arith) (pow_pos M.m)
  only_fits k false k1 km = pow_pos M.m

  only_other : (k j : ℕ) (b : Bool) → k ≤ M.m → j ≤ M.m → (j ≡ k → ⊥) → bit M.m j (only k b) ≡ 0
  unfolding only
  only_other k j true km jm ne = set_other 0 (M.m - k) (no_bit (M.m - k)) (M.m - j) (λ e. ne (omega arith)) ∙ no_bit (M.m - j)
  only_other k j false km jm ne = no_bit (M.m - j)

  only_same : (k : ℕ) (b : Bool) → beq (eqb (bit M.m k (only k b)) 1) b ≡ true
  unfolding only
  only_same k true = ap (λ z. beq (eqb z 1) true) (set_same 0 (M.m - k) (no_bit (M.m - k)))
  only_same k false = ap (λ z. beq (eqb z 1) false) (no_bit (M.m - k))

  -- each value of each bit occurs
  pub lawful_seen : (k : ℕ) → 1 ≤ k → k ≤ M.m → (b : Bool) → seen M k b ≡ true
  unfolding seen
  lawful_seen k k1 km b = elim (cases_eq k M.v) [
    | inl e ↦ some_corner (λ p. beq (point_bit M p k) b) b false M.points 0 L.some
        (ap (λ z. beq z b) (cond-true _ _ _ (eq-eqb k M.v e)) ∙ beq_same b)
    | inr nv ↦ elim (cases_eq k M.u) [
      | inl e ↦ some_corner (λ p. beq (point_bit M p k) b) false b M.points 0 L.some
          (ap (λ z. beq z b) (cond-false _ _ _ (ne_eqb k M.v nv) ∙ cond-true _ _ _ (eq-eqb k M.u e)) ∙ beq_same b)
      | inr nu ↦
          let w = L.carried (only k b) (only_fits k b k1 km)
          (only_other k M.u b km L.u_most (λ e. nu (sym e))) (only_other k M.v b km L.v_most (λ e. nv (sym e))) in
          some_corner (λ p. beq (point_bit M p k) b) false false M.points w.0 w.1
          (ap (λ z. beq z b) (cond-false _ _ _ (ne_eqb k M.v nv) ∙ cond-false _ _ _ (ne_eqb k M.u nu))
          ∙ ap (λ z. beq (eqb (bit M.m k z) 1) b) w.2 ∙ only_same k b)
    ]
  ]
