-- The best over the points is the reduced way's, so the value is the exhaustive detector's.
use Rattle.std.proofs.Common.{◌≡◌, ℕ, ◌^◌, ◌≤◌, Bool, true, false, eqb, List, [], ◌∷◌, ℤ, pos, ◌+ℤ◌, ◌-ℤ◌, ◌*ℤ◌, neg_ℤ, nat_abs, Some, None, Option, sym, refl, ap, ◌∙◌, ap₂, arith}
use Rattle.std.specs.Int.{int_max}
use Rattle.std.proofs.lemmas.Int.{ints, clamps}
use Rattle.constellation.specs.Meaning.{Meaning, Lawful}
use Rattle.constellation.specs.declared.Point.{Point}
use Rattle.metric.specs.Exhaustive.{Symbol, label_bit, at_bit, mapped, greater, apart, weighed}
use Rattle.metric.specs.Reduced.{energy_y, energy_h, base, turn_v, turn_u, choice, quadrant_best, best_over, reduced_value}
use Rattle.metric.specs.Value.{extrinsic_value, or_zero}
use Rattle.metric.proofs.Values.{same-value}
use Rattle.metric.proofs.Existing.{answers}
use Rattle.metric.proofs.Lawfulness.{lawful_clear, lawful_seen}
use Rattle.observation.specs.Observed.{held}
use Rattle.observation.proofs.Sums.{energy_y_is, energy_h_is}
use Rattle.detect.specs.Parts.{prior_sum, base_of, tv_of, tu_of}
use Rattle.detect.specs.Tops.{coded, offer_of, top_of, value_of}
use Rattle.detect.specs.Kept.{kept_value}

-- ---- the parts are the same
swapped : (p q : ℤ) → neg_ℤ p +ℤ q ≡ q -ℤ p
swapped p q = omega (arith, ints)

base_is : (C : Meaning) (s : Symbol) (a : List ℤ) (shift : ℕ) (p : Point) → base C (2 ^ shift) s (at_bit a) p ≡ base_of p (held s) shift a C.m
unfolding base
base_is C s a shift p =
    ap₂ (λ (Y H : ℤ). neg_ℤ (far Y H) +ℤ prior) (energy_y_is s.antennas) (energy_h_is s.antennas)
    ∙ swapped (far (pos (nat_abs (energy_y s.antennas))) (pos (nat_abs (energy_h s.antennas)))) prior
  where
    far : ℤ → ℤ → ℤ
    far Y H = pos 2 *ℤ pos (weighed s p) *ℤ (pos 1048576 *ℤ Y +ℤ (pos p.x *ℤ pos p.x +ℤ pos p.y *ℤ pos p.y) *ℤ H)

    prior : ℤ
    prior = pos 2 *ℤ pos (2 ^ shift) *ℤ prior_sum C.m p.label a C.m

turn_v_is : (C : Meaning) (s : Symbol) (a : List ℤ) (shift : ℕ) (p : Point) → turn_v C (2 ^ shift) s (at_bit a) p ≡ tv_of p (held s) shift a C.v
unfolding turn_v
turn_v_is C s a shift p = refl

turn_u_is : (C : Meaning) (s : Symbol) (a : List ℤ) (shift : ℕ) (p : Point) → turn_u C (2 ^ shift) s (at_bit a) p ≡ tu_of p (held s) shift a C.u
unfolding turn_u
turn_u_is C s a shift p = refl

-- ---- the own part of bits u and v, added to every offer, is added to the best
abbrev more : ℤ → Option ℤ → Option ℤ
more c o = mapped (λ d. d +ℤ c) o

later : (b v u o : ℤ) → b +ℤ v +ℤ u +ℤ o ≡ b +ℤ v +ℤ u +ℤ pos 0 +ℤ o
later b v u o = omega (arith, ints)

choice-more : (is_v is_u bit b : Bool) (base tv tu own : ℤ) → choice is_v is_u bit b base tv tu own ≡ more own (choice is_v is_u bit b base tv tu (pos 0))
choice-more true is_u bit b base tv tu own = ap Some (later base _ _ own)
choice-more false true bit b base tv tu own = ap Some (later base _ _ own)
choice-more false false true true base tv tu own = ap Some (later base _ _ own)
choice-more false false true false base tv tu own = refl
choice-more false false false true base tv tu own = refl
choice-more false false false false base tv tu own = ap Some (later base _ _ own)

more-greater : (c : ℤ) (o p : Option ℤ) → more c (greater o p) ≡ greater (more c o) (more c p)
more-greater c None p = refl
more-greater c (Some a) None = refl
more-greater c (Some a) (Some b) = ap Some (larger a b c)
  where
    larger : (a b c : ℤ) → int_max a b +ℤ c ≡ int_max (a +ℤ c) (b +ℤ c)
    larger a b c = omega (arith, ints, clamps)

abbrev own_of : ℕ → List ℤ → ℕ → ℕ → ℤ
own_of shift a u v = pos (2 ^ shift) *ℤ at_bit a u +ℤ pos (2 ^ shift) *ℤ at_bit a v

offer_is : (C : Meaning) (s : Symbol) (a : List ℤ) (shift k : ℕ) (b : Bool) (p : Point) →
    quadrant_best C (2 ^ shift) s (at_bit a) k b p ≡ more (own_of shift a C.u C.v) (offer_of (held s) shift a C.m C.u C.v k b p)
unfolding quadrant_best offer_of
offer_is C s a shift k b p =
    rw (base_is C s a shift p, turn_v_is C s a shift p, turn_u_is C s a shift p)
    (choice-more (eqb k C.v) (eqb k C.u) (label_bit C.m p.label k) b (base_of p (held s) shift a C.m) (tv_of p (held s) shift a C.v) (tu_of p (held s) shift a C.u) (own_of shift a C.u C.v))

top_is : (C : Meaning) (s : Symbol) (a : List ℤ) (shift k : ℕ) (b : Bool) (ps : List Point) →
    best_over C (2 ^ shift) s (at_bit a) k b ps ≡ more (own_of shift a C.u C.v) (top_of (held s) shift a C.m C.u C.v k b ps)
unfolding best_over top_of
top_is C s a shift k b [] = refl
top_is C s a shift k b (p ∷ ps) =
    ap₂ greater (offer_is C s a shift k b p) (top_is C s a shift k b ps)
    ∙ sym (more-greater (own_of shift a C.u C.v) (offer_of (held s) shift a C.m C.u C.v k b p) (top_of (held s) shift a C.m C.u C.v k b ps))

-- ---- the value
apart_more : (f : ℤ → ℤ) (c l : ℤ) (o z : Option ℤ) → mapped f (apart (more c o) (more c z)) ≡ Some l → Some (f (coded o -ℤ coded z)) ≡ Some l
apart_more f c l None z e = cc
apart_more f c l (Some a) None e = cc
apart_more f c l (Some a) (Some b) e = ap (λ (t : ℤ). Some (f t)) (cancel a b c) ∙ e
  where
    cancel : (a b c : ℤ) → a -ℤ b ≡ (a +ℤ c) -ℤ (b +ℤ c)
    cancel a b c = omega (arith, ints)

-- the value computed from what the record keeps of a symbol is the exhaustive detector's
pub kept_is : (M : Meaning) → Lawful M → (s : ℕ) (symbol : Symbol) (priors : List ℤ) (k : ℕ) → 1 ≤ k → k ≤ M.m →
    kept_value M s (held symbol) priors k ≡ extrinsic_value M s symbol priors k
unfolding kept_value extrinsic_value reduced_value
kept_is M lawful s symbol priors k h l =
    let there = answers M (2 ^ s) symbol (at_bit priors) k (lawful_seen M lawful k h l true) (lawful_seen M lawful k h l false) in
    let f = value_of (2 ^ s) (at_bit priors k) in
    let ones = top_of (held symbol) s priors M.m M.u M.v k true M.points in
    let zeros = top_of (held symbol) s priors M.m M.u M.v k false M.points in
    ap or_zero
    (apart_more f (own_of s priors M.u M.v) there.0 ones zeros
    (ap₂ (λ (o z : Option ℤ). mapped f (apart o z)) (sym (top_is M symbol priors s k true M.points)) (sym (top_is M symbol priors s k false M.points))
    ∙ sym (same-value M (lawful_clear M lawful) (2 ^ s) symbol (at_bit priors) k) ∙ there.1)
    ∙ sym there.1)
