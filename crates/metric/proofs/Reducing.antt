-- The reduced way's best is the exhaustive one's, doubled.
use Rattle.std.proofs.Common.{◌≡◌, ℕ, Bool, true, false, cond, eqb, List, [], ◌∷◌, map, ℤ, pos, ◌+ℤ◌, ◌*ℤ◌, neg_ℤ, Some, None, filter, Option, sym, refl, ap, ◌∙◌, ap₂}
use mathlib.Core.Bool.{beq}
use Rattle.std.specs.List.{AllByRecursion}
use Rattle.constellation.specs.Meaning.{Meaning}
use Rattle.constellation.specs.declared.Point.{Point}
use Rattle.metric.specs.Exhaustive.{Symbol, Corner, all_points, signed, place, label_bit, point_bit, weighed, metric, greater, largest, best}
use Rattle.metric.specs.Reduced.{energy_y, energy_h, matched, label_prior, base, turn_v, turn_u, quadrant_best, best_over, Clear, Reduces}
use Rattle.metric.proofs.Distance.{distance_is}
use Rattle.metric.proofs.Sums.{prior_is}
use Rattle.metric.proofs.Maxes.{twice, twice-greater, greater_assoc, largest-kept, offer, choice_is}
use Rattle.metric.proofs.Corners.{doubled}

abbrev corner : Point → Bool → Bool → Corner
corner q left low = record { of = q; left = left; low = low }

group : (a b c d r : Option ℤ) → greater a (greater b (greater c (greater d r))) ≡ greater (greater a (greater b (greater c d))) r
group a b c d r =
    ap (λ t. greater a (greater b t)) (sym (greater_assoc c d r)) ∙ ap (greater a) (sym (greater_assoc b (greater c d) r)) ∙ sym (greater_assoc a (greater b (greater c d)) r)

abbrev ClearPoint : Meaning → Point → Type 0
ClearPoint C q = (label_bit C.m q.label C.u ≡ false) × (label_bit C.m q.label C.v ≡ false)

module _ (C : Meaning) (clear_at : Clear C) (S : ℕ) (sym' : Symbol) (A : ℕ → ℤ) where
  own : ℤ
  own = pos S *ℤ A C.u +ℤ pos S *ℤ A C.v

  metric-twice : (p : Corner) → ClearPoint C p.of →
      pos 2 *ℤ metric C S sym' A p ≡ base C S sym' A p.of +ℤ signed p.left (turn_v C S sym' A p.of) +ℤ signed p.low (turn_u C S sym' A p.of) +ℤ own
  unfolding metric base turn_v turn_u own
  metric-twice p clear =
      ap₂ (λ n a. pos 2 *ℤ (neg_ℤ (pos (weighed sym' p.of) *ℤ n) +ℤ pos S *ℤ a)) (distance_is (place p) sym'.antennas)
      (prior_is C A p clear_at.u_low clear_at.u_high clear_at.v_low clear_at.v_high clear_at.apart clear.0 clear.1)
      ∙ doubled p.left p.low (pos (weighed sym' p.of)) (pos p.of.x) (pos p.of.y) (energy_y sym'.antennas) (energy_h sym'.antennas)
      (matched sym'.antennas).re (matched sym'.antennas).im (pos S) (label_prior C A p.of) (A C.v) (A C.u)

  module _ (k : ℕ) (b : Bool) where
    -- the best of the points of a list
    best_in : List Corner → Option ℤ
    best_in ps = largest (map (metric C S sym' A) (filter (λ p. beq (point_bit C p k) b) ps))

    offered : Point → Bool → Bool → Option ℤ
    offered q left low = offer (eqb k C.v) (eqb k C.u) (label_bit C.m q.label k) b left low (base C S sym' A q) (turn_v C S sym' A q) (turn_u C S sym' A q) own

    step : (p : Corner) (ps : List Corner) → ClearPoint C p.of → twice (best_in (p ∷ ps)) ≡ greater (offered p.of p.left p.low) (twice (best_in ps))
    unfolding best_in offered twice
    step p ps clear =
        ap twice (largest-kept (metric C S sym' A) (λ p. beq (point_bit C p k) b) p ps)
        ∙ twice-greater (cond (beq (point_bit C p k) b) (Some (metric C S sym' A p)) None) (best_in ps)
        ∙ ap (λ o. greater o (twice (best_in ps))) (go (beq (point_bit C p k) b))
      where
        go : (t : Bool) → twice (cond t (Some (metric C S sym' A p)) None) ≡ cond t (Some (base C S sym' A p.of +ℤ signed p.left (turn_v C S sym' A p.of) +ℤ signed p.low (turn_u C S sym' A p.of) +ℤ own)) None
        go true = ap Some (metric-twice p clear)
        go false = refl

    over : (qs : List Point) → AllByRecursion (ClearPoint C) qs → twice (best_in (all_points qs)) ≡ best_over C S sym' A k b qs
    unfolding best_in best_over quadrant_best twice offered own
    over [] clear = refl
    over (q ∷ qs) clear =
        step (corner q false false) (corner q true false ∷ corner q false true ∷ corner q true true ∷ all_points qs) clear.0
        ∙ ap (greater (offered q false false)) (step (corner q true false) (corner q false true ∷ corner q true true ∷ all_points qs) clear.0
        ∙ ap (greater (offered q true false)) (step (corner q false true) (corner q true true ∷ all_points qs) clear.0
        ∙ ap (greater (offered q false true)) (step (corner q true true) (all_points qs) clear.0)))
        ∙ group (offered q false false) (offered q true false) (offered q false true) (offered q true true) (twice (best_in (all_points qs)))
        ∙ ap₂ greater
        (choice_is (eqb k C.v) (eqb k C.u) (label_bit C.m q.label k) b (base C S sym' A q) (turn_v C S sym' A q) (turn_u C S sym' A q) own)
        (over qs clear.1)

pub reduces : Reduces
unfolding best best_in twice
reduces C clear_at S sym' A k b = over C clear_at S sym' A k b C.points clear_at.clear
