-- The laws of the values that leave the detector. All that looks into the definition of `extrinsic_value` stands here.
use Rattle.std.proofs.Common.{◌≡◌, ℕ, zero, suc, ◌-◌, ◌*◌, ◌^◌, ◌<◌, ◌≤◌, true, false, cond, eqb, ◌≢◌, List, [], ◌∷◌, map, get_or, ℤ, pos, ◌+ℤ◌, ◌-ℤ◌, ◌*ℤ◌, nat_abs, Some, None, Option, sym, refl, ap, ◌∙◌, ap₂, inl, inr, arith, pow_pos}
use lib.Signed.{lt_z, shr_z}
use Rattle.std.specs.List.{AllZip}
use Rattle.std.proofs.lemmas.List.{get_or-map, get_or_past}
use Rattle.std.proofs.lemmas.Int.{ints, clamps}
use Rattle.std.proofs.lemmas.Bool.{cases_lt}
use Rattle.constellation.specs.Meaning.{Meaning, Lawful}
use Rattle.constellation.specs.Ordered.{position, relabel, shuffled}
use Rattle.constellation.specs.declared.Point.{Point}
use Rattle.constellation.proofs.OrderLaws.{Order, order_from, bit_moved}
use Rattle.constellation.proofs.Reorder.{position_least, at_position}
use Rattle.metric.specs.Exhaustive.{mapped, Symbol, at_bit, best, apart, clipped, rounded, extrinsic}
use Rattle.metric.specs.Bounds.{others}
use Rattle.metric.specs.Orders.{Permutes, Relabelled}
use Rattle.metric.specs.Value.{or_zero, extrinsic_value, posterior_value}
use Rattle.metric.specs.ValueLaws.{dist, away, permute, Exists, Within, Silent, Steady, Moved}
use Rattle.metric.proofs.Bounding.{Below}
use Rattle.metric.proofs.Existing.{answers}
use Rattle.metric.proofs.Lawfulness.{lawful_seen}
use Rattle.metric.proofs.ListSums.{at-bit, others-away}
use Rattle.metric.proofs.Moves.{extrinsic_below, others-turn, independent}
use Rattle.metric.proofs.Reordering.{moves}

pub exists : Exists
exists M L S sym A k k1 km = answers M S sym A k (lawful_seen M L k k1 km true) (lawful_seen M L k k1 km false)

-- ---- the size
pub within : Within
unfolding extrinsic_value extrinsic
within M s sym zs k = go (apart (best M (2 ^ s) sym (at_bit zs) k true) (best M (2 ^ s) sym (at_bit zs) k false))
  where
    clip : (z : ℤ) → nat_abs (clipped z) ≤ 8191
    clip z = omega (arith, ints, clamps)

    go : (o : Option ℤ) → nat_abs (or_zero (mapped (λ D. rounded (2 ^ s) (D -ℤ pos (2 ^ s) *ℤ at_bit zs k)) o)) ≤ 8191
    go None = omega arith
    go (Some d) = clip (shr_z (pos 2 *ℤ (d -ℤ pos (2 ^ s) *ℤ at_bit zs k) +ℤ pos (2 ^ s)) (2 * 2 ^ s))

-- ---- the position's own a priori value
pub silent : Silent
unfolding extrinsic_value
silent M s symbol xs ys k lx ly k1 km same = ap or_zero (independent M s symbol (at_bit xs) (at_bit ys) k k1 km at)
  where
    at : (j : ℕ) → j ≢ k → at_bit xs j ≡ at_bit ys j
    at zero ne = refl
    at (suc i) ne = elim (cases_lt i M.m) [
      | inl h ↦ same i h (λ e. ne (omega arith))
      | inr h ↦ get_or_past xs i (pos 0) (omega arith) ∙ sym (get_or_past ys i (pos 0) (omega arith))
    ]

-- ---- the other positions'
near : (o p : Option ℤ) (c d : ℤ) (n : ℕ) → Below c o p → Below d p o → c ≡ pos n → d ≡ c → dist (or_zero o) (or_zero p) ≤ n
near None None c d n h k e f = omega arith
near None (Some b) c d n h k e f = absurd h
near (Some a) None c d n h k e f = absurd h
near (Some a) (Some b) c d n h k e f = omega (arith, ints)

pub steady : Steady
unfolding extrinsic_value
steady M s sym xs ys k lx ly k1 km =
    near (extrinsic M (2 ^ s) sym (at_bit xs) k) (extrinsic M (2 ^ s) sym (at_bit ys) k) (others M.m k (at_bit xs) (at_bit ys)) (others M.m k (at_bit ys) (at_bit xs)) (away k xs ys)
    (extrinsic_below M (2 ^ s) sym (at_bit xs) (at_bit ys) k (pow_pos s) k1 km) (extrinsic_below M (2 ^ s) sym (at_bit ys) (at_bit xs) k (pow_pos s) k1 km)
    (others-away M.m k xs ys lx ly) (others-turn M.m k (at_bit xs) (at_bit ys))

-- ---- another order of the bits
module _ (M : Meaning) (L : Lawful M) (ps : List ℕ) (O : Order M.m ps) where
  there : ℕ → ℕ
  there q = position q ps

  back : ℕ → ℕ
  back j = get_or ps (j - 1) 0

  permuted : Permutes M.m there back
  unfolding there back
  permuted = record {
    there = λ q h k. (position_least q ps, O.found q h k, at_position q ps (omega (arith, O.size, O.found q h k)));
    here = λ j h k. let i : j - 1 < M.m = omega arith in (O.least (j - 1) i, O.most (j - 1) i, O.first (j - 1) i ∙ omega arith);
  }

  relabelled : (qs : List Point) → AllZip (Relabelled M.m there) qs (map (relabel M.m ps) qs)
  unfolding there
  relabelled [] = tt
  relabelled (q ∷ qs) = (record { x = refl; y = refl; e = refl; bits = λ j h k. ap (λ z. eqb z 1) (bit_moved M.m ps O q.label j h k) }, relabelled qs)

  moved_at : (zs : List ℤ) (i : ℕ) → i < M.m → get_or (permute ps zs) i (pos 0) ≡ get_or zs (get_or ps i 0 - 1) (pos 0)
  moved_at zs i h = get_or-map (λ p. get_or zs (p - 1) (pos 0)) ps i 0 (pos 0) (omega (arith, O.size))

  moved-bit : (zs : List ℤ) (q : ℕ) → 1 ≤ q → q ≤ M.m → at_bit (permute ps zs) (there q) ≡ at_bit zs q
  unfolding there
  moved-bit zs q h k =
      let p : position q ps ≤ M.m = O.found q h k in
      let a : 1 ≤ position q ps = position_least q ps in
      at-bit (permute ps zs) (position q ps) a
      ∙ moved_at zs (position q ps - 1) (omega arith)
      ∙ ap (λ z. get_or zs (z - 1) (pos 0)) (at_position q ps (omega (arith, O.size)))
      ∙ sym (at-bit zs q h)

  moved-extrinsic : (S : ℕ) (sym : Symbol) (zs : List ℤ) (j : ℕ) → 1 ≤ j → j ≤ M.m → extrinsic (shuffled ps M) S sym (at_bit (permute ps zs)) j ≡ extrinsic M S sym (at_bit zs) (back j)
  unfolding there
  moved-extrinsic S s zs j h k =
      let b = permuted.here j h k in
      ap (extrinsic (shuffled ps M) S s (at_bit (permute ps zs))) (sym b.2)
      ∙ moves M there back (map (relabel M.m ps) M.points) permuted (relabelled M.points) L.u_least L.u_most L.v_least L.v_most
      S s (at_bit zs) (at_bit (permute ps zs)) (moved-bit zs) (back j) b.0 b.1

pub moved : Moved
unfolding extrinsic_value back
moved M L ps t s sym zs j lz h k =
    let O = order_from M.m ps t in
    let ext : extrinsic_value (shuffled ps M) s sym (permute ps zs) j ≡ extrinsic_value M s sym zs (get_or ps (j - 1) 0) = ap or_zero (moved-extrinsic M L ps O (2 ^ s) sym zs j h k) in
    let post : posterior_value (shuffled ps M) s sym (permute ps zs) j ≡ posterior_value M s sym zs (get_or ps (j - 1) 0) = ap₂ ◌+ℤ◌ (moved_at M L ps O zs (j - 1) (omega arith)) ext in
    record { extrinsic = ext; posterior = post; hard = ap (λ z. cond (lt_z (pos 0) z) 1 0) post }
