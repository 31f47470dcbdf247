-- A layer keeps the laws.
use Rattle.std.proofs.Common.{◌≡◌, ℕ, zero, suc, ◌+◌, ◌*◌, ◌/◌, ◌%◌, ◌^◌, ◌<◌, ◌≤◌, true, List, [], ◌∷◌, ◌++◌, map, length, get_or, sym, ap, ◌∙◌, subst, not-suc-le-zero, suc-mul, mul_comm, mul-pos, mul-suc, arith, pow_mono}
use Rattle.std.specs.List.{flat_map, AllByRecursion}
use Rattle.std.proofs.lemmas.Nat.{pow_pos, mul-add-lt, mod_below, shr_below, shr_split, div-add-mod', div_below}
use Rattle.std.proofs.ByRecursion.{All-get_or, All-append, All-map, All-weaker}
use Rattle.std.proofs.lemmas.List.{get_or_append_left, get_or-append-add, length-append, length-map, get_or-map}
use Rattle.std.proofs.lemmas.Bool.{cond_both, cond-true, and_parts, leb-true}
use Rattle.constellation.specs.Meaning.{Meaning, Lawful, Good, Carried, bit, origin, place, nth}
use Rattle.constellation.specs.declared.Point.{Point}
use Rattle.constellation.proofs.Labels.{bit_above, bit_kept, label_fits}
use Rattle.constellation.proofs.Points.{good_nth}
use Rattle.rings.specs.Copies.{nothing, Plan}
use Rattle.rings.specs.Fair.{Fair, Narrow}
use Rattle.rings.specs.Layered.{copied, spread, copied_at, stacked, room, layered}
use Rattle.rings.specs.declared.copied.Copied.{Copied}

-- each function of a list over each element of another
module _ {R A B : Type 0} (f : R → A → B) (ps : List A) where
  length_joined : (rs : List R) → length (flat_map (λ a. map (f a) ps) rs) ≡ length ps * length rs
  length_joined [] = omega arith
  length_joined (a ∷ rs) = simp (length-append, length-map) (omega (arith, length_joined rs, mul-suc (length ps) (length rs)))

  get_or-joined : (rs : List R) (a b : ℕ) (z : R) (d : B) (e : A) → a < length rs → b < length ps → get_or (flat_map (λ a. map (f a) ps) rs) (a * length ps + b) d ≡ f (get_or rs a z) (get_or ps b e)
  get_or-joined [] a b z d e h k = absurd (not-suc-le-zero h)
  get_or-joined (c ∷ rs) zero b z d e h k =
      let i : b < length (map (f c) ps) = simp length-map k in
      let s : 0 * length ps + b ≡ b = omega arith in
      ap (λ n. get_or (map (f c) ps ++ flat_map (λ a. map (f a) ps) rs) n d) s ∙ get_or_append_left (map (f c) ps) _ d b i ∙ get_or-map (f c) ps b e d k
  get_or-joined (c ∷ rs) (suc a) b z d e h k =
      let s : suc a * length ps + b ≡ length (map (f c) ps) + (a * length ps + b) = simp length-map (omega (arith, suc-mul a (length ps))) in
      ap (λ n. get_or (map (f c) ps ++ flat_map (λ a. map (f a) ps) rs) n d) s ∙ get_or-append-add (map (f c) ps) _ (a * length ps + b) d ∙ get_or-joined rs a b z d e (omega arith) k

module _ (k : ℕ) (ts : List Copied) (F : Fair k ts) (M : Meaning) (L : Lawful M) where
  good_copied : (t : Copied) → t.code < 2 ^ k → (p : Point) → Good M.m M.u M.v p → Good (M.m + k) M.u M.v (copied k t p)
  good_copied t s p G = record {
    x_most = omega arith;
    y_most = omega arith;
    e_least = omega (arith, G.e_least);
    e_most = omega arith;
    fits = label_fits M.m k p.label t.code G.fits s;
    u_zero = bit_kept M.m k M.u p.label t.code L.u_most s ∙ G.u_zero;
    v_zero = bit_kept M.m k M.v p.label t.code L.v_most s ∙ G.v_zero;
  }

  good_spread : (rs : List Copied) → AllByRecursion (Narrow k) rs → AllByRecursion (Good (M.m + k) M.u M.v) (spread k rs M.points)
  good_spread [] n = tt
  good_spread (t ∷ rs) n =
      All-append _ (map (copied k t) M.points) _
      (All-map _ (copied k t) M.points (All-weaker _ _ (good_copied t n.0.0) M.points L.good))
      (good_spread rs n.1)

  length-spread : length (spread k ts M.points) ≡ length M.points * length ts
  length-spread = length_joined (copied k) M.points ts

  get_or-spread : (a b : ℕ) → a < length ts → b < length M.points → get_or (spread k ts M.points) (a * length M.points + b) origin ≡ copied k (get_or ts a nothing) (get_or M.points b origin)
  get_or-spread a b = get_or-joined (copied k) M.points ts a b nothing origin origin

  carried_spread : (l : ℕ) → l < 2 ^ (M.m + k) → bit (M.m + k) M.u l ≡ 0 → bit (M.m + k) M.v l ≡ 0 → Carried (spread k ts M.points) l
  carried_spread l h hu hv =
      let q : ℕ = l / 2 ^ k in
      let r : ℕ = l % 2 ^ k in
      let w = L.carried q (shr_below l M.m k h)
      (sym (bit_above M.m k M.u l L.u_most) ∙ hu) (sym (bit_above M.m k M.v l L.v_most) ∙ hv) in
      let f = F.found r (mod_below l (2 ^ k) (pow_pos k)) in
      let a : ℕ = f.0 in (
        a * length M.points + w.0,
        subst (λ z. a * length M.points + w.0 < z) (sym length-spread) (mul-add-lt a (length M.points) w.0 (length ts) f.1 w.1),
        ap (λ p. p.label) (get_or-spread a w.0 f.1 w.1) ∙ ap (λ z. z * 2 ^ k + (get_or ts a nothing).code) w.2 ∙ ap (λ z. q * 2 ^ k + z) f.2 ∙ shr_split l k,
      )

  some_spread : 1 ≤ length M.points * length ts
  some_spread = mul-pos L.some F.some

pub layered_lawful : (plan : Plan) → Fair plan.bits plan.copies → (M : Meaning) → Lawful M → Lawful (layered plan M)
layered_lawful plan F M L =
    cond_both (room plan M) (stacked plan M) M Lawful
    (λ t.
    let fit = and_parts _ _ t in
    let narrow = leb-true _ _ fit.0 in
    let few = leb-true _ _ fit.1 in
    let size = length-spread plan.bits plan.copies F M L in
    record {
      m_least = omega (arith, L.m_least);
      m_most = narrow;
      u_least = L.u_least;
      u_most = omega (arith, L.u_most);
      v_least = L.v_least;
      v_most = omega (arith, L.v_most);
      apart = L.apart;
      some = omega (arith, some_spread plan.bits plan.copies F M L);
      few = omega arith;
      good = good_spread plan.bits plan.copies F M L plan.copies F.narrow;
      carried = carried_spread plan.bits plan.copies F M L;
    })
    (λ _. L)

nth-under : (ps : List Point) (b : ℕ) → b < length ps → nth ps (b + 1) ≡ get_or ps b origin
nth-under ps b h = let e : place (b + 1) (length ps) ≡ b = omega arith in ap (λ z. get_or ps z origin) e

-- a layer that fits
module _ (plan : Plan) (F : Fair plan.bits plan.copies) (M : Meaning) (L : Lawful M) (t : room plan M ≡ true) where
  pub layered_points : (layered plan M).points ≡ spread plan.bits plan.copies M.points
  layered_points = ap (λ N. N.points) (cond-true (room plan M) (stacked plan M) M t)

  pub layered_size : length (layered plan M).points ≡ length M.points * length plan.copies
  layered_size = ap length layered_points ∙ length-spread plan.bits plan.copies F M L

  pub layered_some : 1 ≤ length M.points * length plan.copies
  layered_some = some_spread plan.bits plan.copies F M L

  module _ (i : ℕ) (within : i < length M.points * length plan.copies) where
    pub copy_within : i / length M.points < length plan.copies
    copy_within = div_below i (length M.points) (length plan.copies) L.some (omega (arith, mul_comm (length M.points) (length plan.copies)))

    pub copy_narrow : Narrow plan.bits (get_or plan.copies (i / length M.points) nothing)
    copy_narrow = All-get_or _ plan.copies (i / length M.points) nothing copy_within F.narrow

    pub label_room : (n : ℕ) → (nth M.points n).label * 2 ^ plan.bits + (get_or plan.copies (i / length M.points) nothing).code < 2 ^ 8
    label_room n =
        let narrow = leb-true _ _ (and_parts _ _ t).0 in
        let top : 2 ^ (M.m + plan.bits) ≤ 2 ^ 8 = pow_mono narrow in
        omega (arith, label_fits M.m plan.bits (nth M.points n).label (get_or plan.copies (i / length M.points) nothing).code (good_nth M L n).fits copy_narrow.0)

    pub layered_at : get_or (layered plan M).points i origin ≡ copied_at plan M.points i
    layered_at =
        let size : ℕ = length M.points in
        let all : List Point = spread plan.bits plan.copies M.points in
        let low : i % size < size = mod_below i size L.some in
        ap (λ ps. get_or ps i origin) layered_points
        ∙ ap (λ z. get_or all z origin) (sym (div-add-mod' i size))
        ∙ get_or-spread plan.bits plan.copies F M L (i / size) (i % size) copy_within low
        ∙ ap (copied plan.bits (get_or plan.copies (i / size) nothing)) (sym (nth-under M.points (i % size) low))

    pub layered-nth : (number : ℕ) → place number (length M.points * length plan.copies) ≡ i → nth (layered plan M).points number ≡ copied_at plan M.points i
    layered-nth number e =
        ap (λ n. get_or (layered plan M).points (place number n) origin) layered_size
        ∙ ap (λ k. get_or (layered plan M).points k origin) e
        ∙ layered_at
