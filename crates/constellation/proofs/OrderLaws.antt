-- Another order of the bits keeps the laws.
use Rattle.std.proofs.Common.{◌≡◌, ℕ, ◌+◌, ◌-◌, ◌^◌, ◌<◌, ◌≤◌, true, cond, leb, List, map, length, get_or, take, sym, refl, ap, ◌∙◌, subst, arith}
use Rattle.std.specs.List.{range_with_len}
use Rattle.std.proofs.lemmas.List.FromFn.{length-map-range_with_len, get_or-map-range_with_len}
use Rattle.std.proofs.ByRecursion.{All-map, All-weaker}
use Rattle.std.proofs.lemmas.List.{length-map, get_or-map}
use Rattle.std.proofs.lemmas.Bool.{cond_both, cond-true, and_parts, leb-true, eqb-true}
use Rattle.constellation.specs.Meaning.{Meaning, Lawful, Good, Carried, bit, origin, place, nth}
use Rattle.constellation.specs.Ordered.{reorder, position, fresh, permutes, relabel, shuffled, arranged, ordered}
use Rattle.constellation.specs.declared.Point.{Point}
use Rattle.constellation.proofs.Reorder.{bit-reorder, reorder-small, same_bits, position_least, at_position}
use Rattle.constellation.proofs.Tested.{every_from}

-- what the test says
pub record Order (m : ℕ) (ps : List ℕ) : Type 0 where
  pub size : length ps ≡ m
  pub found : (q : ℕ) → 1 ≤ q → q ≤ m → position q ps ≤ m
  pub least : (j : ℕ) → j < m → 1 ≤ get_or ps j 0
  pub most : (j : ℕ) → j < m → get_or ps j 0 ≤ m
  pub first : (j : ℕ) → j < m → position (get_or ps j 0) ps ≡ j + 1

pub order_from : (m : ℕ) (ps : List ℕ) → permutes m ps ≡ true → Order m ps
order_from m ps t =
    let a = and_parts _ _ t in
    let b = and_parts _ _ a.1 in
    let fresh_at : (j : ℕ) → j < m → (1 ≤ get_or ps j 0) × (get_or ps j 0 ≤ m) × (position (get_or ps j 0) ps ≡ j + 1) = λ j h.
    let c = and_parts (leb 1 (get_or ps j 0)) _ (every_from (fresh m ps) m b.1 j h) in
    let d = and_parts _ _ c.1 in
    (leb-true _ _ c.0, leb-true _ _ d.0, eqb-true _ _ d.1) in
    record {
      size = eqb-true _ _ a.0;
      found = λ q h k.
          let e : q - 1 + 1 ≡ q = omega arith in
          subst (λ z. position z ps ≤ m) e (leb-true _ _ (every_from _ m b.0 (q - 1) (omega arith)));
      least = λ j h. (fresh_at j h).0;
      most = λ j h. (fresh_at j h).1;
      first = λ j h. (fresh_at j h).2;
    }

module _ (m : ℕ) (ps : List ℕ) (O : Order m ps) where
  -- the bit q stands at its new place
  pub bit_moved : (l q : ℕ) → 1 ≤ q → q ≤ m → bit m (position q ps) (reorder m ps l) ≡ bit m q l
  bit_moved l q h k =
      bit-reorder m ps l (position q ps) O.size (position_least q ps) (O.found q h k)
      ∙ ap (λ z. bit m z l) (at_position q ps (omega (arith, O.size, O.found q h k)))

  inverse : List ℕ
  inverse = map (λ q. position q ps) (range_with_len 1 m)

  bit_back : (l q : ℕ) → 1 ≤ q → q ≤ m → bit m q (reorder m inverse l) ≡ bit m (position q ps) l
  unfolding inverse
  bit_back l q h k =
      bit-reorder m inverse l q (length-map-range_with_len _ 1 m) h k
      ∙ ap (λ z. bit m z l) (get_or-map-range_with_len (λ q. position q ps) 1 m (q - 1) q 0 (omega arith) (omega arith))

  back_small : (l : ℕ) → reorder m inverse l < 2 ^ m
  unfolding inverse
  back_small l = subst (λ z. reorder m inverse l < 2 ^ z) (length-map-range_with_len _ 1 m) (reorder-small m inverse l)

  pub order_small : (l : ℕ) → reorder m ps l < 2 ^ m
  order_small l = subst (λ z. reorder m ps l < 2 ^ z) O.size (reorder-small m ps l)

  there_and_back : (l : ℕ) → l < 2 ^ m → reorder m ps (reorder m inverse l) ≡ l
  there_and_back l s =
      same_bits m _ l (order_small _) s
      (λ j a b.
      let i : j - 1 < m = omega arith in
      let e : j - 1 + 1 ≡ j = omega arith in
      bit-reorder m ps (reorder m inverse l) j O.size a b
      ∙ bit_back l (get_or ps (j - 1) 0) (O.least (j - 1) i) (O.most (j - 1) i)
      ∙ ap (λ z. bit m z l) (O.first (j - 1) i ∙ e))

  apart-moved : (u v : ℕ) → 1 ≤ u → u ≤ m → 1 ≤ v → v ≤ m → position u ps ≡ position v ps → u ≡ v
  apart-moved u v a b c d e =
      sym (at_position u ps (omega (arith, O.size, O.found u a b)))
      ∙ ap (λ z. get_or ps (z - 1) 0) e
      ∙ at_position v ps (omega (arith, O.size, O.found v c d))

module _ (M : Meaning) (L : Lawful M) (ps : List ℕ) (O : Order M.m ps) where
  relabel_good : (p : Point) → Good M.m M.u M.v p → Good M.m (position M.u ps) (position M.v ps) (relabel M.m ps p)
  relabel_good p G = record {
    x_most = G.x_most;
    y_most = G.y_most;
    e_least = G.e_least;
    e_most = G.e_most;
    fits = order_small M.m ps O p.label;
    u_zero = bit_moved M.m ps O p.label M.u L.u_least L.u_most ∙ G.u_zero;
    v_zero = bit_moved M.m ps O p.label M.v L.v_least L.v_most ∙ G.v_zero;
  }

  carried_shuffled : (l : ℕ) → l < 2 ^ M.m → bit M.m (position M.u ps) l ≡ 0 → bit M.m (position M.v ps) l ≡ 0 → Carried (map (relabel M.m ps) M.points) l
  carried_shuffled l s hu hv =
      let w = L.carried (reorder M.m (inverse M.m ps O) l) (back_small M.m ps O l)
      (bit_back M.m ps O l M.u L.u_least L.u_most ∙ hu) (bit_back M.m ps O l M.v L.v_least L.v_most ∙ hv) in (
        w.0,
        simp length-map w.1,
        ap (λ p. p.label) (get_or-map (relabel M.m ps) M.points w.0 origin origin w.1) ∙ ap (reorder M.m ps) w.2 ∙ there_and_back M.m ps O l s,
      )

  pub shuffled_lawful : Lawful (shuffled ps M)
  shuffled_lawful = record {
    m_least = L.m_least;
    m_most = L.m_most;
    u_least = position_least M.u ps;
    u_most = O.found M.u L.u_least L.u_most;
    v_least = position_least M.v ps;
    v_most = O.found M.v L.v_least L.v_most;
    apart = λ e. L.apart (apart-moved M.m ps O M.u M.v L.u_least L.u_most L.v_least L.v_most e);
    some = simp length-map L.some;
    few = simp length-map L.few;
    good = All-map _ (relabel M.m ps) M.points (All-weaker _ _ relabel_good M.points L.good);
    carried = carried_shuffled;
  }

pub arranged_lawful : (ps : List ℕ) (M : Meaning) → Lawful M → Lawful (arranged ps M)
arranged_lawful ps M L =
    cond_both (permutes M.m ps) (shuffled ps M) M Lawful (λ t. shuffled_lawful M L ps (order_from M.m ps t)) (λ _. L)

pub arranged-size : (ps : List ℕ) (M : Meaning) → length (arranged ps M).points ≡ length M.points
arranged-size ps M =
    cond_both (permutes M.m ps) (shuffled ps M) M (λ N. length N.points ≡ length M.points)
    (λ _. length-map M.points _)
    (λ _. refl)

pub arranged_at : (ps : List ℕ) (M : Meaning) → Lawful M → permutes M.m ps ≡ true → (n : ℕ) → nth (arranged ps M).points n ≡ relabel M.m ps (nth M.points n)
arranged_at ps M L t n =
    let old : List Point = M.points in
    let new : List Point = map (relabel M.m ps) old in
    let is : arranged ps M ≡ shuffled ps M = cond-true _ _ _ t in
    let i : place n (length old) < length old = omega (arith, L.some) in
    ap (λ N. nth N.points n) is
    ∙ ap (λ z. get_or new (place n z) origin) (length-map old _)
    ∙ get_or-map (relabel M.m ps) old (place n (length old)) origin origin i

pub ordered_lawful : (list : List ℕ) (M : Meaning) → Lawful M → Lawful (ordered list M)
ordered_lawful list M = arranged_lawful (take M.m list) M

pub ordered-size : (list : List ℕ) (M : Meaning) → length (ordered list M).points ≡ length M.points
ordered-size list M = arranged-size (take M.m list) M

pub ordered_at : (list ps : List ℕ) (M : Meaning) → Lawful M → ps ≡ take M.m list → permutes M.m ps ≡ true → (n : ℕ) → nth (ordered list M).points n ≡ relabel M.m ps (nth M.points n)
ordered_at list ps M L e t n = ap (λ z. nth (arranged z M).points n) (sym e) ∙ arranged_at ps M L t n
