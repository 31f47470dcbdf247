-- A sum in another order, and the detector with its bits in another order.
use Rattle.std.proofs.Common.{◌≡◌, ℕ, zero, suc, ◌*◌, ◌/◌, ◌^◌, ◌≤◌, Bool, true, false, cond, T, eqb, List, [], ◌∷◌, map, ℤ, pos, ◌+ℤ◌, ◌-ℤ◌, ◌*ℤ◌, neg_ℤ, filter, Option, sym, refl, ap, ◌∙◌, subst, ap₂, eqb→eq}
use mathlib.Core.Bool.{beq}
use Rattle.std.specs.List.{AllZip}
use Rattle.constellation.specs.Meaning.{Meaning}
use Rattle.constellation.specs.declared.Point.{Point}
use Rattle.metric.specs.Exhaustive.{mapped, Complex, Symbol, Corner, all_points, signed, point_bit, distance, prior, metric, sum_to, largest, best, apart, rounded, extrinsic}
use Rattle.metric.specs.Orders.{Permutes, Relabelled, reordered, Moves}
use Rattle.metric.proofs.Sums.{sum_zero, sum_same, sum_add, sum_single, eqb_iff}

pub sum_swap : (n m : ℕ) (f : ℕ → ℕ → ℤ) → sum_to n (λ i. sum_to m (f i)) ≡ sum_to m (λ j. sum_to n (λ i. f i j))
unfolding sum_to
sum_swap zero m f = sym (sum_zero m)
sum_swap (suc n) m f = ap (λ t. t +ℤ sum_to m (f (suc n))) (sum_swap n m f) ∙ sym (sum_add m (λ j. sum_to n (λ i. f i j)) (f (suc n)))

pub sum_permuted : (m : ℕ) (t back : ℕ → ℕ) → Permutes m t back → (g : ℕ → ℤ) → sum_to m g ≡ sum_to m (λ j. g (t j))
sum_permuted m t back perm g =
    sum_same m g (λ i. sum_to m (cell i)) row
    ∙ sum_swap m m cell
    ∙ sum_same m (λ j. sum_to m (λ i. cell i j)) (λ j. g (t j)) (λ j p q. sum_single m (t j) (g (t j)) (perm.there j p q).0 (perm.there j p q).1)
  where
    cell : ℕ → ℕ → ℤ
    cell i j = cond (eqb i (t j)) (g (t j)) (pos 0)

    pick : (e : Bool) (x y : ℤ) → (e ≡ true → x ≡ y) → cond e x (pos 0) ≡ cond e y (pos 0)
    pick true x y h = h refl
    pick false x y h = refl

    row : (i : ℕ) → 1 ≤ i → i ≤ m → g i ≡ sum_to m (cell i)
    row i p q = sym (sum_same m (cell i) (λ j. cond (eqb j (back i)) (g i) (pos 0))
        (λ j a b. pick (eqb i (t j)) (g (t j)) (g i) (λ e. ap g (sym (eqb→eq i (t j) (subst T (sym e) tt))))
        ∙ ap (λ (e : Bool). cond e (g i) (pos 0)) (eqb_iff i (t j) j (back i) (λ e. sym (ap back e ∙ (perm.there j a b).2)) (λ e. sym (ap t e ∙ (perm.here i p q).2))))
        ∙ sum_single m (back i) (g i) (perm.here i p q).0 (perm.here i p q).1)

module _ (C : Meaning) (t back : ℕ → ℕ) (rs : List Point) (perm : Permutes C.m t back)
    (u1 : 1 ≤ C.u) (um : C.u ≤ C.m) (v1 : 1 ≤ C.v) (vm : C.v ≤ C.m) (S : ℕ) (s : Symbol) (A B : ℕ → ℤ) (AB : (j : ℕ) → 1 ≤ j → j ≤ C.m → B (t j) ≡ A j) where
  abbrev D : Meaning
  D = reordered C t rs

  injects : (i j : ℕ) → 1 ≤ i → i ≤ C.m → 1 ≤ j → j ≤ C.m → eqb (t i) (t j) ≡ eqb i j
  injects i j i1 im j1 jm = eqb_iff (t i) (t j) i j (λ e. sym (perm.there i i1 im).2 ∙ ap back e ∙ (perm.there j j1 jm).2) (λ e. ap t e)

  abbrev corner : Point → Bool → Bool → Corner
  corner q left low = record { of = q; left = left; low = low }

  bit_moved : (q r : Point) → Relabelled C.m t q r → (left low : Bool) (j : ℕ) → 1 ≤ j → j ≤ C.m → point_bit D (corner r left low) (t j) ≡ point_bit C (corner q left low) j
  bit_moved q r same left low j j1 jm =
      ap₂ (λ (a : Bool) (b : Bool). cond a left b) (injects j C.v j1 jm v1 vm)
      (ap₂ (λ (a : Bool) (b : Bool). cond a low b) (injects j C.u j1 jm u1 um) (same.bits j j1 jm))

  prior-moved : (q r : Point) → Relabelled C.m t q r → (left low : Bool) → prior D B (corner r left low) ≡ prior C A (corner q left low)
  prior-moved q r same left low =
      sum_permuted C.m t back perm (λ i. cond (point_bit D (corner r left low) i) (B i) (pos 0))
      ∙ sum_same C.m (λ j. cond (point_bit D (corner r left low) (t j)) (B (t j)) (pos 0)) (λ j. cond (point_bit C (corner q left low) j) (A j) (pos 0))
      (λ j p h. ap₂ (λ (b : Bool) (a : ℤ). cond b a (pos 0)) (bit_moved q r same left low j p h) (AB j p h))

  metric-moved : (q r : Point) → Relabelled C.m t q r → (left low : Bool) → metric D S s B (corner r left low) ≡ metric C S s A (corner q left low)
  unfolding metric
  metric-moved q r same left low =
      ap₂ (λ (n a : ℤ). neg_ℤ n +ℤ pos S *ℤ a)
      (ap₂ (λ (w : ℕ) (c : Complex). pos w *ℤ distance c s.antennas) (ap (λ (e : ℕ). (s.weight * 2 ^ 20) / e) same.e)
      (ap₂ (λ (x y : ℕ). record { re = signed left (pos x); im = signed low (pos y) }) same.x same.y))
      (prior-moved q r same left low)

  module _ (k : ℕ) (k1 : 1 ≤ k) (km : k ≤ C.m) (b : Bool) where
    abbrev news : List Corner → List ℤ
    news ps = map (metric D S s B) (filter (λ p. beq (point_bit D p (t k)) b) ps)

    abbrev olds : List Corner → List ℤ
    olds ps = map (metric C S s A) (filter (λ p. beq (point_bit C p k) b) ps)

    step : (q r : Point) → Relabelled C.m t q r → (left low : Bool) (ns os : List Corner) → news ns ≡ olds os → news (corner r left low ∷ ns) ≡ olds (corner q left low ∷ os)
    step q r same left low ns os e =
        ap (λ (h : Bool). map (metric D S s B) (cond (beq h b) (corner r left low ∷ filter (λ p. beq (point_bit D p (t k)) b) ns) (filter (λ p. beq (point_bit D p (t k)) b) ns))) (bit_moved q r same left low k k1 km)
        ∙ go (beq (point_bit C (corner q left low) k) b)
      where
        go : (h : Bool) → map (metric D S s B) (cond h (corner r left low ∷ filter (λ p. beq (point_bit D p (t k)) b) ns) (filter (λ p. beq (point_bit D p (t k)) b) ns))
            ≡ map (metric C S s A) (cond h (corner q left low ∷ filter (λ p. beq (point_bit C p k) b) os) (filter (λ p. beq (point_bit C p k) b) os))
        go true = ap₂ ◌∷◌ (metric-moved q r same left low) e
        go false = e

    lists : (qs ns : List Point) → AllZip (Relabelled C.m t) qs ns → news (all_points ns) ≡ olds (all_points qs)
    lists [] [] h = refl
    lists [] (n ∷ ns) h = absurd h
    lists (q ∷ qs) [] h = absurd h
    lists (q ∷ qs) (n ∷ ns) h =
        step q n h.0 false false (corner n true false ∷ corner n false true ∷ corner n true true ∷ all_points ns) (corner q true false ∷ corner q false true ∷ corner q true true ∷ all_points qs)
        (step q n h.0 true false (corner n false true ∷ corner n true true ∷ all_points ns) (corner q false true ∷ corner q true true ∷ all_points qs)
        (step q n h.0 false true (corner n true true ∷ all_points ns) (corner q true true ∷ all_points qs)
        (step q n h.0 true true (all_points ns) (all_points qs) (lists qs ns h.1))))

    best-moved : AllZip (Relabelled C.m t) C.points rs → best D S s B (t k) b ≡ best C S s A k b
    unfolding best
    best-moved h = ap largest (lists C.points rs h)

pub moves : Moves
unfolding extrinsic
moves C t back rs perm each u1 um v1 vm S s A B AB k k1 km =
    ap (λ (a : ℤ). mapped (λ d. rounded S (d -ℤ pos S *ℤ a)) (apart (best (reordered C t rs) S s B (t k) true) (best (reordered C t rs) S s B (t k) false))) (AB k k1 km)
    ∙ ap₂ (λ (o z : Option ℤ). mapped (λ d. rounded S (d -ℤ pos S *ℤ A k)) (apart o z))
    (best-moved C t back rs perm u1 um v1 vm S s A B AB k k1 km true each) (best-moved C t back rs perm u1 um v1 vm S s A B AB k k1 km false each)
