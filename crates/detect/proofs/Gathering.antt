-- One more quadrant point in the buckets, and the places' pairs from them.
use Rattle.std.proofs.Common.{◌≡◌, ℕ, zero, suc, ◌+◌, ◌-◌, ◌/◌, ◌%◌, ◌^◌, ◌<◌, ◌≤◌, Bool, true, false, cond, eqb, ltb, ◌≢◌, List, [], ◌∷◌, ◌++◌, length, get_or, take, ℤ, pos, ◌+ℤ◌, ◌-ℤ◌, neg_ℤ, nat_abs, ◌≤ℤ◌, Some, None, Option, sym, refl, ap, ◌∙◌, subst, ap₂, inl, inr, arith, length-set, get_or-set_other, get_or-set_same}
use mathlib.Core.Bool.{beq}
use Rattle.std.specs.Int.{int_max}
use Rattle.std.specs.List.{AllByRecursion}
use Rattle.std.proofs.lemmas.Int.{ints, clamps}
use Rattle.std.proofs.lemmas.Bool.Decides.{leb_tells, eqb_tells, nat_tests}
use Rattle.std.proofs.lemmas.List.{take_more}
use Rattle.std.proofs.ByRecursion.{All-get_or, All-set, All-more}
use Rattle.metric.specs.Exhaustive.{greater, label_bit, signed}
use Rattle.metric.specs.Reduced.{absolute}
use Rattle.metric.proofs.Sums.{eqb_same, eqb_apart}
use Rattle.metric.proofs.Maxes.{greater_assoc}
use Rattle.metric.proofs.Loops.{greater_none}
use Rattle.constellation.specs.declared.Point.{Point}
use Rattle.observation.specs.declared.Record.{Record}
use Rattle.detect.specs.Parts.{Parted}
use Rattle.detect.specs.Tops.{lowest, coded, Held, Bounded, raised_by, offer_of, top_of, pair_of}
use Rattle.detect.specs.Buckets.{cross_of, tops_by, over_codes, noted_by, low_half, high_half, Bucketed, place_of, Gathered}
use Rattle.detect.proofs.Topping.{both, coded-greater, within_above, top_more}
use Rattle.detect.proofs.Coding.{tops_same, under, over_is}

tops_push : (f : Point → ℤ) (t : Point → Bool) (ps : List Point) (p : Point) → tops_by f t (ps ++ (p ∷ [])) ≡ greater (tops_by f t ps) (cond (t p) (Some (f p)) None)
unfolding tops_by
tops_push f t [] p = greater_none (cond (t p) (Some (f p)) None)
tops_push f t (q ∷ ps) p = ap (greater (cond (t q) (Some (f q)) None)) (tops_push f t ps p) ∙ sym (greater_assoc (cond (t q) (Some (f q)) None) (tops_by f t ps) (cond (t p) (Some (f p)) None))

tops_more : (f : Point → ℤ) (t : Point → Bool) (ps : List Point) (i : ℕ) (d : Point) → i < length ps →
    tops_by f t (take (i + 1) ps) ≡ greater (tops_by f t (take i ps)) (cond (t (get_or ps i d)) (Some (f (get_or ps i d))) None)
tops_more f t ps i d h = ap (tops_by f t) (take_more ps i d h) ∙ tops_push f t (take i ps) (get_or ps i d)

abbrev Within : ℤ → Type 0
Within x = nat_abs x ≤ 2305843009213693952

max_in : (a b : ℤ) → Within a → Within b → Within (int_max a b)
max_in a b h k = omega (arith, ints, clamps)

-- the buckets after one point more
pub bucket_more : (f : Point → ℤ) (g : Point → ℕ) (ps : List Point) (i : ℕ) (d : Point) {xs ys : List ℤ} {c : ℤ} → i < length ps → g (get_or ps i d) < 16 →
    Bucketed f g (take i ps) xs → ys ≡ noted_by xs (g (get_or ps i d)) c → c ≡ f (get_or ps i d) → Within c →
    Bucketed f g (take (i + 1) ps) ys
bucket_more f g ps i d {xs} {ys} {c} h s inv e q w = record { long = ap length e ∙ length-set xs (g (get_or ps i d)) (int_max (get_or xs (g (get_or ps i d)) (pos 0)) c) ∙ inv.long; bounded = subst (AllByRecursion Within) (sym e) (All-set Within xs n _ (max_in (get_or xs n (pos 0)) c old w) inv.bounded); at = at }
  where
    n : ℕ
    n = g (get_or ps i d)

    old : Within (get_or xs (g (get_or ps i d)) (pos 0))
    old = All-get_or Within xs (g (get_or ps i d)) (pos 0) (less (g (get_or ps i d)) (length xs) s inv.long) inv.bounded
      where
        less : (a b : ℕ) → a < 16 → b ≡ 16 → a < b
        less a b h e = omega arith

    fit : (a b : ℕ) → a < 16 → b ≡ 16 → a < b
    fit a b h e = omega arith

    same : get_or ys (g (get_or ps i d)) (pos 0) ≡ coded (tops_by f (λ p. eqb (g p) (g (get_or ps i d))) (take (i + 1) ps))
    same =
        ap (λ (l : List ℤ). get_or l (g (get_or ps i d)) (pos 0)) e
        ∙ get_or-set_same xs (g (get_or ps i d)) (int_max (get_or xs (g (get_or ps i d)) (pos 0)) c) (pos 0) (fit (g (get_or ps i d)) (length xs) s inv.long)
        ∙ ap₂ int_max (inv.at (g (get_or ps i d)) s) q
        ∙ sym (coded-greater (tops_by f (λ p. eqb (g p) (g (get_or ps i d))) (take i ps)) (Some (f (get_or ps i d)))
        (within_above _ (subst Within (inv.at (g (get_or ps i d)) s) old)) (within_above _ (subst Within q w)))
        ∙ ap (λ (b : Bool). coded (greater (tops_by f (λ p. eqb (g p) (g (get_or ps i d))) (take i ps)) (cond b (Some (f (get_or ps i d))) None))) (sym (eqb_same (g (get_or ps i d))))
        ∙ ap coded (sym (tops_more f (λ p. eqb (g p) (g (get_or ps i d))) ps i d h))

    at : (l : ℕ) → l < 16 → get_or ys l (pos 0) ≡ coded (tops_by f (λ p. eqb (g p) l) (take (i + 1) ps))
    at l k = elim (eqb_tells (g (get_or ps i d)) l) [
      | inl t ↦ subst (λ (l : ℕ). get_or ys l (pos 0) ≡ coded (tops_by f (λ p. eqb (g p) l) (take (i + 1) ps))) t.1 same
      | inr t ↦
          ap (λ (x : List ℤ). get_or x l (pos 0)) e
          ∙ get_or-set_other xs (g (get_or ps i d)) l (int_max (get_or xs (g (get_or ps i d)) (pos 0)) c) (pos 0) (λ r. t.1 (sym r))
          ∙ inv.at l k
          ∙ ap coded (sym (greater_none (tops_by f (λ p. eqb (g p) l) (take i ps))))
          ∙ ap (λ (b : Bool). coded (greater (tops_by f (λ p. eqb (g p) l) (take i ps)) (cond b (Some (f (get_or ps i d))) None))) (sym t.0)
          ∙ ap coded (sym (tops_more f (λ p. eqb (g p) l) ps i d h))
    ]

-- a best after one point more, which offers x
top_step : (r : Record) (shift : ℕ) (a : List ℤ) (m u v k : ℕ) (b : Bool) (ps : List Point) (i : ℕ) (d : Point) (x : ℤ) → i < length ps →
    offer_of r shift a m u v k b (get_or ps i d) ≡ Some x → lowest ≤ℤ x → lowest ≤ℤ coded (top_of r shift a m u v k b (take i ps)) →
    int_max (coded (top_of r shift a m u v k b (take i ps))) x ≡ coded (top_of r shift a m u v k b (take (i + 1) ps))
top_step r shift a m u v k b ps i d x h e high low =
    sym (coded-greater (top_of r shift a m u v k b (take i ps)) (Some x) low high)
    ∙ ap (λ (o : Option ℤ). coded (greater (top_of r shift a m u v k b (take i ps)) o)) (sym e)
    ∙ ap coded (sym (top_more r shift a m u v k b ps i d h))

-- a pair after one point more
pair-more : (r : Record) (shift : ℕ) (a : List ℤ) (m u v k : ℕ) (ps : List Point) (i : ℕ) (d : Point) (base turn cross : ℤ) {p q : ℤ × ℤ} → i < length ps →
    offer_of r shift a m u v k true (get_or ps i d) ≡ Some (base +ℤ absolute cross -ℤ turn) → offer_of r shift a m u v k false (get_or ps i d) ≡ Some (base +ℤ absolute cross +ℤ turn) →
    Bounded base turn cross → Held p → p ≡ pair_of r shift a m u v k (take i ps) → q ≡ raised_by p base turn cross → q ≡ pair_of r shift a m u v k (take (i + 1) ps)
pair-more r shift a m u v k ps i d base turn cross {p} {q} h at1 at0 bound held e f =
    f ∙ ap (λ (t : ℤ × ℤ). raised_by t base turn cross) e
    ∙ both (top_step r shift a m u v k true ps i d (base +ℤ absolute cross -ℤ turn) h at1 (below base turn cross bound.base_in bound.tv_in bound.tu_in) (within_above _ before.one))
    (top_step r shift a m u v k false ps i d (base +ℤ absolute cross +ℤ turn) h at0 (above base turn cross bound.base_in bound.tv_in bound.tu_in) (within_above _ before.zero))
  where
    before : Held (pair_of r shift a m u v k (take i ps))
    before = subst Held e held

    below : (b t c : ℤ) → nat_abs b ≤ 760000000000000000 → nat_abs t ≤ 152700000000000000 → nat_abs c ≤ 152700000000000000 → lowest ≤ℤ (b +ℤ absolute c -ℤ t)
    below b t c h k l = omega (arith, ints)

    above : (b t c : ℤ) → nat_abs b ≤ 760000000000000000 → nat_abs t ≤ 152700000000000000 → nat_abs c ≤ 152700000000000000 → lowest ≤ℤ (b +ℤ absolute c +ℤ t)
    above b t c h k l = omega (arith, ints)

-- what a point offers at the two signs' positions
minus_v : (b t c : ℤ) → b +ℤ neg_ℤ t +ℤ c +ℤ pos 0 ≡ b +ℤ c -ℤ t
minus_v b t c = omega (arith, ints)

plus_v : (b t c : ℤ) → b +ℤ t +ℤ c +ℤ pos 0 ≡ b +ℤ c +ℤ t
plus_v b t c = omega (arith, ints)

minus_u : (b c t : ℤ) → b +ℤ c +ℤ neg_ℤ t +ℤ pos 0 ≡ b +ℤ c -ℤ t
minus_u b c t = omega (arith, ints)

plus_none : (z : ℤ) → z +ℤ pos 0 ≡ z
plus_none z = omega (arith, ints)

-- the best of a quadrant point's four is within bounds
reach : (b t c : ℤ) → Bounded b t c → Within (b +ℤ absolute t +ℤ absolute c)
reach b t c h = go b t c h.base_in h.tv_in h.tu_in
  where
    go : (b t c : ℤ) → nat_abs b ≤ 760000000000000000 → nat_abs t ≤ 152700000000000000 → nat_abs c ≤ 152700000000000000 → Within (b +ℤ absolute t +ℤ absolute c)
    go b t c h k l = omega (arith, ints)

-- the pass's step
pub gather_more : {r : Record} {shift m u v : ℕ} {a : List ℤ} (ps : List Point) {lows highs lows' highs' : List ℤ} {pv pu pv' pu' : ℤ × ℤ} {base tv tu : ℤ} (i : ℕ) (d : Point) → i < length ps → u ≢ v →
    Gathered r shift a m u v (take i ps) lows highs pv pu →
    Parted (get_or ps i d) r shift a m u v base tv tu → Bounded base tv tu →
    lows' ≡ noted_by lows (low_half (get_or ps i d)) (base +ℤ absolute tv +ℤ absolute tu) → highs' ≡ noted_by highs (high_half (get_or ps i d)) (base +ℤ absolute tv +ℤ absolute tu) →
    pv' ≡ raised_by pv base tv tu → pu' ≡ raised_by pu base tu tv → Held pv' → Held pu' →
    Gathered r shift a m u v (take (i + 1) ps) lows' highs' pv' pu'
unfolding offer_of
gather_more {r} {shift} {m} {u} {v} {a} ps {base = base} {tv} {tu} i d h ne inv part bound el eh pv pu hv hu = record {
  low = bucket_more (cross_of r shift a m u v) low_half ps i d h (small (get_or ps i d).label) inv.low el crossed within;
  high = bucket_more (cross_of r shift a m u v) high_half ps i d h (small ((get_or ps i d).label / 16)) inv.high eh crossed within;
  v_at = pair-more r shift a m u v v ps i d base tv tu h (at_v true ∙ ap Some (minus_v base tv (absolute tu))) (at_v false ∙ ap Some (plus_v base tv (absolute tu))) bound inv.v_held inv.v_at pv;
  u_at = pair-more r shift a m u v u ps i d base tu tv h (at_u true ∙ ap Some (minus_u base (absolute tv) tu)) (at_u false ∙ ap Some (plus_none (base +ℤ absolute tv +ℤ tu))) turned inv.u_held inv.u_at pu;
  v_held = hv;
  u_held = hu;
  above = All-more (λ p. lowest ≤ℤ cross_of r shift a m u v p) ps i d h inv.above (within_above _ (subst Within crossed within));
}
  where
    small : (n : ℕ) → n % 16 < 16
    small n = omega arith

    within : Within (base +ℤ absolute tv +ℤ absolute tu)
    within = reach base tv tu bound

    crossed : base +ℤ absolute tv +ℤ absolute tu ≡ cross_of r shift a m u v (get_or ps i d)
    crossed = rw (part.base, part.tv, part.tu)

    at_v : (b : Bool) → offer_of r shift a m u v v b (get_or ps i d) ≡ Some (base +ℤ signed b tv +ℤ absolute tu +ℤ pos 0)
    at_v b = rw (part.base, part.tv, part.tu, eqb_same v)

    at_u : (b : Bool) → offer_of r shift a m u v u b (get_or ps i d) ≡ Some (base +ℤ absolute tv +ℤ signed b tu +ℤ pos 0)
    at_u b = rw (part.base, part.tv, part.tu, eqb_apart u v ne, eqb_same u)

    turned : Bounded base tu tv
    turned = record { base_in = bound.base_in; tv_in = bound.tu_in; tu_in = bound.tv_in }

-- ---- from the buckets to the places
low_bit : (n i : ℕ) → i < 4 → (n % 16) / 2 ^ i % 2 ≡ n / 2 ^ i % 2
low_bit n zero h = omega arith
low_bit n (suc zero) h = omega arith
low_bit n (suc (suc zero)) h = omega arith
low_bit n (suc (suc (suc zero))) h = omega arith
low_bit n (suc (suc (suc (suc i)))) h = absurd (omega arith)

high_bit : (n i : ℕ) → i < 4 → (n / 16 % 16) / 2 ^ i % 2 ≡ n / 2 ^ (i + 4) % 2
high_bit n zero h = omega arith
high_bit n (suc zero) h = omega arith
high_bit n (suc (suc zero)) h = omega arith
high_bit n (suc (suc (suc zero))) h = omega arith
high_bit n (suc (suc (suc (suc i)))) h = absurd (omega arith)

-- at a place that is neither u nor v a point offers the best of its four, if its label's bit is the one
other_is : (r : Record) (shift : ℕ) (a : List ℤ) (m u v k : ℕ) (b : Bool) (ps : List Point) → eqb k v ≡ false → eqb k u ≡ false →
    top_of r shift a m u v k b ps ≡ tops_by (cross_of r shift a m u v) (λ p. beq (label_bit m p.label k) b) ps
unfolding top_of tops_by offer_of
other_is r shift a m u v k b [] e f = refl
other_is r shift a m u v k b (p ∷ ps) e f = ap₂ greater (rw (e, f, plus_none (cross_of r shift a m u v p))) (other_is r shift a m u v k b ps e f)

ltb_16 : (n : ℕ) → n < 16 → ltb n 16 ≡ true
ltb_16 n h = grind (arith, nat_tests)

pub over_low : (r : Record) (shift : ℕ) (a : List ℤ) (m u v k i : ℕ) (b : Bool) (ps : List Point) (xs : List ℤ) → AllByRecursion (λ p. lowest ≤ℤ cross_of r shift a m u v p) ps → Bucketed (cross_of r shift a m u v) low_half ps xs →
    eqb k v ≡ false → eqb k u ≡ false → m - k ≡ i → i < 4 → over_codes i b xs 16 ≡ coded (top_of r shift a m u v k b ps)
over_low r shift a m u v k i b ps xs high inv e f q l =
    over_is (cross_of r shift a m u v) low_half i b xs ps high inv.at 16 (omega arith)
    ∙ ap coded (tops_same (cross_of r shift a m u v) (under low_half i b 16) (λ p. beq (label_bit m p.label k) b) each ps ∙ sym (other_is r shift a m u v k b ps e f))
  where
    small : (n : ℕ) → n % 16 < 16
    small n = omega arith

    each : (p : Point) → under low_half i b 16 p ≡ beq (label_bit m p.label k) b
    each p = rw (ltb_16 (p.label % 16) (small p.label), low_bit p.label i l, q)

pub over_high : (r : Record) (shift : ℕ) (a : List ℤ) (m u v k i : ℕ) (b : Bool) (ps : List Point) (xs : List ℤ) → AllByRecursion (λ p. lowest ≤ℤ cross_of r shift a m u v p) ps → Bucketed (cross_of r shift a m u v) high_half ps xs →
    eqb k v ≡ false → eqb k u ≡ false → m - k ≡ i + 4 → i < 4 → over_codes i b xs 16 ≡ coded (top_of r shift a m u v k b ps)
over_high r shift a m u v k i b ps xs high inv e f q l =
    over_is (cross_of r shift a m u v) high_half i b xs ps high inv.at 16 (omega arith)
    ∙ ap coded (tops_same (cross_of r shift a m u v) (under high_half i b 16) (λ p. beq (label_bit m p.label k) b) each ps ∙ sym (other_is r shift a m u v k b ps e f))
  where
    small : (n : ℕ) → n % 16 < 16
    small n = omega arith

    each : (p : Point) → under high_half i b 16 p ≡ beq (label_bit m p.label k) b
    each p = rw (ltb_16 (p.label / 16 % 16) (small (p.label / 16)), high_bit p.label i l, q)

pub place_is : {r : Record} {shift m u v : ℕ} {a : List ℤ} (ps : List Point) {lows highs : List ℤ} {pv pu : ℤ × ℤ} (k : ℕ) → k < m → m ≤ 8 → Gathered r shift a m u v ps lows highs pv pu →
    place_of m u v lows highs pv pu k ≡ pair_of r shift a m u v (k + 1) ps
place_is {r} {shift} {m} {u} {v} {a} ps {lows} {highs} {pv} {pu} k h m8 inv = elim (eqb_tells (k + 1) v) [
  | inl t ↦ rw t.0 (inv.v_at ∙ ap (λ (n : ℕ). pair_of r shift a m u v n ps) (sym t.1))
  | inr t ↦ elim (eqb_tells (k + 1) u) [
    | inl s ↦ rw (t.0, s.0) (inv.u_at ∙ ap (λ (n : ℕ). pair_of r shift a m u v n ps) (sym s.1))
    | inr s ↦ elim (leb_tells (suc (m - (k + 1))) 4) [
      | inl l ↦ rw (t.0, s.0, l.0) (both (over_low r shift a m u v (k + 1) (m - (k + 1)) true ps lows inv.above inv.low t.0 s.0 refl l.1) (over_low r shift a m u v (k + 1) (m - (k + 1)) false ps lows inv.above inv.low t.0 s.0 refl l.1))
      | inr l ↦ rw (t.0, s.0, l.0) (both (over_high r shift a m u v (k + 1) (m - (k + 1) - 4) true ps highs inv.above inv.high t.0 s.0 (four l.1) (less l.1)) (over_high r shift a m u v (k + 1) (m - (k + 1) - 4) false ps highs inv.above inv.high t.0 s.0 (four l.1) (less l.1)))
    ]
  ]
]
  where
    four : 4 < suc (m - (k + 1)) → m - (k + 1) ≡ m - (k + 1) - 4 + 4
    four l = omega arith

    less : 4 < suc (m - (k + 1)) → m - (k + 1) - 4 < 4
    less l = omega arith
