-- A record with one antenna more is the record of one antenna more.
use Rattle.std.proofs.Common.{◌≡◌, ℕ, ◌+◌, ◌*◌, ◌<◌, ◌≤◌, List, [], ◌∷◌, ◌++◌, length, get_or, take, ℤ, ◌+ℤ◌, nat_abs, sym, refl, ap, ◌∙◌, ap₂, mul-le-mul, arith, length-take}
use Rattle.std.proofs.lemmas.Int.{ints}
use Rattle.std.proofs.lemmas.List.{take_more}
use Rattle.arith.proofs.Exact.{given, times, plus, minus, negated}
use Rattle.metric.specs.Exhaustive.{Antenna}
use Rattle.observation.specs.declared.Sample.{Sample}
use Rattle.observation.specs.declared.Record.{Record}
use Rattle.observation.specs.Observed.{complex, antennas_of, symbol_of, held, Ranged}
use Rattle.observation.specs.Joining.{energy_of, product_of, conjugated, Summed, Joined}
use Rattle.observation.proofs.Sums.{y_push, h_push, re_push, im_push}

abbrev antenna : Sample → Sample → Antenna
antenna y h = record { received = complex y; reference = complex h }

antennas_push : (ys hs : List Sample) (y h : Sample) → length ys ≡ length hs →
    antennas_of (ys ++ (y ∷ [])) (hs ++ (h ∷ [])) ≡ antennas_of ys hs ++ (antenna y h ∷ [])
antennas_push [] [] y h e = refl
antennas_push [] (x ∷ hs) y h e = absurd (omega arith)
antennas_push (x ∷ ys) [] y h e = absurd (omega arith)
antennas_push (x ∷ ys) (z ∷ hs) y h e = ap (λ l. antenna x z ∷ l) (antennas_push ys hs y h (omega arith))

antennas_more : (ys hs : List Sample) (i : ℕ) (d : Sample) → length ys ≡ length hs → i < length ys →
    antennas_of (take (i + 1) ys) (take (i + 1) hs) ≡ antennas_of (take i ys) (take i hs) ++ (antenna (get_or ys i d) (get_or hs i d) ∷ [])
antennas_more ys hs i d e h =
    ap₂ antennas_of (take_more ys i d h) (take_more hs i d (omega arith))
    ∙ antennas_push (take i ys) (take i hs) (get_or ys i d) (get_or hs i d) (simp length-take (omega arith))

same_record : {a a' b b' : ℤ} {c c' d d' w w' : ℕ} → a ≡ a' → b ≡ b' → c ≡ c' → d ≡ d' → w ≡ w' →
    ◌≡◌ {A = Record} record { z_re = a; z_im = b; y_energy = c; h_energy = d; weight = w } record { z_re = a'; z_im = b'; y_energy = c'; h_energy = d'; weight = w' }
same_record e f g h k = rw (e, f, g, h, k)

pub join_more : (ys hs : List Sample) (w i : ℕ) (d : Sample) {r s : Record} → length ys ≡ length hs → i < length ys →
    r ≡ held (symbol_of (take i ys) (take i hs) w) → Joined r (get_or ys i d) (get_or hs i d) s → s ≡ held (symbol_of (take (i + 1) ys) (take (i + 1) hs) w)
join_more ys hs w i d {r} {s} e h same j =
    let before = antennas_of (take i ys) (take i hs) in
    let one = antenna (get_or ys i d) (get_or hs i d) in
    same_record j.re j.im j.y_energy j.h_energy j.weight
    ∙ same_record
    (ap (λ (t : Record). t.z_re +ℤ (product_of (get_or ys i d) (conjugated (get_or hs i d))).0) same ∙ sym (re_push before one))
    (ap (λ (t : Record). t.z_im +ℤ (product_of (get_or ys i d) (conjugated (get_or hs i d))).1) same ∙ sym (im_push before one))
    (ap (λ (t : Record). t.y_energy + energy_of (get_or ys i d)) same ∙ sym (y_push before one))
    (ap (λ (t : Record). t.h_energy + energy_of (get_or hs i d)) same ∙ sym (h_push before one))
    (ap (λ (t : Record). t.weight) same)
    ∙ ap (λ (l : List Antenna). held (record { antennas = l; weight = w })) (sym (antennas_more ys hs i d e h))

-- ---- sizes
pub energy_small : (s : Sample) → Ranged s → energy_of s ≤ 2093058
energy_small s h =
    let a : nat_abs s.re * nat_abs s.re ≤ 1023 * 1023 = mul-le-mul h.re h.re in
    let b : nat_abs s.im * nat_abs s.im ≤ 1023 * 1023 = mul-le-mul h.im h.im in
    omega arith

-- both parts of a product
pub re_small : (a b : Sample) → Ranged a → Ranged b → nat_abs (product_of a b).0 ≤ 2093058
re_small a b p q = (minus (times (given a.re p.re) (given b.re q.re)) (times (given a.im p.im) (given b.im q.im))).within

pub im_small : (a b : Sample) → Ranged a → Ranged b → nat_abs (product_of a b).1 ≤ 2093058
im_small a b p q = (plus (times (given a.re p.re) (given b.im q.im)) (times (given a.im p.im) (given b.re q.re))).within

pub conjugate_ranged : (s : Sample) → Ranged s → Ranged (conjugated s)
conjugate_ranged s h = record { re = h.re; im = (negated (given s.im h.im)).within }

pub sum_small : (i : ℕ) {r s : Record} {y h : Sample} → Summed i r → Joined r y h s → Ranged y → Ranged h → Summed (i + 1) s
sum_small i {r} {s} {y} {h} b j p q = record {
  re = next s.z_re r.z_re (product_of y (conjugated h)).0 j.re b.re (re_small y (conjugated h) p (conjugate_ranged h q));
  im = next s.z_im r.z_im (product_of y (conjugated h)).1 j.im b.im (im_small y (conjugated h) p (conjugate_ranged h q));
  y = up s.y_energy r.y_energy (energy_of y) j.y_energy b.y (energy_small y p);
  h = up s.h_energy r.h_energy (energy_of h) j.h_energy b.h (energy_small h q);
}
  where
    next : (t z x : ℤ) → t ≡ z +ℤ x → nat_abs z ≤ i * 2093058 → nat_abs x ≤ 2093058 → nat_abs t ≤ (i + 1) * 2093058
    next t z x e h k = omega (arith, ints)

    up : (t z x : ℕ) → t ≡ z + x → z ≤ i * 2093058 → x ≤ 2093058 → t ≤ (i + 1) * 2093058
    up t z x e h k = omega arith
