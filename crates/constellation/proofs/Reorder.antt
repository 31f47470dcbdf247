-- The bits of a label, one by one, and of a label in another order.
use Rattle.std.proofs.Common.{◌≡◌, ℕ, zero, suc, ◌+◌, ◌-◌, ◌*◌, ◌/◌, ◌%◌, ◌^◌, ◌<◌, ◌≤◌, eqb, List, [], ◌∷◌, ◌++◌, length, get_or, sym, ap, ◌∙◌, subst, not-suc-le-zero, mul_assoc, arith}
use lib.Pow.{mod-mod-pow}
use lib.Arith.{digits_lt}
use Rattle.std.proofs.lemmas.Nat.{pow-add, field_of, shr_high, mod_low, mod_below, shr_below}
use Rattle.std.proofs.lemmas.List.{length_push}
use Rattle.std.proofs.lemmas.Bool.{cond_both, eqb-true}
use Rattle.constellation.specs.Meaning.{bit}
use Rattle.constellation.specs.Ordered.{reorder, position}
use Rattle.constellation.proofs.Labels.{bit_above}

pub bit-small : (m j l : ℕ) → bit m j l < 2
bit-small m j l = mod_below (l / 2 ^ (m - j)) 2 (omega arith)

pub pow_suc : (n : ℕ) → 2 ^ suc n ≡ 2 * 2 ^ n
pow_suc n = let e : suc n ≡ 1 + n = omega arith in ap (λ z. 2 ^ z) e ∙ pow-add 2 1 n

pub reorder-small : (m : ℕ) (ps : List ℕ) (l : ℕ) → reorder m ps l < 2 ^ length ps
reorder-small m [] l = omega arith
reorder-small m (p ∷ ps) l =
    let h : bit m p l * 2 ^ length ps + reorder m ps l < 2 * 2 ^ length ps = digits_lt (bit-small m p l) (reorder-small m ps l) in
    omega (arith, pow_suc (length ps))

-- a bit below the n-th does not see what stands above
pub low_bit : (x n d : ℕ) → d < n → x / 2 ^ d % 2 ≡ (x % 2 ^ n) / 2 ^ d % 2
low_bit x n d h =
    let e : n ≡ (n - (1 + d)) + (1 + d) = omega arith in
    let cut : x % 2 ^ n % 2 ^ (1 + d) ≡ x % 2 ^ (1 + d) = ap (λ z. x % 2 ^ z % 2 ^ (1 + d)) e ∙ mod-mod-pow x (n - (1 + d)) (1 + d) in
    sym (field_of x 1 d) ∙ ap (λ z. z / 2 ^ d) (sym cut) ∙ field_of (x % 2 ^ n) 1 d

bit_at : (m : ℕ) (ps : List ℕ) (l j : ℕ) → j < length ps → reorder m ps l / 2 ^ (length ps - suc j) % 2 ≡ bit m (get_or ps j 0) l
bit_at m [] l j h = absurd (not-suc-le-zero h)
bit_at m (p ∷ ps) l zero h =
    let e : suc (length ps) - 1 ≡ length ps = omega arith in
    let b : bit m p l < 2 = bit-small m p l in
    ap (λ z. reorder m (p ∷ ps) l / 2 ^ z % 2) e
    ∙ ap (λ z. z % 2) (shr_high (bit m p l) (length ps) (reorder m ps l) (reorder-small m ps l))
    ∙ omega arith
bit_at m (p ∷ ps) l (suc j) h =
    let e : suc (length ps) - suc (suc j) ≡ length ps - suc j = omega arith in
    let d : length ps - suc j < length ps = omega arith in
    ap (λ z. reorder m (p ∷ ps) l / 2 ^ z % 2) e
    ∙ low_bit (reorder m (p ∷ ps) l) (length ps) (length ps - suc j) d
    ∙ ap (λ z. z / 2 ^ (length ps - suc j) % 2) (mod_low (bit m p l) (length ps) (reorder m ps l) (reorder-small m ps l))
    ∙ bit_at m ps l j (omega arith)

-- position j of the new label has the bit of the j-th listed position
pub bit-reorder : (m : ℕ) (ps : List ℕ) (l j : ℕ) → length ps ≡ m → 1 ≤ j → j ≤ m → bit m j (reorder m ps l) ≡ bit m (get_or ps (j - 1) 0) l
bit-reorder m ps l j n a b =
    let e : m - j ≡ length ps - suc (j - 1) = omega arith in
    ap (λ z. reorder m ps l / 2 ^ z % 2) e ∙ bit_at m ps l (j - 1) (omega arith)

-- two labels with the same bits are the same
pub same_bits : (m x y : ℕ) → x < 2 ^ m → y < 2 ^ m → ((j : ℕ) → 1 ≤ j → j ≤ m → bit m j x ≡ bit m j y) → x ≡ y
same_bits zero x y a b h = omega arith
same_bits (suc m) x y a b h =
    let e : suc m ≡ m + 1 = omega arith in
    let a' : x < 2 ^ (m + 1) = subst (λ z. x < 2 ^ z) e a in
    let b' : y < 2 ^ (m + 1) = subst (λ z. y < 2 ^ z) e b in
    let up = same_bits m (x / 2) (y / 2) (shr_below x m 1 a') (shr_below y m 1 b')
    (λ j p q. sym (bit_above m 1 j x q) ∙ ap (λ z. bit z j x) (sym e) ∙ h j p (omega arith) ∙ ap (λ z. bit z j y) e ∙ bit_above m 1 j y q) in
    let last = h (suc m) (omega arith) (omega arith) in
    let d : suc m - suc m ≡ 0 = omega arith in
    let low : x / 2 ^ 0 % 2 ≡ y / 2 ^ 0 % 2 = sym (ap (λ z. x / 2 ^ z % 2) d) ∙ last ∙ ap (λ z. y / 2 ^ z % 2) d in
    omega arith

pub position_least : (q : ℕ) (ps : List ℕ) → 1 ≤ position q ps
position_least q [] = omega arith
position_least q (p ∷ ps) = cond_both (eqb p q) 1 (position q ps + 1) (λ z. 1 ≤ z) (λ _. omega arith) (λ _. omega arith)

pub at_position : (q : ℕ) (ps : List ℕ) → position q ps ≤ length ps → get_or ps (position q ps - 1) 0 ≡ q
at_position q [] = λ h. omega arith
at_position q (p ∷ ps) =
    cond_both (eqb p q) 1 (position q ps + 1) (λ z. z ≤ suc (length ps) → get_or (p ∷ ps) (z - 1) 0 ≡ q)
    (λ t h. eqb-true p q t)
    (λ f h.
    let e : position q ps + 1 - 1 ≡ suc (position q ps - 1) = omega (arith, position_least q ps) in
    ap (λ z. get_or (p ∷ ps) z 0) e ∙ at_position q ps (omega arith))

-- one step of the loop
pub reorder_push : (m : ℕ) (ps : List ℕ) (p l : ℕ) → reorder m (ps ++ p ∷ []) l ≡ reorder m ps l * 2 + bit m p l
reorder_push m [] p l = omega arith
reorder_push m (q ∷ ps) p l =
    let n : length (ps ++ p ∷ []) ≡ suc (length ps) = length_push ps p ∙ omega arith in
    let top : bit m q l * 2 ^ length (ps ++ p ∷ []) ≡ bit m q l * (2 ^ length ps * 2) =
    ap (λ z. bit m q l * 2 ^ z) n ∙ ap (λ z. bit m q l * z) (pow_suc (length ps) ∙ omega arith) in
    omega (arith, top, sym (mul_assoc (bit m q l) (2 ^ length ps) 2), reorder_push m ps p l)
