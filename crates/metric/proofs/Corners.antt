-- The doubled metric of each of a quadrant point's four points.
use Rattle.std.proofs.Common.{◌≡◌, Bool, true, false, cond, [], ◌∷◌, ℤ, pos, ◌+ℤ◌, ◌-ℤ◌, ◌*ℤ◌, neg_ℤ, refl}
use Rattle.arith.specs.Ring.{Poly, var, con, ◌:+◌, ◌:-◌, ◌:*◌, neg}
use Rattle.metric.specs.Exhaustive.{signed}
use Rattle.arith.proofs.RingLaws.{ring}
use Rattle.metric.proofs.Distance.{Expanded}

-- one sign choice: c the coordinates, g and f what bits v and u add, tv and tu with their signs
-- variables: 0 W, 1 x, 2 y, 3 Y, 4 H, 5 Re z, 6 Im z, 7 S, 8 L, 9 A_v, 10 A_u
abbrev whole : Poly → Poly → Poly → Poly → Poly
whole cx cy gv gu =
    con (pos 2) :* (neg (var 0 :* (con (pos 1048576) :* var 3 :- con (pos 2048) :* (cx :* var 5 :+ cy :* var 6) :+ (cx :* cx :+ cy :* cy) :* var 4)) :+ var 7 :* (var 8 :+ gv :+ gu))

abbrev split : (Poly → Poly) → (Poly → Poly) → Poly
split sv su =
    neg (con (pos 2) :* var 0 :* (con (pos 1048576) :* var 3 :+ (var 1 :* var 1 :+ var 2 :* var 2) :* var 4)) :+ con (pos 2) :* var 7 :* var 8
    :+ sv (con (pos 4096) :* var 0 :* var 1 :* var 5 :- var 7 :* var 9)
    :+ su (con (pos 4096) :* var 0 :* var 2 :* var 6 :- var 7 :* var 10)
    :+ (var 7 :* var 10 :+ var 7 :* var 9)

pub doubled : (left low : Bool) (W x y Y H zr zi S L av au : ℤ) →
    pos 2 *ℤ (neg_ℤ (W *ℤ Expanded (record { re = signed left x; im = signed low y }) Y (record { re = zr; im = zi }) H) +ℤ S *ℤ (L +ℤ cond left av (pos 0) +ℤ cond low au (pos 0)))
    ≡ neg_ℤ (pos 2 *ℤ W *ℤ (pos 1048576 *ℤ Y +ℤ (x *ℤ x +ℤ y *ℤ y) *ℤ H)) +ℤ pos 2 *ℤ S *ℤ L
    +ℤ signed left (pos 4096 *ℤ W *ℤ x *ℤ zr -ℤ S *ℤ av) +ℤ signed low (pos 4096 *ℤ W *ℤ y *ℤ zi -ℤ S *ℤ au) +ℤ (S *ℤ au +ℤ S *ℤ av)
doubled false false W x y Y H zr zi S L av au =
    ring (W ∷ x ∷ y ∷ Y ∷ H ∷ zr ∷ zi ∷ S ∷ L ∷ av ∷ au ∷ []) (whole (var 1) (var 2) (con (pos 0)) (con (pos 0))) (split (λ t. t) (λ t. t)) refl
doubled true false W x y Y H zr zi S L av au =
    ring (W ∷ x ∷ y ∷ Y ∷ H ∷ zr ∷ zi ∷ S ∷ L ∷ av ∷ au ∷ []) (whole (neg (var 1)) (var 2) (var 9) (con (pos 0))) (split neg (λ t. t)) refl
doubled false true W x y Y H zr zi S L av au =
    ring (W ∷ x ∷ y ∷ Y ∷ H ∷ zr ∷ zi ∷ S ∷ L ∷ av ∷ au ∷ []) (whole (var 1) (neg (var 2)) (con (pos 0)) (var 10)) (split (λ t. t) neg) refl
doubled true true W x y Y H zr zi S L av au =
    ring (W ∷ x ∷ y ∷ Y ∷ H ∷ zr ∷ zi ∷ S ∷ L ∷ av ∷ au ∷ []) (whole (neg (var 1)) (neg (var 2)) (var 9) (var 10)) (split neg neg) refl
