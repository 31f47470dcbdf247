-- The largest of a list, with `None` for no number.
use Rattle.std.proofs.Common.{◌≡◌, Bool, true, false, cond, List, ◌∷◌, map, ℤ, pos, ◌+ℤ◌, ◌*ℤ◌, neg_ℤ, Some, None, filter, Option, sym, refl, ap, ◌∙◌, ap₂, arith}
use mathlib.Core.Bool.{beq}
use Rattle.std.specs.Int.{int_max}
use Rattle.std.proofs.lemmas.Int.{ints, clamps}
use Rattle.metric.specs.Exhaustive.{mapped, greater, largest, signed}
use Rattle.metric.specs.Reduced.{absolute, choice}

max_assoc : (a b c : ℤ) → int_max (int_max a b) c ≡ int_max a (int_max b c)
max_assoc a b c = omega (arith, ints, clamps)

pub greater_assoc : (a b c : Option ℤ) → greater (greater a b) c ≡ greater a (greater b c)
greater_assoc None b c = refl
greater_assoc (Some a) None c = refl
greater_assoc (Some a) (Some b) None = refl
greater_assoc (Some a) (Some b) (Some c) = ap Some (max_assoc a b c)

unfoldable pub twice : Option ℤ → Option ℤ
twice o = mapped (λ d. pos 2 *ℤ d) o

pub twice-greater : (a b : Option ℤ) → twice (greater a b) ≡ greater (twice a) (twice b)
unfolding twice
twice-greater None b = refl
twice-greater (Some a) None = refl
twice-greater (Some a) (Some b) = ap Some (two a b)
  where
    two : (a b : ℤ) → pos 2 *ℤ int_max a b ≡ int_max (pos 2 *ℤ a) (pos 2 *ℤ b)
    two a b = omega (arith, ints, clamps)

pub largest-kept : {X : Type 0} (f : X → ℤ) (t : X → Bool) (p : X) (ps : List X) → largest (map f (filter t (p ∷ ps))) ≡ greater (cond (t p) (Some (f p)) None) (largest (map f (filter t ps)))
largest-kept f t p ps = go (t p)
  where
    go : (b : Bool) → largest (map f (cond b (p ∷ filter t ps) (filter t ps))) ≡ greater (cond b (Some (f p)) None) (largest (map f (filter t ps)))
    go true = refl
    go false = refl

-- a point's doubled metric, if its bit is the one asked for
abbrev pub offer : (is_v is_u bit b left low : Bool) → (base tv tu own : ℤ) → Option ℤ
offer is_v is_u bit b left low base tv tu own = cond (beq (cond is_v left (cond is_u low bit)) b) (Some (base +ℤ signed left tv +ℤ signed low tu +ℤ own)) None

two_v : (b : Bool) (p tv tu o : ℤ) → int_max (p +ℤ signed b tv +ℤ tu +ℤ o) (p +ℤ signed b tv +ℤ neg_ℤ tu +ℤ o) ≡ p +ℤ signed b tv +ℤ absolute tu +ℤ o
two_v true p tv tu o = omega (arith, ints, clamps)
two_v false p tv tu o = omega (arith, ints, clamps)

two_u : (b : Bool) (p tv tu o : ℤ) → int_max (p +ℤ tv +ℤ signed b tu +ℤ o) (p +ℤ neg_ℤ tv +ℤ signed b tu +ℤ o) ≡ p +ℤ absolute tv +ℤ signed b tu +ℤ o
two_u true p tv tu o = omega (arith, ints, clamps)
two_u false p tv tu o = omega (arith, ints, clamps)

four : (p tv tu o : ℤ) → int_max (p +ℤ tv +ℤ tu +ℤ o) (int_max (p +ℤ neg_ℤ tv +ℤ tu +ℤ o) (int_max (p +ℤ tv +ℤ neg_ℤ tu +ℤ o) (p +ℤ neg_ℤ tv +ℤ neg_ℤ tu +ℤ o))) ≡ p +ℤ absolute tv +ℤ absolute tu +ℤ o
four p tv tu o =
    sym (max_assoc (p +ℤ tv +ℤ tu +ℤ o) (p +ℤ neg_ℤ tv +ℤ tu +ℤ o) (int_max (p +ℤ tv +ℤ neg_ℤ tu +ℤ o) (p +ℤ neg_ℤ tv +ℤ neg_ℤ tu +ℤ o)))
    ∙ ap₂ int_max (two_u false p tv tu o) (two_u true p tv tu o) ∙ two_v false p (absolute tv) tu o

pub choice_is : (is_v is_u bit b : Bool) (p tv tu o : ℤ) →
    greater (offer is_v is_u bit b false false p tv tu o) (greater (offer is_v is_u bit b true false p tv tu o) (greater (offer is_v is_u bit b false true p tv tu o) (offer is_v is_u bit b true true p tv tu o)))
    ≡ choice is_v is_u bit b p tv tu o
choice_is true is_u bit true p tv tu o = ap Some (two_v true p tv tu o)
choice_is true is_u bit false p tv tu o = ap Some (two_v false p tv tu o)
choice_is false true bit true p tv tu o = ap Some (two_u true p tv tu o)
choice_is false true bit false p tv tu o = ap Some (two_u false p tv tu o)
choice_is false false true true p tv tu o = ap Some (four p tv tu o)
choice_is false false true false p tv tu o = refl
choice_is false false false true p tv tu o = refl
choice_is false false false false p tv tu o = ap Some (four p tv tu o)
