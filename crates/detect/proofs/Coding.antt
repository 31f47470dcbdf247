-- From the best of each code to the best of each bit.
use Rattle.std.proofs.Common.{◌≡◌, ℕ, zero, suc, ◌/◌, ◌%◌, ◌^◌, ◌<◌, ◌≤◌, Bool, true, false, cond, eqb, ltb, List, [], ◌∷◌, get_or, ℤ, pos, ◌≤ℤ◌, Some, None, Option, sym, refl, ap, ◌∙◌, ap₂, inl, inr, arith}
use mathlib.Core.Bool.{beq}
use Rattle.std.specs.Int.{int_max}
use Rattle.std.specs.List.{AllByRecursion}
use Rattle.std.proofs.lemmas.Int.{ints, clamps}
use Rattle.std.proofs.lemmas.Bool.Decides.{eqb_tells, nat_tests}
use Rattle.metric.specs.Exhaustive.{greater}
use Rattle.metric.proofs.Maxes.{greater_assoc}
use Rattle.constellation.specs.declared.Point.{Point}
use Rattle.detect.specs.Tops.{lowest, coded}
use Rattle.detect.specs.Buckets.{tops_by, over_codes}
use Rattle.detect.proofs.Topping.{coded-greater}

pub tops_same : (f : Point → ℤ) (s t : Point → Bool) → ((p : Point) → s p ≡ t p) → (ps : List Point) → tops_by f s ps ≡ tops_by f t ps
unfolding tops_by
tops_same f s t e [] = refl
tops_same f s t e (p ∷ ps) = ap₂ (λ (b : Bool) (o : Option ℤ). greater (cond b (Some (f p)) None) o) (e p) (tops_same f s t e ps)

pub tops_none : (f : Point → ℤ) (ps : List Point) → tops_by f (λ p. false) ps ≡ None
unfolding tops_by
tops_none f [] = refl
tops_none f (p ∷ ps) = tops_none f ps

two : (x : ℤ) (a b : Bool) (S R : Option ℤ) →
    greater (cond (cond a true b) (Some x) None) (greater S R) ≡ greater (greater (cond a (Some x) None) S) (greater (cond b (Some x) None) R)
two x true true None None = ap Some (itself x)
  where
    itself : (x : ℤ) → x ≡ int_max x x
    itself x = omega (arith, ints, clamps)
two x true true None (Some r) = ap Some (twice x r)
  where
    twice : (x r : ℤ) → int_max x r ≡ int_max x (int_max x r)
    twice x r = omega (arith, ints, clamps)
two x true true (Some s) None = ap Some (twice x s)
  where
    twice : (x s : ℤ) → int_max x s ≡ int_max (int_max x s) x
    twice x s = omega (arith, ints, clamps)
two x true true (Some s) (Some r) = ap Some (twice x s r)
  where
    twice : (x s r : ℤ) → int_max x (int_max s r) ≡ int_max (int_max x s) (int_max x r)
    twice x s r = omega (arith, ints, clamps)
two x true false S R = sym (greater_assoc (Some x) S R)
two x false true None R = refl
two x false true (Some s) None = ap Some (swap x s)
  where
    swap : (x s : ℤ) → int_max x s ≡ int_max s x
    swap x s = omega (arith, ints, clamps)
two x false true (Some s) (Some r) = ap Some (swap x s r)
  where
    swap : (x s r : ℤ) → int_max x (int_max s r) ≡ int_max s (int_max x r)
    swap x s r = omega (arith, ints, clamps)
two x false false S R = refl

pub tops_either : (f : Point → ℤ) (s r : Point → Bool) (ps : List Point) → tops_by f (λ p. cond (s p) true (r p)) ps ≡ greater (tops_by f s ps) (tops_by f r ps)
unfolding tops_by
tops_either f s r [] = refl
tops_either f s r (p ∷ ps) = ap (greater (cond (cond (s p) true (r p)) (Some (f p)) None)) (tops_either f s r ps) ∙ two (f p) (s p) (r p) (tops_by f s ps) (tops_by f r ps)

-- the low number is below every top
max_above : (a b : ℤ) → lowest ≤ℤ a → lowest ≤ℤ b → lowest ≤ℤ int_max a b
max_above a b h k = omega (arith, ints, clamps)

lowest_above : lowest ≤ℤ lowest
lowest_above = omega (arith, ints)

abbrev Above : Option ℤ → Type 0
Above o = lowest ≤ℤ coded o

greater_above : (o p : Option ℤ) → Above o → Above p → Above (greater o p)
greater_above None p h k = k
greater_above (Some a) None h k = h
greater_above (Some a) (Some b) h k = max_above a b h k

pub tops_above : (f : Point → ℤ) (t : Point → Bool) (ps : List Point) → AllByRecursion (λ p. lowest ≤ℤ f p) ps → Above (tops_by f t ps)
unfolding tops_by
tops_above f t [] h = lowest_above
tops_above f t (p ∷ ps) h = greater_above (cond (t p) (Some (f p)) None) (tops_by f t ps) (go (t p)) (tops_above f t ps h.1)
  where
    go : (b : Bool) → Above (cond b (Some (f p)) None)
    go true = h.0
    go false = lowest_above

abbrev bit : ℕ → ℕ → Bool
bit n i = eqb ((n / 2 ^ i) % 2) 1

-- the points whose code is below n, and whose code's bit i is b
abbrev pub under : (Point → ℕ) → ℕ → Bool → ℕ → Point → Bool
under g i b n p = cond (ltb (g p) n) (beq (bit (g p) i) b) false

below_next : (x n : ℕ) → x ≡ n → ltb x (suc n) ≡ true
below_next x n e = grind (arith, nat_tests)

not_below : (x n : ℕ) → x ≡ n → ltb x n ≡ false
not_below x n e = grind (arith, nat_tests)

other_next : (x n : ℕ) → (x ≡ n → ⊥) → ltb x (suc n) ≡ ltb x n
other_next x n e = grind (arith, nat_tests)

never_below : (x : ℕ) → ltb x 0 ≡ false
never_below x = grind (arith, nat_tests)

under_more : (g : Point → ℕ) (i : ℕ) (b : Bool) (n : ℕ) (p : Point) → under g i b (suc n) p ≡ cond (under g i b n p) true (cond (eqb (g p) n) (beq (bit n i) b) false)
under_more g i b n p = elim (eqb_tells (g p) n) [
  | inl t ↦ rw (below_next (g p) n t.1, not_below (g p) n t.1, t.0) (ap (λ (k : ℕ). beq (bit k i) b) t.1)
  | inr t ↦ rw (other_next (g p) n t.1, t.0) (plain (cond (ltb (g p) n) (beq (bit (g p) i) b) false))
]
  where
    plain : (c : Bool) → c ≡ cond c true false
    plain true = refl
    plain false = refl

pub over_is : (f : Point → ℤ) (g : Point → ℕ) (i : ℕ) (b : Bool) (xs : List ℤ) (ps : List Point) → AllByRecursion (λ p. lowest ≤ℤ f p) ps →
    ((l : ℕ) → l < 16 → get_or xs l (pos 0) ≡ coded (tops_by f (λ p. eqb (g p) l) ps)) → (n : ℕ) → n ≤ 16 → over_codes i b xs n ≡ coded (tops_by f (under g i b n) ps)
unfolding over_codes
over_is f g i b xs ps high at zero l = ap coded (sym (tops_same f (under g i b zero) (λ p. false) none ps ∙ tops_none f ps))
  where
    none : (p : Point) → under g i b zero p ≡ false
    none p = ap (λ (c : Bool). cond c (beq (bit (g p) i) b) false) (never_below (g p))
over_is f g i b xs ps high at (suc n) l =
    ap₂ int_max (over_is f g i b xs ps high at n (omega arith)) (here (beq (bit n i) b))
    ∙ sym (coded-greater (tops_by f (under g i b n) ps) (tops_by f (λ p. cond (eqb (g p) n) (beq (bit n i) b) false) ps) (tops_above f _ ps high) (tops_above f _ ps high))
    ∙ ap coded (sym (tops_either f (under g i b n) (λ p. cond (eqb (g p) n) (beq (bit n i) b) false) ps))
    ∙ ap coded (sym (tops_same f (under g i b (suc n)) (λ p. cond (under g i b n p) true (cond (eqb (g p) n) (beq (bit n i) b) false)) (under_more g i b n) ps))
  where
    plain : (c : Bool) → c ≡ cond c true false
    plain true = refl
    plain false = refl

    never : (c : Bool) → cond c false false ≡ false
    never true = refl
    never false = refl

    here : (c : Bool) → cond c (get_or xs n (pos 0)) lowest ≡ coded (tops_by f (λ p. cond (eqb (g p) n) c false) ps)
    here true = at n (omega arith) ∙ ap coded (tops_same f (λ p. eqb (g p) n) (λ p. cond (eqb (g p) n) true false) (λ p. plain (eqb (g p) n)) ps)
    here false = ap coded (sym (tops_same f (λ p. cond (eqb (g p) n) false false) (λ p. false) (λ p. never (eqb (g p) n)) ps ∙ tops_none f ps))
