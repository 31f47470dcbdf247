-- Polynomial expressions over ℤ, and a normal form that computes.
use Rattle.std.specs.Prelude.{◌≡◌, ℕ, Bool, true, false, cond, List, [], ◌∷◌, ℤ, pos, negsuc, ◌+ℤ◌, ◌-ℤ◌, ◌*ℤ◌, neg_ℤ, ◌==◌, nat_le, slice_index_or}

infixl 6 ◌:+◌ ◌:-◌
infixl 7 ◌:*◌
-- an expression: a variable by its place, a constant, a sum, a difference, a product, a negation
pub data Poly : Type 0 where
  var : ℕ → Poly
  con : ℤ → Poly
  ◌:+◌ : Poly → Poly → Poly
  ◌:-◌ : Poly → Poly → Poly
  ◌:*◌ : Poly → Poly → Poly
  neg : Poly → Poly

-- its value, where the variables have the values of the list
abbrev pub value : List ℤ → Poly → ℤ
value r (var n) = slice_index_or r n (pos 0)
value r (con c) = c
value r (p :+ q) = value r p +ℤ value r q
value r (p :- q) = value r p -ℤ value r q
value r (p :* q) = value r p *ℤ value r q
value r (neg p) = neg_ℤ (value r p)

-- a term: a coefficient, and the variables of its product in ascending order
pub data Term : Type 0 where
  term : ℤ → List ℕ → Term

abbrev pub insert : ℕ → List ℕ → List ℕ
insert x [] = x ∷ []
insert x (y ∷ ys) = let r = insert x ys in cond (nat_le x y) (x ∷ y ∷ ys) (y ∷ r)

abbrev pub join : List ℕ → List ℕ → List ℕ
join [] ys = ys
join (x ∷ xs) ys = insert x (join xs ys)

abbrev pub same_vars : List ℕ → List ℕ → Bool
same_vars [] [] = true
same_vars [] (y ∷ ys) = false
same_vars (x ∷ xs) [] = false
same_vars (x ∷ xs) (y ∷ ys) = cond (x == y) (same_vars xs ys) false

abbrev pub add_term : ℤ → List ℕ → List Term → List Term
add_term c m [] = term c m ∷ []
add_term c m (term d n ∷ ts) = let r = add_term c m ts in cond (same_vars m n) (term (d +ℤ c) n ∷ ts) (term d n ∷ r)

abbrev pub sum_of : List Term → List Term → List Term
sum_of [] us = us
sum_of (term c m ∷ ts) us = add_term c m (sum_of ts us)

abbrev pub times_term : ℤ → List ℕ → List Term → List Term
times_term c m [] = []
times_term c m (term d n ∷ ts) = add_term (c *ℤ d) (join m n) (times_term c m ts)

abbrev pub product_of : List Term → List Term → List Term
product_of [] us = []
product_of (term c m ∷ ts) us = sum_of (times_term c m us) (product_of ts us)

abbrev pub negated : List Term → List Term
negated [] = []
negated (term c m ∷ ts) = term (neg_ℤ c) m ∷ negated ts

abbrev pub normal : Poly → List Term
normal (var n) = term (pos 1) (n ∷ []) ∷ []
normal (con c) = term c [] ∷ []
normal (p :+ q) = sum_of (normal p) (normal q)
normal (p :- q) = sum_of (negated (normal q)) (normal p)
normal (p :* q) = product_of (normal p) (normal q)
normal (neg p) = negated (normal p)

abbrev pub is_zero : ℤ → Bool
is_zero (pos n) = n == 0
is_zero (negsuc n) = false

abbrev pub vanishes : List Term → Bool
vanishes [] = true
vanishes (term c m ∷ ts) = cond (is_zero c) (vanishes ts) false

-- the test: the difference has no term left
abbrev pub same : Poly → Poly → Bool
same p q = vanishes (normal (p :- q))

-- expressions that pass the test have one value
abbrev pub Identities : Type 0
Identities = (r : List ℤ) (p q : Poly) → same p q ≡ true → value r p ≡ value r q
