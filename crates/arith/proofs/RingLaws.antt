-- The normal form has the value of its expression, so two expressions whose difference vanishes are equal at all values.
use Rattle.std.proofs.Common.{◌≡◌, ℕ, Bool, true, false, cond, T, eqb, leb, List, [], ◌∷◌, get_or, ℤ, pos, negsuc, ◌+ℤ◌, ◌-ℤ◌, ◌*ℤ◌, neg_ℤ, sym, refl, ap, ◌∙◌, subst, ap₂, arith, eqb→eq}
use lib.IntN.{*ℤ_comm, zero-*ℤ, *ℤ-zero}
use borrow.Author.Differences.{ints}
use Rattle.arith.specs.Ring.{Poly, var, con, ◌:+◌, ◌:-◌, ◌:*◌, neg, value, Term, term, insert, join, same_vars, add_term, sum_of, times_term, product_of, negated, normal, is_zero, vanishes, same}
use Rattle.arith.proofs.IntLaws.{*ℤ-assoc, *ℤ-+ℤ, +ℤ-*ℤ, negℤ-*ℤ}

abbrev powers : List ℤ → List ℕ → ℤ
powers r [] = pos 1
powers r (x ∷ xs) = get_or r x (pos 0) *ℤ powers r xs

abbrev total : List ℤ → List Term → ℤ
total r [] = pos 0
total r (term c m ∷ ts) = c *ℤ powers r m +ℤ total r ts

one-* : (a : ℤ) → pos 1 *ℤ a ≡ a
one-* a = omega (arith, ints)

swap-* : (a b c : ℤ) → a *ℤ (b *ℤ c) ≡ b *ℤ (a *ℤ c)
swap-* a b c = sym (*ℤ-assoc a b c) ∙ ap (λ t. t *ℤ c) (*ℤ_comm a b) ∙ *ℤ-assoc b a c

cross-* : (a b c d : ℤ) → (a *ℤ b) *ℤ (c *ℤ d) ≡ (a *ℤ c) *ℤ (b *ℤ d)
cross-* a b c d = *ℤ-assoc a b (c *ℤ d) ∙ ap (λ t. a *ℤ t) (swap-* b c d) ∙ sym (*ℤ-assoc a c (b *ℤ d))

insert_is : (r : List ℤ) (x : ℕ) (ys : List ℕ) → powers r (insert x ys) ≡ get_or r x (pos 0) *ℤ powers r ys
insert_is r x [] = refl
insert_is r x (y ∷ ys) = go (insert_is r x ys) (leb x y)
  where
    go : powers r (insert x ys) ≡ get_or r x (pos 0) *ℤ powers r ys → (b : Bool) → powers r (cond b (x ∷ y ∷ ys) (y ∷ insert x ys)) ≡ get_or r x (pos 0) *ℤ powers r (y ∷ ys)
    go ih true = refl
    go ih false = ap (λ t. get_or r y (pos 0) *ℤ t) ih ∙ swap-* (get_or r y (pos 0)) (get_or r x (pos 0)) (powers r ys)

join_is : (r : List ℤ) (xs ys : List ℕ) → powers r (join xs ys) ≡ powers r xs *ℤ powers r ys
join_is r [] ys = sym (one-* (powers r ys))
join_is r (x ∷ xs) ys = insert_is r x (join xs ys) ∙ ap (λ t. get_or r x (pos 0) *ℤ t) (join_is r xs ys) ∙ sym (*ℤ-assoc (get_or r x (pos 0)) (powers r xs) (powers r ys))

both : (b : Bool) (c : Bool) → cond b c false ≡ true → (b ≡ true) × (c ≡ true)
both true c e = (refl, e)
both false c e = absurd (subst T (sym e) tt)

same_vars_lem : (xs ys : List ℕ) → same_vars xs ys ≡ true → xs ≡ ys
same_vars_lem [] [] e = refl
same_vars_lem [] (y ∷ ys) e = absurd (subst T (sym e) tt)
same_vars_lem (x ∷ xs) [] e = absurd (subst T (sym e) tt)
same_vars_lem (x ∷ xs) (y ∷ ys) e = ap₂ ◌∷◌ (eqb→eq x y (subst T (sym (both (eqb x y) (same_vars xs ys) e).0) tt)) (same_vars_lem xs ys (both (eqb x y) (same_vars xs ys) e).1)

add_term_is : (r : List ℤ) (c : ℤ) (m : List ℕ) (ts : List Term) → total r (add_term c m ts) ≡ c *ℤ powers r m +ℤ total r ts
add_term_is r c m [] = refl
add_term_is r c m (term d n ∷ ts) = go (add_term_is r c m ts) (same_vars m n) refl
  where
    three : (p q s : ℤ) → q +ℤ p +ℤ s ≡ p +ℤ (q +ℤ s)
    three p q s = omega (arith, ints)

    go : total r (add_term c m ts) ≡ c *ℤ powers r m +ℤ total r ts → (b : Bool) → same_vars m n ≡ b → total r (cond b (term (d +ℤ c) n ∷ ts) (term d n ∷ add_term c m ts)) ≡ c *ℤ powers r m +ℤ (d *ℤ powers r n +ℤ total r ts)
    go ih true e = ap (λ t. t +ℤ total r ts) (+ℤ-*ℤ d c (powers r n)) ∙ three (c *ℤ powers r n) (d *ℤ powers r n) (total r ts) ∙ ap (λ (l : List ℕ). c *ℤ powers r l +ℤ (d *ℤ powers r n +ℤ total r ts)) (sym (same_vars_lem m n e))
    go ih false e = ap (λ t. d *ℤ powers r n +ℤ t) ih ∙ swap+ (d *ℤ powers r n) (c *ℤ powers r m) (total r ts)
      where
        swap+ : (p q s : ℤ) → p +ℤ (q +ℤ s) ≡ q +ℤ (p +ℤ s)
        swap+ p q s = omega (arith, ints)

assoc+ : (p q s : ℤ) → p +ℤ (q +ℤ s) ≡ p +ℤ q +ℤ s
assoc+ p q s = omega (arith, ints)

sum_of_is : (r : List ℤ) (ts us : List Term) → total r (sum_of ts us) ≡ total r ts +ℤ total r us
sum_of_is r [] us = omega (arith, ints)
sum_of_is r (term c m ∷ ts) us = add_term_is r c m (sum_of ts us) ∙ ap (λ t. c *ℤ powers r m +ℤ t) (sum_of_is r ts us) ∙ assoc+ (c *ℤ powers r m) (total r ts) (total r us)

times_term_is : (r : List ℤ) (c : ℤ) (m : List ℕ) (ts : List Term) → total r (times_term c m ts) ≡ (c *ℤ powers r m) *ℤ total r ts
times_term_is r c m [] = sym (*ℤ-zero (c *ℤ powers r m))
times_term_is r c m (term d n ∷ ts) =
    add_term_is r (c *ℤ d) (join m n) (times_term c m ts)
    ∙ ap₂ ◌+ℤ◌ (ap (λ t. c *ℤ d *ℤ t) (join_is r m n) ∙ cross-* c d (powers r m) (powers r n)) (times_term_is r c m ts)
    ∙ sym (*ℤ-+ℤ (c *ℤ powers r m) (d *ℤ powers r n) (total r ts))

product_of_is : (r : List ℤ) (ts us : List Term) → total r (product_of ts us) ≡ total r ts *ℤ total r us
product_of_is r [] us = sym (zero-*ℤ (total r us))
product_of_is r (term c m ∷ ts) us =
    sum_of_is r (times_term c m us) (product_of ts us) ∙ ap₂ ◌+ℤ◌ (times_term_is r c m us) (product_of_is r ts us) ∙ sym (+ℤ-*ℤ (c *ℤ powers r m) (total r ts) (total r us))

negated_is : (r : List ℤ) (ts : List Term) → total r (negated ts) ≡ neg_ℤ (total r ts)
negated_is r [] = refl
negated_is r (term c m ∷ ts) = ap₂ ◌+ℤ◌ (negℤ-*ℤ c (powers r m)) (negated_is r ts) ∙ neg_sum (c *ℤ powers r m) (total r ts)
  where
    neg_sum : (p q : ℤ) → neg_ℤ p +ℤ neg_ℤ q ≡ neg_ℤ (p +ℤ q)
    neg_sum p q = omega (arith, ints)

normal_is : (r : List ℤ) (p : Poly) → total r (normal p) ≡ value r p
normal_is r (var n) = omega (arith, ints)
normal_is r (con c) = omega (arith, ints)
normal_is r (p :+ q) = sum_of_is r (normal p) (normal q) ∙ ap₂ ◌+ℤ◌ (normal_is r p) (normal_is r q)
normal_is r (p :- q) = sum_of_is r (negated (normal q)) (normal p) ∙ ap₂ ◌+ℤ◌ (negated_is r (normal q) ∙ ap neg_ℤ (normal_is r q)) (normal_is r p) ∙ back (value r p) (value r q)
  where
    back : (a b : ℤ) → neg_ℤ b +ℤ a ≡ a -ℤ b
    back a b = omega (arith, ints)
normal_is r (p :* q) = product_of_is r (normal p) (normal q) ∙ ap₂ ◌*ℤ◌ (normal_is r p) (normal_is r q)
normal_is r (neg p) = negated_is r (normal p) ∙ ap neg_ℤ (normal_is r p)

is_zero_lem : (c : ℤ) → is_zero c ≡ true → c ≡ pos 0
is_zero_lem (pos n) e = ap pos (eqb→eq n 0 (subst T (sym e) tt))
is_zero_lem (negsuc n) e = absurd (subst T (sym e) tt)

vanishes_is : (r : List ℤ) (ts : List Term) → vanishes ts ≡ true → total r ts ≡ pos 0
vanishes_is r [] e = refl
vanishes_is r (term c m ∷ ts) e = ap₂ ◌+ℤ◌ (ap (λ t. t *ℤ powers r m) (is_zero_lem c (both (is_zero c) (vanishes ts) e).0) ∙ zero-*ℤ (powers r m)) (vanishes_is r ts (both (is_zero c) (vanishes ts) e).1)

-- two expressions whose difference vanishes have the same value
pub ring : (r : List ℤ) (p q : Poly) → same p q ≡ true → value r p ≡ value r q
ring r p q e = apart (value r p) (value r q) (sym (normal_is r (p :- q)) ∙ vanishes_is r (normal (p :- q)) e)
  where
    apart : (a b : ℤ) → a -ℤ b ≡ pos 0 → a ≡ b
    apart a b e = omega (arith, ints)
