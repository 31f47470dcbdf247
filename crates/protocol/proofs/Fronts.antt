-- Lists of which every element passes a test, and what the test of every element answers.
use Rattle.std.proofs.Common.{◌≡◌, ℕ, zero, suc, ◌+◌, ◌<◌, Bool, true, false, cond, eqb, List, [], ◌∷◌, ◌++◌, length, get_or, take, drop, set, Err, sym, refl, ap, ◌∙◌, not-suc-le-zero, arith}
use Rattle.std.specs.List.{prefix_len, AllByRecursion}
use Rattle.std.proofs.lemmas.Bool.{cond-true, cond-false, eq-eqb, ne_eqb, eqb-true}
use Rattle.refusal.specs.declared.Cause.{Cause}
use Rattle.protocol.specs.Verdicts.{Verdict, accepted, need, each}

-- a test that let a call go on
pub passed : (b : Bool) (c : Cause) (p : ℕ) (next : Verdict) → accepted ≡ need b c p next → (b ≡ true) × (accepted ≡ next)
passed true c p next h = (refl, h)
passed false c p next h =
    let z : ◌≡◌ {A = ℕ} 0 1 = cc in
    let w : ⊥ = omega arith in
    absurd w

-- one step of the lemmas below
step : (b : Bool) (a n k l : ℕ) → cond b (1 + a) 0 ≡ suc n → (a ≡ n → k ≡ l) → cond b (1 + k) 0 ≡ suc l
step true a n k l h f = omega (arith, f (omega arith))
step false a n k l h f = omega arith

first : (b : Bool) (a n : ℕ) → cond b (1 + a) 0 ≡ suc n → (b ≡ true) × (a ≡ n)
first true a n h = (refl, omega arith)
first false a n h =
    let w : ⊥ = omega arith in
    absurd w

module _ {X : Type 0} (p : X → Bool) where
  pub front_append : (xs ys : List X) → prefix_len p xs ≡ length xs → prefix_len p ys ≡ length ys → prefix_len p (xs ++ ys) ≡ length (xs ++ ys)
  front_append [] ys h k = k
  front_append (x ∷ xs) ys h k = step (p x) _ _ _ _ h (λ e. front_append xs ys e k)

  pub front_take : (n : ℕ) (xs : List X) → prefix_len p xs ≡ length xs → prefix_len p (take n xs) ≡ length (take n xs)
  front_take zero xs h = refl
  front_take (suc n) [] h = refl
  front_take (suc n) (x ∷ xs) h = step (p x) _ _ _ _ h (front_take n xs)

  pub front_drop : (n : ℕ) (xs : List X) → prefix_len p xs ≡ length xs → prefix_len p (drop n xs) ≡ length (drop n xs)
  front_drop zero xs h = h
  front_drop (suc n) [] h = refl
  front_drop (suc n) (x ∷ xs) h = front_drop n xs (first (p x) _ _ h).1

  pub front_set : (xs : List X) (i : ℕ) (y : X) → p y ≡ true → prefix_len p xs ≡ length xs → prefix_len p (set xs i y) ≡ length xs
  front_set [] i y k h = refl
  front_set (x ∷ xs) zero y k h = ap (λ b. cond b (1 + prefix_len p xs) 0) (k ∙ sym (first (p x) _ _ h).0) ∙ h
  front_set (x ∷ xs) (suc i) y k h = step (p x) _ _ _ _ h (front_set xs i y k)

  pub front_at : (xs : List X) (i : ℕ) (d : X) → i < length xs → prefix_len p xs ≡ length xs → p (get_or xs i d) ≡ true
  front_at [] i d l h = absurd (not-suc-le-zero l)
  front_at (x ∷ xs) zero d l h = (first (p x) _ _ h).0
  front_at (x ∷ xs) (suc i) d l h = front_at xs i d (omega arith) (first (p x) _ _ h).1

  pub front_all : (P : X → Type 0) → ((x : X) → p x ≡ true → P x) → (xs : List X) → prefix_len p xs ≡ length xs → AllByRecursion P xs
  front_all P f [] h = tt
  front_all P f (x ∷ xs) h = (f x (first (p x) _ _ h).0, front_all P f xs (first (p x) _ _ h).1)

  -- what a test of every element answers
  pub each_all : (xs : List X) (c : Cause) → prefix_len p xs ≡ length xs → accepted ≡ each p xs c accepted
  each_all xs c e = sym (cond-true _ _ _ (eq-eqb _ _ e))

  pub each_at : (xs : List X) (c : Cause) (i : ℕ) → prefix_len p xs ≡ i → i < length xs → Err (record { cause = c; place = i + 1 }) ≡ each p xs c accepted
  each_at xs c i e l =
      let n : prefix_len p xs ≡ length xs → ⊥ = λ f. omega arith in
      sym (cond-false _ _ _ (ne_eqb _ _ n) ∙ ap (λ k. Err (record { cause = c; place = k + 1 })) e)

  pub each_front : (xs : List X) (c : Cause) → accepted ≡ each p xs c accepted → prefix_len p xs ≡ length xs
  each_front xs c h = eqb-true _ _ (passed (eqb (prefix_len p xs) (length xs)) _ _ _ h).0
