-- The laws of one written-out constellation, by one test that antt computes.
use Rattle.std.proofs.Common.{◌≡◌, ℕ, zero, suc, ◌^◌, ◌<◌, Bool, true, false, cond, not, ◌&&◌, ◌||◌, eqb, ltb, leb, List, [], ◌∷◌, length, sym, refl, ◌∙◌, inl, inr, not-suc-le-zero, arith}
use Rattle.std.specs.List.{AllByRecursion}
use Rattle.std.proofs.lemmas.Bool.{leb-true, ltb-true, eqb-true, eq-eqb, cases_eq, and_parts, and_from, cond-true}
use Rattle.std.proofs.lemmas.Bool.Decides.{nat_tests, Decides-by_or, Decides-eqb}
use Rattle.constellation.specs.Meaning.{Meaning, Lawful, Good, Carried, bit, origin}
use Rattle.constellation.specs.Ordered.{each}
use Rattle.constellation.specs.declared.Point.{Point}

abbrev goodb : ℕ → ℕ → ℕ → Point → Bool
goodb m u v p = leb p.x 4095 && (leb p.y 4095 && (leb (2 ^ 20) p.e && (leb p.e (2 ^ 27) && (ltb p.label (2 ^ m) && (eqb (bit m u p.label) 0 && eqb (bit m v p.label) 0)))))

good_from : (m u v : ℕ) (p : Point) → goodb m u v p ≡ true → Good m u v p
good_from m u v p h =
    let a = and_parts _ _ h in
    let b = and_parts _ _ a.1 in
    let c = and_parts _ _ b.1 in
    let d = and_parts _ _ c.1 in
    let e = and_parts _ _ d.1 in
    let f = and_parts _ _ e.1 in
    record {
      x_most = leb-true _ _ a.0;
      y_most = leb-true _ _ b.0;
      e_least = leb-true _ _ c.0;
      e_most = leb-true _ _ d.0;
      fits = ltb-true _ _ e.0;
      u_zero = eqb-true _ _ f.0;
      v_zero = eqb-true _ _ f.1;
    }

abbrev all_goodb : ℕ → ℕ → ℕ → List Point → Bool
all_goodb m u v [] = true
all_goodb m u v (p ∷ ps) = goodb m u v p && all_goodb m u v ps

all_good_from : (m u v : ℕ) (ps : List Point) → all_goodb m u v ps ≡ true → AllByRecursion (Good m u v) ps
all_good_from m u v [] h = tt
all_good_from m u v (p ∷ ps) h = let a = and_parts _ _ h in (good_from m u v p a.0, all_good_from m u v ps a.1)

abbrev anyb : ℕ → List Point → Bool
anyb l [] = false
anyb l (p ∷ ps) = eqb p.label l || anyb l ps

any_from : (l : ℕ) (ps : List Point) → anyb l ps ≡ true → Carried ps l
any_from l ps h =
    let d = Decides-by_or (λ p. eqb p.label l) (λ p. p.label ≡ l) (anyb l) (λ p. Decides-eqb p.label l) refl (λ _ _. refl) ps in
    let w = d.0 h in
    (w.0, w.1, w.2 origin)

pub every_from : (p : ℕ → Bool) (n : ℕ) → each p n ≡ true → (k : ℕ) → k < n → p k ≡ true
every_from p zero h k l = absurd (not-suc-le-zero l)
every_from p (suc n) h k l =
    let a = and_parts _ _ h in
    elim (cases_eq k n) [ inl e ↦ rw e a.0 | inr ne ↦ every_from p n a.1 k (omega arith) ]

abbrev covers : Meaning → ℕ → Bool
covers M l = cond (eqb (bit M.m M.u l) 0 && eqb (bit M.m M.v l) 0) (anyb l M.points) true

covers_from : (M : Meaning) (l : ℕ) → covers M l ≡ true → bit M.m M.u l ≡ 0 → bit M.m M.v l ≡ 0 → Carried M.points l
covers_from M l h a b = any_from l M.points (sym (cond-true _ _ _ (and_from _ _ (eq-eqb _ _ a) (eq-eqb _ _ b))) ∙ h)

abbrev pub numbersb : Meaning → Bool
numbersb M = leb 2 M.m && (leb M.m 8 && (leb 1 M.u && (leb M.u M.m && (leb 1 M.v && (leb M.v M.m && (not (eqb M.u M.v) && (leb 1 (length M.points) && leb (length M.points) 64)))))))

-- the whole test of a written-out constellation
pub lawful_by : (M : Meaning) → numbersb M ≡ true → all_goodb M.m M.u M.v M.points ≡ true → each (covers M) (2 ^ M.m) ≡ true → Lawful M
lawful_by M n g c = record {
  m_least = grind (arith, nat_tests);
  m_most = grind (arith, nat_tests);
  u_least = grind (arith, nat_tests);
  u_most = grind (arith, nat_tests);
  v_least = grind (arith, nat_tests);
  v_most = grind (arith, nat_tests);
  apart = grind (arith, nat_tests);
  some = grind (arith, nat_tests);
  few = grind (arith, nat_tests);
  good = all_good_from _ _ _ M.points g;
  carried = λ l h a b. covers_from M l (every_from (covers M) _ c l h) a b;
}
