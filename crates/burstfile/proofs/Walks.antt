-- Entry by entry: where in the bytes a number, a pair or a record stands, and the walk over the a priori values.
use Rattle.std.proofs.Common.{◌≡◌, ℕ, zero, suc, ◌+◌, ◌-◌, ◌*◌, ◌/◌, ◌<◌, ◌≤◌, Bool, true, false, cond, ltb, List, [], ◌∷◌, length, get_or, take, drop, ℤ, pos, nat_abs, Some, None, Option, MatchOption, position, sym, refl, ap, ◌∙◌, add-zero, mul-le-mul_right, suc-mul, add_comm, zero-mul, arith}
use Rattle.std.proofs.lemmas.List.{drop-drop}
use Rattle.std.proofs.lemmas.List.Sums.{passes_at_first, fails_before_first}
use Rattle.std.proofs.lemmas.Bool.{le-leb, lt-leb, ltb-true, ltb-false}
use Rattle.std.specs.List.{position_or_len}
use Rattle.std.specs.Simd.{first_chunks}
use Rattle.refusal.specs.declared.Cause.TheVariants.{Range}
use Rattle.burstfile.specs.Format.{Pair, Vector}
use Rattle.burstfile.specs.Reading.{signed_of, signeds_of, pair_of, pairs_of, vector_of, vectors_of}
use Rattle.burstfile.specs.Values.{fault_at, priors_fault, is_outside, InsideTo, FirstOutside}

-- two bytes a number
pub halves : (bs : List ℕ) → (2 * length (signeds_of bs) ≤ length bs) × (length bs ≤ 2 * length (signeds_of bs) + 1)
halves [] = (omega arith, omega arith)
halves (a ∷ []) = (omega arith, omega arith)
halves (a ∷ b ∷ bs) = let h = halves bs in (omega (arith, h.0), omega (arith, h.1))

-- number k stands in the bytes at 2k
pub signed-at : (bs : List ℕ) (k : ℕ) (d : ℤ) → k * 2 + 2 ≤ length bs
    → get_or (signeds_of bs) k d ≡ signed_of (get_or (take 2 (drop (k * 2) bs)) 0 0) (get_or (take 2 (drop (k * 2) bs)) 1 0)
signed-at [] k d lt = absurd (omega arith)
signed-at (a ∷ []) k d lt = absurd (omega arith)
signed-at (a ∷ b ∷ bs) zero d lt = refl
signed-at (a ∷ b ∷ bs) (suc k) d lt =
    let e : suc k * 2 ≡ suc (suc (k * 2)) = omega arith in
    rw e (signed-at bs k d (omega arith))

-- pair k stands in the bytes at 4k
pub pair-at : (bs : List ℕ) (k : ℕ) (d : Pair) → k * 4 + 4 ≤ length bs
    → get_or (pairs_of bs) k d
    ≡ pair_of
    (signed_of (get_or (take 4 (drop (k * 4) bs)) 0 0) (get_or (take 4 (drop (k * 4) bs)) 1 0))
    (signed_of (get_or (take 4 (drop (k * 4) bs)) 2 0) (get_or (take 4 (drop (k * 4) bs)) 3 0))
pair-at [] k d lt = absurd (omega arith)
pair-at (a ∷ []) k d lt = absurd (omega arith)
pair-at (a ∷ b ∷ []) k d lt = absurd (omega arith)
pair-at (a ∷ b ∷ c ∷ []) k d lt = absurd (omega arith)
pair-at (a ∷ b ∷ c ∷ e ∷ bs) zero d lt = refl
pair-at (a ∷ b ∷ c ∷ e ∷ bs) (suc k) d lt =
    let m : suc k * 4 ≡ suc (suc (suc (suc (k * 4)))) = omega arith in
    rw m (pair-at bs k d (omega arith))

-- record i of n lies within the bytes
pub row_within : (n i size r : ℕ) (bs : List ℕ) → i < n → length bs ≡ n * size → r ≡ size → i * r + r ≤ length bs
row_within n i size r bs lt len e = rw e (omega (arith, suc-mul i size, mul-le-mul_right size lt))

-- record i of n, taken out
pub vector-at : (n i size a : ℕ) (bs : List ℕ) (d : Vector) → i < n → get_or (vectors_of n size a bs) i d ≡ vector_of a (take size (drop (i * size) bs))
vector-at zero i size a bs d lt = absurd (omega arith)
vector-at (suc n) zero size a bs d lt = rw (zero-mul size)
vector-at (suc n) (suc i) size a bs d lt =
    vector-at n i size a (drop size bs) d (omega arith) ∙ rw (drop-drop (i * size) size bs, suc-mul i size, add_comm (i * size) size)

-- chunk k of two bytes
chunk-at : (n k : ℕ) (bs : List ℕ) → k < n → get_or (first_chunks 2 n bs) k [] ≡ take 2 (drop (k * 2) bs)
chunk-at zero k bs lt = absurd (omega arith)
chunk-at (suc n) zero bs lt = refl
chunk-at (suc n) (suc k) bs lt =
    let e : suc k * 2 ≡ 2 + k * 2 = omega arith in
    chunk-at n k (drop 2 bs) (omega arith) ∙ rw (drop-drop (k * 2) 2 bs, e)

count_chunks : (n : ℕ) (bs : List ℕ) → length (first_chunks 2 n bs) ≡ n
count_chunks zero bs = refl
count_chunks (suc n) bs = ap suc (count_chunks n (drop 2 bs))

module _ (bs : List ℕ) where
  abbrev chunks : List (List ℕ)
  chunks = first_chunks 2 (length bs / 2) bs

  -- value k is outside if its bytes say so
  outside-at : (k : ℕ) → k < length bs / 2 → is_outside (get_or chunks k []) ≡ ltb 8191 (nat_abs (get_or (signeds_of bs) k (pos 0)))
  outside-at k lt = rw (chunk-at (length bs / 2) k bs lt, signed-at bs k (pos 0) (omega arith))

  inside_up_to : (n : ℕ) → n ≤ position_or_len is_outside chunks → n ≤ length bs / 2 → InsideTo bs n
  inside_up_to n le room k lt =
      let no : is_outside (get_or chunks k []) ≡ false = fails_before_first is_outside chunks k [] (omega arith) in
      ltb-false 8191 _ (sym (outside-at k (omega arith)) ∙ no)

  -- what the position of the first value outside says, by the value of its test
  at_first : (b : Bool) (q : ℕ) → ltb q (length chunks) ≡ b → q ≡ position_or_len is_outside chunks
      → MatchOption (cond b (Some q) None) (InsideTo bs (length bs / 2)) (λ p. FirstOutside bs p × (p < length bs / 2))
  at_first true q test is =
      let n = count_chunks (length bs / 2) bs in
      let lt : q < length chunks = ltb-true q (length chunks) test in
      let yes : is_outside (get_or chunks q []) ≡ true = rw is (passes_at_first is_outside chunks [] (rw is at lt)) in (
        record {
          stands = omega arith;
          outside = ltb-true 8191 _ (sym (outside-at q (omega arith)) ∙ yes);
          before = inside_up_to q (omega arith) (omega arith);
        },
        omega arith,
      )
  at_first false q test is =
      let n = count_chunks (length bs / 2) bs in
      let le = ltb-false q (length chunks) test in
      inside_up_to (length bs / 2) (omega arith) (omega arith)

  pub position_none : (o : Option ℕ) → o ≡ position is_outside chunks → o ≡ None → InsideTo bs (length bs / 2)
  position_none o e none = let h = at_first _ (position_or_len is_outside chunks) refl refl in rw (← e, none) at h

  pub position_some : (o : Option ℕ) (p : ℕ) → o ≡ position is_outside chunks → o ≡ Some p → FirstOutside bs (p + 1 - 1)
  position_some o p e some =
      let h = at_first _ (position_or_len is_outside chunks) refl refl in
      let q : p + 1 - 1 ≡ p = omega arith in
      rw q (rw (← e, some) at h).0

-- no value is outside its range
go_inside : (k : ℕ) (zs : List ℤ) → ((i : ℕ) → i < length zs → nat_abs (get_or zs i (pos 0)) ≤ 8191) → priors_fault k zs ≡ None
go_inside k [] all = refl
go_inside k (z ∷ zs) all = rw (le-leb (nat_abs z) 8191 (all 0 (omega arith))) (go_inside (k + 1) zs (λ i lt. all (suc i) (omega arith)))

pub priors_inside : (bs : List ℕ) → InsideTo bs (length bs / 2) → priors_fault 1 (signeds_of bs) ≡ None
priors_inside bs all = let h = halves bs in go_inside 1 (signeds_of bs) (λ i lt. all i (omega (arith, h.0)))

-- value i is the first outside its range
go_outside : (k i : ℕ) (zs : List ℤ) → i < length zs → 8191 < nat_abs (get_or zs i (pos 0)) → ((j : ℕ) → j < i → nat_abs (get_or zs j (pos 0)) ≤ 8191)
    → priors_fault k zs ≡ Some (fault_at Range (k + i))
go_outside k i [] lt out before = absurd (omega arith)
go_outside k zero (z ∷ zs) lt out before = rw (lt-leb (nat_abs z) 8191 out, add-zero k)
go_outside k (suc i) (z ∷ zs) lt out before =
    let e : k + 1 + i ≡ k + suc i = omega arith in
    rw (le-leb (nat_abs z) 8191 (before 0 (omega arith)), ← e) (go_outside (k + 1) i zs (omega arith) out (λ j jt. before (suc j) (omega arith)))

pub priors_outside : (bs : List ℕ) (p : ℕ) → FirstOutside bs (p - 1) → 1 ≤ p → priors_fault 1 (signeds_of bs) ≡ Some (fault_at Range p)
priors_outside bs p first low =
    let h = halves bs in
    let e : 1 + (p - 1) ≡ p = omega arith in
    rw e at (go_outside 1 (p - 1) (signeds_of bs) (omega (arith, h.1, first.stands)) first.outside first.before)
