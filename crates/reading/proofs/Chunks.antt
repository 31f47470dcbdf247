-- The walk over the chunks of a list: what is left after i of n chunks.
use Rattle.std.proofs.Common.{◌≡◌, ℕ, zero, suc, ◌+◌, ◌-◌, ◌*◌, ◌<◌, ◌≤◌, leb, List, [], ◌∷◌, ◌++◌, length, take, drop, ℤ, sym, refl, zero-mul, ap, ◌∙◌, inl, inr, mul-le-mul_right, suc-mul, add-one, arith}
use Rattle.std.proofs.lemmas.Bool.{leb-true, leb-false, cases_Bool}
use Rattle.std.proofs.lemmas.List.{length-append, length-drop, drop-drop, take_at, drop_at}
use Rattle.burstfile.specs.Reading.{signed_of, signeds_of}

-- before the first chunk
pub chunks_start : (size i : ℕ) (bs rest : List ℕ) → i ≡ 0 → rest ≡ bs → rest ≡ drop (i * size) bs
chunks_start size i bs rest e is = rw (e, zero-mul size) is

-- the numbers of a chunk
signeds_drop : (k : ℕ) (bs : List ℕ) → signeds_of (drop (2 * k) bs) ≡ drop k (signeds_of bs)
signeds_drop zero bs = refl
signeds_drop (suc k) [] = let e : 2 * suc k ≡ suc (suc (2 * k)) = omega arith in rw e
signeds_drop (suc k) (a ∷ []) = let e : 2 * suc k ≡ suc (suc (2 * k)) = omega arith in rw e
signeds_drop (suc k) (a ∷ b ∷ bs) = let e : 2 * suc k ≡ suc (suc (2 * k)) = omega arith in rw e (signeds_drop k bs)

signeds_take : (k : ℕ) (bs : List ℕ) → signeds_of (take (2 * k) bs) ≡ take k (signeds_of bs)
signeds_take zero bs = refl
signeds_take (suc k) [] = let e : 2 * suc k ≡ suc (suc (2 * k)) = omega arith in rw e
signeds_take (suc k) (a ∷ []) = let e : 2 * suc k ≡ suc (suc (2 * k)) = omega arith in rw e
signeds_take (suc k) (a ∷ b ∷ bs) =
    let e : 2 * suc k ≡ suc (suc (2 * k)) = omega arith in
    rw e (ap (λ (zs : List ℤ). signed_of a b ∷ zs) (signeds_take k bs))

module _ (n size i : ℕ) (bs rest : List ℕ) (whole : length bs ≡ n * size) (is : rest ≡ drop (i * size) bs) where
  left : length rest ≡ n * size - i * size
  left = ap (λ (l : List ℕ). length l) is ∙ (length-drop (i * size) bs ∙ ap (λ (m : ℕ). m - i * size) whole)

  -- no whole chunk is left
  pub chunks_past : length rest < size → n ≤ i
  chunks_past lt =
      elim (cases_Bool (leb n i)) [
        | inl t ↦ leb-true n i t
        | inr f ↦
            let more : suc i * size ≤ n * size = mul-le-mul_right size (leb-false n i f) in
            absurd (omega (arith, left, suc-mul i size))
      ]

  module _ (x r : List ℕ) (some : 0 < size) (next : rest ≡ x ++ r) (len : length x ≡ size) where
    pub chunk_within : i < n
    chunk_within =
        elim (cases_Bool (leb n i)) [
          | inl t ↦
              let less : n * size ≤ i * size = mul-le-mul_right size (leb-true n i t) in
              let both : length rest ≡ length x + length r = ap (λ (l : List ℕ). length l) next ∙ length-append x r in
              absurd (omega (arith, left))
          | inr f ↦ leb-false n i f
        ]

    pub chunk_here : x ≡ take size (drop (i * size) bs)
    chunk_here = sym (take_at x r size len) ∙ ap (λ (l : List ℕ). take size l) (sym next ∙ is)

    pub chunk_after : r ≡ drop ((i + 1) * size) bs
    chunk_after =
        let e : (i + 1) * size ≡ i * size + size = rw add-one (suc-mul i size) in
        sym (drop_at x r size len) ∙ (ap (λ (l : List ℕ). drop size l) (sym next ∙ is) ∙ rw e (drop-drop size (i * size) bs))

-- the numbers of chunk i, of m each
pub chunk_row : (m i : ℕ) (bs x : List ℕ) → x ≡ take (2 * m) (drop (i * (2 * m)) bs) → signeds_of x ≡ take m (drop (i * m) (signeds_of bs))
chunk_row m i bs x e =
    let at : i * (2 * m) ≡ 2 * (i * m) = grind arith in
    rw (e, at, signeds_take m (drop (2 * (i * m)) bs), signeds_drop (i * m) bs)
