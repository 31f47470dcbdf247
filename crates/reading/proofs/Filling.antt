-- Vectors that are filled chunk by chunk.
use Rattle.std.proofs.Common.{◌≡◌, ℕ, ◌<◌, List, [], ◌∷◌, ◌++◌, length, get_or, ℤ, refl, append_assoc, append-nil, arith}
use Rattle.observation.specs.declared.Sample.{Sample}
use Rattle.burstfile.specs.Reading.{signed_of, signeds_of, pair_of, pairs_of}
use Rattle.reading.specs.Held.{sample_of, samples_of}

-- four bytes a pair
pairs_step : (x r : List ℕ) → length x ≡ 4
    → pairs_of (x ++ r) ≡ pair_of (signed_of (get_or x 0 0) (get_or x 1 0)) (signed_of (get_or x 2 0) (get_or x 3 0)) ∷ pairs_of r
pairs_step [] r e = absurd (omega arith)
pairs_step (a ∷ []) r e = absurd (omega arith)
pairs_step (a ∷ b ∷ []) r e = absurd (omega arith)
pairs_step (a ∷ b ∷ c ∷ []) r e = absurd (omega arith)
pairs_step (a ∷ b ∷ c ∷ d ∷ []) r e = refl
pairs_step (a ∷ b ∷ c ∷ d ∷ f ∷ x) r e = absurd (omega arith)

pairs_end : (r : List ℕ) → length r < 4 → pairs_of r ≡ []
pairs_end [] lt = refl
pairs_end (a ∷ []) lt = refl
pairs_end (a ∷ b ∷ []) lt = refl
pairs_end (a ∷ b ∷ c ∷ []) lt = refl
pairs_end (a ∷ b ∷ c ∷ d ∷ r) lt = absurd (omega arith)

pub samples_more : (xs all : List Sample) (rest x r : List ℕ) → rest ≡ x ++ r → length x ≡ 4 → xs ++ samples_of (pairs_of rest) ≡ all
    → (xs ++ (sample_of (pair_of (signed_of (get_or x 0 0) (get_or x 1 0)) (signed_of (get_or x 2 0) (get_or x 3 0))) ∷ [])) ++ samples_of (pairs_of r) ≡ all
samples_more xs all rest x r e len so_far = rw append_assoc (rw (e, pairs_step x r len) at so_far)

pub samples_end : (xs all : List Sample) (r : List ℕ) → length r < 4 → xs ++ samples_of (pairs_of r) ≡ all → xs ≡ all
samples_end xs all r lt so_far = rw (pairs_end r lt, append-nil) at so_far

-- two bytes a value
signeds_step : (x r : List ℕ) → length x ≡ 2 → signeds_of (x ++ r) ≡ signed_of (get_or x 0 0) (get_or x 1 0) ∷ signeds_of r
signeds_step [] r e = absurd (omega arith)
signeds_step (a ∷ []) r e = absurd (omega arith)
signeds_step (a ∷ b ∷ []) r e = refl
signeds_step (a ∷ b ∷ c ∷ x) r e = absurd (omega arith)

signeds_end : (r : List ℕ) → length r < 2 → signeds_of r ≡ []
signeds_end [] lt = refl
signeds_end (a ∷ []) lt = refl
signeds_end (a ∷ b ∷ r) lt = absurd (omega arith)

pub values_more : (xs all : List ℤ) (rest x r : List ℕ) → rest ≡ x ++ r → length x ≡ 2 → xs ++ signeds_of rest ≡ all
    → (xs ++ (signed_of (get_or x 0 0) (get_or x 1 0) ∷ [])) ++ signeds_of r ≡ all
values_more xs all rest x r e len so_far = rw append_assoc (rw (e, signeds_step x r len) at so_far)

pub values_end : (xs all : List ℤ) (r : List ℕ) → length r < 2 → xs ++ signeds_of r ≡ all → xs ≡ all
values_end xs all r lt so_far = rw (signeds_end r lt, append-nil) at so_far
