-- What is decoded is encoded as it was, and what is encoded is decoded as it was.
use Rattle.std.proofs.Common.{◌≡◌, ℕ, zero, suc, ◌+◌, ◌-◌, ◌*◌, ◌/◌, ◌%◌, ◌<◌, List, [], ◌∷◌, ◌++◌, length, take, drop, ℤ, refl, ap, ◌∙◌, suc-mul, div-add-mod', arith, w16, SFits, of_z, rules}
use lib.Arith.{digits_div, digits_mod}
use mir.ValLaws.{to_z-Fits}
use Rattle.std.proofs.lemmas.List.{take-append-drop, length-append, length-take-le, length-drop, take_at, drop_at}
use Rattle.std.proofs.ByRecursion.{All-take, All-drop}
use Rattle.std.proofs.lemmas.Int.{to_z-of_z, of_z-to_z}
use Rattle.std.specs.List.{flat_map, AllByRecursion}
use Rattle.burstfile.specs.Format.{Pair, Vector, word, signed, pair, vector, PairShape, VectorShape}
use Rattle.burstfile.specs.Reading.{signed_of, pairs_of, vector_of, vectors_of, signeds_of}

abbrev pub Byte : ℕ → Type 0
Byte b = b < 256

-- decoded, then encoded

pub word_of : (a b : ℕ) → b < 256 → word (a * 256 + b) ≡ a ∷ b ∷ []
word_of a b lt = rw (digits_div a lt, digits_mod a lt)

pub signed_of_lem : (a b : ℕ) → a < 256 → b < 256 → signed (signed_of a b) ≡ a ∷ b ∷ []
signed_of_lem a b la lb = rw (of_z-to_z w16 (a * 256 + b) (omega arith)) (word_of a b lb)

-- lists in a row, each equal to another
both : {p p' q q' : List ℕ} → p ≡ p' → q ≡ q' → p ++ q ≡ p' ++ q'
both e f = cc

pub pairs_of_lem : (n : ℕ) (bs : List ℕ) → AllByRecursion Byte bs → length bs ≡ 4 * n → flat_map pair (pairs_of bs) ≡ bs
pairs_of_lem n [] bytes e = refl
pairs_of_lem n (a ∷ []) bytes e = absurd (omega arith)
pairs_of_lem n (a ∷ b ∷ []) bytes e = absurd (omega arith)
pairs_of_lem n (a ∷ b ∷ c ∷ []) bytes e = absurd (omega arith)
pairs_of_lem n (a ∷ b ∷ c ∷ d ∷ bs) (la, (lb, (lc, (ld, bytes)))) e =
    both (both (signed_of_lem a b la lb) (signed_of_lem c d lc ld)) (pairs_of_lem (n - 1) bs bytes (omega arith))

pub length-pairs_of : (n : ℕ) (bs : List ℕ) → length bs ≡ 4 * n → length (pairs_of bs) ≡ n
length-pairs_of n [] e = omega arith
length-pairs_of n (a ∷ []) e = absurd (omega arith)
length-pairs_of n (a ∷ b ∷ []) e = absurd (omega arith)
length-pairs_of n (a ∷ b ∷ c ∷ []) e = absurd (omega arith)
length-pairs_of n (a ∷ b ∷ c ∷ d ∷ bs) e = omega (arith, length-pairs_of (n - 1) bs (omega arith))

-- 16 bits hold what two bytes make
pub signed_fits : (a b : ℕ) → a < 256 → b < 256 → SFits w16 (signed_of a b)
signed_fits a b la lb = search (rules, to_z-Fits)

pub pairs_fit : (bs : List ℕ) → AllByRecursion Byte bs → AllByRecursion PairShape (pairs_of bs)
pairs_fit [] bytes = tt
pairs_fit (a ∷ []) bytes = tt
pairs_fit (a ∷ b ∷ []) bytes = tt
pairs_fit (a ∷ b ∷ c ∷ []) bytes = tt
pairs_fit (a ∷ b ∷ c ∷ d ∷ bs) (la, (lb, (lc, (ld, bytes)))) =
    (record { re = signed_fits a b la lb; im = signed_fits c d lc ld }, pairs_fit bs bytes)

pub vector_of_lem : (a b : ℕ) (bs : List ℕ) → AllByRecursion Byte bs → length bs ≡ 2 + 4 * a + 4 * b → vector (vector_of a bs) ≡ bs
vector_of_lem a b [] bytes e = absurd (omega arith)
vector_of_lem a b (x ∷ []) bytes e = absurd (omega arith)
vector_of_lem a b (x ∷ y ∷ bs) (lx, (ly, bytes)) e =
    let lt : length (take (4 * a) bs) ≡ 4 * a = length-take-le (4 * a) bs (omega arith) in
    let lh : length (drop (4 * a) bs) ≡ 4 * b = omega (arith, length-drop (4 * a) bs) in
    both (word_of x y ly) (both (pairs_of_lem a (take (4 * a) bs) (All-take Byte (4 * a) bs bytes) lt) (pairs_of_lem b (drop (4 * a) bs) (All-drop Byte (4 * a) bs bytes) lh)
    ∙ take-append-drop (4 * a) bs)

pub vector_shaped : (a b : ℕ) (bs : List ℕ) → AllByRecursion Byte bs → length bs ≡ 2 + 4 * a + 4 * b → VectorShape a b (vector_of a bs)
vector_shaped a b [] bytes e = absurd (omega arith)
vector_shaped a b (x ∷ []) bytes e = absurd (omega arith)
vector_shaped a b (x ∷ y ∷ bs) (lx, (ly, bytes)) e =
    record {
      weight = omega arith;
      y = length-pairs_of a (take (4 * a) bs) (length-take-le (4 * a) bs (omega arith));
      h = length-pairs_of b (drop (4 * a) bs) (omega (arith, length-drop (4 * a) bs));
      y_fits = pairs_fit (take (4 * a) bs) (All-take Byte (4 * a) bs bytes);
      h_fits = pairs_fit (drop (4 * a) bs) (All-drop Byte (4 * a) bs bytes);
    }

pub vectors_of_lem : (n a b : ℕ) (bs : List ℕ) → AllByRecursion Byte bs → length bs ≡ n * (2 + 4 * a + 4 * b)
    → flat_map vector (vectors_of n (2 + 4 * a + 4 * b) a bs) ≡ bs
vectors_of_lem zero a b [] bytes e = refl
vectors_of_lem zero a b (x ∷ bs) bytes e = absurd (omega arith)
vectors_of_lem (suc n) a b bs bytes e =
    let size = 2 + 4 * a + 4 * b in
    let grows : suc n * size ≡ n * size + size = suc-mul n size in
    let front : length (take size bs) ≡ size = length-take-le size bs (omega arith) in
    let after : length (drop size bs) ≡ n * size = omega (arith, length-drop size bs) in
    both (vector_of_lem a b (take size bs) (All-take Byte size bs bytes) front) (vectors_of_lem n a b (drop size bs) (All-drop Byte size bs bytes) after)
    ∙ take-append-drop size bs

pub vectors_shaped : (n a b : ℕ) (bs : List ℕ) → AllByRecursion Byte bs → length bs ≡ n * (2 + 4 * a + 4 * b)
    → AllByRecursion (VectorShape a b) (vectors_of n (2 + 4 * a + 4 * b) a bs)
vectors_shaped zero a b bs bytes e = tt
vectors_shaped (suc n) a b bs bytes e =
    let size = 2 + 4 * a + 4 * b in
    let grows : suc n * size ≡ n * size + size = suc-mul n size in
    let front : length (take size bs) ≡ size = length-take-le size bs (omega arith) in
    let after : length (drop size bs) ≡ n * size = omega (arith, length-drop size bs) in
    (vector_shaped a b (take size bs) (All-take Byte size bs bytes) front, vectors_shaped n a b (drop size bs) (All-drop Byte size bs bytes) after)

pub length-vectors_of : (n size a : ℕ) (bs : List ℕ) → length (vectors_of n size a bs) ≡ n
length-vectors_of zero size a bs = refl
length-vectors_of (suc n) size a bs = ap suc (length-vectors_of n size a (drop size bs))

pub signeds_of_lem : (n : ℕ) (bs : List ℕ) → AllByRecursion Byte bs → length bs ≡ 2 * n → flat_map signed (signeds_of bs) ≡ bs
signeds_of_lem n [] bytes e = refl
signeds_of_lem n (a ∷ []) bytes e = absurd (omega arith)
signeds_of_lem n (a ∷ b ∷ bs) (la, (lb, bytes)) e = both (signed_of_lem a b la lb) (signeds_of_lem (n - 1) bs bytes (omega arith))

pub length-signeds_of : (n : ℕ) (bs : List ℕ) → length bs ≡ 2 * n → length (signeds_of bs) ≡ n
length-signeds_of n [] e = omega arith
length-signeds_of n (a ∷ []) e = absurd (omega arith)
length-signeds_of n (a ∷ b ∷ bs) e = omega (arith, length-signeds_of (n - 1) bs (omega arith))

pub signeds_fit : (bs : List ℕ) → AllByRecursion Byte bs → AllByRecursion (SFits w16) (signeds_of bs)
signeds_fit [] bytes = tt
signeds_fit (a ∷ []) bytes = tt
signeds_fit (a ∷ b ∷ bs) (la, (lb, bytes)) = (signed_fits a b la lb, signeds_fit bs bytes)

-- encoded, then decoded

pub word_is : (n : ℕ) → n / 256 * 256 + n % 256 ≡ n
word_is n = div-add-mod' n 256

pub signed_is : (z : ℤ) → SFits w16 z → signed_of (of_z w16 z / 256) (of_z w16 z % 256) ≡ z
signed_is z fits = rw (word_is (of_z w16 z)) (to_z-of_z w16 z fits)

pub pairs_is : (ps : List Pair) → AllByRecursion PairShape ps → pairs_of (flat_map pair ps) ≡ ps
pairs_is [] shape = refl
pairs_is (p ∷ ps) (s, shape) = rw (signed_is p.re s.re, signed_is p.im s.im, pairs_is ps shape)

pub length_pairs : (ps : List Pair) → length (flat_map pair ps) ≡ 4 * length ps
length_pairs [] = refl
length_pairs (p ∷ ps) = omega (arith, length_pairs ps)

pub vector_is : (a b : ℕ) (v : Vector) → VectorShape a b v → vector_of a (vector v) ≡ v
vector_is a b v s =
    let l : length (flat_map pair v.y) ≡ 4 * a = omega (arith, length_pairs v.y, s.y) in
    rw (word_is v.weight, take_at (flat_map pair v.y) (flat_map pair v.h) (4 * a) l, drop_at (flat_map pair v.y) (flat_map pair v.h) (4 * a) l, pairs_is v.y s.y_fits, pairs_is v.h s.h_fits)

pub length-vector : (a b : ℕ) (v : Vector) → VectorShape a b v → length (vector v) ≡ 2 + 4 * a + 4 * b
length-vector a b v s = omega (arith, length-append (flat_map pair v.y) (flat_map pair v.h), length_pairs v.y, length_pairs v.h, s.y, s.h)

pub length_vectors : (a b : ℕ) (vs : List Vector) → AllByRecursion (VectorShape a b) vs → length (flat_map vector vs) ≡ length vs * (2 + 4 * a + 4 * b)
length_vectors a b [] shape = omega arith
length_vectors a b (v ∷ vs) (s, shape) =
    omega (arith, length-append (vector v) (flat_map vector vs), length-vector a b v s, length_vectors a b vs shape, suc-mul (length vs) (2 + 4 * a + 4 * b))

pub vectors_is : (a b : ℕ) (vs : List Vector) → AllByRecursion (VectorShape a b) vs → vectors_of (length vs) (2 + 4 * a + 4 * b) a (flat_map vector vs) ≡ vs
vectors_is a b [] shape = refl
vectors_is a b (v ∷ vs) (s, shape) =
    let l = length-vector a b v s in
    rw (take_at (vector v) (flat_map vector vs) (2 + 4 * a + 4 * b) l, drop_at (vector v) (flat_map vector vs) (2 + 4 * a + 4 * b) l, vector_is a b v s, vectors_is a b vs shape)

pub signeds_is : (zs : List ℤ) → AllByRecursion (SFits w16) zs → signeds_of (flat_map signed zs) ≡ zs
signeds_is [] shape = refl
signeds_is (z ∷ zs) (s, shape) = rw (signed_is z s, signeds_is zs shape)

pub length_signeds : (zs : List ℤ) → length (flat_map signed zs) ≡ 2 * length zs
length_signeds [] = refl
length_signeds (z ∷ zs) = omega (arith, length_signeds zs)
