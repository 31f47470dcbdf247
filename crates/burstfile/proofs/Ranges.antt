-- No value breaks its rule exactly where the contents are in range.
use Rattle.std.proofs.Common.{◌≡◌, ℕ, ◌+◌, ◌≤◌, leb, List, [], ◌∷◌, length, ℤ, nat_abs, Some, None, Ok, Err, Option, Result, refl, ap, ◌∙◌, subst, inl, inr, arith}
use Rattle.std.proofs.lemmas.Bool.{le-leb, leb-true, cases_Bool}
use Rattle.std.specs.List.{AllByRecursion}
use Rattle.refusal.specs.declared.Refusal.{Refusal}
use Rattle.burstfile.specs.declared.refused.FileRefusal.{FileRefusal}
use Rattle.burstfile.specs.Format.{Pair, Vector, Contents, PairInRange, VectorInRange, InRange, Rules, encode, symbols_of}
use Rattle.burstfile.specs.Reading.{Layout, cut, contents_of}
use Rattle.burstfile.specs.Values.{within, numbered_fault, pairs_fault, limit_of, vector_fault, vectors_fault, priors_fault, values_fault, judged, judged_cut, read_spec}
use Rattle.burstfile.specs.Theorem.{Bytes, AcceptsEncodings}
use Rattle.burstfile.proofs.Options.{or_none, cond_none}
use Rattle.burstfile.proofs.Format.{cut_is_encoded, encoded_is_cut}

number_none : (n : ℕ) (o : Option Refusal) → numbered_fault n o ≡ None → o ≡ None
number_none n None e = refl
number_none n (Some f) e = cc

pairs_good : (k : ℕ) (ps : List Pair) → pairs_fault k ps ≡ None → AllByRecursion PairInRange ps
pairs_good k [] e = tt
pairs_good k (p ∷ ps) e =
    let a = cond_none (within 1023 p.re) _ _ e in
    let b = cond_none (within 1023 p.im) _ _ a.1 in
    (record { re = leb-true (nat_abs p.re) 1023 a.0; im = leb-true (nat_abs p.im) 1023 b.0 }, pairs_good (k + 1) ps b.1)

good_pairs : (k : ℕ) (ps : List Pair) → AllByRecursion PairInRange ps → pairs_fault k ps ≡ None
good_pairs k [] all = refl
good_pairs k (p ∷ ps) (g, all) = rw (le-leb (nat_abs p.re) 1023 g.re, le-leb (nat_abs p.im) 1023 g.im) (good_pairs (k + 1) ps all)

vector_good : (mode i : ℕ) (v : Vector) → vector_fault mode i v ≡ None → VectorInRange v × (i ≤ limit_of mode)
vector_good mode i v e =
    let a = or_none (pairs_fault 1 v.y) _ e in
    let b = or_none (pairs_fault 1 v.h) _ a.1 in
    let w = cond_none (leb v.weight 1023) _ _ b.1 in
    let s = cond_none (leb i (limit_of mode)) _ _ w.1 in
    (record { weight = leb-true v.weight 1023 w.0; y = pairs_good 1 v.y a.0; h = pairs_good 1 v.h b.0 }, leb-true i (limit_of mode) s.0)

good_vector : (mode i : ℕ) (v : Vector) → VectorInRange v → i ≤ limit_of mode → vector_fault mode i v ≡ None
good_vector mode i v g l =
    rw (good_pairs 1 v.y g.y, good_pairs 1 v.h g.h, le-leb v.weight 1023 g.weight, le-leb i (limit_of mode) l)

vectors_good : (mode i : ℕ) (vs : List Vector) → i ≤ limit_of mode + 1 → vectors_fault mode i vs ≡ None → AllByRecursion VectorInRange vs × (i + length vs ≤ limit_of mode + 1)
vectors_good mode i [] l e = (tt, omega arith)
vectors_good mode i (v ∷ vs) l e =
    let a = or_none (numbered_fault i (vector_fault mode i v)) _ e in
    let g = vector_good mode i v (number_none i (vector_fault mode i v) a.0) in
    let gs = vectors_good mode (i + 1) vs (omega (arith, g.1)) a.1 in
    ((g.0, gs.0), omega (arith, gs.1))

good_vectors : (mode i : ℕ) (vs : List Vector) → AllByRecursion VectorInRange vs → i + length vs ≤ limit_of mode + 1 → vectors_fault mode i vs ≡ None
good_vectors mode i [] all l = refl
good_vectors mode i (v ∷ vs) (g, all) l = rw (good_vector mode i v g (omega arith)) (good_vectors mode (i + 1) vs all (omega arith))

priors_good : (k : ℕ) (zs : List ℤ) → priors_fault k zs ≡ None → AllByRecursion (λ z. nat_abs z ≤ 8191) zs
priors_good k [] e = tt
priors_good k (z ∷ zs) e = let a = cond_none (within 8191 z) _ _ e in (leb-true (nat_abs z) 8191 a.0, priors_good (k + 1) zs a.1)

good_priors : (k : ℕ) (zs : List ℤ) → AllByRecursion (λ z. nat_abs z ≤ 8191) zs → priors_fault k zs ≡ None
good_priors k [] all = refl
good_priors k (z ∷ zs) (g, all) = rw (le-leb (nat_abs z) 8191 g) (good_priors (k + 1) zs all)

-- 128 symbols are 128 vectors, or 129
symbols_limit : (mode n : ℕ) → 1 + n ≤ limit_of mode + 1 → symbols_of mode n ≤ 128
symbols_limit mode n l = elim (cases_Bool (leb mode 8)) [ inl t ↦ rw t (omega (arith, rw t at l)) | inr f ↦ rw f (omega (arith, rw f at l)) ]

limit_symbols : (mode n : ℕ) → symbols_of mode n ≤ 128 → 1 + n ≤ limit_of mode + 1
limit_symbols mode n l = elim (cases_Bool (leb mode 8)) [ inl t ↦ rw t (omega (arith, rw t at l)) | inr f ↦ rw f (omega (arith, rw f at l)) ]

one_limit : (mode : ℕ) → 1 ≤ limit_of mode + 1
one_limit mode = omega arith

pub values_good : (c : Contents) → values_fault c ≡ None → InRange c
values_good c e =
    let s = cond_none (leb c.shift 40) _ _ e in
    let a = or_none (vectors_fault c.mode 1 c.vectors) _ s.1 in
    let vs = vectors_good c.mode 1 c.vectors (one_limit c.mode) a.0 in
    record {
      shift = leb-true c.shift 40 s.0;
      vectors = vs.0;
      symbols = symbols_limit c.mode (length c.vectors) vs.1;
      priors = priors_good 1 c.priors (number_none 0 (priors_fault 1 c.priors) a.1);
    }

pub good_values : (c : Contents) → InRange c → values_fault c ≡ None
good_values c g =
    rw (le-leb c.shift 40 g.shift, good_vectors c.mode 1 c.vectors g.vectors (limit_symbols c.mode (length c.vectors) g.symbols), good_priors 1 c.priors g.priors)

judged_ok : (c d : Contents) (o : Option FileRefusal) → judged c o ≡ Ok d → (o ≡ None) × (c ≡ d)
judged_ok c d None e = (refl, cc)
judged_ok c d (Some f) e = cc

accepted : (bs : List ℕ) (c : Contents) (r : Result Layout Refusal) → Bytes bs → cut bs ≡ r → judged_cut r ≡ Ok c → (bs ≡ encode c) × Rules c
accepted bs c (Ok l) bytes is e =
    let j = judged_ok (contents_of l) c (values_fault (contents_of l)) e in
    let t = cut_is_encoded bs l bytes is in
    subst (λ (d : Contents). (bs ≡ encode d) × Rules d) j.1 (t.0, record { shape = t.1; range = values_good (contents_of l) j.0 })
accepted bs c (Err f) bytes is e = cc

reads_encoding : (c : Contents) → Rules c → read_spec (encode c) ≡ Ok c
reads_encoding c g =
    let t = encoded_is_cut c g.shape in
    let none : values_fault (contents_of t.0) ≡ None = cc (good_values c g.range, t.2) in
    ap judged_cut t.1 ∙ (ap (judged (contents_of t.0)) none ∙ ap (λ (d : Contents). Ok d) t.2)

pub accepts_encodings : AcceptsEncodings
accepts_encodings bs c bytes =
    (λ e. accepted bs c (cut bs) bytes refl e, λ p. ap read_spec p.0 ∙ reads_encoding c p.1)
