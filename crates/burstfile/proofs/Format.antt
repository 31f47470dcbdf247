-- The theorem on the sections.
use Rattle.std.proofs.Common.{◌≡◌, ℕ, ◌+◌, ◌*◌, ◌<◌, ◌≤◌, true, eqb, leb, ◌⊎◌, List, [], ◌∷◌, ◌++◌, length, take, drop, IfOk as made, None, Ok, Err, Result, sym, refl, ap, ◌∙◌, subst, inl, inr, arith, w16, SFits, MatchResult}
use Rattle.std.proofs.lemmas.List.{take-append-drop, length-append, length-take-le, take_at, drop_at}
use Rattle.std.proofs.ByRecursion.{All-take, All-drop}
use Rattle.std.proofs.lemmas.Bool.{le-leb, eq-eqb, leb-true, eqb-true, cases_Bool}
use Rattle.std.specs.List.{flat_map, AllByRecursion}
use Rattle.refusal.specs.declared.Refusal.{Refusal}
use Rattle.burstfile.specs.Format.{Contents, word, signed, vector, encode, VectorShape, Shape, vector_size, channel_of, symbols_of, bits_of}
use Rattle.burstfile.specs.Reading.{Layout, Whole, laid, cut, cut_antennas, cut_vectors, cut_priors, broken_settings, broken_antennas, broken_priors, priors_allowed, records_size, cut_at, vectors_of, signeds_of, contents_of}
use Rattle.burstfile.specs.Theorem.{Bytes, Shaped, CutIsEncoded, EncodedIsCut}
use Rattle.burstfile.specs.declared.view.File.{File}
use Rattle.burstfile.proofs.Options.{cond_none, refused, passed, ok_same, unbroken}
use Rattle.burstfile.proofs.Cuts.{go_settings, go_records, go_priors, priors_hold}
use Rattle.burstfile.proofs.Trips.{Byte, word_is, word_of, vectors_of_lem, vectors_shaped, length-vectors_of, signeds_of_lem, length-signeds_of, signeds_fit, vectors_is, length_vectors, signeds_is, length_signeds}

allowed_rule : (mode n k : ℕ) → priors_allowed mode n k ≡ true → (k ≡ 0) ⊎ (k ≡ symbols_of mode n * bits_of mode)
allowed_rule mode n k e =
    elim (cases_Bool (eqb k 0)) [ inl t ↦ inl (eqb-true k 0 t) | inr f ↦ inr (eqb-true k (symbols_of mode n * bits_of mode) (rw f at e)) ]

rule_allowed : (mode n k : ℕ) → (k ≡ 0) ⊎ (k ≡ symbols_of mode n * bits_of mode) → priors_allowed mode n k ≡ true
rule_allowed mode n k (inl e) = rw (eq-eqb k 0 e)
rule_allowed mode n k (inr e) =
    elim (cases_Bool (eqb k 0)) [ inl t ↦ rw t | inr f ↦ rw (f, eq-eqb k (symbols_of mode n * bits_of mode) e) ]

-- the rules of each section's fields

settings_hold : (magic mode : ℕ) → broken_settings magic mode ≡ None → (magic ≡ 2) × (1 ≤ mode) × (mode ≤ 10)
settings_hold magic mode e =
    let p = cond_none (eqb magic 2) _ _ e in
    let q = cond_none (leb 1 mode) _ _ p.1 in
    let r = cond_none (leb mode 10) _ _ q.1 in
    (eqb-true magic 2 p.0, leb-true 1 mode q.0, leb-true mode 10 r.0)

hold_settings : (mode : ℕ) → 1 ≤ mode → mode ≤ 10 → broken_settings 2 mode ≡ None
hold_settings mode low high = rw (le-leb 1 mode low, le-leb mode 10 high)

antennas_hold : (antennas : ℕ) → broken_antennas antennas ≡ None → (1 ≤ antennas) × (antennas ≤ 4)
antennas_hold antennas e =
    let p = cond_none (leb 1 antennas) _ _ e in
    let q = cond_none (leb antennas 4) _ _ p.1 in
    (leb-true 1 antennas p.0, leb-true antennas 4 q.0)

hold_antennas : (antennas : ℕ) → 1 ≤ antennas → antennas ≤ 4 → broken_antennas antennas ≡ None
hold_antennas antennas low high = rw (le-leb 1 antennas low, le-leb antennas 4 high)

hold_priors : (mode n size k left : ℕ) → priors_allowed mode n k ≡ true → left ≡ 2 * k → broken_priors mode n size k left ≡ None
hold_priors mode n size k left allowed ends = rw (allowed, eq-eqb left (2 * k) ends)

-- encoded, then cut

layout_of : Contents → Layout
layout_of c = record { mode = c.mode; shift = c.shift; antennas = c.antennas; count = length c.vectors; records = flat_map vector c.vectors; priors = flat_map signed c.priors }

module _ (c : Contents) (s : Shape c) where
  tail : List ℕ
  tail = word (length c.priors) ++ flat_map signed c.priors

  body : List ℕ
  body = word (length c.vectors) ++ (flat_map vector c.vectors ++ tail)

  size : ℕ
  size = records_size c.mode c.antennas (length c.vectors)

  records_length : length (flat_map vector c.vectors) ≡ size
  unfolding size
  records_length = length_vectors c.antennas (channel_of c.mode c.antennas) c.vectors s.vectors

  cut_settings_lem : cut (encode c) ≡ cut_vectors (length (encode c)) c.mode c.shift c.antennas body
  unfolding body tail
  cut_settings_lem = go_settings (encode c) (omega arith) (hold_settings c.mode s.mode_low s.mode_high) (omega arith) (hold_antennas c.antennas s.antennas_low s.antennas_high)

  cut_records : cut_vectors (length (encode c)) c.mode c.shift c.antennas body
      ≡ cut_priors (length (encode c)) c.mode c.shift c.antennas (length c.vectors) (flat_map vector c.vectors) tail
  unfolding body size
  cut_records =
      let fits : size ≤ length (flat_map vector c.vectors ++ tail) = omega (arith, length-append (flat_map vector c.vectors) tail, records_length) in
      go_records (length (encode c)) c.mode c.shift c.antennas (length c.vectors) body (omega arith) (sym (word_is (length c.vectors))) fits
      ∙ rw (take_at (flat_map vector c.vectors) tail size records_length, drop_at (flat_map vector c.vectors) tail size records_length)

  cut_priors_lem : cut_priors (length (encode c)) c.mode c.shift c.antennas (length c.vectors) (flat_map vector c.vectors) tail ≡ Ok (layout_of c)
  unfolding tail layout_of
  cut_priors_lem =
      go_priors (length (encode c)) c.mode c.shift c.antennas (length c.vectors) (length c.priors) (flat_map vector c.vectors) tail (omega arith)
      (sym (word_is (length c.priors)))
      (hold_priors c.mode (length c.vectors) _ (length c.priors) _ (rule_allowed c.mode (length c.vectors) (length c.priors) s.prior_rule) (length_signeds c.priors))

  same_contents : contents_of (layout_of c) ≡ c
  unfolding layout_of
  same_contents = rw (vectors_is c.antennas (channel_of c.mode c.antennas) c.vectors s.vectors, signeds_is c.priors s.priors)

pub encoded_is_cut : EncodedIsCut
encoded_is_cut c s = (layout_of c, cut_settings_lem c s ∙ (cut_records c s ∙ cut_priors_lem c s), same_contents c s)

-- cut, then encoded

-- what the cut of the last section says
record PriorsCut (mode shift antennas n : ℕ) (records bs : List ℕ) (l : Layout) : Type 0 where
  head : l ≡ record { mode = mode; shift = shift; antennas = antennas; count = n; records = records; priors = l.priors }
  bytes : bs ≡ word (length (signeds_of l.priors)) ++ flat_map signed (signeds_of l.priors)
  count : length (signeds_of l.priors) < 65536
  rule : (length (signeds_of l.priors) ≡ 0) ⊎ (length (signeds_of l.priors) ≡ symbols_of mode n * bits_of mode)
  fits : AllByRecursion (SFits w16) (signeds_of l.priors)

priors_made : (mode shift antennas n k : ℕ) (records rest bs : List ℕ) (l : Layout) → AllByRecursion Byte rest → k < 65536 → bs ≡ word k ++ rest
    → priors_allowed mode n k ≡ true → length rest ≡ 2 * k
    → record { mode = mode; shift = shift; antennas = antennas; count = n; records = records; priors = rest } ≡ l → PriorsCut mode shift antennas n records bs l
priors_made mode shift antennas n k records rest bs l all small is allowed len e =
    let m : length (signeds_of rest) ≡ k = length-signeds_of k rest len in
    subst (PriorsCut mode shift antennas n records bs) e
    (record {
      head = refl;
      bytes = is ∙ rw (m, signeds_of_lem k rest all len);
      count = omega (arith, m);
      rule = rw m (allowed_rule mode n k allowed);
      fits = signeds_fit rest all;
    })

priors_cut : (total mode shift antennas n : ℕ) (records bs : List ℕ) (l : Layout) → AllByRecursion Byte bs
    → cut_priors total mode shift antennas n records bs ≡ Ok l → PriorsCut mode shift antennas n records bs l
priors_cut total mode shift antennas n records [] l all h = absurd (refused (cut_at total) l h)
priors_cut total mode shift antennas n records (a ∷ []) l all h = absurd (refused (cut_at total) l h)
priors_cut total mode shift antennas n records (a ∷ b ∷ bs) l (la, (lb, all)) h =
    let k = a * 256 + b in
    let p = passed (leb (2 * k) (length bs)) _ _ l h in
    let q = unbroken (broken_priors mode n (length records) k (length bs)) _ l p.1 in
    let r = priors_hold mode n (length records) k (length bs) q.0 in
    priors_made mode shift antennas n k records bs (a ∷ b ∷ bs) l all (omega arith) (ap (λ (w : List ℕ). w ++ bs) (sym (word_of a b lb))) r.0 r.1 (ok_same _ l q.1)

record VectorsCut (mode shift antennas : ℕ) (bs : List ℕ) (l : Layout) : Type 0 where
  mode_is : l.mode ≡ mode
  shift_is : l.shift ≡ shift
  antennas_is : l.antennas ≡ antennas
  bytes : bs ≡ word (length (contents_of l).vectors) ++ (flat_map vector (contents_of l).vectors ++ (word (length (contents_of l).priors) ++ flat_map signed (contents_of l).priors))
  count : length (contents_of l).vectors < 65536
  shapes : AllByRecursion (VectorShape l.antennas (channel_of l.mode l.antennas)) (contents_of l).vectors
  prior_count : length (contents_of l).priors < 65536
  prior_rule : (length (contents_of l).priors ≡ 0) ⊎ (length (contents_of l).priors ≡ symbols_of l.mode (length (contents_of l).vectors) * bits_of l.mode)
  priors : AllByRecursion (SFits w16) (contents_of l).priors

vectors_made : (mode shift antennas n : ℕ) (bs : List ℕ) (l : Layout) → AllByRecursion Byte bs → n < 65536 → records_size mode antennas n ≤ length bs
    → PriorsCut mode shift antennas n (take (records_size mode antennas n) bs) (drop (records_size mode antennas n) bs) l
    → VectorsCut mode shift antennas (word n ++ bs) l
vectors_made mode shift antennas n bs l all small fits p =
    let b = channel_of mode antennas in
    let size = records_size mode antennas n in
    let len : length (take size bs) ≡ size = length-take-le size bs fits in
    let records : AllByRecursion Byte (take size bs) = All-take Byte size bs all in
    let m : length (vectors_of n (vector_size antennas b) antennas (take size bs)) ≡ n = length-vectors_of n (vector_size antennas b) antennas (take size bs) in
    let vs = vectors_of n (vector_size antennas b) antennas (take size bs) in
    let ps = signeds_of l.priors in
    let joins : word n ++ bs ≡ word (length vs) ++ (flat_map vector vs ++ (word (length ps) ++ flat_map signed ps)) = cc (m, take-append-drop size bs, vectors_of_lem n antennas b (take size bs) records len, p.bytes) in
    subst (VectorsCut mode shift antennas (word n ++ bs)) (sym p.head)
    (record {
      mode_is = refl;
      shift_is = refl;
      antennas_is = refl;
      bytes = joins;
      count = omega (arith, m);
      shapes = vectors_shaped n antennas b (take size bs) records len;
      prior_count = p.count;
      prior_rule = rw m p.rule;
      priors = p.fits;
    })

vectors_cut : (total mode shift antennas : ℕ) (bs : List ℕ) (l : Layout) → AllByRecursion Byte bs
    → cut_vectors total mode shift antennas bs ≡ Ok l → VectorsCut mode shift antennas bs l
vectors_cut total mode shift antennas [] l all h = absurd (refused (cut_at total) l h)
vectors_cut total mode shift antennas (a ∷ []) l all h = absurd (refused (cut_at total) l h)
vectors_cut total mode shift antennas (a ∷ b ∷ bs) l (la, (lb, all)) h =
    let n = a * 256 + b in
    let size = records_size mode antennas n in
    let p = passed (leb size (length bs)) _ _ l h in
    let made = vectors_made mode shift antennas n bs l all (omega arith) (leb-true size (length bs) p.0) (priors_cut total mode shift antennas n (take size bs) (drop size bs) l (All-drop Byte size bs all) p.1) in
    subst (λ (w : List ℕ). VectorsCut mode shift antennas (w ++ bs) l) (word_of a b lb) made

shaped : (mode shift antennas : ℕ) (bs : List ℕ) (l : Layout) → 1 ≤ mode → mode ≤ 10 → shift < 256 → 1 ≤ antennas → antennas ≤ 4 → VectorsCut mode shift antennas bs l
    → (2 ∷ mode ∷ shift ∷ antennas ∷ bs ≡ encode (contents_of l)) × Shape (contents_of l)
shaped mode shift antennas bs l ml mh sh al ah v = (
  cc (v.bytes, v.mode_is, v.shift_is, v.antennas_is),
  record {
    mode_low = rw v.mode_is ml;
    mode_high = rw v.mode_is mh;
    shift = rw v.shift_is sh;
    antennas_low = rw v.antennas_is al;
    antennas_high = rw v.antennas_is ah;
    count = v.count;
    vectors = v.shapes;
    prior_count = v.prior_count;
    prior_rule = v.prior_rule;
    priors = v.priors;
  },
)

antennas_cut : (total mode shift : ℕ) (bs : List ℕ) (l : Layout) → shift < 256 → AllByRecursion Byte bs → 1 ≤ mode → mode ≤ 10 → cut_antennas total mode shift bs ≡ Ok l
    → (2 ∷ mode ∷ shift ∷ bs ≡ encode (contents_of l)) × Shape (contents_of l)
antennas_cut total mode shift [] l ls all ml mh h = absurd (refused (cut_at total) l h)
antennas_cut total mode shift (d ∷ bs) l ls (ld, all) ml mh h =
    let p = unbroken (broken_antennas d) _ l h in
    let q = antennas_hold d p.0 in
    shaped mode shift d bs l ml mh ls q.0 q.1 (vectors_cut total mode shift d bs l all p.1)

pub cut_is_encoded : CutIsEncoded
cut_is_encoded [] l all h = absurd (refused (cut_at 0) l h)
cut_is_encoded (a ∷ []) l all h = absurd (refused (cut_at 1) l h)
cut_is_encoded (a ∷ b ∷ []) l all h = absurd (refused (cut_at 2) l h)
cut_is_encoded (a ∷ b ∷ c ∷ bs) l (la, (lb, (lc, all))) h =
    let p = unbroken (broken_settings a b) _ l h in
    let q = settings_hold a b p.0 in
    let e : a ≡ 2 = q.0 in
    rw e (antennas_cut _ b c bs l lc all q.1 q.2 p.1)

-- the lengths of what is cut

priors_whole : (total mode shift antennas n : ℕ) (records bs : List ℕ) (l : Layout) → length records ≡ records_size mode antennas n
    → cut_priors total mode shift antennas n records bs ≡ Ok l → Whole l
priors_whole total mode shift antennas n records [] l len h = absurd (refused (cut_at total) l h)
priors_whole total mode shift antennas n records (a ∷ []) l len h = absurd (refused (cut_at total) l h)
priors_whole total mode shift antennas n records (a ∷ b ∷ bs) l len h =
    let k = a * 256 + b in
    let p = passed (leb (2 * k) (length bs)) _ _ l h in
    let q = unbroken (broken_priors mode n (length records) k (length bs)) _ l p.1 in
    let r = priors_hold mode n (length records) k (length bs) q.0 in
    let ends : length bs ≡ 2 * k = r.1 in
    subst Whole (ok_same _ l q.1)
    (record {
      records = len;
      vectors = length-vectors_of n (vector_size antennas (channel_of mode antennas)) antennas records;
      priors = omega (arith, ends, length-signeds_of k bs ends);
    })

vectors_whole : (total mode shift antennas : ℕ) (bs : List ℕ) (l : Layout) → cut_vectors total mode shift antennas bs ≡ Ok l → Whole l
vectors_whole total mode shift antennas [] l h = absurd (refused (cut_at total) l h)
vectors_whole total mode shift antennas (a ∷ []) l h = absurd (refused (cut_at total) l h)
vectors_whole total mode shift antennas (a ∷ b ∷ bs) l h =
    let n = a * 256 + b in
    let size = records_size mode antennas n in
    let p = passed (leb size (length bs)) _ _ l h in
    priors_whole total mode shift antennas n (take size bs) (drop size bs) l (length-take-le size bs (leb-true size (length bs) p.0)) p.1

antennas_whole : (total mode shift : ℕ) (bs : List ℕ) (l : Layout) → cut_antennas total mode shift bs ≡ Ok l → Whole l
antennas_whole total mode shift [] l h = absurd (refused (cut_at total) l h)
antennas_whole total mode shift (d ∷ bs) l h =
    vectors_whole total mode shift d bs l (unbroken (broken_antennas d) _ l h).1

pub cut-whole : (bs : List ℕ) (l : Layout) → cut bs ≡ Ok l → Whole l
cut-whole [] l h = absurd (refused (cut_at 0) l h)
cut-whole (a ∷ []) l h = absurd (refused (cut_at 1) l h)
cut-whole (a ∷ b ∷ []) l h = absurd (refused (cut_at 2) l h)
cut-whole (a ∷ b ∷ c ∷ bs) l h =
    antennas_whole _ b c bs l (unbroken (broken_settings a b) _ l h).1

-- what an answer on the sections says of the file
module _ (bs : List ℕ) where
  pub whole_sections : (r : Result File Refusal) → MatchResult r (λ f. cut bs ≡ Ok (laid f)) (λ e. cut bs ≡ Err e) → made r (λ f. Whole (laid f))
  whole_sections (Ok f) h = cut-whole bs (laid f) h
  whole_sections (Err e) h = tt

  pub shaped_sections : (r : Result File Refusal) → Bytes bs → MatchResult r (λ f. cut bs ≡ Ok (laid f)) (λ e. cut bs ≡ Err e)
      → MatchResult r (λ f. Shaped bs (contents_of (laid f))) (λ _. (c : Contents) → Shaped bs c → ⊥)
  shaped_sections (Ok f) bytes h = cut_is_encoded bs (laid f) bytes h
  shaped_sections (Err e) bytes h =
      λ c w. let t = encoded_is_cut c w.1 in cc (t.1, w.0, h)
