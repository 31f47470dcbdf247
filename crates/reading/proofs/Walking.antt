-- The walk over the records: what is placed so far, and what is left of the file.
use Rattle.std.proofs.Common.{◌≡◌, ℕ, zero, suc, ◌+◌, ◌-◌, ◌*◌, ◌<◌, ◌≤◌, Bool, true, false, cond, leb, List, [], ◌∷◌, ◌++◌, map, length, get_or, take, drop, Some, None, Ok, Err, Option, sym, refl, ap, ◌∙◌, subst, add-one, arith, length-append, drop-cons}
use Rattle.std.specs.List.{AllByRecursion}
use Rattle.std.proofs.lemmas.List.{length-map, drop_all}
use Rattle.refusal.specs.declared.Refusal.{Refusal}
use Rattle.refusal.specs.declared.Cause.TheVariants.{Shift}
use Rattle.constellation.specs.Meaning.{Meaning}
use Rattle.metric.specs.Exhaustive.{Symbol}
use Rattle.observation.specs.declared.Sample.{Sample}
use Rattle.observation.specs.declared.Record.{Record}
use Rattle.observation.specs.Observed.{held, symbol_of}
use Rattle.protocol.specs.Verdicts.{Verdict, accepted, need}
use Rattle.protocol.specs.Placings.{OpenState, opened, place_verdict, place_after, placed_symbols, placed_reference}
use Rattle.protocol.specs.Stands.{StandsOpen, open_image}
use Rattle.burst.specs.Public.{PlacedBy}
use Rattle.burstfile.specs.declared.refused.FileRefusal.{FileRefusal}
use Rattle.burstfile.specs.Refused.{in_record}
use Rattle.burstfile.specs.Format.{Vector, VectorShape, Contents, Shape, channel_of, symbols_of}
use Rattle.burstfile.specs.Reading.{Layout, size_of, vector_of, contents_of}
use Rattle.burstfile.specs.Values.{vector_fault, vectors_fault}
use Rattle.burstfile.proofs.Numbered.{record_passed, record_refused, records_passed}
use Rattle.burstfile.proofs.Trips.{length-vectors_of}
use Rattle.burstfile.proofs.Walks.{vector-at}
use Rattle.reading.specs.Held.{placing_of, placed_all}
use Rattle.reading.proofs.Chunks.{chunk_within, chunk_here, chunk_after}
use Rattle.reading.proofs.Judging.{RefBy, placing_by, verdict_of, none_of, some_of_lem, place-judged, samples_count}

-- i records of the contents are placed, from o₀ on; k is what the burst keeps
pub record Along (C : Contents) (o₀ : OpenState Symbol) (i : ℕ) (k : OpenState Record) : Type 0 where
  pub state : OpenState Symbol
  pub stands : StandsOpen k state
  pub left : placed_all C.mode state (drop i C.vectors) ≡ placed_all C.mode o₀ C.vectors
  pub count : length state.symbols ≡ symbols_of C.mode i
  pub refers : RefBy (leb C.mode 8) C.antennas i state.reference
  pub faults : vectors_fault C.mode (i + 1) (drop i C.vectors) ≡ vectors_fault C.mode 1 C.vectors

no_reference : (b : Bool) (a : ℕ) → RefBy b a 0 None
no_reference true a = tt
no_reference false a = refl

no_symbols : (b : Bool) → 0 ≡ cond b 0 (0 - 1)
no_symbols true = refl
no_symbols false = refl

pub along_start : (C : Contents) (M : Meaning) (number s : ℕ) (k : OpenState Record) → StandsOpen k (opened M number s) → Along C (opened M number s) 0 k
along_start C M number s k h = record {
  state = opened M number s;
  stands = h;
  left = refl;
  count = no_symbols (leb C.mode 8);
  refers = no_reference (leb C.mode 8) C.antennas;
  faults = refl;
}

all_at : {X : Type 0} (P : X → Type 0) (xs : List X) (i : ℕ) (d : X) → AllByRecursion P xs → i < length xs → P (get_or xs i d)
all_at P [] i d h lt = absurd (omega arith)
all_at P (x ∷ xs) zero d h lt = h.0
all_at P (x ∷ xs) (suc i) d h lt = all_at P xs i d h.1 (omega arith)

more_symbols : {X : Type 0} (made : List Sample → List Sample → ℕ → X) (b : Bool) (a i : ℕ) (xs : List X) (kept : Option (List Sample)) (v : Vector)
    → length xs ≡ cond b i (i - 1) → RefBy b a i kept → length (placed_symbols made xs kept (placing_by b v)) ≡ cond b (i + 1) ((i + 1) - 1)
more_symbols made true a i xs kept v e r = simp length-append (omega arith)
more_symbols made false a i xs None v e r = omega arith
more_symbols made false a i xs (Some h) v e r = simp length-append (omega (arith, r.0))

next_reference : (b : Bool) (a i : ℕ) (kept : Option (List Sample)) (v : Vector) → length v.y ≡ a → RefBy b a (i + 1) (placed_reference kept (placing_by b v))
next_reference true a i kept v e = tt
next_reference false a i kept v e = (omega arith, samples_count v.y ∙ e)

module _ (C : Contents) (s : Shape C) (o₀ : OpenState Symbol) (i : ℕ) (k k' : OpenState Record) (v : Vector) (r : Verdict)
    (lt : i < length C.vectors) (is : v ≡ get_or C.vectors i v) (A : Along C o₀ i k) (P : PlacedBy k (placing_of C.mode v) r k') where
  shaped : VectorShape C.antennas (channel_of C.mode C.antennas) v
  shaped =
      subst (λ (w : Vector). VectorShape C.antennas (channel_of C.mode C.antennas) w) (sym is)
      (all_at (VectorShape C.antennas (channel_of C.mode C.antennas)) C.vectors i v s.vectors lt)

  reply : r ≡ verdict_of (vector_fault C.mode (i + 1) v)
  reply =
      P.reply
      ∙ (ap (λ (q : OpenState Record). place_verdict (length q.symbols) q.reference (placing_of C.mode v)) A.stands
      ∙ place-judged C.mode (length (map held A.state.symbols)) i C.antennas A.state.reference v shaped s.antennas_low s.antennas_high (length-map A.state.symbols held ∙ A.count) A.refers)

  here : drop i C.vectors ≡ v ∷ drop (i + 1) C.vectors
  here = let d = drop-cons C.vectors i v lt in let e = add-one i in cc

  pub along_step : r ≡ Ok tt → Along C o₀ (i + 1) k'
  along_step e = record {
    state = place_after symbol_of accepted A.state (placing_of C.mode v);
    stands = subst (λ (x : Verdict). StandsOpen k' (place_after symbol_of x A.state (placing_of C.mode v))) e (P.stands A.state A.stands);
    left = sym (ap (λ (vs : List Vector). placed_all C.mode A.state vs) here) ∙ A.left;
    count = more_symbols symbol_of (leb C.mode 8) C.antennas i A.state.symbols A.state.reference v A.count A.refers;
    refers = next_reference (leb C.mode 8) C.antennas i A.state.reference v shaped.y;
    faults = sym (record_passed C.mode C.vectors i v lt is (none_of _ (sym reply ∙ e))) ∙ A.faults;
  }

  pub along_refused : (f : Refusal) → r ≡ Err f → vectors_fault C.mode 1 C.vectors ≡ Some (in_record (i + 1) f)
  along_refused f e = sym A.faults ∙ record_refused C.mode C.vectors i v lt is f (some_of_lem _ f (sym reply ∙ e))

-- a turn of the walk: the chunk after i others is record i of the file
module _ (l : Layout) (s : Shape (contents_of l)) (o₀ : OpenState Symbol) (size i j : ℕ) (k k' : OpenState Record) (rest x r : List ℕ) (v : Vector) (res : Verdict)
    (sized : size ≡ size_of l) (whole : length l.records ≡ l.count * size_of l) (left : rest ≡ drop (i * size) l.records) (next : rest ≡ x ++ r) (len : length x ≡ size) (at : j ≡ i)
    (is : v ≡ vector_of l.antennas x) (A : Along (contents_of l) o₀ i k) (P : PlacedBy k (placing_of l.mode v) res k') where
  whole_chunks : length l.records ≡ l.count * size
  whole_chunks = whole ∙ ap (λ (n : ℕ). l.count * n) (sym sized)

  some : 0 < size
  some = omega (arith, sized)

  lt : i < l.count
  lt = chunk_within l.count size i l.records rest whole_chunks left x r some next len

  counted : i < length (contents_of l).vectors
  counted = omega (arith, lt, length-vectors_of l.count (size_of l) l.antennas l.records)

  record_here : v ≡ get_or (contents_of l).vectors i v
  record_here =
      is ∙ (ap (vector_of l.antennas) (chunk_here l.count size i l.records rest whole_chunks left x r some next len ∙ ap (λ (n : ℕ). take n (drop (i * n) l.records)) sized)
      ∙ sym (vector-at l.count i (size_of l) l.antennas l.records v lt))

  pub record_turn : (i < l.count) × (r ≡ drop ((i + 1) * size) l.records) × (res ≡ Ok tt → Along (contents_of l) o₀ (i + 1) k')
      × ((f : Refusal) → res ≡ Err f → vectors_fault l.mode 1 (contents_of l).vectors ≡ Some (in_record (j + 1) f))
  record_turn = (
    lt,
    chunk_after l.count size i l.records rest whole_chunks left x r some next len,
    along_step (contents_of l) s o₀ i k k' v res counted record_here A P,
    λ f e. rw at (along_refused (contents_of l) s o₀ i k k' v res counted record_here A P f e),
  )

-- past the last record
pub along_end : (C : Contents) (o₀ : OpenState Symbol) (i : ℕ) (k : OpenState Record) → Along C o₀ i k → length C.vectors ≡ i
    → StandsOpen k (placed_all C.mode o₀ C.vectors) × (length (placed_all C.mode o₀ C.vectors).symbols ≡ symbols_of C.mode (length C.vectors)) × (vectors_fault C.mode 1 C.vectors ≡ None)
along_end C o₀ i k A e =
    let le : length C.vectors ≤ i = omega arith in
    let d : drop i C.vectors ≡ [] = drop_all i C.vectors le in
    let same : A.state ≡ placed_all C.mode o₀ C.vectors = sym (ap (λ (vs : List Vector). placed_all C.mode A.state vs) d) ∙ A.left in (
      A.stands ∙ ap (λ (o : OpenState Symbol). open_image held o) same,
      sym (ap (λ (o : OpenState Symbol). length o.symbols) same) ∙ (A.count ∙ ap (symbols_of C.mode) (sym e)),
      sym A.faults ∙ records_passed C.mode C.vectors i le,
    )

-- the shift is tested first
pub shift_passed : (b : Bool) (x y : Option FileRefusal) → need b Shift 0 accepted ≡ accepted → cond b x y ≡ x
shift_passed true x y h = refl
shift_passed false x y h = cc
