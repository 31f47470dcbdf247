-- What a placing is refused for is what the file's rules say of the record.
use Rattle.std.proofs.Common.{◌≡◌, ℕ, suc, ◌+◌, ◌-◌, ◌≤◌, Bool, true, false, cond, ◌&&◌, eqb, ltb, leb, List, [], ◌∷◌, length, ℤ, Some, None, Ok, Err, Option, Result, refl, ap, ◌∙◌, zero-add, arith}
use lib.Dec.{eqb-zero-suc}
use Rattle.std.specs.List.{prefix_len}
use Rattle.std.proofs.lemmas.List.{length-map}
use Rattle.std.proofs.lemmas.Int.{ints}
use Rattle.std.proofs.lemmas.Bool.Decides.{nat_tests}
use Rattle.refusal.specs.declared.Cause.TheVariants.{Sample as BadSample, Weight, Full}
use Rattle.refusal.specs.declared.Refusal.{Refusal}
use Rattle.observation.specs.declared.Sample.{Sample}
use Rattle.protocol.specs.Verdicts.{Verdict, accepted, need, up_to, inside}
use Rattle.protocol.specs.Placings.{Placing, coherent, differential, part, fine, place_verdict}
use Rattle.burstfile.specs.Format.{Pair, Vector, VectorShape, channel_of, symbols_of}
use Rattle.burstfile.specs.Values.{or_else, fault_at, within, pairs_fault, vector_fault}
use Rattle.reading.specs.Held.{sample_of, samples_of, placing_of}

-- accepted where there is no fault
abbrev pub verdict_of : Option Refusal → Verdict
verdict_of None = accepted
verdict_of (Some f) = Err f

pub none_of : (o : Option Refusal) → verdict_of o ≡ Ok tt → o ≡ None
none_of None e = refl
none_of (Some f) e = cc

pub some_of_lem : (o : Option Refusal) (f : Refusal) → verdict_of o ≡ Err f → o ≡ Some f
some_of_lem None f e = cc
some_of_lem (Some g) f e = cc

-- no answer is both
pub apart : {X : Type 0} (r : Result X Refusal) (x : X) (f : Refusal) → r ≡ Ok x → r ≡ Err f → ⊥
apart r x f p q = cc

-- the two tests of a part are one
part-within : (z : ℤ) → part z ≡ within 1023 z
part-within z = grind (arith, ints, nat_tests)

pub inside-within : (z : ℤ) → inside z ≡ within 8191 z
inside-within z = grind (arith, ints, nat_tests)

eqb-suc : (a n : ℕ) → eqb (1 + a) (suc n) ≡ eqb a n
eqb-suc a n = grind (arith, nat_tests)

-- one sample more at the front
go : (b d : Bool) (a n k : ℕ) (next : Verdict) (f o : Option Refusal) → need (eqb a n) BadSample (a + (k + 1)) next ≡ verdict_of (or_else f o)
    → need (eqb (cond (b && d) (1 + a) 0) (suc n)) BadSample (cond (b && d) (1 + a) 0 + k) next
    ≡ verdict_of (or_else (cond b (cond d f (Some (fault_at BadSample k))) (Some (fault_at BadSample k))) o)
go true true a n k next f o e =
    let p : (1 + a) + k ≡ a + (k + 1) = omega arith in
    rw (eqb-suc a n, p) e
go true false a n k next f o e = rw (eqb-zero-suc n, zero-add k)
go false true a n k next f o e = rw (eqb-zero-suc n, zero-add k)
go false false a n k next f o e = rw (eqb-zero-suc n, zero-add k)

each_pairs : (k : ℕ) (ps : List Pair) (next : Verdict) (o : Option Refusal) → next ≡ verdict_of o
    → need (eqb (prefix_len fine (samples_of ps)) (length (samples_of ps))) BadSample (prefix_len fine (samples_of ps) + k) next ≡ verdict_of (or_else (pairs_fault k ps) o)
each_pairs k [] next o e = e
each_pairs k (p ∷ ps) next o e =
    rw (part-within p.re, part-within p.im)
    (go (within 1023 p.re) (within 1023 p.im) (prefix_len fine (samples_of ps)) (length (samples_of ps)) k next (pairs_fault (k + 1) ps) o (each_pairs (k + 1) ps next o e))

-- the weight and the room
ends : (b d : Bool) → need b Weight 0 (need d Full 0 accepted) ≡ verdict_of (cond b (cond d None (Some (fault_at Full 0))) (Some (fault_at Weight 0)))
ends true true = refl
ends true false = refl
ends false d = refl

-- the reference of a differential mode: none before the first record, and a vector of a antennas after it
abbrev pub RefBy : Bool → ℕ → ℕ → Option (List Sample) → Type 0
RefBy true a i kept = Unit {0}
RefBy false a i None = i ≡ 0
RefBy false a i (Some h) = (1 ≤ i) × (length h ≡ a)

abbrev pub placing_by : Bool → Vector → Placing
placing_by b v = cond b (coherent (samples_of v.y) (samples_of v.h) v.weight) (differential (samples_of v.y) v.weight)

abbrev fault_by : Bool → ℕ → Vector → Option Refusal
fault_by b number v =
    or_else (pairs_fault 1 v.y) (or_else (pairs_fault 1 v.h)
    (cond (leb v.weight 1023) (cond (leb number (cond b 128 129)) None (Some (fault_at Full 0))) (Some (fault_at Weight 0))))

few : (a n : ℕ) → 1 ≤ a → a ≤ 4 → n ≡ a → up_to 4 n ≡ true
few a n low high e = grind (arith, nat_tests)

alike : (a n l : ℕ) → 1 ≤ a → a ≤ 4 → n ≡ a → l ≡ a → (up_to 4 n && eqb l n) ≡ true
alike a n l low high e f = grind (arith, nat_tests)

no_h : (ps : List Pair) → length ps ≡ 0 → ps ≡ []
no_h [] e = refl
no_h (p ∷ ps) e = absurd (omega arith)

pub samples_count : (ps : List Pair) → length (samples_of ps) ≡ length ps
samples_count ps = length-map ps sample_of

judged : (b : Bool) (n i a : ℕ) (kept : Option (List Sample)) (v : Vector) → length v.y ≡ a → length v.h ≡ cond b a 0 → 1 ≤ a → a ≤ 4
    → n ≡ cond b i (i - 1) → RefBy b a i kept → place_verdict n kept (placing_by b v) ≡ verdict_of (fault_by b (i + 1) v)
judged true n i a kept v y h low high e r =
    let t : (up_to 4 (length (samples_of v.y)) && eqb (length (samples_of v.h)) (length (samples_of v.y))) ≡ true
    = alike a (length (samples_of v.y)) (length (samples_of v.h)) low high (samples_count v.y ∙ y) (samples_count v.h ∙ h) in
    let s : ltb n 128 ≡ leb (i + 1) 128 = grind (arith, nat_tests) in
    rw (t, s) (each_pairs 1 v.y _ _ (each_pairs 1 v.h _ _ (ends (leb v.weight 1023) (leb (i + 1) 128))))
judged false n i a None v y h low high e r =
    let t : up_to 4 (length (samples_of v.y)) ≡ true = few a (length (samples_of v.y)) low high (samples_count v.y ∙ y) in
    let s : true ≡ leb (i + 1) 129 = grind (arith, nat_tests) in
    rw (t, no_h v.h h) (each_pairs 1 v.y _ _ (ap (λ d. need (leb v.weight 1023) Weight 0 (need d Full 0 accepted)) s ∙ ends (leb v.weight 1023) (leb (i + 1) 129)))
judged false n i a (Some g) v y h low high e r =
    let t : (up_to 4 (length (samples_of v.y)) && eqb (length g) (length (samples_of v.y))) ≡ true
    = alike a (length (samples_of v.y)) (length g) low high (samples_count v.y ∙ y) r.1 in
    let s : ltb n 128 ≡ leb (i + 1) 129 = grind (arith, nat_tests, r.0) in
    rw (t, s, no_h v.h h) (each_pairs 1 v.y _ _ (ends (leb v.weight 1023) (leb (i + 1) 129)))

-- a record is placed, or refused, as the file's rules have it
pub place-judged : (mode n i a : ℕ) (kept : Option (List Sample)) (v : Vector) → VectorShape a (channel_of mode a) v → 1 ≤ a → a ≤ 4
    → n ≡ symbols_of mode i → RefBy (leb mode 8) a i kept → place_verdict n kept (placing_of mode v) ≡ verdict_of (vector_fault mode (i + 1) v)
place-judged mode n i a kept v s low high e r = judged (leb mode 8) n i a kept v s.y s.h low high e r
