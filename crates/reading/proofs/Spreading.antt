-- Telling symbol after symbol spreads a list of values, m to a symbol.
use Rattle.std.proofs.Common.{◌≡◌, ℕ, zero, suc, ◌+◌, ◌-◌, ◌*◌, ◌<◌, ◌≤◌, true, false, List, [], ◌∷◌, ◌++◌, map, length, take, drop, ℤ, nat_abs, Ok, sym, refl, ap, ◌∙◌, ap₂, subst, suc-mul, add_comm, zero-mul, add-one, arith}
use Rattle.std.specs.List.{prefix_len, AllByRecursion}
use Rattle.std.proofs.lemmas.List.{drop-drop, length-drop, length-take-le}
use Rattle.std.proofs.lemmas.Bool.{eq-eqb, le-leb}
use Rattle.std.proofs.lemmas.Bool.Decides.{nat_tests}
use Rattle.metric.specs.Exhaustive.{Symbol}
use Rattle.observation.specs.declared.Record.{Record}
use Rattle.observation.specs.Observed.{held}
use Rattle.protocol.specs.Verdicts.{Verdict, accepted, inside, up_to}
use Rattle.protocol.specs.Calls.{Placed, State, Outline, Call, tell, verdict, outline, at_symbol, told, spread, with_symbols, leaves}
use Rattle.protocol.specs.Stands.{Stands, placed_image, image, erased_record}
use Rattle.protocol.proofs.Fronts.{front_take, front_drop}
use Rattle.burst.specs.Public.{Called}
use Rattle.soft.proofs.Rows.{row_room}
use Rattle.burstfile.specs.Reading.{signeds_of}
use Rattle.burstfile.proofs.Walks.{halves}
use Rattle.reading.specs.Held.{told_all}
use Rattle.reading.proofs.Chunks.{chunk_within, chunk_here, chunk_after, chunk_row}
use Rattle.reading.proofs.Judging.{inside-within}

-- the first i symbols have their values
abbrev pub spread_to : {X : Type 0} → ℕ → ℕ → List (Placed X) → List ℤ → List (Placed X)
spread_to zero m ys zs = ys
spread_to (suc i) m [] zs = []
spread_to (suc i) m (y ∷ ys) zs = told (take m zs) y ∷ spread_to i m ys (drop m zs)

module _ {X : Type 0} (m : ℕ) where
  spread-step : (i : ℕ) (ys : List (Placed X)) (zs : List ℤ) → at_symbol (told (take m (drop (i * m) zs))) i (spread_to i m ys zs) ≡ spread_to (suc i) m ys zs
  spread-step zero [] zs = refl
  spread-step zero (y ∷ ys) zs = rw (zero-mul m)
  spread-step (suc i) [] zs = refl
  spread-step (suc i) (y ∷ ys) zs =
      let e : drop (suc i * m) zs ≡ drop (i * m) (drop m zs) = rw (drop-drop (i * m) m zs, suc-mul i m, add_comm (i * m) m) in
      ap (λ (r : List (Placed X)). told (take m zs) y ∷ r) (ap (λ (ws : List ℤ). at_symbol (told (take m ws)) i (spread_to i m ys (drop m zs))) e ∙ spread-step i ys (drop m zs))

  spread_count : (i : ℕ) (ys : List (Placed X)) (zs : List ℤ) → length (spread_to i m ys zs) ≡ length ys
  spread_count zero ys zs = refl
  spread_count (suc i) [] zs = refl
  spread_count (suc i) (y ∷ ys) zs = ap suc (spread_count i ys (drop m zs))

  spread_all : (i : ℕ) (ys : List (Placed X)) (zs : List ℤ) → length ys ≤ i → spread_to i m ys zs ≡ spread m ys zs
  spread_all zero [] zs le = refl
  spread_all zero (y ∷ ys) zs le = absurd (omega arith)
  spread_all (suc i) [] zs le = refl
  spread_all (suc i) (y ∷ ys) zs le = ap (λ (r : List (Placed X)). told (take m zs) y ∷ r) (spread_all i ys (drop m zs) (omega arith))

abbrev pub told_to : ℕ → State Record → List ℤ → State Record
told_to i k zs = with_symbols k (spread_to i k.meaning.m k.symbols zs)

pub told_start : (k : State Record) (zs : List ℤ) (i : ℕ) → i ≡ 0 → k ≡ told_to i k zs
told_start k zs i e = rw e

-- a telling of m values in range is accepted
tell_accepted : (o : Outline) (i : ℕ) (row : List ℤ) → i < o.count → o.out ≡ false → length row ≡ o.m → prefix_len inside row ≡ length row → verdict o (tell (i + 1) row) ≡ accepted
tell_accepted o i row lt idle len all =
    let a : up_to o.count (i + 1) ≡ true = grind (arith, nat_tests) in
    rw (a, idle, eq-eqb (length row) o.m len, eq-eqb (prefix_len inside row) (length row) all)

module _ (k₀ k k' : State Record) (m i : ℕ) (zs : List ℤ) (v : Verdict) (is : k ≡ told_to i k₀ zs) (wide : m ≡ k₀.meaning.m) (lt : i < length k₀.symbols) (idle : k₀.out ≡ false)
    (all : prefix_len inside zs ≡ length zs) (room : i * m + m ≤ length zs) (P : Called k (tell (i + 1) (take m (drop (i * m) zs))) v k') where
  row_length : length (take m (drop (i * m) zs)) ≡ m
  row_length = length-take-le m (drop (i * m) zs) (omega (arith, length-drop (i * m) zs))

  pub told-accepted : v ≡ Ok tt
  told-accepted =
      let n = spread_count k₀.meaning.m i k₀.symbols zs in
      P.reply
      ∙ (ap (λ (q : State Record). verdict (outline q) (tell (i + 1) (take m (drop (i * m) zs)))) is
      ∙ tell_accepted (outline (told_to i k₀ zs)) i (take m (drop (i * m) zs)) (omega (arith, n)) idle (row_length ∙ wide)
      (front_take inside m (drop (i * m) zs) (front_drop inside (i * m) zs all)))

  pub told-step : k' ≡ told_to (i + 1) k₀ zs
  told-step =
      let one : (i + 1) - 1 ≡ i = omega arith in
      let row : take m (drop (i * m) zs) ≡ take k₀.meaning.m (drop (i * k₀.meaning.m) zs) = ap (λ (n : ℕ). take n (drop (i * n) zs)) wide in
      P.kept
      ∙ (ap (λ (x : Verdict). leaves erased_record x k (tell (i + 1) (take m (drop (i * m) zs)))) told-accepted
      ∙ (ap (λ (q : State Record). with_symbols q (at_symbol (told (take m (drop (i * m) zs))) ((i + 1) - 1) q.symbols)) is
      ∙ ap (λ (ys : List (Placed Record)). with_symbols k₀ ys)
      (ap₂ (λ (j : ℕ) (r : List ℤ). at_symbol (told r) j (spread_to i k₀.meaning.m k₀.symbols zs)) one row
      ∙ (spread-step k₀.meaning.m i k₀.symbols zs ∙ ap (λ (j : ℕ). spread_to j k₀.meaning.m k₀.symbols zs) (sym (add-one i))))))

-- n chunks of m values
pub in_chunks : (l n m w : ℕ) → l ≡ 2 * (n * w) → m ≡ w → l ≡ n * (2 * m)
in_chunks l n m w e is = rw (e, is) (grind arith)

-- the values of symbol i lie within the file's
fits : (bs : List ℕ) (n m i : ℕ) → length bs ≡ n * (2 * m) → i < n → i * m + m ≤ length (signeds_of bs)
fits bs n m i e lt =
    let r : i * m + m ≤ n * m = row_room n m i lt in
    let t : n * (2 * m) ≡ 2 * (n * m) = grind arith in
    let h = halves bs in
    omega (arith, h.1)

-- a turn of the walk: chunk i of the bytes is told to symbol i
module _ (k₀ k k' : State Record) (m i j : ℕ) (bs rest x r : List ℕ) (v : Verdict) (is : k ≡ told_to i k₀ (signeds_of bs)) (wide : m ≡ k₀.meaning.m) (idle : k₀.out ≡ false)
    (all : prefix_len inside (signeds_of bs) ≡ length (signeds_of bs)) (whole : length bs ≡ length k₀.symbols * (2 * m)) (left : rest ≡ drop (i * (2 * m)) bs)
    (some : 0 < 2 * m) (next : rest ≡ x ++ r) (len : length x ≡ 2 * m) (at : j ≡ i) (P : Called k (tell (j + 1) (signeds_of x)) v k') where
  pub told_turn : (v ≡ Ok tt) × (k' ≡ told_to (i + 1) k₀ (signeds_of bs)) × (r ≡ drop ((i + 1) * (2 * m)) bs)
  told_turn =
      let zs = signeds_of bs in
      let n = length k₀.symbols in
      let lt : i < n = chunk_within n (2 * m) i bs rest whole left x r some next len in
      let here : x ≡ take (2 * m) (drop (i * (2 * m)) bs) = chunk_here n (2 * m) i bs rest whole left x r some next len in
      let call = ap₂ (λ (a : ℕ) (row : List ℤ). tell (a + 1) row) at (chunk_row m i bs x here) in
      let Q = subst (λ (c : Call). Called k c v k') call P in (
        told-accepted k₀ k k' m i zs v is wide lt idle all (fits bs n m i whole lt) Q,
        told-step k₀ k k' m i zs v is wide lt idle all (fits bs n m i whole lt) Q,
        chunk_after n (2 * m) i bs rest whole left x r some next len,
      )

-- past the last symbol
pub told_end : (k₀ : State Record) (i : ℕ) (zs : List ℤ) → 0 < length zs → length k₀.symbols ≤ i → told_to i k₀ zs ≡ told_all k₀ zs
told_end k₀ i [] some le = absurd (omega arith)
told_end k₀ i (z ∷ zs) some le = ap (λ (ys : List (Placed Record)). with_symbols k₀ ys) (spread_all k₀.meaning.m i k₀.symbols (z ∷ zs) le)

-- what is kept and what it stands for are told alike
spread-image : {X Y : Type 0} (f : X → Y) (m : ℕ) (ys : List (Placed X)) (zs : List ℤ) → spread m (map (placed_image f) ys) zs ≡ map (placed_image f) (spread m ys zs)
spread-image f m [] zs = refl
spread-image f m (y ∷ ys) zs = ap (λ r. record { symbol = f y.symbol; priors = take m zs } ∷ r) (spread-image f m ys (drop m zs))

pub told-stands : (k : State Record) (s : State Symbol) (zs : List ℤ) → Stands k s → Stands (told_all k zs) (told_all s zs)
told-stands k s [] h = h
told-stands k s (z ∷ zs) h =
    ap (λ (q : State Record). told_all q (z ∷ zs)) h
    ∙ ap (λ (ys : List (Placed Record)). with_symbols (image held s) ys) (spread-image held s.meaning.m s.symbols (z ∷ zs))

-- values within the range of a file are inside that of a burst
pub all_inside : (zs : List ℤ) → AllByRecursion (λ z. nat_abs z ≤ 8191) zs → prefix_len inside zs ≡ length zs
all_inside [] h = refl
all_inside (z ∷ zs) h =
    let t : inside z ≡ true = inside-within z ∙ le-leb (nat_abs z) 8191 h.0 in
    rw t (omega (arith, all_inside zs h.1))

-- telling leaves all else as it stood
spread-length : {X : Type 0} (m : ℕ) (ys : List (Placed X)) (zs : List ℤ) → length (spread m ys zs) ≡ length ys
spread-length m [] zs = refl
spread-length m (y ∷ ys) zs = ap suc (spread-length m ys (drop m zs))

pub told_count : {X : Type 0} (k : State X) (zs : List ℤ) → length (told_all k zs).symbols ≡ length k.symbols
told_count k [] = refl
told_count k (z ∷ zs) = spread-length k.meaning.m k.symbols (z ∷ zs)

pub told-idle : {X : Type 0} (k : State X) (zs : List ℤ) → ((told_all k zs).out ≡ k.out) × ((told_all k zs).given ≡ k.given)
told-idle k [] = (refl, refl)
told-idle k (z ∷ zs) = (refl, refl)
