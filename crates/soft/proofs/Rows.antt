-- The rows of a sheet, one symbol after another.
use Rattle.std.proofs.Common.{◌≡◌, ℕ, zero, suc, ◌+◌, ◌*◌, ◌<◌, ◌≤◌, true, List, [], ◌∷◌, ◌++◌, length, get_or, take, drop, ℤ, pos, negsuc, nat_abs, sym, refl, ap, ◌∙◌, ap₂, append_assoc, not-suc-le-zero, suc-mul, mul-le-mul, arith}
use lib.Signed.{le_z}
use Rattle.std.specs.List.{flat_map, prefix_len, AllByRecursion}
use Rattle.std.proofs.lemmas.List.{length-append, length-take-le, take_at, drop_at, drop-drop, take_more, take_all, drop_all, flat_map_more}
use Rattle.std.proofs.lemmas.Grind.{common_steps}
use Rattle.std.proofs.lemmas.Int.{ints}
use Rattle.std.proofs.lemmas.Bool.{and_parts}
use Rattle.observation.specs.declared.Record.{Record}
use Rattle.observation.specs.Observed.{Measured}
use Rattle.observation.specs.Sizes.{measured}
use Rattle.observation.proofs.Sizes.{measured_is}
use Rattle.protocol.specs.Verdicts.{inside}
use Rattle.protocol.specs.Calls.{Placed, of_symbol}
use Rattle.protocol.proofs.Fronts.{front_all, front_at, front_take, front_drop}
use Rattle.table.specs.Kept.{paired, blank}
use Rattle.table.proofs.Pairs.{length-paired}
use Rattle.soft.specs.declared.detector.Detector.{Detector}
use Rattle.soft.specs.Seen.{seen, seen_at}

-- a symbol's values end within the n symbols'
pub row_room : (n m i : ℕ) → i < n → i * m + m ≤ n * m
row_room n m i h =
    let e : suc i * m ≡ i * m + m = omega (arith, suc-mul i m) in
    let g : suc i * m ≤ n * m = mul-le-mul h (let r : m ≤ m = omega arith in r) in
    omega arith

pub table_room : (n m : ℕ) → n ≤ 128 → m ≤ 8 → n * m ≤ 1024
table_room n m a b = mul-le-mul {n₂ = 128} {m₂ = 8} a b

-- and within the table
pub row_end : (i m n : ℕ) → i < n → n ≤ 128 → m ≤ 8 → (i + 1) * m ≤ 1024
row_end i m n h few small = table_room (i + 1) m (omega arith) small

-- a value that is in range has a size of 8191 at most
in_size : (z : ℤ) → inside z ≡ true → nat_abs z ≤ 8191
in_size z h =
    let p = and_parts (le_z (negsuc 8190) z) (le_z z (pos 8191)) h in
    grind (arith, ints)

pub row_in_size : (at m : ℕ) (zs : List ℤ) → prefix_len inside zs ≡ length zs → AllByRecursion (λ x. nat_abs x ≤ 8191) (take m (drop at zs))
row_in_size at m zs h = front_all inside (λ x. nat_abs x ≤ 8191) in_size _ (front_take inside m (drop at zs) (front_drop inside at zs h))

pub record_fits : (rs xs : List Record) (i : ℕ) (d : Record) → xs ≡ rs → i < length rs → prefix_len measured rs ≡ length rs → Measured (get_or xs i d)
record_fits rs xs i d e l h = rw e (measured_is _ (front_at measured rs i d l h))

-- a symbol of a table
paired_at : (m : ℕ) (rs : List Record) (zs : List ℤ) (i : ℕ) (d : Placed Record) → i < length rs → get_or (paired m rs zs) i d ≡ record { symbol = get_or rs i blank; priors = take m (drop (i * m) zs) }
paired_at m [] zs i d h = absurd (not-suc-le-zero h)
paired_at m (r ∷ rs) zs zero d h = let z : 0 ≡ 0 * m = omega arith in ap (λ k. record { symbol = r; priors = take m (drop k zs) }) z
paired_at m (r ∷ rs) zs (suc i) d h =
    let s : m + i * m ≡ suc i * m = omega (arith, suc-mul i m) in
    paired_at m rs (drop m zs) i d (omega arith)
    ∙ ap (λ k. record { symbol = get_or rs i blank; priors = take m k }) (drop-drop (i * m) m zs ∙ ap (λ k. drop k zs) s)

pub seen_is : (d : Detector) (i : ℕ) → i < length d.table.now.records.items → get_or (seen d).symbols i (seen_at d i) ≡ seen_at d i
seen_is d i h = paired_at d.chart.m d.table.now.records.items d.table.now.priors i (seen_at d i) h

pub seen_count : (d : Detector) → length (seen d).symbols ≡ length d.table.now.records.items
seen_count d = length-paired d.chart.m d.table.now.records.items d.table.now.priors

of_symbol_at : {X Y : Type 0} (g : X → Y) (z : Y) (i : ℕ) (xs : List X) (d : X) → i < length xs → of_symbol g z i xs ≡ g (get_or xs i d)
of_symbol_at g z i [] d h = absurd (not-suc-le-zero h)
of_symbol_at g z zero (x ∷ xs) d h = refl
of_symbol_at g z (suc i) (x ∷ xs) d h = of_symbol_at g z i xs d (omega arith)

-- what g gives of a symbol
pub seen_by : {Y : Type 0} (g : Placed Record → Y) (z : Y) (d : Detector) (i : ℕ) → i < length d.table.now.records.items → g (seen_at d i) ≡ of_symbol g z i (seen d).symbols
seen_by g z d i h = sym (of_symbol_at g z i (seen d).symbols (seen_at d i) (omega (arith, seen_count d)) ∙ ap g (seen_is d i h))

module _ {X Y : Type 0} (row : X → List Y) (m : ℕ) (wide : (x : X) → length (row x) ≡ m) where
  rows_length : (xs : List X) → length (flat_map row xs) ≡ length xs * m
  rows_length [] = let e : 0 ≡ 0 * m = omega arith in e
  rows_length (x ∷ xs) = length-append (row x) (flat_map row xs) ∙ omega (arith, wide x, rows_length xs, suc-mul (length xs) m)

  -- one row is written over a sheet that holds the rows before it
  pub row_more : (xs : List X) (x : X) (s₀ s r : List Y) (i k : ℕ) → i < length xs → k ≡ m → get_or xs i x ≡ x → r ≡ row x
      → s ≡ flat_map row (take i xs) ++ drop (i * m) s₀
      → take (i * m) s ++ (r ++ drop k (drop (i * m) s)) ≡ flat_map row (take (i + 1) xs) ++ drop ((i + 1) * m) s₀
  row_more xs x s₀ s r i k h km at f e =
      let p = flat_map row (take i xs) in
      let n : length p ≡ i * m = rows_length (take i xs) ∙ ap (λ j. j * m) (length-take-le i xs (omega arith)) in
      let b : drop k (drop (i * m) s) ≡ drop ((i + 1) * m) s₀ =
      ap₂ (λ j l. drop j l) km (ap (drop (i * m)) e ∙ drop_at p (drop (i * m) s₀) (i * m) n)
      ∙ drop-drop m (i * m) s₀ ∙ ap (λ j. drop j s₀) (let t : i * m + m ≡ (i + 1) * m = omega (arith, suc-mul i m) in t) in
      ap₂ (λ y z. y ++ (r ++ z)) (ap (take (i * m)) e ∙ take_at p (drop (i * m) s₀) (i * m) n) b
      ∙ sym (append_assoc p r (drop ((i + 1) * m) s₀))
      ∙ ap (λ y. y ++ drop ((i + 1) * m) s₀) (ap (λ y. p ++ y) f ∙ flat_map_more row [] (take i xs) x ∙ ap (flat_map row) (ap (λ y. take i xs ++ (y ∷ [])) (sym at) ∙ sym (take_more xs i x h)))

  -- all rows are written
  pub rows_all : (xs : List X) (s₀ : List Y) (i : ℕ) → i ≡ length xs → length s₀ ≡ length xs * m → flat_map row (take i xs) ++ drop (i * m) s₀ ≡ flat_map row xs
  rows_all xs s₀ i e h = rw (e, take_all (length xs) xs (omega arith), drop_all (length xs * m) s₀ (omega arith)) (grind (arith, common_steps))
