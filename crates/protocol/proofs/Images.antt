-- What is kept of the symbols answers as the symbols do: every call commutes with taking what is kept.
use Rattle.std.proofs.Common.{◌≡◌, ℕ, zero, suc, ◌+◌, ◌-◌, ◌<◌, ◌≤◌, false, cond, List, [], ◌∷◌, ◌++◌, map, get_or, take, drop, replicate, ℤ, pos, ◌+ℤ◌, Some, None, Ok, Err, Option, sym, refl, ap, ap₂, arith}
use lib.Signed.{lt_z}
use Rattle.std.specs.List.{range_with_len, flat_map}
use Rattle.std.proofs.lemmas.List.{length-map}
use Rattle.constellation.specs.Meaning.{Meaning}
use Rattle.observation.specs.declared.Sample.{Sample}
use Rattle.protocol.specs.Verdicts.{Verdict}
use Rattle.protocol.specs.Placings.{OpenState, Placing, coherent, differential, placed_symbols, placed_reference, place_after}
use Rattle.protocol.specs.Calls.{Placed, State, Call, tell, taking, answer, withdraw, erase, read, decide, outline, at_symbol, of_symbol, closed, with_symbols, told, spread, after, leaves, extrinsics, sheet_of, looked, reading, decided, bits_of}
use Rattle.protocol.specs.Stands.{open_image, placed_image, image}

module _ {X Y : Type 0} (f : X → Y) where
  pub map_more : (xs ys : List X) → map f (xs ++ ys) ≡ map f xs ++ map f ys
  map_more [] ys = refl
  map_more (x ∷ xs) ys = ap (λ zs. f x ∷ zs) (map_more xs ys)

  -- the same symbols are placed
  pub placed_image_lem : (made : List Sample → List Sample → ℕ → X) (xs : List X) (kept : Option (List Sample)) (p : Placing)
      → placed_symbols (λ y h w. f (made y h w)) (map f xs) kept p ≡ map f (placed_symbols made xs kept p)
  placed_image_lem made xs kept (coherent y h w) = sym (map_more xs (made y h w ∷ []))
  placed_image_lem made xs None (differential y w) = refl
  placed_image_lem made xs (Some h) (differential y w) = sym (map_more xs (made y h w ∷ []))

  pub place-image : (made : List Sample → List Sample → ℕ → X) (r : Verdict) (o : OpenState X) (p : Placing)
      → place_after (λ y h w. f (made y h w)) r (open_image f o) p ≡ open_image f (place_after made r o p)
  place-image made (Ok a) o p = ap (λ xs. record { meaning = o.meaning; number = o.number; shift = o.shift; symbols = xs; reference = placed_reference o.reference p }) (placed_image_lem made o.symbols o.reference p)
  place-image made (Err e) o p = refl

  image_symbols : (g : Placed Y → Placed Y) (h : Placed X → Placed X) → ((y : Placed X) → g (placed_image f y) ≡ placed_image f (h y)) →
      (i : ℕ) (ys : List (Placed X)) → at_symbol g i (map (placed_image f) ys) ≡ map (placed_image f) (at_symbol h i ys)
  image_symbols g h e i [] = refl
  image_symbols g h e zero (y ∷ ys) = ap (λ z. z ∷ map (placed_image f) ys) (e y)
  image_symbols g h e (suc i) (y ∷ ys) = ap (λ zs. placed_image f y ∷ zs) (image_symbols g h e i ys)

  spread-image : (m : ℕ) (ys : List (Placed X)) (zs : List ℤ) → spread m (map (placed_image f) ys) zs ≡ map (placed_image f) (spread m ys zs)
  spread-image m [] zs = refl
  spread-image m (y ∷ ys) zs = ap (λ r. record { symbol = f y.symbol; priors = take m zs } ∷ r) (spread-image m ys (drop m zs))

  -- what decides is the same
  pub outline-image : (s : State X) → outline (image f s) ≡ outline s
  outline-image s = ap (λ n. record { count = n; m = s.meaning.m; number = s.number; given = s.given; out = s.out }) (length-map s.symbols _)

  pub closed-image : (o : OpenState X) → closed (open_image f o) ≡ image f (closed o)
  closed-image o =
      ap (λ ys. record { meaning = o.meaning; number = o.number; shift = o.shift; symbols = ys; given = 0; out = false })
      (go o.symbols)
    where
      go : (xs : List X) → map (λ x. record { symbol = x; priors = replicate o.meaning.m (pos 0) }) (map f xs) ≡ map (placed_image f) (map (λ x. record { symbol = x; priors = replicate o.meaning.m (pos 0) }) xs)
      go [] = refl
      go (x ∷ xs) = ap (λ r. record { symbol = f x; priors = replicate o.meaning.m (pos 0) } ∷ r) (go xs)

  module _ (erX : X → X) (erY : Y → Y) (same : (x : X) → erY (f x) ≡ f (erX x)) where
    pub after-image : (s : State X) (c : Call) → after erY (image f s) c ≡ image f (after erX s c)
    after-image s (tell i zs) = ap (with_symbols (image f s)) (image_symbols (told zs) (told zs) (λ y. refl) (i - 1) s.symbols)
    after-image s (taking n) = refl
    after-image s (answer b n zs) = ap (λ ys. record { meaning = s.meaning; number = s.number; shift = s.shift; symbols = ys; given = s.given; out = false }) (spread-image s.meaning.m s.symbols zs)
    after-image s (withdraw b n) = refl
    after-image s (erase i) = ap (with_symbols (image f s)) (image_symbols (λ y. record { symbol = erY y.symbol; priors = y.priors }) (λ y. record { symbol = erX y.symbol; priors = y.priors }) (λ y. ap (λ x. record { symbol = x; priors = y.priors }) (same y.symbol)) (i - 1) s.symbols)
    after-image s (read i k) = refl
    after-image s (decide n) = refl

    pub leaves-image : (r : Verdict) (s : State X) (c : Call) → leaves erY r (image f s) c ≡ image f (leaves erX r s c)
    leaves-image (Ok a) s c = after-image s c
    leaves-image (Err e) s c = refl

  module _ (vX : Meaning → ℕ → X → List ℤ → ℕ → ℤ) (vY : Meaning → ℕ → Y → List ℤ → ℕ → ℤ) (M : Meaning) (s : ℕ)
      (same : (x : X) (zs : List ℤ) (k : ℕ) → 1 ≤ k → k ≤ M.m → vY M s (f x) zs k ≡ vX M s x zs k) where
    -- functions that agree from a on give the same list
    over-counting : {Z : Type 0} (g h : ℕ → Z) (n a : ℕ) → ((k : ℕ) → a ≤ k → k < a + n → g k ≡ h k) → map g (range_with_len a n) ≡ map h (range_with_len a n)
    over-counting g h zero a e = refl
    over-counting g h (suc n) a e =
        ap₂ (λ z zs. z ∷ zs) (e a (omega arith) (omega arith))
        (over-counting g h n (a + 1) (λ k low high. e k (omega arith) (omega arith)))

    pub extrinsics-image : (y : Placed X) → extrinsics vY M s (placed_image f y) ≡ extrinsics vX M s y
    extrinsics-image y = over-counting _ _ M.m 1 (λ k low high. same y.symbol y.priors k low (omega arith))

    pub looked-image : (k : ℕ) → 1 ≤ k → k ≤ M.m → (y : Placed X) → looked vY M s k (placed_image f y) ≡ looked vX M s k y
    looked-image k low high y = ap (λ e. (get_or y.priors (k - 1) (pos 0), e, get_or y.priors (k - 1) (pos 0) +ℤ e)) (same y.symbol y.priors k low high)

    pub decided-image : (y : Placed X) → decided vY M s (placed_image f y) ≡ decided vX M s y
    decided-image y = over-counting _ _ M.m 1 (λ k low high. ap (λ t. cond (lt_z (pos 0) t.2) 1 0) (looked-image k low (omega arith) y))

  joined_image : {Z : Type 0} (g : Placed Y → List Z) (h : Placed X → List Z) → ((y : Placed X) → g (placed_image f y) ≡ h y) → (ys : List (Placed X)) → flat_map g (map (placed_image f) ys) ≡ flat_map h ys
  joined_image g h e [] = refl
  joined_image g h e (y ∷ ys) = ap₂ (λ a bs. a ++ bs) (e y) (joined_image g h e ys)

  of_image : {Z : Type 0} (g : Placed Y → Z) (h : Placed X → Z) (d : Z) → ((y : Placed X) → g (placed_image f y) ≡ h y) → (i : ℕ) (ys : List (Placed X)) → of_symbol g d i (map (placed_image f) ys) ≡ of_symbol h d i ys
  of_image g h d e i [] = refl
  of_image g h d e zero (y ∷ ys) = e y
  of_image g h d e (suc i) (y ∷ ys) = of_image g h d e i ys

  module _ (vX : Meaning → ℕ → X → List ℤ → ℕ → ℤ) (vY : Meaning → ℕ → Y → List ℤ → ℕ → ℤ) (s : State X)
      (same : (x : X) (zs : List ℤ) (k : ℕ) → 1 ≤ k → k ≤ s.meaning.m → vY s.meaning s.shift (f x) zs k ≡ vX s.meaning s.shift x zs k) where
    pub sheet-image : sheet_of vY (image f s) ≡ sheet_of vX s
    sheet-image = joined_image _ _ (extrinsics-image vX vY s.meaning s.shift same) s.symbols

    pub bits-image : bits_of vY (image f s) ≡ bits_of vX s
    bits-image = joined_image _ _ (decided-image vX vY s.meaning s.shift same) s.symbols

    pub reading-image : (i k : ℕ) → 1 ≤ k → k ≤ s.meaning.m → reading vY (image f s) i k ≡ reading vX s i k
    reading-image i k low high = of_image _ _ _ (looked-image vX vY s.meaning s.shift same k low high) (i - 1) s.symbols
