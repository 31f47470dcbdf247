-- Records with their values: what writing over the values, and over a record, does to them.
use Rattle.std.proofs.Common.{◌≡◌, ℕ, zero, suc, ◌+◌, ◌-◌, ◌*◌, ◌<◌, ◌≤◌, List, [], ◌∷◌, ◌++◌, map, length, get_or, take, drop, set, replicate, ℤ, pos, sym, refl, ap, ◌∙◌, ap₂, not-suc-le-zero, suc-mul, zero-add, arith}
use Rattle.std.proofs.Math.Seq.{take-append_seam, drop-append_seam}
use Rattle.std.proofs.lemmas.List.{length-drop, take-append-le, drop-append-le, take-replicate, drop-replicate}
use Rattle.observation.specs.declared.Record.{Record}
use Rattle.protocol.specs.Calls.{at_symbol, told, spread}
use Rattle.table.specs.Kept.{over, paired, blank}

module _ {X : Type 0} where
  -- writing past the first m leaves them
  pub over_past : (m a : ℕ) (zs xs : List X) → m ≤ length xs → (take m (over (m + a) zs xs) ≡ take m xs) × (drop m (over (m + a) zs xs) ≡ over a zs (drop m xs))
  over_past zero a zs xs h = (refl, ap (λ n. over n zs xs) (zero-add a))
  over_past (suc m) a zs [] h = absurd (not-suc-le-zero h)
  over_past (suc m) a zs (x ∷ xs) h =
      let r = over_past m a zs xs (omega arith) in
      let e : suc m + a ≡ suc (m + a) = omega arith in
      let f : suc m + a + length zs ≡ suc (m + a + length zs) = omega arith in
      let g : over (suc m + a) zs (x ∷ xs) ≡ x ∷ over (m + a) zs xs =
      ap₂ (λ i j. take i (x ∷ xs) ++ (zs ++ drop j (x ∷ xs))) e f in (
        ap (take (suc m)) g ∙ ap (λ r. x ∷ r) r.0,
        ap (drop (suc m)) g ∙ r.1,
      )

  over_first : (zs xs : List X) → (take (length zs) (over 0 zs xs) ≡ zs) × (drop (length zs) (over 0 zs xs) ≡ drop (length zs) xs)
  over_first zs xs = (take-append_seam zs _, drop-append_seam zs _ ∙ ap (λ n. drop n xs) (zero-add (length zs)))

module _ (m : ℕ) where
  pub length-paired : (rs : List Record) (zs : List ℤ) → length (paired m rs zs) ≡ length rs
  length-paired [] zs = refl
  length-paired (r ∷ rs) zs = ap suc (length-paired rs (drop m zs))

  -- one symbol's values are written over
  pub paired-told : (rs : List Record) (i : ℕ) (zs xs : List ℤ) → length zs ≡ m → i < length rs → length rs * m ≤ length xs → paired m rs (over (i * m) zs xs) ≡ at_symbol (told zs) i (paired m rs xs)
  paired-told [] i zs xs e h l = absurd (not-suc-le-zero h)
  paired-told (r ∷ rs) zero zs xs e h l =
      let z : 0 * m ≡ 0 = omega arith in
      let a = over_first zs xs in
      let b : take m (over 0 zs xs) ≡ zs = ap (λ n. take n (over 0 zs xs)) (sym e) ∙ a.0 in
      let c : drop m (over 0 zs xs) ≡ drop m xs = ap (λ n. drop n (over 0 zs xs)) (sym e) ∙ a.1 ∙ ap (λ n. drop n xs) e in
      ap (λ n. paired m (r ∷ rs) (over n zs xs)) z
      ∙ ap₂ (λ p q. record { symbol = r; priors = p } ∷ paired m rs q) b c
  paired-told (r ∷ rs) (suc i) zs xs e h l =
      let s : suc i * m ≡ m + i * m = omega (arith, suc-mul i m) in
      let n : suc (length rs) * m ≡ m + length rs * m = omega (arith, suc-mul (length rs) m) in
      let a = over_past m (i * m) zs xs (omega arith) in
      let k : length rs * m ≤ length (drop m xs) = omega (arith, length-drop m xs) in
      ap (λ n. paired m (r ∷ rs) (over n zs xs)) s
      ∙ ap₂ (λ p q. record { symbol = r; priors = p } ∷ paired m rs q) a.0 a.1
      ∙ ap (λ q. record { symbol = r; priors = take m xs } ∷ q) (paired-told rs i zs (drop m xs) e (omega arith) k)

  -- all values are written over
  pub paired_all : (rs : List Record) (zs ws xs : List ℤ) → length zs ≡ length rs * m → paired m rs (zs ++ ws) ≡ spread m (paired m rs xs) zs
  paired_all [] zs ws xs e = refl
  paired_all (r ∷ rs) zs ws xs e =
      let n : suc (length rs) * m ≡ m + length rs * m = omega (arith, suc-mul (length rs) m) in
      let h : m ≤ length zs = omega arith in
      let k : length (drop m zs) ≡ length rs * m = omega (arith, length-drop m zs) in
      ap₂ (λ p q. record { symbol = r; priors = p } ∷ paired m rs q) (take-append-le m zs ws h) (drop-append-le m zs ws h)
      ∙ ap (λ q. record { symbol = r; priors = take m zs } ∷ q) (paired_all rs (drop m zs) ws (drop m xs) k)

  -- one record is changed
  pub paired-set : (f : Record → Record) (rs : List Record) (i : ℕ) (zs : List ℤ) → i < length rs →
      paired m (set rs i (f (get_or rs i blank))) zs ≡ at_symbol (λ y. record { symbol = f y.symbol; priors = y.priors }) i (paired m rs zs)
  paired-set f [] i zs h = absurd (not-suc-le-zero h)
  paired-set f (r ∷ rs) zero zs h = refl
  paired-set f (r ∷ rs) (suc i) zs h = ap (λ q. record { symbol = r; priors = take m zs } ∷ q) (paired-set f rs i (drop m zs) (omega arith))

  -- no value told yet
  pub paired-fresh : (rs : List Record) (n : ℕ) → length rs * m ≤ n → paired m rs (replicate n (pos 0)) ≡ map (λ r. record { symbol = r; priors = replicate m (pos 0) }) rs
  paired-fresh [] n h = refl
  paired-fresh (r ∷ rs) n h =
      let s : suc (length rs) * m ≡ m + length rs * m = omega (arith, suc-mul (length rs) m) in
      ap₂ (λ p q. record { symbol = r; priors = p } ∷ paired m rs q) (take-replicate m n (pos 0) (omega arith)) (drop-replicate m n (pos 0))
      ∙ ap (λ q. record { symbol = r; priors = replicate m (pos 0) } ∷ q) (paired-fresh rs (n - m) (omega arith))
