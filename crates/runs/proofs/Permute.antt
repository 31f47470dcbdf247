-- What another order of the positions keeps.
use Rattle.std.proofs.Common.{◌≡◌, ℕ, zero, suc, ◌+◌, ◌-◌, ◌*◌, ◌<◌, ◌≤◌, Bool, true, false, cond, eqb, leb, List, [], ◌∷◌, ◌++◌, map, length, get_or, take, drop, replicate, ℤ, pos, sym, refl, ap, ◌∙◌, subst, ap₂, suc-mul, zero-mul, arith, length-append, length-drop, length-take}
use Rattle.std.specs.List.{prefix_len, AllByRecursion}
use Rattle.std.proofs.ByRecursion.{All-map, All-weaker, All-get_or, All-from_get_or, All-append, All-take, All-drop}
use Rattle.std.proofs.lemmas.List.{length-map, get_or-map, length-replicate, get_or-replicate, ext_get_or, take-append-drop, take_at, drop_at, nil_from_length}
use Rattle.std.proofs.lemmas.Bool.{eqb-true, eqb-false, eq-eqb, ne_eqb, le-leb, and_from}
use Rattle.constellation.specs.Ordered.{position}
use Rattle.constellation.proofs.OrderLaws.{Order}
use Rattle.constellation.proofs.Reorder.{position_least, at_position}
use Rattle.metric.specs.Exhaustive.{Symbol}
use Rattle.metric.specs.ValueLaws.{permute}
use Rattle.protocol.specs.Verdicts.{inside, up_to}
use Rattle.protocol.specs.Calls.{Placed, at_symbol, told, spread}
use Rattle.runs.specs.Moved.{moved_sheet}
use Rattle.runs.proofs.Verdicts.{up_to_lem}

-- ---- every value is in range
abbrev pub In : List ℤ → Type 0
In zs = AllByRecursion (λ z. inside z ≡ true) zs

all_in : (zs : List ℤ) → prefix_len inside zs ≡ length zs → In zs
all_in [] e = tt
all_in (z ∷ zs) e = go (λ f. all_in zs f) (inside z) refl e
  where
    go : (prefix_len inside zs ≡ length zs → In zs) → (b : Bool) → inside z ≡ b → cond b (1 + prefix_len inside zs) 0 ≡ suc (length zs) → (inside z ≡ true) × In zs
    go more true t e = (t, more (omega arith))
    go more false t e = absurd (omega arith)

in_all : (zs : List ℤ) → In zs → prefix_len inside zs ≡ length zs
in_all [] h = refl
in_all (z ∷ zs) h = rw h.0 (ap (λ n. 1 + n) (in_all zs h.1) ∙ omega arith)

-- lists of which both or neither are all in range pass the same test
pub same_test : (zs ws : List ℤ) → (In zs → In ws) → (In ws → In zs) →
    eqb (prefix_len inside zs) (length zs) ≡ eqb (prefix_len inside ws) (length ws)
same_test zs ws there back = go (eqb (prefix_len inside zs) (length zs)) refl
  where
    go : (b : Bool) → eqb (prefix_len inside zs) (length zs) ≡ b → b ≡ eqb (prefix_len inside ws) (length ws)
    go true e = sym (eq-eqb (prefix_len inside ws) (length ws) (in_all ws (there (all_in zs (eqb-true (prefix_len inside zs) (length zs) e)))))
    go false e = sym (ne_eqb (prefix_len inside ws) (length ws) (λ w. eqb-false (prefix_len inside zs) (length zs) e (in_all zs (back (all_in ws w)))))

module _ (m : ℕ) (ps : List ℕ) (O : Order m ps) where
  pub length-permute : (zs : List ℤ) → length (permute ps zs) ≡ m
  length-permute zs = length-map ps _ ∙ O.size

  pub get_or-permute : (zs : List ℤ) (j : ℕ) → 1 ≤ j → j ≤ m → get_or (permute ps zs) (j - 1) (pos 0) ≡ get_or zs (get_or ps (j - 1) 0 - 1) (pos 0)
  get_or-permute zs j low high = get_or-map (λ p. get_or zs (p - 1) (pos 0)) ps (j - 1) 0 (pos 0) (omega (arith, O.size))

  -- where k is listed
  pub position_is : (k : ℕ) → 1 ≤ k → k ≤ m → (1 ≤ position k ps) × (position k ps ≤ m) × (get_or ps (position k ps - 1) 0 ≡ k)
  position_is k low high =
      let most : position k ps ≤ m = O.found k low high in
      (position_least k ps, most, at_position k ps (omega (arith, O.size)))

  listed : (i : ℕ) → i < length ps → (1 ≤ get_or ps i 0) × (get_or ps i 0 ≤ m)
  listed i h = let l : i < m = omega (arith, O.size) in (O.least i l, O.most i l)

  there : (P : ℤ → Type 0) (zs : List ℤ) → length zs ≡ m → AllByRecursion P zs → AllByRecursion P (permute ps zs)
  there P zs l h = All-map P (λ p. get_or zs (p - 1) (pos 0)) ps
      (All-weaker (λ p. (1 ≤ p) × (p ≤ m)) (λ p. P (get_or zs (p - 1) (pos 0))) (λ p w. All-get_or P zs (p - 1) (pos 0) (omega arith) h) ps
      (All-from_get_or (λ p. (1 ≤ p) × (p ≤ m)) ps 0 listed))

  back : (P : ℤ → Type 0) (zs : List ℤ) → length zs ≡ m → AllByRecursion P (permute ps zs) → AllByRecursion P zs
  back P zs l h = All-from_get_or P zs (pos 0) λ i hi.
      let o = position_is (suc i) (omega arith) (omega arith) in
      let j : get_or ps (position (suc i) ps - 1) 0 - 1 ≡ i = omega (arith, o.2) in
      subst P (get_or-permute zs (position (suc i) ps) o.0 o.1 ∙ ap (λ x. get_or zs x (pos 0)) j)
      (All-get_or P (permute ps zs) (position (suc i) ps - 1) (pos 0) (omega (arith, length-permute zs, o.0, o.1)) h)

  pub permute_test : (zs : List ℤ) → length zs ≡ m → eqb (prefix_len inside zs) (length zs) ≡ eqb (prefix_len inside (permute ps zs)) (length (permute ps zs))
  permute_test zs l = same_test zs (permute ps zs) (there _ zs l) (back _ zs l)

  -- values that are all 0 stay so
  pub permute_zeros : permute ps (replicate m (pos 0)) ≡ replicate m (pos 0)
  permute_zeros =
      ext_get_or (pos 0) _ _ (length-permute _ ∙ sym (length-replicate m (pos 0)))
      (λ i h.
      let hi : i < m = omega (arith, length-permute (replicate m (pos 0))) in
      let p : get_or ps i 0 - 1 < m = omega (arith, O.least i hi, O.most i hi) in
      get_or-map (λ p. get_or (replicate m (pos 0)) (p - 1) (pos 0)) ps i 0 (pos 0) (omega (arith, O.size))
      ∙ get_or-replicate m (get_or ps i 0 - 1) (pos 0) (pos 0) p
      ∙ sym (get_or-replicate m i (pos 0) (pos 0) hi))

  -- ---- a whole sheet
  pub length-sheet : (n : ℕ) (zs : List ℤ) → length (moved_sheet m ps n zs) ≡ n * m
  length-sheet zero zs = sym (zero-mul m)
  length-sheet (suc n) zs =
      length-append (permute ps (take m zs)) (moved_sheet m ps n (drop m zs))
      ∙ ap₂ (λ x y. x + y) (length-permute (take m zs)) (length-sheet n (drop m zs))
      ∙ omega (arith, suc-mul n m)

  sheet_there : (n : ℕ) (zs : List ℤ) → length zs ≡ n * m → In zs → In (moved_sheet m ps n zs)
  sheet_there zero zs l h = tt
  sheet_there (suc n) zs l h =
      let front : length (take m zs) ≡ m = simp length-take (omega (arith, suc-mul n m)) in
      let rest : length (drop m zs) ≡ n * m = simp length-drop (omega (arith, suc-mul n m)) in
      All-append _ _ _ (there _ (take m zs) front (All-take _ m zs h)) (sheet_there n (drop m zs) rest (All-drop _ m zs h))

  sheet_back : (n : ℕ) (zs : List ℤ) → length zs ≡ n * m → In (moved_sheet m ps n zs) → In zs
  sheet_back zero zs l h = subst In (sym (nil_from_length zs (omega (arith, zero-mul m)))) tt
  sheet_back (suc n) zs l h =
      let front : length (take m zs) ≡ m = simp length-take (omega (arith, suc-mul n m)) in
      let rest : length (drop m zs) ≡ n * m = simp length-drop (omega (arith, suc-mul n m)) in
      let new = permute ps (take m zs) in
      let more = moved_sheet m ps n (drop m zs) in
      let a : In new = subst In (take_at new more m (length-permute (take m zs))) (All-take _ m (new ++ more) h) in
      let b : In more = subst In (drop_at new more m (length-permute (take m zs))) (All-drop _ m (new ++ more) h) in
      subst In (take-append-drop m zs) (All-append _ _ _ (back _ (take m zs) front a) (sheet_back n (drop m zs) rest b))

  pub sheet_test : (n : ℕ) (zs : List ℤ) → length zs ≡ n * m → eqb (prefix_len inside zs) (length zs) ≡ eqb (prefix_len inside (moved_sheet m ps n zs)) (length (moved_sheet m ps n zs))
  sheet_test n zs l = same_test zs (moved_sheet m ps n zs) (sheet_there n zs l) (sheet_back n zs l)

  -- a position from 1 to m stays one, and any other none
  pub position_test : (k : ℕ) → up_to m k ≡ up_to m (cond (up_to m k) (position k ps) k)
  position_test k = go (up_to m k) refl
    where
      go : (b : Bool) → up_to m k ≡ b → b ≡ up_to m (cond b (position k ps) k)
      go true e =
          let w = up_to_lem m k e in
          let h = position_is k w.0 w.1 in
          sym (and_from (leb 1 (position k ps)) (leb (position k ps) m) (le-leb 1 (position k ps) h.0) (le-leb (position k ps) m h.1))
      go false e = sym e

-- ---- the symbols of a burst
abbrev pub moved_symbol : List ℕ → Placed Symbol → Placed Symbol
moved_symbol ps y = record { symbol = y.symbol; priors = permute ps y.priors }

pub spread-moved : (m : ℕ) (ps : List ℕ) → Order m ps → (ys : List (Placed Symbol)) (zs : List ℤ) → length zs ≡ length ys * m →
    spread m (map (moved_symbol ps) ys) (moved_sheet m ps (length ys) zs) ≡ map (moved_symbol ps) (spread m ys zs)
spread-moved m ps O [] zs l = refl
spread-moved m ps O (y ∷ ys) zs l =
    let rest : length (drop m zs) ≡ length ys * m = simp length-drop (omega (arith, suc-mul (length ys) m)) in
    let a = take_at (permute ps (take m zs)) (moved_sheet m ps (length ys) (drop m zs)) m (length-permute m ps O (take m zs)) in
    let b = drop_at (permute ps (take m zs)) (moved_sheet m ps (length ys) (drop m zs)) m (length-permute m ps O (take m zs)) in
    rw (a, b) (ap (λ (l : List (Placed Symbol)). moved_symbol ps (told (take m zs) y) ∷ l) (spread-moved m ps O ys (drop m zs) rest))

pub at_moved : (ps : List ℕ) (f g : Placed Symbol → Placed Symbol) (i : ℕ) (ys : List (Placed Symbol)) → ((y : Placed Symbol) → g (moved_symbol ps y) ≡ moved_symbol ps (f y)) →
    at_symbol g i (map (moved_symbol ps) ys) ≡ map (moved_symbol ps) (at_symbol f i ys)
at_moved ps f g i [] h = refl
at_moved ps f g zero (y ∷ ys) h = ap (λ (x : Placed Symbol). x ∷ map (moved_symbol ps) ys) (h y)
at_moved ps f g (suc i) (y ∷ ys) h = ap (λ (l : List (Placed Symbol)). moved_symbol ps y ∷ l) (at_moved ps f g i ys h)
