-- What a sheet and a read have at a symbol and a position.
use Rattle.std.proofs.Common.{◌≡◌, ℕ, zero, suc, ◌+◌, ◌-◌, ◌*◌, ◌<◌, ◌≤◌, List, [], ◌∷◌, length, get_or, pos, refl, ap, ◌∙◌, suc-mul, zero-add, zero-mul, arith}
use mathlib.Core.Path.{fun_ext}
use Rattle.std.specs.List.{flat_map}
use Rattle.std.proofs.lemmas.List.{get_or_append_left, get_or-append-add}
use Rattle.std.proofs.lemmas.List.FromFn.{length-map-range_with_len, get_or-map-range_with_len}
use Rattle.metric.specs.Exhaustive.{Symbol}
use Rattle.metric.specs.Value.{extrinsic_value, hard_value}
use Rattle.protocol.specs.Verdicts.{accepted}
use Rattle.protocol.specs.Calls.{State, Call, tell, taking, answer, withdraw, erase, read, decide, of_symbol, extrinsics, sheet_of, decided, bits_of}
use Rattle.runs.specs.Runs.{outcome, reply}
use Rattle.runs.specs.Near.{at}

-- the entry at the place j of the symbol i, from 0, where each symbol has m
get_or-joined : {X Y : Type 0} (f : X → List Y) (m : ℕ) (ys : List X) (i j : ℕ) (d : Y) →
    ((y : X) → length (f y) ≡ m) → j < m → i < length ys → get_or (flat_map f ys) (i * m + j) d ≡ of_symbol (λ y. get_or (f y) j d) d i ys
get_or-joined f m [] i j d l hj hi = refl
get_or-joined f m (y ∷ ys) zero j d l hj hi =
    let e : 0 * m + j ≡ j = simp (zero-mul, zero-add) in
    let h : j < length (f y) = omega (arith, l y) in
    rw e (get_or_append_left (f y) (flat_map f ys) d j h)
get_or-joined f m (y ∷ ys) (suc i) j d l hj hi =
    let e : suc i * m + j ≡ length (f y) + (i * m + j) = omega (arith, l y, suc-mul i m) in
    rw e (get_or-append-add (f y) (flat_map f ys) (i * m + j) d ∙ get_or-joined f m ys i j d l hj (omega arith))

-- what a symbol has at the position k, by whatever makes a list of one entry a position
at_joined : {X Y : Type 0} (g : X → ℕ → Y) (f : X → List Y) (d : Y) (m : ℕ) (ys : List X) (i k : ℕ) →
    ((y : X) → length (f y) ≡ m) → ((y : X) → get_or (f y) (k - 1) d ≡ g y k) →
    1 ≤ i → i ≤ length ys → 1 ≤ k → k ≤ m → at d m (flat_map f ys) i k ≡ of_symbol (λ y. g y k) d (i - 1) ys
at_joined {X} {Y} g f d m ys i k l e i1 il k1 km =
    get_or-joined f m ys (i - 1) (k - 1) d l (omega arith) (omega arith)
    ∙ ap (λ (h : X → Y). of_symbol h d (i - 1) ys) (fun_ext e)

module _ (s : State Symbol) (i k : ℕ) (i1 : 1 ≤ i) (il : i ≤ length s.symbols) (k1 : 1 ≤ k) (km : k ≤ s.meaning.m) where
  pub sheet-at : at (pos 0) s.meaning.m (sheet_of extrinsic_value s) i k
      ≡ of_symbol (λ y. extrinsic_value s.meaning s.shift y.symbol y.priors k) (pos 0) (i - 1) s.symbols
  sheet-at =
      at_joined (λ y j. extrinsic_value s.meaning s.shift y.symbol y.priors j) (extrinsics extrinsic_value s.meaning s.shift) (pos 0) s.meaning.m s.symbols i k
      (λ y. length-map-range_with_len _ 1 s.meaning.m)
      (λ y. get_or-map-range_with_len _ 1 s.meaning.m (k - 1) k (pos 0) (omega arith) (omega arith))
      i1 il k1 km

  pub bits_at : at 0 s.meaning.m (bits_of extrinsic_value s) i k
      ≡ of_symbol (λ y. hard_value s.meaning s.shift y.symbol y.priors k) 0 (i - 1) s.symbols
  bits_at =
      at_joined (λ y j. hard_value s.meaning s.shift y.symbol y.priors j) (decided extrinsic_value s.meaning s.shift) 0 s.meaning.m s.symbols i k
      (λ y. length-map-range_with_len _ 1 s.meaning.m)
      (λ y. get_or-map-range_with_len _ 1 s.meaning.m (k - 1) k 0 (omega arith) (omega arith))
      i1 il k1 km

-- a part of what a symbol has is what the part of it has
pub of_part : {X Y Z : Type 0} (p : Y → Z) (g : X → Y) (d : Y) (i : ℕ) (ys : List X) → p (of_symbol g d i ys) ≡ of_symbol (λ y. p (g y)) (p d) i ys
of_part p g d i [] = refl
of_part p g d zero (y ∷ ys) = refl
of_part p g d (suc i) (y ∷ ys) = of_part p g d i ys

pub reply-accepted : (s : State Symbol) (c : Call) → outcome (reply s c) ≡ accepted
reply-accepted s (tell i zs) = refl
reply-accepted s (taking n) = refl
reply-accepted s (answer b n zs) = refl
reply-accepted s (withdraw b n) = refl
reply-accepted s (erase i) = refl
reply-accepted s (read i k) = refl
reply-accepted s (decide n) = refl
