-- What a list of copies keeps, so that the layer keeps the laws.
use Rattle.std.proofs.Common.{◌≡◌, ℕ, suc, ◌^◌, ◌<◌, ◌≤◌, Bool, true, cond, ◌&&◌, eqb, ltb, List, [], ◌∷◌, length, get_or}
use Rattle.std.specs.List.{AllByRecursion}
use Rattle.std.proofs.lemmas.Bool.{and_parts, ltb-true, eqb-true}
use Rattle.constellation.specs.Ordered.{each}
use Rattle.constellation.proofs.Tested.{every_from}
use Rattle.rings.specs.Copies.{nothing}
use Rattle.rings.specs.declared.copied.Copied.{Copied}

-- the code fits k bits, and the numbers are small enough for the machine
abbrev pub Narrow : ℕ → Copied → Type 0
Narrow k t = (t.code < 2 ^ k) × (t.scale < 2 ^ 12) × (t.added < 2 ^ 24)

-- what a list of copies keeps, with codes of k bits
pub record Fair (k : ℕ) (ts : List Copied) : Type 0 where
  pub some : 1 ≤ length ts
  pub narrow : AllByRecursion (Narrow k) ts
  -- where a code is found
  pub found : (g : ℕ) → g < 2 ^ k → (a : ℕ) × (a < length ts) × ((get_or ts a nothing).code ≡ g)

abbrev pub narrowb : ℕ → List Copied → Bool
narrowb k [] = true
narrowb k (t ∷ ts) = (ltb t.code (2 ^ k) && (ltb t.scale (2 ^ 12) && ltb t.added (2 ^ 24))) && narrowb k ts

narrow_from : (k : ℕ) (ts : List Copied) → narrowb k ts ≡ true → AllByRecursion (Narrow k) ts
narrow_from k [] h = tt
narrow_from k (t ∷ ts) h =
    let a = and_parts (ltb t.code (2 ^ k) && (ltb t.scale (2 ^ 12) && ltb t.added (2 ^ 24))) _ h in
    let b = and_parts (ltb t.code (2 ^ k)) _ a.0 in
    let d = and_parts (ltb t.scale (2 ^ 12)) _ b.1 in
    ((ltb-true _ _ b.0, ltb-true _ _ d.0, ltb-true _ _ d.1), narrow_from k ts a.1)

-- the first copy with a code
abbrev pub holder : ℕ → List Copied → ℕ
holder g [] = 0
holder g (t ∷ ts) = cond (eqb t.code g) 0 (suc (holder g ts))

abbrev pub heldb : List Copied → ℕ → Bool
heldb ts g = ltb (holder g ts) (length ts) && eqb (get_or ts (holder g ts) nothing).code g

pub fair_by : (k : ℕ) (ts : List Copied) → 1 ≤ length ts → narrowb k ts ≡ true → each (heldb ts) (2 ^ k) ≡ true → Fair k ts
fair_by k ts s n h = record {
  some = s;
  narrow = narrow_from k ts n;
  found = λ g l. let a = and_parts (ltb (holder g ts) (length ts)) _ (every_from (heldb ts) (2 ^ k) h g l) in (holder g ts, ltb-true _ _ a.0, eqb-true _ _ a.1);
}
