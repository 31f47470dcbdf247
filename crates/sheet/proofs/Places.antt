-- How a table is turned, element by element.
use Rattle.std.proofs.Common.{◌≡◌, ℕ, zero, suc, ◌+◌, ◌-◌, ◌*◌, ◌/◌, ◌%◌, ◌<◌, ◌≤◌, List, [], ◌∷◌, length, get_or, set, refl, sym, ap, ◌∙◌, inl, inr, mul_comm, add-mul, zero-mul, arith, rules}
use borrow.Rule.Slice.PartMut.{put_mid}
use Rattle.std.proofs.lemmas.Bool.{cases_lt}
use Rattle.std.proofs.lemmas.Grind.{common_steps}
use Rattle.std.proofs.lemmas.List.{get_or_default, get_or_read, length-set, same_lists, places}
use Rattle.std.proofs.lemmas.List.Edits.{fill_by_more}
use Rattle.std.proofs.lemmas.Nat.{mul-add-lt, div-mul-add, mod-mul-add, div_below, mod_below, div-add-mod'}
use Rattle.std.proofs.lemmas.List.FromFn.{fill_by_all, length-map-range_with_len, get_or-map-range_with_len}
use Rattle.sheet.specs.Order.{stored, arranged, interleaved, Columnwise}

-- row r, column c of a table of rows and columns
pub place_below : (rows columns r c : ℕ) → r < rows → c < columns → r * columns + c < rows * columns
place_below rows columns r c p q = omega (arith, mul-add-lt r columns c rows p q)

-- place c * rows + r is column c, row r
pub stored_at : (rows columns r c : ℕ) → r < rows → stored rows columns (c * rows + r) ≡ r * columns + c
stored_at rows columns r c p =
    let m = mod-mul-add c rows r p in
    let n = div-mul-add c rows r p in
    cc

-- ys has room for column c of xs, and its first n elements are those of the column
pub record Along {X : Type 0} (rows columns c n : ℕ) (xs ys : List X) : Type 0 where
  pub long : length ys ≡ rows
  pub each : (r : ℕ) (d : X) → r < n → get_or ys r d ≡ get_or xs (r * columns + c) d

-- the first n columns of xs lie in ys, one after another
pub record Dealt {X : Type 0} (rows columns n : ℕ) (xs ys : List X) : Type 0 where
  pub each : (k : ℕ) (d : X) → k < n * rows → get_or ys k d ≡ get_or xs (stored rows columns k) d

pub along_none : {X : Type 0} (rows columns c : ℕ) (xs ys : List X) → length ys ≡ rows → Along rows columns c 0 xs ys
along_none rows columns c xs ys e = record { long = e; each = λ r d l. absurd (omega arith) }

pub along_more : {X : Type 0} (rows columns c r : ℕ) (xs ys : List X) (v : X) → Along rows columns c r xs ys → r < rows → c < columns → length xs ≡ rows * columns → v ≡ get_or xs (r * columns + c) v → Along rows columns c (r + 1) xs (set ys r v)
along_more rows columns c r xs ys v h l m w e = record {
  long = length-set ys r v ∙ h.long;
  each = λ k d p.
      let b = place_below rows columns r c l m in
      let i : r < length ys = omega (arith, h.long) in
      let e = get_or_read xs (r * columns + c) v (omega arith) e d in
      rw e (fill_by_more (λ r. get_or xs (r * columns + c) d) ys r d i (λ k q. h.each k d q) k p);
}

pub dealt_none : {X : Type 0} (rows columns : ℕ) (xs ys : List X) → Dealt rows columns 0 xs ys
dealt_none rows columns xs ys = record { each = λ k d l. absurd (omega (arith, zero-mul rows)) }

-- a part that is written from a on
put_below : {X : Type 0} (a n : ℕ) (xs ys : List X) (k : ℕ) (d : X) → k < a → a ≤ length xs → get_or (put_mid a n xs ys) k d ≡ get_or xs k d
put_below a n xs ys k d l h = search (rules, places)

put_at : {X : Type 0} (a n : ℕ) (xs ys : List X) (j k : ℕ) (d : X) → k ≡ a + j → j < length ys → a ≤ length xs → get_or (put_mid a n xs ys) k d ≡ get_or ys j d
put_at a n xs ys j k d e l h = search (rules, places)

pub dealt_more : {X : Type 0} (rows columns c a n : ℕ) (xs ys column : List X) → Dealt rows columns c xs ys → Along rows columns c rows xs column → a ≡ c * rows → a + rows ≤ length ys → Dealt rows columns (c + 1) xs (put_mid a n ys column)
dealt_more rows columns c a n xs ys column before here s h =
    let e = here.long in
    record {
      each = λ k d l.
          elim (cases_lt k a) [
            | inl p ↦ put_below a n ys column k d p (omega arith) ∙ before.each k d (omega arith)
            | inr p ↦
                let m : (c + 1) * rows ≡ c * rows + rows = omega (arith, add-mul c 1 rows) in
                let r : k - a < rows = omega arith in
                let at : k ≡ a + (k - a) = omega arith in
                let at' : c * rows + (k - a) ≡ k = omega arith in
                put_at a n ys column (k - a) k d at (omega arith) (omega arith)
                ∙ here.each (k - a) d (omega arith)
                ∙ ap (λ j. get_or xs j d) (sym (stored_at rows columns (k - a) c r) ∙ ap (stored rows columns) at')
          ];
    }

pub dealt_all : {X : Type 0} (rows columns : ℕ) (xs ys : List X) → Dealt rows columns columns xs ys → length ys ≡ rows * columns → length xs ≡ rows * columns → ys ≡ interleaved rows columns xs
dealt_all rows columns [] [] h e f = refl
dealt_all rows columns [] (y ∷ ys) h e f = absurd (omega arith)
dealt_all rows columns (x ∷ xs) ys h e f =
    let swap = mul_comm rows columns in
    fill_by_all (λ k. get_or (x ∷ xs) (stored rows columns k) x) ys (length (x ∷ xs)) x (omega arith) (λ k l. h.each k x (omega arith))

-- what an arrangement holds
pub length-arranged : {X : Type 0} (f : ℕ → ℕ) (xs : List X) → length (arranged f xs) ≡ length xs
length-arranged f [] = refl
length-arranged f (x ∷ xs) = length-map-range_with_len (λ k. get_or (x ∷ xs) (f k) x) 0 (length (x ∷ xs))

pub get_or-arranged : {X : Type 0} (f : ℕ → ℕ) (xs : List X) (k : ℕ) (d : X) → k < length xs → f k < length xs → get_or (arranged f xs) k d ≡ get_or xs (f k) d
get_or-arranged f [] k d l m = absurd (omega arith)
get_or-arranged f (x ∷ xs) k d l m =
    get_or-map-range_with_len (λ k. get_or (x ∷ xs) (f k) x) 0 (length (x ∷ xs)) k k d l (omega arith) ∙ get_or_default (x ∷ xs) (f k) x d m

-- the place in storage lies in the table, and the way back
pub positive : (rows columns k : ℕ) → k < rows * columns → 0 < rows
positive zero columns k l = absurd (omega (arith, zero-mul columns))
positive (suc n) columns k l = omega arith

pub stored_below : (rows columns k : ℕ) → k < rows * columns → stored rows columns k < rows * columns
stored_below rows columns k l =
    let p : 0 < rows = positive rows columns k l in
    place_below rows columns (k % rows) (k / rows) (mod_below k rows p) (div_below k rows columns p (omega (arith, mul_comm rows columns)))

pub stored-stored : (rows columns k : ℕ) → k < rows * columns → stored columns rows (stored rows columns k) ≡ k
stored-stored rows columns k l =
    let p : 0 < rows = positive rows columns k l in
    let q : k / rows < columns = div_below k rows columns p (omega (arith, mul_comm rows columns)) in
    stored_at columns rows (k / rows) (k % rows) q ∙ div-add-mod' k rows

-- dealing what was deinterleaved, and gathering what was interleaved
pub interleaved_back : {X : Type 0} (rows columns : ℕ) (xs : List X) → length xs ≡ rows * columns → interleaved columns rows (interleaved rows columns xs) ≡ xs
interleaved_back {X} rows columns xs e =
    let f = stored rows columns in
    let g = stored columns rows in
    let m = length-arranged f xs in
    let n = length-arranged g (interleaved rows columns xs) in
    same_lists (interleaved columns rows (interleaved rows columns xs)) xs (omega arith)
    (λ k d l.
    let swap = mul_comm rows columns in
    let a : g k < length xs = omega (arith, stored_below columns rows k (omega arith)) in
    let b = stored-stored columns rows k (omega arith) in
    get_or-arranged g (interleaved rows columns xs) k d (omega arith) (omega arith)
    ∙ get_or-arranged f xs (g k) d a (omega arith)
    ∙ ap (λ j. get_or xs j d) b)

pub interleaved_columnwise : {X : Type 0} (rows columns : ℕ) (xs : List X) → length xs ≡ rows * columns → Columnwise rows columns xs (interleaved rows columns xs)
interleaved_columnwise rows columns xs e =
    record {
      long = length-arranged (stored rows columns) xs ∙ e;
      each = λ r c d p q.
          let a = place_below rows columns r c p q in
          let b = place_below columns rows c r q p in
          let s = stored_at rows columns r c p in
          get_or-arranged (stored rows columns) xs (c * rows + r) d (omega arith) (omega arith) ∙ ap (λ j. get_or xs j d) s;
    }

-- what the loop over a column needs
pub ruleset dealing = (along_none, along_more, common_steps)

-- what the two orders need
pub ruleset orders = (interleaved_columnwise, interleaved_back, mul_comm)
