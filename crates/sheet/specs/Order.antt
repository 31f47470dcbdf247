-- A table of rows and columns, stored row after row, and the same elements column after column.
use Rattle.std.specs.Prelude.{◌≡◌, ℕ, ◌+◌, ◌*◌, ◌/◌, ◌%◌, ◌<◌, ◌≤◌, List, [], ◌∷◌, map, length, slice_index_or}
use Rattle.std.specs.List.{range_with_len}

-- the element that lies at place k column after column: column k / rows, row k % rows. Where it is stored row after row
abbrev pub stored : ℕ → ℕ → ℕ → ℕ
stored rows columns k = (k % rows) * columns + k / rows

-- the list whose element k is the element f k of xs
abbrev pub arranged : {X : Type 0} → (ℕ → ℕ) → List X → List X
arranged f [] = []
arranged f (x ∷ xs) = map (λ k. slice_index_or (x ∷ xs) (f k) x) (range_with_len 0 (length (x ∷ xs)))

-- column after column, from row after row
abbrev pub interleaved : {X : Type 0} → ℕ → ℕ → List X → List X
interleaved rows columns xs = arranged (stored rows columns) xs

-- row after row, from column after column: the columns of the table are the rows of the one that lies on its side
abbrev pub deinterleaved : {X : Type 0} → ℕ → ℕ → List X → List X
deinterleaved rows columns ys = interleaved columns rows ys

-- the table has rows * columns elements, and neither is above 4096
pub record Fit (rows columns n : ℕ) : Type 0 where
  pub tall : rows ≤ 4096
  pub wide : columns ≤ 4096
  pub whole : n ≡ rows * columns

-- ys holds the table xs column after column, in the words of rows and columns
pub record Columnwise {X : Type 0} (rows columns : ℕ) (xs ys : List X) : Type 0 where
  pub long : length ys ≡ rows * columns
  pub each : (r c : ℕ) (d : X) → r < rows → c < columns → slice_index_or ys (c * rows + r) d ≡ slice_index_or xs (r * columns + c) d
