-- What each call answers and leaves.
use Rattle.std.specs.Prelude.{◌≡◌, ℕ, ◌*◌, Bool, cond, ◌&&◌, List, length, replicate, Ok, Err, Result, ◌==◌, nat_le}
use Rattle.std.specs.List.{flat_map}
use Rattle.refusal.specs.declared.Cause.TheVariants.{Length}
use Rattle.refusal.specs.declared.Refusal.{Refusal}
use Rattle.sheet.specs.declared.table.Sheet.{Sheet}
use Rattle.sheet.specs.Order.{interleaved, deinterleaved}
use Rattle.sheet.specs.Bytes.{read_back}

-- what a call answers
abbrev pub Reply : Type 0
Reply = Result (Unit {0}) Refusal

abbrev pub refused : ℕ → Reply
refused place = Err (record { cause = Length; place = place })

-- a slice of n values, where so many are needed
abbrev pub reply : ℕ → ℕ → Reply
reply n needed = cond (n == needed) (Ok tt) (refused needed)

-- what stands after a call that answered so: the new, or the old as it was
abbrev pub after : {X : Type 0} → Reply → X → X → X
after (Ok u) new old = new
after (Err e) new old = old

-- neither rows nor columns are above 4096
abbrev pub small : ℕ → ℕ → Bool
small rows columns = nat_le rows 4096 && nat_le columns 4096

-- a table over n elements: its size first, then their number
abbrev pub fitting : ℕ → ℕ → ℕ → Reply
fitting rows columns n = cond (small rows columns) (reply n (rows * columns)) (refused 0)

abbrev pub held : {X : Type 0} → Sheet X → List X
held s = s.cells.now

-- a table over count elements and another slice of n values, where so many are needed: the size first, then count, then n
abbrev pub verdict : ℕ → ℕ → ℕ → ℕ → ℕ → Reply
verdict rows columns count n needed = cond (small rows columns) (cond (count == rows * columns) (reply n needed) (refused (rows * columns))) (refused 0)

-- the same table, over the same memory
pub record Same {X : Type 0} (s t : Sheet X) : Type 0 where
  pub rows : t.rows ≡ s.rows
  pub columns : t.columns ≡ s.columns
  pub count : length (held t) ≡ length (held s)
  pub memory : t.cells.ghost_name ≡ s.cells.ghost_name

-- the table s into a slice that held ys: it then holds out, from which the table comes back
pub record Interleaved {X : Type 0} (s : Sheet X) (ys : List X) (r : Reply) (out : List X) : Type 0 where
  pub answer : r ≡ verdict s.rows s.columns (length (held s)) (length ys) (s.rows * s.columns)
  pub slice : out ≡ after r (interleaved s.rows s.columns (held s)) ys
  pub back : r ≡ Ok tt → deinterleaved s.rows s.columns out ≡ held s

-- the table s from a slice that holds ys: it is then t, from which the slice comes back
pub record Deinterleaved {X : Type 0} (s : Sheet X) (ys : List X) (r : Reply) (t : Sheet X) : Type 0 where
  pub answer : r ≡ verdict s.rows s.columns (length (held s)) (length ys) (s.rows * s.columns)
  pub left : held t ≡ after r (deinterleaved s.rows s.columns ys) (held s)
  pub back : r ≡ Ok tt → interleaved s.rows s.columns (held t) ≡ ys

-- the table s, wiped: it is then t
pub record Wiped {X : Type 0} (blank : X) (s : Sheet X) (r : Reply) (t : Sheet X) : Type 0 where
  pub answer : r ≡ fitting s.rows s.columns (length (held s))
  pub left : held t ≡ after r (replicate (s.rows * s.columns) blank) (held s)

-- the table s as bytes into a slice that held ys: it then holds out, which says the table again
pub record Paged {X : Type 0} (width : ℕ) (coded : X → List ℕ) (decoded : List ℕ → X) (s : Sheet X) (ys : List ℕ) (r : Reply) (out : List ℕ) : Type 0 where
  pub answer : r ≡ verdict s.rows s.columns (length (held s)) (length ys) (s.rows * s.columns * width)
  pub slice : out ≡ after r (flat_map coded (held s)) ys
  pub back : r ≡ Ok tt → read_back width decoded (s.rows * s.columns) out ≡ held s
