-- The bits of the labels in another order, and the a priori values with them: the extrinsic values move along.
use Rattle.std.specs.Prelude.{◌≡◌, ℕ, ◌≤◌, List, ℤ}
use Rattle.std.specs.List.{AllZip}
use Rattle.constellation.specs.Meaning.{Meaning}
use Rattle.constellation.specs.declared.Point.{Point}
use Rattle.metric.specs.Exhaustive.{Symbol, label_bit, extrinsic}

-- t is a permutation of 1..m, and back undoes it
pub record Permutes (m : ℕ) (t back : ℕ → ℕ) : Type 0 where
  pub there : (j : ℕ) → 1 ≤ j → j ≤ m → (1 ≤ t j) × (t j ≤ m) × (back (t j) ≡ j)
  pub here : (i : ℕ) → 1 ≤ i → i ≤ m → (1 ≤ back i) × (back i ≤ m) × (t (back i) ≡ i)

-- the same point, with bit j of q's label at place t j of r's
pub record Relabelled (m : ℕ) (t : ℕ → ℕ) (q r : Point) : Type 0 where
  pub x : r.x ≡ q.x
  pub y : r.y ≡ q.y
  pub e : r.e ≡ q.e
  pub bits : (j : ℕ) → 1 ≤ j → j ≤ m → label_bit m r.label (t j) ≡ label_bit m q.label j

-- C with its bits moved by t, its quadrant points now rs
abbrev pub reordered : Meaning → (ℕ → ℕ) → List Point → Meaning
reordered C t rs = record { m = C.m; u = t C.u; v = t C.v; points = rs }

-- each extrinsic value moves with its bit
abbrev pub Moves : Type 0
Moves = (C : Meaning) (t back : ℕ → ℕ) (rs : List Point) → Permutes C.m t back → AllZip (Relabelled C.m t) C.points rs →
    1 ≤ C.u → C.u ≤ C.m → 1 ≤ C.v → C.v ≤ C.m →
    (S : ℕ) (sym : Symbol) (A B : ℕ → ℤ) → ((j : ℕ) → 1 ≤ j → j ≤ C.m → B (t j) ≡ A j) →
    (k : ℕ) → 1 ≤ k → k ≤ C.m → extrinsic (reordered C t rs) S sym B (t k) ≡ extrinsic C S sym A k
