-- Two bursts with the same calls, but for values in range: they accept alike, and their extrinsic values stay near.
use Rattle.std.specs.Prelude.{◌≡◌, ℕ, ◌+◌, ◌-◌, ◌*◌, ◌≤◌, true, ◌⊎◌, List, [], length, ℤ, pos, slice_index_or}
use Rattle.std.specs.List.{AllZip}
use Rattle.constellation.specs.Meaning.{Meaning}
use Rattle.metric.specs.Exhaustive.{Symbol}
use Rattle.metric.specs.ValueLaws.{dist, away}
use Rattle.protocol.specs.Verdicts.{inside}
use Rattle.protocol.specs.Placings.{Placing}
use Rattle.protocol.specs.Calls.{State, Call, tell, taking, answer, withdraw, erase, read, decide, of_symbol}
use Rattle.trace.specs.Trace.{run}
use Rattle.runs.specs.Runs.{Reply, Done, Sheet, Values, Bits, Refused, Event, outcome, step, start}

-- two values that are the same, or both in range
abbrev pub Alike : ℤ → ℤ → Type 0
Alike z w = (z ≡ w) ⊎ ((inside z ≡ true) × (inside w ≡ true))

-- the same call, but for told and answered values in range
pub data SameCall : Call → Call → Type 0 where
  same_tell : {i : ℕ} {zs ws : List ℤ} → AllZip Alike zs ws → SameCall (tell i zs) (tell i ws)
  same_taking : {n : ℕ} → SameCall (taking n) (taking n)
  same_answer : {b n : ℕ} {zs ws : List ℤ} → AllZip Alike zs ws → SameCall (answer b n zs) (answer b n ws)
  same_withdraw : {b n : ℕ} → SameCall (withdraw b n) (withdraw b n)
  same_erase : {i : ℕ} → SameCall (erase i) (erase i)
  same_read : {i k : ℕ} → SameCall (read i k) (read i k)
  same_decide : {n : ℕ} → SameCall (decide n) (decide n)

-- the a priori values that stand at the symbol i, counted from 1
abbrev pub standing : State Symbol → ℕ → List ℤ
standing s i = of_symbol (λ y. y.priors) [] (i - 1) s.symbols

-- what stands in a list of m to a symbol, at the symbol i and the position k, both counted from 1
abbrev pub at : {X : Type 0} → X → ℕ → List X → ℕ → ℕ → X
at d m xs i k = slice_index_or xs ((i - 1) * m + (k - 1)) d

-- the values of a reply's sheet, and the extrinsic value that a read replied
abbrev pub sheet : Reply → List ℤ
sheet Done = []
sheet (Sheet b n zs) = zs
sheet (Values a e p) = []
sheet (Bits bs) = []
sheet (Refused e) = []

abbrev pub read_value : Reply → ℤ
read_value Done = pos 0
read_value (Sheet b n zs) = pos 0
read_value (Values a e p) = e
read_value (Bits bs) = pos 0
read_value (Refused e) = pos 0

-- Two extrinsic values that a call yields, of two bursts in the states s and t, are no farther apart
-- than the a priori values that stand at the other positions of that symbol are together.
abbrev pub YieldsNear : State Symbol → State Symbol → Call → Reply → Reply → Type 0
YieldsNear s t (tell i zs) r q = Unit {0}
YieldsNear s t (taking n) r q = (i k : ℕ) → 1 ≤ i → i ≤ length s.symbols → 1 ≤ k → k ≤ s.meaning.m →
    dist (at (pos 0) s.meaning.m (sheet r) i k) (at (pos 0) s.meaning.m (sheet q) i k) ≤ away k (standing s i) (standing t i)
YieldsNear s t (answer b n zs) r q = Unit {0}
YieldsNear s t (withdraw b n) r q = Unit {0}
YieldsNear s t (erase i) r q = Unit {0}
YieldsNear s t (read i k) r q = dist (read_value r) (read_value q) ≤ away k (standing s i) (standing t i)
YieldsNear s t (decide n) r q = Unit {0}

pub record Near (t u : Event) : Type 0 where
  -- both accept, or both refuse with the same cause and place
  pub same : outcome t.reply ≡ outcome u.reply
  pub near : YieldsNear t.before u.before t.call t.reply u.reply

-- two bursts over one meaning, with one number, shift and list of placings
abbrev pub RunsNear : Type 0
RunsNear = (M : Meaning) (number s : ℕ) (placings : List Placing) (cs ds : List Call) → AllZip SameCall cs ds →
    AllZip Near (run step (start M number s placings) cs) (run step (start M number s placings) ds)
