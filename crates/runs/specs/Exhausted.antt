-- What every call yields, from the calls before it alone: the exhaustive detector's values of the symbols as placed, at the a priori values heard last.
use Rattle.std.specs.Prelude.{◌≡◌, ℕ, ◌-◌, ◌*◌, ◌≤◌, cond, List, [], ◌∷◌, length, take, drop, replicate, pos, ◌==◌, slice_index_or}
use Rattle.constellation.specs.Meaning.{Meaning}
use Rattle.metric.specs.Exhaustive.{Symbol}
use Rattle.metric.specs.Value.{extrinsic_value, posterior_value, hard_value}
use Rattle.protocol.specs.Verdicts.{accepted}
use Rattle.protocol.specs.Placings.{Placing, opened}
use Rattle.protocol.specs.Calls.{Placed, Call, tell, taking, answer, withdraw, erase, read, decide, told}
use Rattle.protocol.specs.Stands.{erased_symbol}
use Rattle.trace.specs.Trace.{run, final}
use Rattle.runs.specs.Runs.{Reply, Done, Sheet, Values, Bits, Refused, Event, outcome, step, placed_all, start}
use Rattle.runs.specs.Near.{at, sheet}
use Rattle.runs.specs.Moved.{read_values, bits}

-- what an accepted call makes of the symbol i, of m positions
abbrev pub heard : ℕ → ℕ → Call → Placed Symbol → Placed Symbol
heard m i (tell j zs) y = cond (j == i) (told zs y) y
heard m i (taking n) y = y
heard m i (answer b n zs) y = told (take m (drop ((i - 1) * m) zs)) y
heard m i (withdraw b n) y = y
heard m i (erase j) y = cond (j == i) (record { symbol = erased_symbol y.symbol; priors = y.priors }) y
heard m i (read j k) y = y
heard m i (decide n) y = y

-- `new` under a reply that accepts, `old` under one that refuses
abbrev pub granted : Reply → Placed Symbol → Placed Symbol → Placed Symbol
granted Done new old = new
granted (Sheet b n zs) new old = new
granted (Values a e p) new old = new
granted (Bits bs) new old = new
granted (Refused e) new old = old

-- the symbol i after the events of a run
abbrev pub lately : ℕ → ℕ → Placed Symbol → List Event → Placed Symbol
lately m i y [] = y
lately m i y (t ∷ ts) = lately m i (granted t.reply (heard m i t.call y) y) ts

-- what stands past the end of a list of symbols
abbrev pub no_symbol : Symbol
no_symbol = record { antennas = []; weight = 0 }

-- the symbol i of the placed ones after the events of a run; at the closing its a priori values are 0
abbrev pub stands : Meaning → List Symbol → List Event → ℕ → Placed Symbol
stands M xs ts i = lately M.m i (record { symbol = slice_index_or xs (i - 1) no_symbol; priors = replicate M.m (pos 0) }) ts

-- Over M at the shift s, with the placed symbols xs, after the events ts: the reply r to a call.
abbrev pub Exhausts : Meaning → ℕ → List Symbol → List Event → Call → Reply → Type 0
Exhausts M s xs ts (tell i zs) r = Unit {0}
Exhausts M s xs ts (taking n) r = outcome r ≡ accepted → (length (sheet r) ≡ length xs * M.m) × ((i k : ℕ) → 1 ≤ i → i ≤ length xs → 1 ≤ k → k ≤ M.m →
    at (pos 0) M.m (sheet r) i k ≡ extrinsic_value M s (stands M xs ts i).symbol (stands M xs ts i).priors k)
Exhausts M s xs ts (answer b n zs) r = Unit {0}
Exhausts M s xs ts (withdraw b n) r = Unit {0}
Exhausts M s xs ts (erase i) r = Unit {0}
Exhausts M s xs ts (read i k) r = outcome r ≡ accepted →
    read_values r ≡ slice_index_or (stands M xs ts i).priors (k - 1) (pos 0)
    ∷ extrinsic_value M s (stands M xs ts i).symbol (stands M xs ts i).priors k
    ∷ posterior_value M s (stands M xs ts i).symbol (stands M xs ts i).priors k ∷ []
Exhausts M s xs ts (decide n) r = outcome r ≡ accepted → (length (bits r) ≡ length xs * M.m) × ((i k : ℕ) → 1 ≤ i → i ≤ length xs → 1 ≤ k → k ≤ M.m →
    at 0 M.m (bits r) i k ≡ hard_value M s (stands M xs ts i).symbol (stands M xs ts i).priors k)

-- a call c after any calls cs
abbrev pub ValuesExhaustive : Type 0
ValuesExhaustive = (M : Meaning) (number s : ℕ) (placings : List Placing) (cs : List Call) (c : Call) →
    Exhausts M s (placed_all (opened M number s) placings).symbols (run step (start M number s placings) cs) c (step (final step (start M number s placings) cs) c).1
