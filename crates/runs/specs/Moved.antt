-- A burst over a constellation in another bit order, with the same calls at moved positions: all that it yields moves along.
use Rattle.std.specs.Prelude.{◌≡◌, ℕ, zero, suc, ◌-◌, ◌*◌, ◌≤◌, true, cond, List, [], ◌∷◌, ◌++◌, map, length, take, drop, ℤ, pos, Ok, Err, ◌==◌, ◌≢◌, slice_index}
use Rattle.std.specs.List.{AllZip}
use Rattle.refusal.specs.declared.Cause.TheVariants.{Range}
use Rattle.constellation.specs.Meaning.{Meaning, Lawful}
use Rattle.constellation.specs.Ordered.{position, permutes, shuffled}
use Rattle.metric.specs.Exhaustive.{Symbol}
use Rattle.metric.specs.ValueLaws.{permute}
use Rattle.protocol.specs.Verdicts.{Verdict, up_to}
use Rattle.protocol.specs.Placings.{Placing, opened}
use Rattle.protocol.specs.Calls.{State, Call, tell, taking, answer, withdraw, erase, read, decide}
use Rattle.trace.specs.Trace.{run}
use Rattle.runs.specs.Runs.{Reply, Done, Sheet, Values, Bits, Refused, Event, outcome, step, place_verdicts, start}
use Rattle.runs.specs.Near.{at, sheet}

-- a list of m values to each of n symbols, moved within each symbol
abbrev pub moved_sheet : ℕ → List ℕ → ℕ → List ℤ → List ℤ
moved_sheet m ps zero zs = []
moved_sheet m ps (suc n) zs = permute ps (take m zs) ++ moved_sheet m ps n (drop m zs)

-- The call at a burst of n symbols of m positions each, moved: a list of the needed length within each symbol,
-- a read position of 1 to m to where the order lists it, and nothing else.
abbrev pub moved : ℕ → ℕ → List ℕ → Call → Call
moved n m ps (tell i zs) = tell i (cond (length zs == m) (permute ps zs) zs)
moved n m ps (taking l) = taking l
moved n m ps (answer b t zs) = answer b t (cond (length zs == n * m) (moved_sheet m ps n zs) zs)
moved n m ps (withdraw b t) = withdraw b t
moved n m ps (erase i) = erase i
moved n m ps (read i k) = read i (cond (up_to m k) (position k ps) k)
moved n m ps (decide l) = decide l

-- both accept, or both refuse with the same cause, at the same place unless it is that of a value out of range
abbrev pub SameOutcome : Verdict → Verdict → Type 0
SameOutcome (Ok _) (Ok _) = Unit {0}
SameOutcome (Ok _) (Err b) = ⊥
SameOutcome (Err a) (Ok _) = ⊥
SameOutcome (Err a) (Err b) = (a.cause ≡ b.cause) × ((a.cause ≢ Range) → a.place ≡ b.place)

-- the values that a read replied, and the bits of a reply
abbrev pub read_values : Reply → List ℤ
read_values Done = []
read_values (Sheet b n zs) = []
read_values (Values a e p) = a ∷ e ∷ p ∷ []
read_values (Bits bs) = []
read_values (Refused e) = []

abbrev pub bits : Reply → List ℕ
bits Done = []
bits (Sheet b n zs) = []
bits (Values a e p) = []
bits (Bits bs) = bs
bits (Refused e) = []

-- What a call yields at position j of the second burst is what it yields at the j-th listed position of the first, in the state s.
abbrev pub YieldsMoved : List ℕ → State Symbol → Call → Reply → Reply → Type 0
YieldsMoved ps s (tell i zs) r q = Unit {0}
YieldsMoved ps s (taking n) r q = (i j : ℕ) → 1 ≤ i → i ≤ length s.symbols → 1 ≤ j → j ≤ s.meaning.m →
    at (pos 0) s.meaning.m (sheet q) i j ≡ at (pos 0) s.meaning.m (sheet r) i (slice_index ps (j - 1))
YieldsMoved ps s (answer b n zs) r q = Unit {0}
YieldsMoved ps s (withdraw b n) r q = Unit {0}
YieldsMoved ps s (erase i) r q = Unit {0}
YieldsMoved ps s (read i k) r q = read_values q ≡ read_values r
YieldsMoved ps s (decide n) r q = (i j : ℕ) → 1 ≤ i → i ≤ length s.symbols → 1 ≤ j → j ≤ s.meaning.m →
    at 0 s.meaning.m (bits q) i j ≡ at 0 s.meaning.m (bits r) i (slice_index ps (j - 1))

pub record Moved (ps : List ℕ) (t u : Event) : Type 0 where
  pub same : SameOutcome (outcome t.reply) (outcome u.reply)
  pub yields : YieldsMoved ps t.before t.call t.reply u.reply

-- over any lawful meaning and any order of its bits: the second burst has the same number, shift and placings
pub record MovesAlong (M : Meaning) (ps : List ℕ) (number s : ℕ) (placings : List Placing) (cs : List Call) : Type 0 where
  -- the verdicts on the placings are the same
  pub placed : place_verdicts (opened (shuffled ps M) number s) placings ≡ place_verdicts (opened M number s) placings
  pub calls : AllZip (Moved ps) (run step (start M number s placings) cs)
      (run step (start (shuffled ps M) number s placings) (map (moved (length (start M number s placings).symbols) M.m ps) cs))

abbrev pub RunsMoved : Type 0
RunsMoved = (M : Meaning) → Lawful M → (ps : List ℕ) → permutes M.m ps ≡ true → (number s : ℕ) (placings : List Placing) (cs : List Call) →
    MovesAlong M ps number s placings cs
