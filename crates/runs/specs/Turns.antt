-- The turns of a run: every turn that was taken is answered, withdrawn, or the one that is out.
use Rattle.std.specs.Prelude.{◌≡◌, ℕ, ◌+◌, Bool, true, false, cond, List, [], ◌∷◌, map}
use Rattle.std.specs.List.{range_with_len, flat_map}
use Rattle.constellation.specs.Meaning.{Meaning}
use Rattle.protocol.specs.Placings.{Placing}
use Rattle.protocol.specs.Calls.{Call, tell, taking, answer, withdraw, erase, read, decide}
use Rattle.trace.specs.Trace.{run, final}
use Rattle.runs.specs.Runs.{Reply, Done, Sheet, Values, Bits, Refused, Event, step, start}

-- what an accepted call does to the turns
pub data Deed : Type 0 where
  takes : Deed
  answers : Deed
  withdraws : Deed
  none : Deed

abbrev pub asked : Call → Deed
asked (tell i zs) = none
asked (taking n) = takes
asked (answer b n zs) = answers
asked (withdraw b n) = withdraws
asked (erase i) = none
asked (read i k) = none
asked (decide n) = none

-- a refused call does nothing
abbrev pub did : Reply → Deed → Deed
did Done d = d
did (Sheet b n zs) d = d
did (Values a e p) d = d
did (Bits bs) d = d
did (Refused e) d = none

-- what the call of an event did to the turns
abbrev pub deed : Event → Deed
deed t = did t.reply (asked t.call)

-- 1 where it is a taking, an answer, a withdrawal
abbrev pub taken : Deed → ℕ
taken takes = 1
taken answers = 0
taken withdraws = 0
taken none = 0

abbrev pub answered : Deed → ℕ
answered takes = 0
answered answers = 1
answered withdraws = 0
answered none = 0

abbrev pub withdrawn : Deed → ℕ
withdrawn takes = 0
withdrawn answers = 0
withdrawn withdraws = 1
withdrawn none = 0

-- how often, over a run
abbrev pub total : (Deed → ℕ) → List Event → ℕ
total f [] = 0
total f (t ∷ ts) = f (deed t) + total f ts

-- whether a turn is out after a deed, where it was or was not before
abbrev pub turned : Bool → Deed → Bool
turned was takes = true
turned was answers = false
turned was withdraws = false
turned was none = was

-- a turn is out exactly when the last accepted taking, answer or withdrawal of the run was a taking
abbrev pub out_from : Bool → List Event → Bool
out_from was [] = was
out_from was (t ∷ ts) = out_from (turned was (deed t)) ts

abbrev pub out_after : List Event → Bool
out_after ts = out_from false ts

-- the turn that a reply gives out: the burst's number and its own
abbrev pub turn_of : Reply → List (ℕ × ℕ)
turn_of Done = []
turn_of (Sheet b n zs) = (b, n) ∷ []
turn_of (Values a e p) = []
turn_of (Bits bs) = []
turn_of (Refused e) = []

-- Of a run of a burst with this number that ended with the flag `out`:
pub record Balanced (number : ℕ) (out : Bool) (ts : List Event) : Type 0 where
  -- accepted takings are accepted answers and withdrawals together, and one more where a turn is out
  pub balance : total taken ts ≡ total answered ts + total withdrawn ts + cond (out_after ts) 1 0
  -- the burst knows whether a turn is out
  pub flag : out ≡ out_after ts
  -- the turns given out have the burst's number, and count 1, 2, 3, ..
  pub turns : flat_map (λ t. turn_of t.reply) ts ≡ map (λ k. (number, k)) (range_with_len 1 (total taken ts))

abbrev pub TurnsBalance : Type 0
TurnsBalance = (M : Meaning) (number s : ℕ) (placings : List Placing) (cs : List Call) →
    Balanced number (final step (start M number s placings) cs).out (run step (start M number s placings) cs)
