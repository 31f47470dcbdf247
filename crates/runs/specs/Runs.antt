-- A burst's whole life over its symbols' vectors: placings, one closing, then calls, each accepted or refused.
use Rattle.std.specs.Prelude.{ℕ, ◌+◌, List, length, ℤ, Ok, Err}
use Rattle.refusal.specs.declared.Refusal.{Refusal}
use Rattle.constellation.specs.Meaning.{Meaning}
use Rattle.metric.specs.Exhaustive.{Symbol}
use Rattle.metric.specs.Value.{extrinsic_value}
use Rattle.observation.specs.Observed.{symbol_of}
use Rattle.protocol.specs.Verdicts.{Verdict, accepted}
use Rattle.protocol.specs.Placings.{OpenState, Placing, opened, place_verdict, place_after}
use Rattle.protocol.specs.Calls.{State, Call, tell, taking, answer, withdraw, erase, read, decide, outline, verdict, closed, leaves, sheet_of, reading, bits_of}
use Rattle.protocol.specs.Stands.{erased_symbol}
use Rattle.trace.specs.Trace.{Moment, run, final, replies}

-- a sheet comes with its turn: the burst's number and the turn's own; values are the a priori, the extrinsic and the posterior one
pub data Reply : Type 0 where
  Done : Reply
  Sheet : ℕ → ℕ → List ℤ → Reply
  Values : ℤ → ℤ → ℤ → Reply
  Bits : List ℕ → Reply
  Refused : Refusal → Reply

-- what an accepted call replies
abbrev pub reply : State Symbol → Call → Reply
reply s (tell i zs) = Done
reply s (taking n) = Sheet s.number (s.given + 1) (sheet_of extrinsic_value s)
reply s (answer b n zs) = Done
reply s (withdraw b n) = Done
reply s (erase i) = Done
reply s (read i k) = Values (reading extrinsic_value s i k).0 (reading extrinsic_value s i k).1 (reading extrinsic_value s i k).2
reply s (decide n) = Bits (bits_of extrinsic_value s)

-- what a call replies under a verdict
abbrev pub says : Verdict → State Symbol → Call → Reply
says (Ok _) s c = reply s c
says (Err e) s c = Refused e

-- what a call leaves, and what it replies: a refused one leaves everything
abbrev pub settle : Verdict → State Symbol → Call → State Symbol × Reply
settle v s c = (leaves erased_symbol v s c, says v s c)

abbrev pub step : State Symbol → Call → State Symbol × Reply
step s c = settle (verdict (outline s) c) s c

-- one call of a closed burst: the state it found, the call, its reply, the state it left
abbrev pub Event : Type 0
Event = Moment (State Symbol) Call Reply

-- accepted, or why not
abbrev pub outcome : Reply → Verdict
outcome Done = accepted
outcome (Sheet b n zs) = accepted
outcome (Values a e p) = accepted
outcome (Bits bs) = accepted
outcome (Refused e) = Err e

-- ---- before the closing
-- what a placing leaves, and its verdict: a refused one leaves everything
abbrev pub place : OpenState Symbol → Placing → OpenState Symbol × Verdict
place o p = (place_after symbol_of (place_verdict (length o.symbols) o.reference p) o p, place_verdict (length o.symbols) o.reference p)

-- what a list of placings leaves, and the verdict on each
abbrev pub placed_all : OpenState Symbol → List Placing → OpenState Symbol
placed_all o ps = final place o ps

abbrev pub place_verdicts : OpenState Symbol → List Placing → List Verdict
place_verdicts o ps = replies (run place o ps)

-- a burst that was opened over M with this number and shift, got these placings, and was closed
abbrev pub start : Meaning → ℕ → ℕ → List Placing → State Symbol
start M number s ps = closed (placed_all (opened M number s) ps)
