-- Takings, answers and withdrawals balance, from any state: its own turn counts as one taken.
use Rattle.std.proofs.Common.{◌≡◌, ℕ, zero, suc, ◌+◌, cond, List, [], ◌∷◌, ◌++◌, map, Ok, Err, sym, refl, ap, ◌∙◌, ap₂, arith}
use Rattle.std.specs.List.{range_with_len, flat_map}
use Rattle.metric.specs.Exhaustive.{Symbol}
use Rattle.protocol.specs.Verdicts.{Verdict}
use Rattle.protocol.specs.Calls.{State, Call, tell, taking, answer, withdraw, erase, read, decide, outline, verdict, leaves}
use Rattle.protocol.specs.Stands.{erased_symbol}
use Rattle.trace.specs.Trace.{run, final}
use Rattle.runs.specs.Runs.{says, step, start}
use Rattle.runs.specs.Turns.{asked, did, taken, answered, withdrawn, total, turned, out_from, turn_of, TurnsBalance}
use Rattle.runs.proofs.Placed.{chosen}
use Rattle.runs.proofs.Verdicts.{taking_is, answer_is, withdraw_is}

-- what one step keeps
record One (v : Verdict) (s : State Symbol) (c : Call) : Type 0 where
  balance : cond s.out 1 0 + taken (did (says v s c) (asked c))
      ≡ answered (did (says v s c) (asked c)) + withdrawn (did (says v s c) (asked c)) + cond (leaves erased_symbol v s c).out 1 0
  flag : turned s.out (did (says v s c) (asked c)) ≡ (leaves erased_symbol v s c).out
  number : (leaves erased_symbol v s c).number ≡ s.number
  given : (leaves erased_symbol v s c).given ≡ s.given + taken (did (says v s c) (asked c))
  turns : turn_of (says v s c) ≡ map (λ k. (s.number, k)) (range_with_len (s.given + 1) (taken (did (says v s c) (asked c))))

one : (v : Verdict) (s : State Symbol) (c : Call) → verdict (outline s) c ≡ v → One v s c
one (Err w) s c e = record { balance = omega arith; flag = refl; number = refl; given = omega arith; turns = refl }
one (Ok a) s (tell i zs) e = record { balance = omega arith; flag = refl; number = refl; given = omega arith; turns = refl }
one (Ok u) s (taking n) e = record { balance = ap (λ b. cond b 1 0 + 1) (taking_is (outline s) n e); flag = refl; number = refl; given = refl; turns = refl }
one (Ok u) s (answer b n zs) e = record { balance = ap (λ b. cond b 1 0 + 0) (answer_is (outline s) b n zs e).0; flag = refl; number = refl; given = omega arith; turns = refl }
one (Ok u) s (withdraw b n) e = record { balance = ap (λ b. cond b 1 0 + 0) (withdraw_is (outline s) b n e); flag = refl; number = refl; given = omega arith; turns = refl }
one (Ok a) s (erase i) e = record { balance = omega arith; flag = refl; number = refl; given = omega arith; turns = refl }
one (Ok a) s (read i k) e = record { balance = omega arith; flag = refl; number = refl; given = omega arith; turns = refl }
one (Ok a) s (decide n) e = record { balance = omega arith; flag = refl; number = refl; given = omega arith; turns = refl }

-- a list that counts on
counted_on : (f : ℕ → ℕ × ℕ) (a k n : ℕ) → map f (range_with_len a k) ++ map f (range_with_len (a + k) n) ≡ map f (range_with_len a (k + n))
counted_on f a zero n =
    let same : a + 0 ≡ a = omega arith in
    let none : n ≡ 0 + n = omega arith in
    ap₂ (λ x y. map f (range_with_len x y)) same none
counted_on f a (suc k) n =
    let later : a + suc k ≡ a + 1 + k = omega arith in
    let more : suc (k + n) ≡ suc k + n = omega arith in
    ap (λ z. f a ∷ z) (ap (λ z. map f (range_with_len (a + 1) k) ++ map f (range_with_len z n)) later ∙ counted_on f (a + 1) k n)
    ∙ ap (λ z. map f (range_with_len a z)) more

record From (s : State Symbol) (cs : List Call) : Type 0 where
  balance : cond s.out 1 0 + total taken (run step s cs)
      ≡ total answered (run step s cs) + total withdrawn (run step s cs) + cond (final step s cs).out 1 0
  flag : out_from s.out (run step s cs) ≡ (final step s cs).out
  turns : flat_map (λ t. turn_of t.reply) (run step s cs) ≡ map (λ k. (s.number, k)) (range_with_len (s.given + 1) (total taken (run step s cs)))

from : (cs : List Call) (s : State Symbol) → From s cs
from [] s = record { balance = omega arith; flag = refl; turns = refl }
from (c ∷ cs) s =
    let h = one (verdict (outline s) c) s c refl in
    let more = from cs (step s c).0 in
    let d : ℕ = taken (did (step s c).1 (asked c)) in
    let g : (step s c).0.given + 1 ≡ s.given + 1 + d = omega (arith, h.given) in
    record {
      balance = omega (arith, h.balance, more.balance);
      flag = ap (λ b. out_from b (run step (step s c).0 cs)) h.flag ∙ more.flag;
      turns =
          ap₂ ◌++◌ h.turns (more.turns ∙ ap₂ (λ b a. map (λ k. (b, k)) (range_with_len a (total taken (run step (step s c).0 cs)))) h.number g)
          ∙ counted_on (λ k. (s.number, k)) (s.given + 1) d (total taken (run step (step s c).0 cs));
    }

pub turns_balance : TurnsBalance
turns_balance M number s placings cs =
    let first : State Symbol = start M number s placings in
    let h = from cs first in
    let named : first.number ≡ number = (chosen M number s placings).number in
    record {
      balance = omega (arith, h.balance) ∙ ap (λ b. total answered (run step first cs) + total withdrawn (run step first cs) + cond b 1 0) (sym h.flag);
      flag = sym h.flag;
      turns = h.turns ∙ ap (λ n. map (λ k. (n, k)) (range_with_len 1 (total taken (run step first cs)))) named;
    }
