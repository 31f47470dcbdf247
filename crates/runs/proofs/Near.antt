-- Two bursts with the same calls accept alike and have near extrinsic values.
use Rattle.std.proofs.Common.{◌≡◌, ℕ, zero, suc, ◌+◌, ◌-◌, ◌*◌, ◌≤◌, cond, List, [], ◌∷◌, map, length, drop, replicate, ℤ, pos, Ok, Err, sym, refl, ap, ◌∙◌, subst, ap₂, inl, inr, suc-mul, arith, length-drop, length-take}
use Rattle.std.specs.List.{AllZip, prefix_len}
use Rattle.std.proofs.lemmas.List.Elements.{length_all_zip}
use Rattle.std.proofs.lemmas.List.{length-replicate}
use Rattle.refusal.specs.declared.Refusal.{Refusal}
use Rattle.constellation.specs.Meaning.{Meaning}
use Rattle.metric.specs.Exhaustive.{Symbol}
use Rattle.metric.specs.Value.{extrinsic_value}
use Rattle.metric.specs.ValueLaws.{dist, away}
use Rattle.metric.proofs.ValueLaws.{steady}
use Rattle.protocol.specs.Verdicts.{Verdict, accepted, inside}
use Rattle.protocol.specs.Placings.{opened}
use Rattle.protocol.specs.Calls.{Placed, State, Call, tell, taking, answer, withdraw, erase, read, decide, outline, verdict, at_symbol, of_symbol, told, spread, leaves, sheet_of, looked, reading}
use Rattle.protocol.specs.Stands.{erased_symbol}
use Rattle.trace.specs.Trace.{moment}
use Rattle.trace.proofs.Trace.{side_by_side}
use Rattle.runs.specs.Runs.{Refused, outcome, says, step, placed_all, start}
use Rattle.runs.specs.Near.{at, Alike, SameCall, same_tell, same_taking, same_answer, same_withdraw, same_erase, same_read, same_decide, YieldsNear, Near, RunsNear}
use Rattle.runs.proofs.Verdicts.{tell_is, answer_is, read_is}
use Rattle.runs.proofs.Sheets.{sheet-at, of_part}

-- lists that are alike have the same values in range, up to the first that is not
alike_front : (zs ws : List ℤ) → AllZip Alike zs ws → prefix_len inside zs ≡ prefix_len inside ws
alike_front [] [] h = refl
alike_front [] (w ∷ ws) h = absurd h
alike_front (z ∷ zs) [] h = absurd h
alike_front (z ∷ zs) (w ∷ ws) h =
    let here : inside z ≡ inside w = elim h.0 [ inl e ↦ ap inside e | inr both ↦ both.0 ∙ sym both.1 ] in
    ap₂ (λ b n. cond b (1 + n) 0) here (alike_front zs ws h.1)

-- ---- bursts that are alike: all is the same but the a priori values
abbrev Twin : ℕ → Placed Symbol → Placed Symbol → Type 0
Twin m y x = (y.symbol ≡ x.symbol) × (length y.priors ≡ m) × (length x.priors ≡ m)

record Alikes (s t : State Symbol) : Type 0 where
  meaning : s.meaning ≡ t.meaning
  number : s.number ≡ t.number
  shift : s.shift ≡ t.shift
  given : s.given ≡ t.given
  out : s.out ≡ t.out
  symbols : AllZip (Twin s.meaning.m) s.symbols t.symbols

same-outline : {s t : State Symbol} → Alikes s t → outline s ≡ outline t
same-outline {s} {t} a = let n : length s.symbols ≡ length t.symbols = length_all_zip _ _ _ a.symbols in cc

same-verdict : {s t : State Symbol} {c d : Call} → Alikes s t → SameCall c d → verdict (outline s) c ≡ verdict (outline t) d
same-verdict {s} {t} {c} {d} a l = go l ∙ ap (λ o. verdict o d) (same-outline a)
  where
    go : {c d : Call} → SameCall c d → verdict (outline s) c ≡ verdict (outline s) d
    go (same_tell {i} {zs} {ws} h) =
        let l : length zs ≡ length ws = length_all_zip _ _ _ h in
        let r = alike_front zs ws h in cc
    go same_taking = refl
    go (same_answer {b} {n} {zs} {ws} h) =
        let l : length zs ≡ length ws = length_all_zip _ _ _ h in
        let r = alike_front zs ws h in cc
    go same_withdraw = refl
    go same_erase = refl
    go same_read = refl
    go same_decide = refl

module _ (M : Meaning) (shift : ℕ) where
  near-at : (ys xs : List (Placed Symbol)) (i k : ℕ) → AllZip (Twin M.m) ys xs → 1 ≤ k → k ≤ M.m →
      dist (of_symbol (λ y. extrinsic_value M shift y.symbol y.priors k) (pos 0) i ys) (of_symbol (λ y. extrinsic_value M shift y.symbol y.priors k) (pos 0) i xs)
      ≤ away k (of_symbol (λ y. y.priors) [] i ys) (of_symbol (λ y. y.priors) [] i xs)
  near-at [] [] i k h low high = omega arith
  near-at [] (x ∷ xs) i k h low high = absurd h
  near-at (y ∷ ys) [] i k h low high = absurd h
  near-at (y ∷ ys) (x ∷ xs) zero k h low high =
      rw h.0.0 (steady M shift x.symbol y.priors x.priors k h.0.1 h.0.2 low high)
  near-at (y ∷ ys) (x ∷ xs) (suc i) k h low high = near-at ys xs i k h.1 low high

near_states : {s t : State Symbol} → Alikes s t → (i k : ℕ) → 1 ≤ k → k ≤ s.meaning.m →
    dist (of_symbol (λ y. extrinsic_value s.meaning s.shift y.symbol y.priors k) (pos 0) i s.symbols) (of_symbol (λ y. extrinsic_value t.meaning t.shift y.symbol y.priors k) (pos 0) i t.symbols)
    ≤ away k (of_symbol (λ y. y.priors) [] i s.symbols) (of_symbol (λ y. y.priors) [] i t.symbols)
near_states {s} {t} a i k low high = rw (← a.meaning, ← a.shift) (near-at s.meaning s.shift s.symbols t.symbols i k a.symbols low high)

-- what keeps twins twins
module _ (m : ℕ) where
  twins_at : (f g : Placed Symbol → Placed Symbol) (i : ℕ) (ys xs : List (Placed Symbol)) →
      ((y x : Placed Symbol) → Twin m y x → Twin m (f y) (g x)) → AllZip (Twin m) ys xs → AllZip (Twin m) (at_symbol f i ys) (at_symbol g i xs)
  twins_at f g i [] [] k h = tt
  twins_at f g i [] (x ∷ xs) k h = absurd h
  twins_at f g i (y ∷ ys) [] k h = absurd h
  twins_at f g zero (y ∷ ys) (x ∷ xs) k h = (k y x h.0, h.1)
  twins_at f g (suc i) (y ∷ ys) (x ∷ xs) k h = (h.0, twins_at f g i ys xs k h.1)

  twins_spread : (ys xs : List (Placed Symbol)) (zs ws : List ℤ) → length zs ≡ length ys * m → length ws ≡ length xs * m →
      AllZip (Twin m) ys xs → AllZip (Twin m) (spread m ys zs) (spread m xs ws)
  twins_spread [] [] zs ws p q h = tt
  twins_spread [] (x ∷ xs) zs ws p q h = absurd h
  twins_spread (y ∷ ys) [] zs ws p q h = absurd h
  twins_spread (y ∷ ys) (x ∷ xs) zs ws p q h = (
    (h.0.0, simp length-take (omega (arith, suc-mul (length ys) m)), simp length-take (omega (arith, suc-mul (length xs) m))),
    twins_spread ys xs (drop m zs) (drop m ws) (simp length-drop (omega (arith, suc-mul (length ys) m))) (simp length-drop (omega (arith, suc-mul (length xs) m))) h.1,
  )

  -- at the closing a symbol is its own twin
  twins : (xs : List Symbol) →
      AllZip (Twin m) (map (λ x. record { symbol = x; priors = replicate m (pos 0) }) xs) (map (λ x. record { symbol = x; priors = replicate m (pos 0) }) xs)
  twins [] = tt
  twins (x ∷ xs) = ((refl, length-replicate m (pos 0), length-replicate m (pos 0)), twins xs)

-- ---- one step
-- under one verdict at both: what the step leaves, and what it yields
abbrev Kept : State Symbol → State Symbol → Call → Call → Verdict → Verdict → Type 0
Kept s t c d v w =
    Alikes (leaves erased_symbol v s c) (leaves erased_symbol w t d)
    × (outcome (says v s c) ≡ outcome (says w t d))
    × YieldsNear s t c (says v s c) (says w t d)

read_extrinsic : (s : State Symbol) (i k : ℕ) →
    (reading extrinsic_value s i k).1 ≡ of_symbol (λ y. extrinsic_value s.meaning s.shift y.symbol y.priors k) (pos 0) (i - 1) s.symbols
read_extrinsic s i k = of_part (λ (t : ℤ × ℤ × ℤ). t.1) (looked extrinsic_value s.meaning s.shift k) (pos 0, pos 0, pos 0) (i - 1) s.symbols

kept-accepted : {s t : State Symbol} {c d : Call} → Alikes s t → SameCall c d → verdict (outline s) c ≡ accepted → verdict (outline t) d ≡ accepted → Kept s t c d accepted accepted
kept-accepted {s} {t} a (same_tell {i} {zs} {ws} h) e f =
    let l : length zs ≡ s.meaning.m = (tell_is (outline s) i zs e).2 in
    let k : length ws ≡ s.meaning.m = (tell_is (outline t) i ws f).2 ∙ ap (λ M. M.m) (sym a.meaning) in (
      record {
        meaning = a.meaning;
        number = a.number;
        shift = a.shift;
        given = a.given;
        out = a.out;
        symbols = twins_at s.meaning.m (told zs) (told ws) (i - 1) s.symbols t.symbols (λ y x w. (w.0, l, k)) a.symbols;
      },
      refl,
      tt,
    )
kept-accepted {s} {t} a same_taking e f = (
  record { meaning = a.meaning; number = a.number; shift = a.shift; given = ap (λ n. n + 1) a.given; out = refl; symbols = a.symbols },
  refl,
  λ i k i1 il k1 km.
      let n : length s.symbols ≡ length t.symbols = length_all_zip _ _ _ a.symbols in
      let it : i ≤ length t.symbols = omega arith in
      let kt : k ≤ t.meaning.m = subst (λ M. k ≤ M.m) a.meaning km in
      let there : at (pos 0) s.meaning.m (sheet_of extrinsic_value t) i k ≡ of_symbol (λ y. extrinsic_value t.meaning t.shift y.symbol y.priors k) (pos 0) (i - 1) t.symbols
      = subst (λ M. at (pos 0) M.m (sheet_of extrinsic_value t) i k ≡ of_symbol (λ y. extrinsic_value t.meaning t.shift y.symbol y.priors k) (pos 0) (i - 1) t.symbols) (sym a.meaning) (sheet-at t i k i1 it k1 kt) in
      rw (sheet-at s i k i1 il k1 km, there) (near_states a (i - 1) k k1 km),
)
kept-accepted {s} {t} a (same_answer {b} {n} {zs} {ws} h) e f =
    let l : length zs ≡ length s.symbols * s.meaning.m = (answer_is (outline s) b n zs e).1 in
    let k : length ws ≡ length t.symbols * s.meaning.m = (answer_is (outline t) b n ws f).1 ∙ ap (λ M. length t.symbols * M.m) (sym a.meaning) in (
      record {
        meaning = a.meaning;
        number = a.number;
        shift = a.shift;
        given = a.given;
        out = refl;
        symbols = rw (← a.meaning) (twins_spread s.meaning.m s.symbols t.symbols zs ws l k a.symbols);
      },
      refl,
      tt,
    )
kept-accepted {s} {t} a same_withdraw e f =
    (record { meaning = a.meaning; number = a.number; shift = a.shift; given = a.given; out = refl; symbols = a.symbols }, refl, tt)
kept-accepted {s} {t} a (same_erase {i}) e f = (
  record {
    meaning = a.meaning;
    number = a.number;
    shift = a.shift;
    given = a.given;
    out = a.out;
    symbols = twins_at s.meaning.m _ _ (i - 1) s.symbols t.symbols (λ y x w. (ap erased_symbol w.0, w.1, w.2)) a.symbols;
  },
  refl,
  tt,
)
kept-accepted {s} {t} a (same_read {i} {k}) e f =
    let h = read_is (outline s) i k e in (a, refl, rw (read_extrinsic s i k, read_extrinsic t i k) (near_states a (i - 1) k h.2 h.3))
kept-accepted {s} {t} a same_decide e f = (a, refl, tt)

refused-near : (s t : State Symbol) (c : Call) (w : Refusal) → YieldsNear s t c (Refused w) (Refused w)
refused-near s t (tell i zs) w = tt
refused-near s t (taking n) w = λ i k i1 il k1 km. omega arith
refused-near s t (answer b n zs) w = tt
refused-near s t (withdraw b n) w = tt
refused-near s t (erase i) w = tt
refused-near s t (read i k) w = omega arith
refused-near s t (decide n) w = tt

kept : {s t : State Symbol} {c d : Call} (v : Verdict) → Alikes s t → SameCall c d → verdict (outline s) c ≡ v → verdict (outline t) d ≡ v → Kept s t c d v v
kept (Ok u) a l e f = kept-accepted a l e f
kept {s} {t} {c} (Err w) a l e f = (a, refl, refused-near s t c w)

-- the verdicts agree, so each step keeps the two alike
kept_step : {s t : State Symbol} {c d : Call} → Alikes s t → SameCall c d → Alikes (step s c).0 (step t d).0 × Near (moment step s c) (moment step t d)
kept_step {s} {t} {c} {d} a l =
    let e = same-verdict a l in
    let k = subst (Kept s t c d (verdict (outline s) c)) e (kept (verdict (outline s) c) a l refl (sym e)) in
    (k.0, record { same = k.1; near = k.2 })

pub runs_near : RunsNear
runs_near M number s placings cs ds l =
    let first : State Symbol = start M number s placings in
    side_by_side step step Alikes SameCall Near (λ a b c d k w. kept_step k w) cs ds first first
    (record { meaning = refl; number = refl; shift = refl; given = refl; out = refl; symbols = twins first.meaning.m (placed_all (opened M number s) placings).symbols })
    l
