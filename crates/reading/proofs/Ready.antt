-- A closed burst of a file is ready to be told the file's values.
use Rattle.std.proofs.Common.{◌≡◌, ℕ, ◌+◌, ◌*◌, ◌<◌, ◌≤◌, true, false, ltb, length, None, Ok, Err, Result, refl, ap, ◌∙◌, inl, inr, arith}
use Rattle.std.proofs.lemmas.Bool.{eq-eqb, lt-ltb}
use Rattle.std.proofs.lemmas.List.{length-map}
use Rattle.metric.specs.Exhaustive.{Symbol}
use Rattle.observation.specs.declared.Record.{Record}
use Rattle.protocol.specs.Verdicts.{accepted}
use Rattle.protocol.specs.Placings.{OpenState, opened}
use Rattle.protocol.specs.Calls.{State, closed, verdict, outline, taking, withdraw, after}
use Rattle.protocol.specs.Stands.{Stands, erased_record}
use Rattle.burstfile.specs.declared.refused.FileRefusal.{FileRefusal}
use Rattle.burstfile.specs.Format.{Contents, Shape, symbols_of, bits_of}
use Rattle.burstfile.specs.Values.{values_fault}
use Rattle.burstfile.proofs.Ranges.{values_good}
use Rattle.catalogue.specs.Modes.{mode_meaning}
use Rattle.reading.specs.Held.{Holds, placed_all, offered}
use Rattle.reading.proofs.Spreading.{told-idle}

module _ (C : Contents) (s : Shape C) (none : values_fault C ≡ None) (m : ℕ) (m-is : m ≡ bits_of C.mode) (o : OpenState Symbol)
    (count : length o.symbols ≡ symbols_of C.mode (length C.vectors)) (k : State Record) (st : Stands k (closed o)) where
  pub ready_count : length k.symbols ≡ symbols_of C.mode (length C.vectors)
  ready_count = ap (λ (q : State Record). length q.symbols) st ∙ (length-map (closed o).symbols _ ∙ (length-map o.symbols _ ∙ count))

  pub ready_few : length k.symbols ≤ 128
  ready_few = let g = values_good C none in omega (arith, ready_count, g.symbols)

  pub ready_idle : k.out ≡ false
  ready_idle = ap (λ (q : State Record). q.out) st

  pub ready_sized : (n : ℕ) → n ≡ 2 * length C.priors → 0 < n → n ≡ 2 * (length k.symbols * m)
  ready_sized n e some =
      elim s.prior_rule [
        | inl z ↦ absurd (omega arith)
        | inr t ↦
            let q : length k.symbols * m ≡ symbols_of C.mode (length C.vectors) * bits_of C.mode = cc (ready_count) in
            omega arith
      ]

-- a burst that was read is idle
held-idle : (r : Result Contents FileRefusal) (number : ℕ) (k : State Record) → Holds r number k → (k.out ≡ false) × (k.given ≡ 0)
held-idle (Ok c) number k st =
    let t = told-idle (closed (placed_all c.mode (opened (offered (mode_meaning c.mode)) number c.shift) c.vectors)) c.priors in
    (ap (λ (q : State Record). q.out) st ∙ t.0, ap (λ (q : State Record). q.given) st ∙ t.1)
held-idle (Err e) number k st = absurd st

-- and so a sheet of its size is taken
pub take-accepted : (r : Result Contents FileRefusal) (number : ℕ) (k : State Record) (n : ℕ) → Holds r number k → n ≡ length k.symbols * k.meaning.m → verdict (outline k) (taking n) ≡ accepted
take-accepted r number k n h e =
    let i = held-idle r number k h in
    let low : ltb k.given 4294967295 ≡ true = lt-ltb k.given 4294967295 (omega (arith, i.1)) in
    rw (i.0, low, eq-eqb n (length k.symbols * k.meaning.m) e)

-- the turn that was taken is withdrawn
pub withdraw_accepted : (k k' : State Record) (n : ℕ) → k' ≡ after erased_record k (taking n) → verdict (outline k') (withdraw k.number (k.given + 1)) ≡ accepted
withdraw_accepted k k' n e =
    ap (λ (q : State Record). verdict (outline q) (withdraw k.number (k.given + 1))) e
    ∙ rw (eq-eqb k.number k.number refl, eq-eqb (k.given + 1) (k.given + 1) refl)
