-- A burst that was read gives out its sheet, and takes the turn back.
use Rattle.std.proofs.Common.{◌≡◌, ℕ, ◌+◌, ◌*◌, List, ◌++◌, length, drop, ℤ, Ok, Err, Result, ap, ◌∙◌, ap₂}
use Rattle.std.proofs.lemmas.List.{length-map}
use Rattle.refusal.specs.declared.Refusal.{Refusal}
use Rattle.metric.specs.Value.{extrinsic_value}
use Rattle.observation.specs.declared.Record.{Record}
use Rattle.table.specs.declared.turn.Turn.{Turn}
use Rattle.protocol.specs.Verdicts.{Verdict, accepted}
use Rattle.protocol.specs.Calls.{State, verdict, outline, taking, withdraw, leaves, sheet_of}
use Rattle.protocol.specs.Stands.{erased_record}
use Rattle.burst.specs.Public.{Taken, turn_of, written}
use Rattle.burstfile.specs.declared.refused.FileRefusal.{FileRefusal}
use Rattle.burstfile.specs.Format.{Contents}
use Rattle.reading.specs.Held.{Holds, Demapped, file_state}
use Rattle.reading.proofs.Ready.{take-accepted, withdraw_accepted}

module _ (k k' : State Record) (n m : ℕ) (part part' : List ℤ) (res : Result Turn Refusal) (n-is : n ≡ length k.symbols) (m-is : m ≡ k.meaning.m) (len : length part ≡ n * m)
    (T : Taken k part res k' part') where
  taken : (r : Result Contents FileRefusal) → Holds r 1 k → verdict (outline k) (taking (length part)) ≡ accepted
  taken r h = take-accepted r 1 k (length part) h (len ∙ ap₂ (λ (a b : ℕ). a * b) n-is m-is)

  abbrev turn : Turn
  turn = record { burst = k.number; number = k.given + 1 }

  pub turn_given : (r : Result Contents FileRefusal) → Holds r 1 k → res ≡ Ok turn
  turn_given r h = T.turn ∙ ap (λ (v : Verdict). turn_of v k) (taken r h)

  pub turn-withdrawn : (r : Result Contents FileRefusal) → Holds r 1 k → (t : Turn) (q : State Record) (v : Verdict) → res ≡ Ok t → q ≡ k' → v ≡ verdict (outline q) (withdraw t.burst t.number) → v ≡ Ok tt
  turn-withdrawn r h t q v is same e =
      let given = turn_given r h in
      let t_is : t ≡ turn = cc in
      let left : k' ≡ leaves erased_record accepted k (taking (length part)) = T.called.kept ∙ ap (λ (w : Verdict). leaves erased_record w k (taking (length part))) (taken r h) in
      e ∙ (ap₂ (λ (s : State Record) (w : Turn). verdict (outline s) (withdraw w.burst w.number)) same t_is ∙ withdraw_accepted k k' (length part) left)

  pub demapped : (r : Result Contents FileRefusal) → Holds r 1 k → (sheet : List ℤ) → Demapped r n m sheet (part' ++ drop (n * m) sheet)
  demapped (Ok c) h sheet =
      let out : part' ≡ sheet_of extrinsic_value (file_state c 1) = T.detected (file_state c 1) h ∙ ap (λ (v : Verdict). written v (sheet_of extrinsic_value (file_state c 1)) part) (taken (Ok c) h) in (
        n-is ∙ (ap (λ (q : State Record). length q.symbols) h ∙ length-map (file_state c 1).symbols _),
        m-is ∙ ap (λ (q : State Record). q.meaning.m) h,
        ap (λ (xs : List ℤ). xs ++ drop (n * m) sheet) out,
      )
  demapped (Err e) h sheet = absurd h
