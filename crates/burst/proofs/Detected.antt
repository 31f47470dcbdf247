-- Values from what a burst keeps are those of the vectors that it stands for.
use Rattle.std.proofs.Common.{◌≡◌, ℕ, ◌≤◌, List, length, ℤ, Ok, Err, Result, sym, refl, ap, ◌∙◌, subst, arith}
use Rattle.std.proofs.lemmas.Bool.{and_parts, leb-true}
use Rattle.refusal.specs.declared.Refusal.{Refusal}
use Rattle.constellation.specs.Meaning.{Meaning, Lawful}
use Rattle.metric.specs.Exhaustive.{Symbol}
use Rattle.metric.specs.Value.{extrinsic_value}
use Rattle.observation.specs.Observed.{held}
use Rattle.protocol.specs.Verdicts.{Verdict, up_to}
use Rattle.protocol.specs.Calls.{State, Call, taking, read, decide, outline, verdict, leaves, sheet_of, reading, bits_of}
use Rattle.protocol.specs.Stands.{Stands, erased_record}
use Rattle.protocol.proofs.Fronts.{passed}
use Rattle.protocol.proofs.Images.{outline-image, sheet-image, bits-image, reading-image}
use Rattle.detect.specs.Kept.{kept_value}
use Rattle.detect.proofs.Linking.{kept_is}
use Rattle.table.specs.Kept.{View, view, kept, outlined, issued}
use Rattle.table.specs.declared.table.Table.{Table}
use Rattle.table.specs.declared.turn.Turn.{Turn}
use Rattle.burst.specs.Public.{closed_kept, Called, Taken, Read, Decided, written, turn_of, read_of}
use Rattle.burst.proofs.Lifting.{called, outline_is}

-- what a taking leaves of the table, by its verdict
abbrev pub take_left : Verdict → View → View
take_left (Ok _) v = issued v
take_left (Err _) v = v

take_left_lem : (M : Meaning) (v : View) (b : Verdict) (n : ℕ) → kept M (take_left b v) ≡ leaves erased_record b (kept M v) (taking n)
take_left_lem M v (Ok a) n = refl
take_left_lem M v (Err e) n = refl

module _ (M : Meaning) (L : Lawful M) (t : Table) where
  -- the values agree
  same : (s : State Symbol) → Stands (closed_kept M t) s → (x : Symbol) (zs : List ℤ) (k : ℕ) → 1 ≤ k → k ≤ s.meaning.m → kept_value s.meaning s.shift (held x) zs k ≡ extrinsic_value s.meaning s.shift x zs k
  same s S x zs k low high = kept_is s.meaning (subst Lawful (ap (λ o. o.meaning) S) L) s.shift x zs k low high

  pub sheet_detected : (s : State Symbol) → Stands (closed_kept M t) s → sheet_of kept_value (closed_kept M t) ≡ sheet_of extrinsic_value s
  sheet_detected s S = ap (sheet_of kept_value) S ∙ sheet-image held extrinsic_value kept_value s (same s S)

  bits_detected : (s : State Symbol) → Stands (closed_kept M t) s → bits_of kept_value (closed_kept M t) ≡ bits_of extrinsic_value s
  bits_detected s S = ap (bits_of kept_value) S ∙ bits-image held extrinsic_value kept_value s (same s S)

  -- the table's verdict b, at m positions, is the burst's, and the one of what the burst stands for
  at_positions : (m : ℕ) (c : Call) (b : Verdict) → m ≡ M.m → b ≡ verdict (outlined m (view t)) c → b ≡ verdict (outlined M.m (view t)) c
  at_positions m c b n e = e ∙ ap (λ k. verdict (outlined k (view t)) c) n

  agreed : (c : Call) (b : Verdict) → b ≡ verdict (outlined M.m (view t)) c → b ≡ verdict (outline (closed_kept M t)) c
  agreed c b e = e ∙ ap (λ o. verdict o c) (sym (outline_is M t))

  stood : (c : Call) (b : Verdict) → b ≡ verdict (outlined M.m (view t)) c → (s : State Symbol) → Stands (closed_kept M t) s → b ≡ verdict (outline s) c
  stood c b e s S = agreed c b e ∙ ap (λ k. verdict (outline k) c) S ∙ ap (λ o. verdict o c) (outline-image held s)

  pub taken_said : (u : Table) (m : ℕ) (xs ys : List ℤ) (r : Result Turn Refusal) (b : Verdict) → m ≡ M.m → b ≡ verdict (outlined m (view t)) (taking (length xs))
      → view u ≡ take_left b (view t) → r ≡ turn_of b (closed_kept M t) → ys ≡ written b (sheet_of kept_value (closed_kept M t)) xs
      → Taken (closed_kept M t) xs r (closed_kept M u) ys
  taken_said u m xs ys r b n e f g h =
      let c = taking (length xs) in
      let k = at_positions m c b n e in
      let p : b ≡ verdict (outline (closed_kept M t)) c = agreed c b k in
      let wrote : ys ≡ written (verdict (outline (closed_kept M t)) c) (sheet_of kept_value (closed_kept M t)) xs = h ∙ ap (λ v. written v (sheet_of kept_value (closed_kept M t)) xs) p in
      record {
        called = subst (λ v. Called (closed_kept M t) c v (closed_kept M u)) p (called M t u c b k (ap (kept M) f ∙ take_left_lem M (view t) b (length xs)));
        turn = g ∙ ap (λ v. turn_of v (closed_kept M t)) p;
        wrote = wrote;
        detected = λ s S. wrote ∙ ap (λ z. written (verdict (outline (closed_kept M t)) c) z xs) (sheet_detected s S);
      }

  pub read_said : (m i k : ℕ) (r : Result (ℤ × ℤ × ℤ) Refusal) (b : Verdict) → m ≡ M.m → b ≡ verdict (outlined m (view t)) (read i k)
      → r ≡ read_of b (reading kept_value (closed_kept M t) i k) → Read (closed_kept M t) i k r
  read_said m i k r b n e f =
      let e' = at_positions m (read i k) b n e in
      record {
        reply = f ∙ ap (λ j. read_of j (reading kept_value (closed_kept M t) i k)) (agreed (read i k) b e');
        detected = λ s S. f ∙ go s S b e' ∙ ap (λ j. read_of j (reading extrinsic_value s i k)) (stood (read i k) b e' s S);
      }
    where
      go : (s : State Symbol) → Stands (closed_kept M t) s → (b : Verdict) → b ≡ verdict (outlined M.m (view t)) (read i k) → read_of b (reading kept_value (closed_kept M t) i k) ≡ read_of b (reading extrinsic_value s i k)
      go s S (Err x) h = refl
      go s S (Ok a) h =
          let p = passed (up_to (length t.records.items) i) _ _ _ h in
          let q = passed (up_to M.m k) _ _ _ p.1 in
          let d = and_parts _ _ q.0 in
          let n : M.m ≡ s.meaning.m = ap (λ o. o.meaning.m) S in
          let low = leb-true _ _ d.0 in
          let high = leb-true _ _ d.1 in
          ap (λ v. Ok v) (ap (λ o. reading kept_value o i k) S ∙ reading-image held extrinsic_value kept_value s (same s S) i k low (omega arith))

  pub decided_said : (m : ℕ) (xs ys : List ℕ) (r : Verdict) → m ≡ M.m → r ≡ verdict (outlined m (view t)) (decide (length xs))
      → ys ≡ written r (bits_of kept_value (closed_kept M t)) xs → Decided (closed_kept M t) xs r ys
  decided_said m xs ys r n e f =
      let e' = at_positions m (decide (length xs)) r n e in
      record {
        reply = agreed (decide (length xs)) r e';
        wrote = f;
        detected = λ s S. (stood (decide (length xs)) r e' s S, f ∙ ap (λ z. written r z xs) (bits_detected s S));
      }
