-- From what a table or a draft is left as to what the burst is left as, and to what it then stands for.
use Rattle.std.proofs.Common.{◌≡◌, ℕ, ◌+◌, ◌-◌, ◌*◌, ◌≤◌, false, not, eqb, leb, length, drop, ℤ, List, Ok, Err, Result, sym, refl, ap, ◌∙◌, subst, arith}
use Rattle.std.proofs.lemmas.Bool.{and_parts, leb-true, eqb-true}
use Rattle.refusal.specs.declared.Refusal.{Refusal}
use Rattle.constellation.specs.Meaning.{Meaning}
use Rattle.observation.specs.Observed.{held, symbol_of}
use Rattle.protocol.specs.Verdicts.{Verdict, up_to}
use Rattle.protocol.specs.Placings.{Placing, place_verdict, place_after}
use Rattle.protocol.specs.Calls.{Call, tell, answer, withdraw, erase, outline, verdict, closed, leaves}
use Rattle.protocol.specs.Stands.{recorded, erased_symbol, erased_record}
use Rattle.protocol.proofs.Fronts.{passed}
use Rattle.protocol.proofs.Images.{place-image, closed-image, outline-image, leaves-image}
use Rattle.draft.specs.Drafted as drafted
use Rattle.draft.specs.declared.draft.Draft.{Draft}
use Rattle.table.specs.Kept.{view, kept, outlined, fresh, tell_left, answer_left, withdraw_left, erase_left, returned}
use Rattle.table.specs.declared.table.Table.{Table}
use Rattle.table.specs.declared.turn.Turn.{Turn}
use Rattle.table.proofs.Pairs.{length-paired, paired-told, paired_all, paired-set, paired-fresh}
use Rattle.soft.proofs.Rows.{table_room}
use Rattle.burst.specs.Public.{open_kept, closed_kept, PlacedBy, ClosedBy, Called, Answered}

-- what a placing leaves
pub placed_said : (M : Meaning) (d e : Draft) (p : Placing) (r : Verdict) → r ≡ place_verdict (length d.records.items) (drafted.reference_of d) p
    → drafted.view e ≡ drafted.place_left r (drafted.view d) p → PlacedBy (open_kept M d) p r (open_kept M e)
placed_said M d e p r reply h = record {
  reply = reply;
  kept = left;
  stands = λ o S. left ∙ ap (λ k. place_after recorded r k p) S ∙ place-image held symbol_of r o p;
}
  where
    go : (r : Verdict) → drafted.kept M (drafted.place_left r (drafted.view d) p) ≡ place_after recorded r (open_kept M d) p
    go (Ok a) = refl
    go (Err a) = refl

    left : open_kept M e ≡ place_after recorded r (open_kept M d) p
    left = ap (drafted.kept M) h ∙ go r

pub closed_said : (M : Meaning) (d : Draft) (t : Table) → M.m ≤ 8 → view t ≡ fresh d.records.items d.number d.shift.exponent → ClosedBy (open_kept M d) (closed_kept M t)
closed_said M d t small h = record {
  kept = left;
  stands = λ o S. left ∙ ap closed S ∙ closed-image held o;
}
  where
    left : closed_kept M t ≡ closed (open_kept M d)
    left =
        ap (kept M) h
        ∙ ap (λ ys. record { meaning = M; number = d.number; shift = d.shift.exponent; symbols = ys; given = 0; out = false }) (paired-fresh M.m d.records.items 1024 (table_room _ M.m d.few small))

module _ (M : Meaning) (t : Table) where
  pub outline_is : outline (closed_kept M t) ≡ outlined M.m (view t)
  outline_is = ap (λ n. record { count = n; m = M.m; number = t.number; given = t.given; out = t.out }) (length-paired M.m t.records.items t.priors)

  -- from the table's verdict and what it leaves
  pub called : (u : Table) (c : Call) (r : Verdict) → r ≡ verdict (outlined M.m (view t)) c → closed_kept M u ≡ leaves erased_record r (closed_kept M t) c → Called (closed_kept M t) c r (closed_kept M u)
  called u c r e f =
      let g : r ≡ verdict (outline (closed_kept M t)) c = e ∙ ap (λ o. verdict o c) (sym outline_is) in
      record {
        reply = g;
        kept = f;
        stands = λ s S. (
          g ∙ ap (λ k. verdict (outline k) c) S ∙ ap (λ o. verdict o c) (outline-image held s),
          f ∙ ap (λ k. leaves erased_record r k c) S ∙ leaves-image held erased_symbol erased_record (λ x. refl) r s c,
        );
      }

  -- what each call of the table leaves is what the call of the burst leaves
  pub withdrawn_left : (b n : ℕ) (r : Verdict) → kept M (withdraw_left r (view t)) ≡ leaves erased_record r (closed_kept M t) (withdraw b n)
  withdrawn_left b n (Err e) = refl
  withdrawn_left b n (Ok a) = refl

  pub erased_left : (i : ℕ) (r : Verdict) → r ≡ verdict (outlined M.m (view t)) (erase i) → kept M (erase_left r (view t) i) ≡ leaves erased_record r (closed_kept M t) (erase i)
  erased_left i (Err e) h = refl
  erased_left i (Ok a) h =
      let p = passed (up_to (length t.records.items) i) _ _ _ h in
      let b = and_parts (leb 1 i) (leb i (length t.records.items)) p.0 in
      let low = leb-true _ _ b.0 in
      let high = leb-true _ _ b.1 in
      ap (λ ys. record { meaning = M; number = t.number; shift = t.shift.exponent; symbols = ys; given = t.given; out = t.out })
      (paired-set M.m erased_record t.records.items (i - 1) t.priors (omega arith))

  pub told_left : M.m ≤ 8 → (i : ℕ) (zs : List ℤ) (r : Verdict) → r ≡ verdict (outlined M.m (view t)) (tell i zs) → kept M (tell_left r M.m (view t) i zs) ≡ leaves erased_record r (closed_kept M t) (tell i zs)
  told_left small i zs (Err e) h = refl
  told_left small i zs (Ok a) h =
      let p = passed (up_to (length t.records.items) i) _ _ _ h in
      let q = passed (not t.out) _ _ _ p.1 in
      let l = passed (eqb (length zs) M.m) _ _ _ q.1 in
      let b = and_parts (leb 1 i) (leb i (length t.records.items)) p.0 in
      let low = leb-true _ _ b.0 in
      let high = leb-true _ _ b.1 in
      ap (λ ys. record { meaning = M; number = t.number; shift = t.shift.exponent; symbols = ys; given = t.given; out = t.out })
      (paired-told M.m t.records.items (i - 1) zs t.priors (eqb-true _ _ l.0) (omega arith) (omega (arith, table_room _ M.m t.few small, t.wide)))

  pub answered_left : (b n : ℕ) (zs : List ℤ) (r : Verdict) → r ≡ verdict (outlined M.m (view t)) (answer b n zs) → kept M (answer_left r (view t) zs) ≡ leaves erased_record r (closed_kept M t) (answer b n zs)
  answered_left b n zs (Err e) h = refl
  answered_left b n zs (Ok a) h =
      let p = passed _ _ _ _ h in
      let l = passed (eqb (length zs) (length t.records.items * M.m)) _ _ _ p.1 in
      ap (λ ys. record { meaning = M; number = t.number; shift = t.shift.exponent; symbols = ys; given = t.given; out = false })
      (paired_all M.m t.records.items zs (drop (0 + length zs) t.priors) t.priors (eqb-true _ _ l.0))

-- each call of the table is one of the burst's: m is the number of positions
pub withdraw_said : (M : Meaning) (t u : Table) (b n : ℕ) (r : Verdict) → r ≡ verdict (outlined 0 (view t)) (withdraw b n) → view u ≡ withdraw_left r (view t) → Called (closed_kept M t) (withdraw b n) r (closed_kept M u)
withdraw_said M t u b n r e f = called M t u (withdraw b n) r e (ap (kept M) f ∙ withdrawn_left M t b n r)

pub erase_said : (M : Meaning) (t u : Table) (i : ℕ) (r : Verdict) → r ≡ verdict (outlined 0 (view t)) (erase i) → view u ≡ erase_left r (view t) i → Called (closed_kept M t) (erase i) r (closed_kept M u)
erase_said M t u i r e f = called M t u (erase i) r e (ap (kept M) f ∙ erased_left M t i r e)

pub tell_said : (M : Meaning) (t u : Table) (m i : ℕ) (zs : List ℤ) (r : Verdict) → M.m ≤ 8 → m ≡ M.m → r ≡ verdict (outlined m (view t)) (tell i zs) → view u ≡ tell_left r m (view t) i zs
    → Called (closed_kept M t) (tell i zs) r (closed_kept M u)
tell_said M t u m i zs r small n e f =
    let g : r ≡ verdict (outlined M.m (view t)) (tell i zs) = e ∙ ap (λ k. verdict (outlined k (view t)) (tell i zs)) n in
    called M t u (tell i zs) r g (ap (kept M) (f ∙ ap (λ k. tell_left r k (view t) i zs) n) ∙ told_left M t small i zs r g)

pub answer_said : (M : Meaning) (t u : Table) (m : ℕ) (turn : Turn) (zs : List ℤ) (r : Result (Unit {0}) (Turn × Refusal)) → m ≡ M.m
    → r ≡ returned (verdict (outlined m (view t)) (answer turn.burst turn.number zs)) turn
    → view u ≡ answer_left (verdict (outlined m (view t)) (answer turn.burst turn.number zs)) (view t) zs → Answered (closed_kept M t) turn zs r (closed_kept M u)
answer_said M t u m turn zs r n e f =
    let c : Call = answer turn.burst turn.number zs in
    let o : verdict (outlined m (view t)) c ≡ verdict (outlined M.m (view t)) c = ap (λ k. verdict (outlined k (view t)) c) n in
    let p : verdict (outline (closed_kept M t)) c ≡ verdict (outlined M.m (view t)) c = ap (λ k. verdict k c) (outline_is M t) in
    let a : Called (closed_kept M t) c (verdict (outlined M.m (view t)) c) (closed_kept M u) =
    called M t u c _ refl (ap (kept M) (f ∙ ap (λ k. answer_left k (view t) zs) o) ∙ answered_left M t turn.burst turn.number zs _ refl) in
    record {
      called = subst (λ k. Called (closed_kept M t) c k (closed_kept M u)) (sym p) a;
      turn = e ∙ ap (λ k. returned k turn) (o ∙ sym p);
    }
