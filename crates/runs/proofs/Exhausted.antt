-- What stands at each symbol of a burst is what the calls before say.
use Rattle.std.proofs.Common.{◌≡◌, ℕ, zero, suc, ◌+◌, ◌-◌, ◌*◌, ◌<◌, ◌≤◌, Bool, true, false, cond, eqb, List, [], ◌∷◌, length, get_or, take, drop, replicate, ℤ, pos, Ok, Err, sym, refl, ap, ◌∙◌, subst, ap₂, suc-mul, zero-mul, arith, length-append}
use Rattle.std.specs.List.{flat_map}
use Rattle.std.proofs.lemmas.List.FromFn.{length-map-range_with_len}
use Rattle.std.proofs.lemmas.List.{length-map, get_or-map, drop-drop}
use Rattle.std.proofs.lemmas.Bool.{eqb-true, eqb-false}
use Rattle.refusal.specs.declared.Refusal.{Refusal}
use Rattle.constellation.specs.Meaning.{Meaning}
use Rattle.metric.specs.Exhaustive.{Symbol}
use Rattle.metric.specs.Value.{extrinsic_value, hard_value}
use Rattle.protocol.specs.Verdicts.{Verdict, accepted}
use Rattle.protocol.specs.Placings.{OpenState, opened}
use Rattle.protocol.specs.Calls.{Placed, State, Call, tell, taking, answer, withdraw, erase, read, decide, outline, verdict, at_symbol, of_symbol, told, spread, leaves, extrinsics, sheet_of, looked, decided, bits_of}
use Rattle.protocol.specs.Stands.{erased_symbol}
use Rattle.trace.specs.Trace.{run, final}
use Rattle.runs.specs.Runs.{Refused, Event, outcome, says, reply, step, placed_all, start}
use Rattle.runs.specs.Near.{at}
use Rattle.runs.specs.Exhausted.{heard, granted, lately, no_symbol, stands, Exhausts, ValuesExhaustive}
use Rattle.runs.proofs.Placed.{chosen}
use Rattle.runs.proofs.Verdicts.{tell_is, erase_is, read_is}
use Rattle.runs.proofs.Sheets.{sheet-at, bits_at}
use Rattle.runs.proofs.Moved.{length_at, length-spread}

-- ---- one symbol of a list
module _ {X : Type 0} (d : X) where
  at_same : (f : X → X) (i : ℕ) (ys : List X) → i < length ys → get_or (at_symbol f i ys) i d ≡ f (get_or ys i d)
  at_same f i [] h = absurd (omega arith)
  at_same f zero (y ∷ ys) h = refl
  at_same f (suc i) (y ∷ ys) h = at_same f i ys (omega arith)

  at_other : (f : X → X) (i j : ℕ) (ys : List X) → (i ≡ j → ⊥) → get_or (at_symbol f i ys) j d ≡ get_or ys j d
  at_other f i j [] ne = refl
  at_other f zero zero (y ∷ ys) ne = absurd (ne refl)
  at_other f zero (suc j) (y ∷ ys) ne = refl
  at_other f (suc i) zero (y ∷ ys) ne = refl
  at_other f (suc i) (suc j) (y ∷ ys) ne = at_other f i j ys (λ e. ne (ap suc e))

  -- counted from 1
  at_symbol_lem : (f : X → X) (j i : ℕ) (ys : List X) → 1 ≤ j → 1 ≤ i → i ≤ length ys → get_or (at_symbol f (j - 1) ys) (i - 1) d ≡ cond (eqb j i) (f (get_or ys (i - 1) d)) (get_or ys (i - 1) d)
  at_symbol_lem f j i ys j1 i1 il = go (eqb j i) refl
    where
      go : (b : Bool) → eqb j i ≡ b → get_or (at_symbol f (j - 1) ys) (i - 1) d ≡ cond b (f (get_or ys (i - 1) d)) (get_or ys (i - 1) d)
      go true e =
          let same : j ≡ i = eqb-true j i e in
          ap (λ n. get_or (at_symbol f (n - 1) ys) (i - 1) d) same ∙ at_same f (i - 1) ys (omega arith)
      go false e = at_other f (j - 1) (i - 1) ys (λ h. eqb-false j i e (omega arith))

  of-get_or : {Y : Type 0} (g : X → Y) (e : Y) (i : ℕ) (ys : List X) → i < length ys → of_symbol g e i ys ≡ g (get_or ys i d)
  of-get_or g e i [] h = absurd (omega arith)
  of-get_or g e zero (y ∷ ys) h = refl
  of-get_or g e (suc i) (y ∷ ys) h = of-get_or g e i ys (omega arith)

spread_at : (m : ℕ) (d : Placed Symbol) (i : ℕ) (ys : List (Placed Symbol)) (zs : List ℤ) → i < length ys → get_or (spread m ys zs) i d ≡ told (take m (drop (i * m) zs)) (get_or ys i d)
spread_at m d i [] zs h = absurd (omega arith)
spread_at m d zero (y ∷ ys) zs h = ap (λ n. told (take m (drop n zs)) y) (sym (zero-mul m))
spread_at m d (suc i) (y ∷ ys) zs h =
    let e : m + i * m ≡ suc i * m = omega (arith, suc-mul i m) in
    spread_at m d i ys (drop m zs) (omega arith)
    ∙ ap (λ ws. told (take m ws) (get_or ys i d)) (drop-drop (i * m) m zs ∙ ap (λ n. drop n zs) e)

length_joined : {X Y : Type 0} (f : X → List Y) (m : ℕ) (ys : List X) → ((y : X) → length (f y) ≡ m) → length (flat_map f ys) ≡ length ys * m
length_joined f m [] l = sym (zero-mul m)
length_joined f m (y ∷ ys) l = length-append (f y) (flat_map f ys) ∙ ap₂ (λ a b. a + b) (l y) (length_joined f m ys l) ∙ omega (arith, suc-mul (length ys) m)

-- ---- along a run
record Kept (s t : State Symbol) (new : ℕ → Placed Symbol → Placed Symbol) : Type 0 where
  meaning : t.meaning ≡ s.meaning
  shift : t.shift ≡ s.shift
  count : length t.symbols ≡ length s.symbols
  each : (i : ℕ) (d : Placed Symbol) → 1 ≤ i → i ≤ length s.symbols → get_or t.symbols (i - 1) d ≡ new i (get_or s.symbols (i - 1) d)

one : (v : Verdict) (s : State Symbol) (c : Call) → verdict (outline s) c ≡ v →
    Kept s (leaves erased_symbol v s c) (λ i y. granted (says v s c) (heard s.meaning.m i c y) y)
one (Err w) s c e = record { meaning = refl; shift = refl; count = refl; each = λ i d low high. refl }
one (Ok u) s (tell j zs) e = record {
  meaning = refl;
  shift = refl;
  count = length_at (told zs) (j - 1) s.symbols;
  each = λ i d low high. at_symbol_lem d (told zs) j i s.symbols (tell_is (outline s) j zs e).0 low high;
}
one (Ok u) s (taking n) e = record { meaning = refl; shift = refl; count = refl; each = λ i d low high. refl }
one (Ok u) s (answer b n zs) e = record {
  meaning = refl;
  shift = refl;
  count = length-spread s.meaning.m s.symbols zs;
  each = λ i d low high. spread_at s.meaning.m d (i - 1) s.symbols zs (omega arith);
}
one (Ok u) s (withdraw b n) e = record { meaning = refl; shift = refl; count = refl; each = λ i d low high. refl }
one (Ok u) s (erase j) e = record {
  meaning = refl;
  shift = refl;
  count = length_at _ (j - 1) s.symbols;
  each = λ i d low high. at_symbol_lem d (λ y. record { symbol = erased_symbol y.symbol; priors = y.priors }) j i s.symbols (erase_is (outline s) j e).0 low high;
}
one (Ok u) s (read i k) e = record { meaning = refl; shift = refl; count = refl; each = λ i d low high. refl }
one (Ok u) s (decide n) e = record { meaning = refl; shift = refl; count = refl; each = λ i d low high. refl }

along : (cs : List Call) (s : State Symbol) → Kept s (final step s cs) (λ i y. lately s.meaning.m i y (run step s cs))
along [] s = record { meaning = refl; shift = refl; count = refl; each = λ i d low high. refl }
along (c ∷ cs) s =
    let h = one (verdict (outline s) c) s c refl in
    let more = along cs (step s c).0 in
    record {
      meaning = more.meaning ∙ h.meaning;
      shift = more.shift ∙ h.shift;
      count = more.count ∙ h.count;
      each = λ i d low high.
          more.each i d low (omega (arith, h.count))
          ∙ ap₂ (λ (M : Meaning) (y : Placed Symbol). lately M.m i y (run step (step s c).0 cs)) h.meaning (h.each i d low high);
    }

never : (w : Refusal) → outcome (Refused w) ≡ accepted → ⊥
never w e = let z : ◌≡◌ {A = ℕ} 0 1 = cc in omega arith

-- ---- what a call yields at a state t of which is known what stands at each symbol
module _ (M : Meaning) (s : ℕ) (xs : List Symbol) (ts : List Event) where
  record Known (t : State Symbol) : Type 0 where
    meaning : t.meaning ≡ M
    shift : t.shift ≡ s
    count : length t.symbols ≡ length xs
    each : (i : ℕ) (d : Placed Symbol) → 1 ≤ i → i ≤ length xs → get_or t.symbols (i - 1) d ≡ stands M xs ts i

  -- what g has of a symbol
  of_stands : {Y : Type 0} (t : State Symbol) → Known t → (g : Meaning → ℕ → Placed Symbol → Y) (e : Y) (i : ℕ) → 1 ≤ i → i ≤ length xs →
      of_symbol (g t.meaning t.shift) e (i - 1) t.symbols ≡ g M s (stands M xs ts i)
  of_stands t n g e i low high =
      let il : i - 1 < length t.symbols = omega (arith, n.count) in
      let d = stands M xs ts i in
      of-get_or d (g t.meaning t.shift) e (i - 1) t.symbols il
      ∙ ap (g t.meaning t.shift) (n.each i d low high)
      ∙ ap₂ (λ N z. g N z (stands M xs ts i)) n.meaning n.shift

  refused_exhausts : (c : Call) (w : Refusal) → Exhausts M s xs ts c (Refused w)
  refused_exhausts (tell i zs) w = tt
  refused_exhausts (taking n) w = λ e. absurd (never w e)
  refused_exhausts (answer b n zs) w = tt
  refused_exhausts (withdraw b n) w = tt
  refused_exhausts (erase i) w = tt
  refused_exhausts (read i k) w = λ e. absurd (never w e)
  refused_exhausts (decide n) w = λ e. absurd (never w e)

  accepted_exhausts : (t : State Symbol) (c : Call) → Known t → verdict (outline t) c ≡ accepted → Exhausts M s xs ts c (reply t c)
  accepted_exhausts t (tell i zs) n e = tt
  accepted_exhausts t (taking l) n e = λ _. (
    length_joined (extrinsics extrinsic_value t.meaning t.shift) t.meaning.m t.symbols (λ y. length-map-range_with_len _ 1 t.meaning.m)
        ∙ ap₂ (λ a (N : Meaning). a * N.m) n.count n.meaning,
    λ i k i1 il k1 km.
        let it : i ≤ length t.symbols = omega (arith, n.count) in
        let kt : k ≤ t.meaning.m = subst (λ N. k ≤ N.m) (sym n.meaning) km in
        ap (λ N. at (pos 0) N.m (sheet_of extrinsic_value t) i k) (sym n.meaning)
        ∙ sheet-at t i k i1 it k1 kt
        ∙ of_stands t n (λ N z y. extrinsic_value N z y.symbol y.priors k) (pos 0) i i1 il,
  )
  accepted_exhausts t (answer b l zs) n e = tt
  accepted_exhausts t (withdraw b l) n e = tt
  accepted_exhausts t (erase i) n e = tt
  accepted_exhausts t (read i k) n e = λ _.
      let h = read_is (outline t) i k e in
      ap (λ (v : ℤ × ℤ × ℤ). v.0 ∷ v.1 ∷ v.2 ∷ []) (of_stands t n (λ N z. looked extrinsic_value N z k) (pos 0, pos 0, pos 0) i h.0 (omega (arith, h.1, n.count)))
  accepted_exhausts t (decide l) n e = λ _. (
    length_joined (decided extrinsic_value t.meaning t.shift) t.meaning.m t.symbols (λ y. length-map-range_with_len _ 1 t.meaning.m)
        ∙ ap₂ (λ a (N : Meaning). a * N.m) n.count n.meaning,
    λ i k i1 il k1 km.
        let it : i ≤ length t.symbols = omega (arith, n.count) in
        let kt : k ≤ t.meaning.m = subst (λ N. k ≤ N.m) (sym n.meaning) km in
        ap (λ N. at 0 N.m (bits_of extrinsic_value t) i k) (sym n.meaning)
        ∙ bits_at t i k i1 it k1 kt
        ∙ of_stands t n (λ N z y. hard_value N z y.symbol y.priors k) 0 i i1 il,
  )

  exhausts : (t : State Symbol) (c : Call) (v : Verdict) → Known t → verdict (outline t) c ≡ v → Exhausts M s xs ts c (says v t c)
  exhausts t c (Ok u) n e = accepted_exhausts t c n e
  exhausts t c (Err w) n e = refused_exhausts c w

pub values_exhaustive : ValuesExhaustive
values_exhaustive M number s placings cs c =
    let o : OpenState Symbol = placed_all (opened M number s) placings in
    let first : State Symbol = start M number s placings in
    let ts : List Event = run step first cs in
    let t : State Symbol = final step first cs in
    let was = chosen M number s placings in
    let now = along cs first in
    let placed : length first.symbols ≡ length o.symbols = length-map o.symbols _ in
    let known : Known M s o.symbols ts t = record {
      meaning = now.meaning ∙ was.meaning;
      shift = now.shift ∙ was.shift;
      count = now.count ∙ placed;
      each = λ i d low high.
          now.each i d low (omega (arith, placed))
          ∙ ap (λ y. lately first.meaning.m i y ts) (get_or-map (λ x. record { symbol = x; priors = replicate o.meaning.m (pos 0) }) o.symbols (i - 1) no_symbol d (omega arith))
          ∙ ap (λ N. lately N.m i (record { symbol = get_or o.symbols (i - 1) no_symbol; priors = replicate N.m (pos 0) }) ts) was.meaning;
    } in
    exhausts M s o.symbols ts t c (verdict (outline t) c) known refl
