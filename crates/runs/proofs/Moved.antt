-- A burst over the constellation in another bit order: its state is the first burst's, moved, all along a run.
use Rattle.std.proofs.Common.{◌≡◌, ℕ, zero, suc, ◌+◌, ◌-◌, ◌*◌, ◌<◌, ◌≤◌, Bool, true, false, cond, not, eqb, leb, List, [], ◌∷◌, map, length, get_or, drop, replicate, ℤ, pos, ◌+ℤ◌, Ok, Err, sym, refl, ap, ◌∙◌, subst, ap₂, suc-mul, arith, length-drop, length-take}
use Rattle.std.specs.List.{AllZip, prefix_len, AllByRecursion}
use Rattle.std.proofs.lemmas.List.{length-map, length-replicate}
use Rattle.std.proofs.lemmas.Bool.{eqb-true, eq-eqb, le-leb, and_from}
use Rattle.refusal.specs.declared.Cause.{Cause}
use Rattle.refusal.specs.declared.Cause.TheVariants.{Symbol as NoSymbol, Length, Range, Out, Foreign, Position}
use Rattle.refusal.specs.declared.Refusal.{Refusal}
use Rattle.constellation.specs.Meaning.{Meaning, Lawful}
use Rattle.constellation.specs.Ordered.{position, permutes, shuffled}
use Rattle.constellation.proofs.OrderLaws.{Order, order_from}
use Rattle.metric.specs.Exhaustive.{Symbol}
use Rattle.metric.specs.Value.{extrinsic_value}
use Rattle.metric.specs.ValueLaws.{permute}
use Rattle.metric.proofs.ValueLaws.{moved as value-moved}
use Rattle.observation.specs.Observed.{symbol_of}
use Rattle.protocol.specs.Verdicts.{Verdict, accepted, need, each, inside, up_to}
use Rattle.protocol.specs.Placings.{OpenState, Placing, opened, place_verdict, place_after}
use Rattle.protocol.specs.Calls.{Placed, State, Call, tell, taking, answer, withdraw, erase, read, decide, Outline, outline, needed, ours, verdict, at_symbol, of_symbol, closed, with_symbols, told, spread, after, leaves, looked}
use Rattle.protocol.specs.Stands.{erased_symbol}
use Rattle.trace.specs.Trace.{run}
use Rattle.runs.specs.Runs.{Refused, outcome, reply, says, step, placed_all, place_verdicts, start}
use Rattle.runs.specs.Moved.{moved_sheet, moved, SameOutcome, YieldsMoved, Moved, RunsMoved}
use Rattle.runs.proofs.Placed.{chosen}
use Rattle.runs.proofs.Verdicts.{tell_is, answer_is, read_is}
use Rattle.runs.proofs.Sheets.{sheet-at, bits_at, reply-accepted}
use Rattle.runs.proofs.Permute.{length-permute, get_or-permute, position_is, permute_test, permute_zeros, length-sheet, sheet_test, position_test, moved_symbol, spread-moved, at_moved}

-- ---- the number of symbols
pub length_at : (f : Placed Symbol → Placed Symbol) (i : ℕ) (ys : List (Placed Symbol)) → length (at_symbol f i ys) ≡ length ys
length_at f i [] = refl
length_at f zero (y ∷ ys) = refl
length_at f (suc i) (y ∷ ys) = ap suc (length_at f i ys)

pub length-spread : (m : ℕ) (ys : List (Placed Symbol)) (zs : List ℤ) → length (spread m ys zs) ≡ length ys
length-spread m [] zs = refl
length-spread m (y ∷ ys) zs = ap suc (length-spread m ys (drop m zs))

-- ---- verdicts
same_refl : (v : Verdict) → SameOutcome v v
same_refl (Ok a) = tt
same_refl (Err e) = (refl, λ _. refl)

same-need : (b : Bool) (c : Cause) (p : ℕ) (v w : Verdict) → SameOutcome v w → SameOutcome (need b c p v) (need b c p w)
same-need true c p v w h = h
same-need false c p v w h = (refl, λ _. refl)

-- the place of a value out of range may differ
same_range : (a b : Bool) (p q : ℕ) → a ≡ b → SameOutcome (need a Range p accepted) (need b Range q accepted)
same_range true true p q e = tt
same_range true false p q e = absurd (let z : ◌≡◌ {A = ℕ} 0 1 = cc in omega arith)
same_range false true p q e = absurd (let z : ◌≡◌ {A = ℕ} 0 1 = cc in omega arith)
same_range false false p q e = (refl, λ n. absurd (n refl))

-- a list that f moves where it has the length l
same_list : (f : List ℤ → List ℤ) (l : ℕ) (zs : List ℤ) →
    (length zs ≡ l → (length (f zs) ≡ l) × (eqb (prefix_len inside zs) (length zs) ≡ eqb (prefix_len inside (f zs)) (length (f zs)))) →
    SameOutcome (need (eqb (length zs) l) Length l (each inside zs Range accepted))
    (need (eqb (length (cond (eqb (length zs) l) (f zs) zs)) l) Length l (each inside (cond (eqb (length zs) l) (f zs) zs) Range accepted))
same_list f l zs h = go (eqb (length zs) l) refl
  where
    go : (b : Bool) → eqb (length zs) l ≡ b →
        SameOutcome (need (eqb (length zs) l) Length l (each inside zs Range accepted)) (need (eqb (length (cond b (f zs) zs)) l) Length l (each inside (cond b (f zs) zs) Range accepted))
    go true e =
        let k = h (eqb-true (length zs) l e) in
        let a : eqb (length (f zs)) l ≡ true = eq-eqb (length (f zs)) l k.0 in
        rw (e, a) (same_range (eqb (prefix_len inside zs) (length zs)) (eqb (prefix_len inside (f zs)) (length (f zs))) (prefix_len inside zs + 1) (prefix_len inside (f zs) + 1) k.1)
    go false e = same_refl (need (eqb (length zs) l) Length l (each inside zs Range accepted))

module _ (ps : List ℕ) where
  same_outcome : (o : Outline) → Order o.m ps → (c : Call) → SameOutcome (verdict o c) (verdict o (moved o.count o.m ps c))
  same_outcome o O (tell i zs) =
      same-need (up_to o.count i) NoSymbol 0 _ _ (same-need (not o.out) Out 0 _ _
      (same_list (permute ps) o.m zs (λ l. (length-permute o.m ps O zs, permute_test o.m ps O zs l))))
  same_outcome o O (taking n) = same_refl (verdict o (taking n))
  same_outcome o O (answer b n zs) =
      same-need (ours o b n) Foreign 0 _ _
      (same_list (moved_sheet o.m ps o.count) (needed o) zs (λ l. (length-sheet o.m ps O o.count zs, sheet_test o.m ps O o.count zs l)))
  same_outcome o O (withdraw b n) = same_refl (verdict o (withdraw b n))
  same_outcome o O (erase i) = same_refl (verdict o (erase i))
  same_outcome o O (read i k) =
      subst (λ b. SameOutcome (verdict o (read i k)) (need (up_to o.count i) NoSymbol 0 (need b Position 0 accepted))) (position_test o.m ps O k) (same_refl (verdict o (read i k)))
  same_outcome o O (decide n) = same_refl (verdict o (decide n))

  -- ---- the second burst's state
  abbrev moved_state : State Symbol → State Symbol
  moved_state s = record { meaning = shuffled ps s.meaning; number = s.number; shift = s.shift; symbols = map (moved_symbol ps) s.symbols; given = s.given; out = s.out }

  abbrev moved_at : State Symbol → Call → Call
  moved_at s c = moved (length s.symbols) s.meaning.m ps c

  record Ready (s : State Symbol) : Type 0 where
    lawful : Lawful s.meaning
    order : permutes s.meaning.m ps ≡ true
    sound : AllByRecursion (λ y. length y.priors ≡ s.meaning.m) s.symbols

  size-moved : (s : State Symbol) → length (moved_state s).symbols ≡ length s.symbols
  size-moved s = length-map s.symbols (moved_symbol ps)

  same-verdict : (s : State Symbol) (c : Call) → Order s.meaning.m ps → SameOutcome (verdict (outline s) c) (verdict (outline (moved_state s)) (moved_at s c))
  same-verdict s c O =
      let e : outline s ≡ outline (moved_state s) = ap (λ n. record { count = n; m = s.meaning.m; number = s.number; given = s.given; out = s.out }) (sym (size-moved s)) in
      subst (λ o. SameOutcome (verdict (outline s) c) (verdict o (moved_at s c))) e (same_outcome (outline s) O c)

  -- an accepted call leaves the moved state
  moved-after : (s : State Symbol) (c : Call) → Ready s → verdict (outline s) c ≡ accepted → after erased_symbol (moved_state s) (moved_at s c) ≡ moved_state (after erased_symbol s c)
  moved-after s (tell i zs) r e =
      let l : eqb (length zs) s.meaning.m ≡ true = eq-eqb (length zs) s.meaning.m (tell_is (outline s) i zs e).2 in
      rw l (ap (with_symbols (moved_state s)) (at_moved ps (told zs) (told (permute ps zs)) (i - 1) s.symbols (λ y. refl)))
  moved-after s (taking n) r e = refl
  moved-after s (answer b n zs) r e =
      let k : length zs ≡ length s.symbols * s.meaning.m = (answer_is (outline s) b n zs e).1 in
      let l : eqb (length zs) (length s.symbols * s.meaning.m) ≡ true = eq-eqb (length zs) (length s.symbols * s.meaning.m) k in
      rw l (ap (λ (ys : List (Placed Symbol)). record { meaning = shuffled ps s.meaning; number = s.number; shift = s.shift; symbols = ys; given = s.given; out = false })
      (spread-moved s.meaning.m ps (order_from s.meaning.m ps r.order) s.symbols zs k))
  moved-after s (withdraw b n) r e = refl
  moved-after s (erase i) r e =
      ap (with_symbols (moved_state s)) (at_moved ps (λ y. record { symbol = erased_symbol y.symbol; priors = y.priors }) (λ y. record { symbol = erased_symbol y.symbol; priors = y.priors }) (i - 1) s.symbols (λ y. refl))
  moved-after s (read i k) r e = refl
  moved-after s (decide n) r e = refl

  -- ---- what stays so
  all_at : (P : Placed Symbol → Type 0) (f : Placed Symbol → Placed Symbol) (i : ℕ) (ys : List (Placed Symbol)) → ((y : Placed Symbol) → P y → P (f y)) → AllByRecursion P ys → AllByRecursion P (at_symbol f i ys)
  all_at P f i [] k h = tt
  all_at P f zero (y ∷ ys) k h = (k y h.0, h.1)
  all_at P f (suc i) (y ∷ ys) k h = (h.0, all_at P f i ys k h.1)

  all_spread : (m : ℕ) (ys : List (Placed Symbol)) (zs : List ℤ) → length zs ≡ length ys * m → AllByRecursion (λ y. length y.priors ≡ m) (spread m ys zs)
  all_spread m [] zs l = tt
  all_spread m (y ∷ ys) zs l =
      (simp length-take (omega (arith, suc-mul (length ys) m)), all_spread m ys (drop m zs) (simp length-drop (omega (arith, suc-mul (length ys) m))))

  record Stays (s t : State Symbol) : Type 0 where
    ready : Ready t
    count : length t.symbols ≡ length s.symbols
    m : t.meaning.m ≡ s.meaning.m

  stays_after : (s : State Symbol) (c : Call) → Ready s → verdict (outline s) c ≡ accepted → Stays s (after erased_symbol s c)
  stays_after s (tell i zs) r e = record {
    ready = record { lawful = r.lawful; order = r.order; sound = all_at (λ y. length y.priors ≡ s.meaning.m) (told zs) (i - 1) s.symbols (λ y h. (tell_is (outline s) i zs e).2) r.sound };
    count = length_at (told zs) (i - 1) s.symbols;
    m = refl;
  }
  stays_after s (taking n) r e = record { ready = record { lawful = r.lawful; order = r.order; sound = r.sound }; count = refl; m = refl }
  stays_after s (answer b n zs) r e = record {
    ready = record { lawful = r.lawful; order = r.order; sound = all_spread s.meaning.m s.symbols zs (answer_is (outline s) b n zs e).1 };
    count = length-spread s.meaning.m s.symbols zs;
    m = refl;
  }
  stays_after s (withdraw b n) r e = record { ready = record { lawful = r.lawful; order = r.order; sound = r.sound }; count = refl; m = refl }
  stays_after s (erase i) r e = record {
    ready = record { lawful = r.lawful; order = r.order; sound = all_at (λ y. length y.priors ≡ s.meaning.m) _ (i - 1) s.symbols (λ y h. h) r.sound };
    count = length_at _ (i - 1) s.symbols;
    m = refl;
  }
  stays_after s (read i k) r e = record { ready = r; count = refl; m = refl }
  stays_after s (decide n) r e = record { ready = r; count = refl; m = refl }

  -- ---- what a call yields
  -- what g has of each moved symbol is what h has of the symbol
  of_moved : {Z : Type 0} (g h : Placed Symbol → Z) (d : Z) (m i : ℕ) (ys : List (Placed Symbol)) → ((y : Placed Symbol) → length y.priors ≡ m → g (moved_symbol ps y) ≡ h y) →
      AllByRecursion (λ y. length y.priors ≡ m) ys → of_symbol g d i (map (moved_symbol ps) ys) ≡ of_symbol h d i ys
  of_moved g h d m i [] e a = refl
  of_moved g h d m zero (y ∷ ys) e a = e y a.0
  of_moved g h d m (suc i) (y ∷ ys) e a = of_moved g h d m i ys e a.1

  moved-looked : (M : Meaning) → Lawful M → permutes M.m ps ≡ true → (s k : ℕ) → 1 ≤ k → k ≤ M.m → (y : Placed Symbol) → length y.priors ≡ M.m →
      looked extrinsic_value (shuffled ps M) s (position k ps) (moved_symbol ps y) ≡ looked extrinsic_value M s k y
  moved-looked M L t s k low high y l =
      let O = order_from M.m ps t in
      let q = position_is M.m ps O k low high in
      let a : get_or (permute ps y.priors) (position k ps - 1) (pos 0) ≡ get_or y.priors (k - 1) (pos 0)
      = get_or-permute M.m ps O y.priors (position k ps) q.0 q.1 ∙ ap (λ j. get_or y.priors (j - 1) (pos 0)) q.2 in
      let e : extrinsic_value (shuffled ps M) s y.symbol (permute ps y.priors) (position k ps) ≡ extrinsic_value M s y.symbol y.priors k
      = (value-moved M L ps t s y.symbol y.priors (position k ps) l q.0 q.1).extrinsic ∙ ap (extrinsic_value M s y.symbol y.priors) q.2 in
      ap₂ (λ a e. (a, e, a +ℤ e)) a e

  accepted_yields : (s : State Symbol) (c : Call) → Ready s → verdict (outline s) c ≡ accepted → YieldsMoved ps s c (reply s c) (reply (moved_state s) (moved_at s c))
  accepted_yields s (tell i zs) r e = tt
  accepted_yields s (taking n) r e = λ i j i1 il j1 jm.
      let O = order_from s.meaning.m ps r.order in
      let jl : j - 1 < s.meaning.m = omega arith in
      let im : i ≤ length (moved_state s).symbols = omega (arith, size-moved s) in
      sheet-at (moved_state s) i j i1 im j1 jm
      ∙ of_moved _ _ (pos 0) s.meaning.m (i - 1) s.symbols (λ y l. (value-moved s.meaning r.lawful ps r.order s.shift y.symbol y.priors j l j1 jm).extrinsic) r.sound
      ∙ sym (sheet-at s i (get_or ps (j - 1) 0) i1 il (O.least (j - 1) jl) (O.most (j - 1) jl))
  accepted_yields s (answer b n zs) r e = tt
  accepted_yields s (withdraw b n) r e = tt
  accepted_yields s (erase i) r e = tt
  accepted_yields s (read i k) r e =
      let w = read_is (outline s) i k e in
      let t : up_to s.meaning.m k ≡ true = and_from (leb 1 k) (leb k s.meaning.m) (le-leb 1 k w.2) (le-leb k s.meaning.m w.3) in
      rw t
      (ap (λ (v : ℤ × ℤ × ℤ). v.0 ∷ v.1 ∷ v.2 ∷ [])
      (of_moved (looked extrinsic_value (shuffled ps s.meaning) s.shift (position k ps)) (looked extrinsic_value s.meaning s.shift k) (pos 0, pos 0, pos 0) s.meaning.m (i - 1) s.symbols
      (moved-looked s.meaning r.lawful r.order s.shift k w.2 w.3) r.sound))
  accepted_yields s (decide n) r e = λ i j i1 il j1 jm.
      let O = order_from s.meaning.m ps r.order in
      let jl : j - 1 < s.meaning.m = omega arith in
      let im : i ≤ length (moved_state s).symbols = omega (arith, size-moved s) in
      bits_at (moved_state s) i j i1 im j1 jm
      ∙ of_moved _ _ 0 s.meaning.m (i - 1) s.symbols (λ y l. (value-moved s.meaning r.lawful ps r.order s.shift y.symbol y.priors j l j1 jm).hard) r.sound
      ∙ sym (bits_at s i (get_or ps (j - 1) 0) i1 il (O.least (j - 1) jl) (O.most (j - 1) jl))

  refused_yields : (s : State Symbol) (c : Call) (w v : Refusal) → YieldsMoved ps s c (Refused w) (Refused v)
  refused_yields s (tell i zs) w v = tt
  refused_yields s (taking n) w v = λ i j i1 il j1 jm. refl
  refused_yields s (answer b n zs) w v = tt
  refused_yields s (withdraw b n) w v = tt
  refused_yields s (erase i) w v = tt
  refused_yields s (read i k) w v = refl
  refused_yields s (decide n) w v = λ i j i1 il j1 jm. refl

  -- ---- one step, and all of them
  record Step (s : State Symbol) (c d : Call) (v u : Verdict) : Type 0 where
    leaves-moved : leaves erased_symbol u (moved_state s) d ≡ moved_state (leaves erased_symbol v s c)
    stays : Stays s (leaves erased_symbol v s c)
    same : SameOutcome (outcome (says v s c)) (outcome (says u (moved_state s) d))
    yields : YieldsMoved ps s c (says v s c) (says u (moved_state s) d)

  one_step : (s : State Symbol) (c : Call) (v u : Verdict) → Ready s → verdict (outline s) c ≡ v → SameOutcome v u → Step s c (moved_at s c) v u
  one_step s c (Ok a) (Ok b) r e f = record {
    leaves-moved = moved-after s c r e;
    stays = stays_after s c r e;
    same = rw (reply-accepted s c, reply-accepted (moved_state s) (moved_at s c)) tt;
    yields = accepted_yields s c r e;
  }
  one_step s c (Ok a) (Err w) r e f = absurd f
  one_step s c (Err w) (Ok a) r e f = absurd f
  one_step s c (Err w) (Err v) r e f = record { leaves-moved = refl; stays = record { ready = r; count = refl; m = refl }; same = f; yields = refused_yields s c w v }

  all_steps : (n m : ℕ) (cs : List Call) (s : State Symbol) → Ready s → length s.symbols ≡ n → s.meaning.m ≡ m → AllZip (Moved ps) (run step s cs) (run step (moved_state s) (map (moved n m ps) cs))
  all_steps n m [] s r p q = tt
  all_steps n m (c ∷ cs) s r p q =
      let e : moved_at s c ≡ moved n m ps c = ap₂ (λ x y. moved x y ps c) p q in
      let O = order_from s.meaning.m ps r.order in
      let h = subst (λ d. Step s c d (verdict (outline s) c) (verdict (outline (moved_state s)) d)) e
      (one_step s c (verdict (outline s) c) (verdict (outline (moved_state s)) (moved_at s c)) r refl (same-verdict s c O)) in
      let more = all_steps n m cs (step s c).0 h.stays.ready (h.stays.count ∙ p) (h.stays.m ∙ q) in (
        record { same = h.same; yields = h.yields },
        subst (λ t. AllZip (Moved ps) (run step (step s c).0 cs) (run step t (map (moved n m ps) cs))) (sym h.leaves-moved) more,
      )

-- ---- before the closing: the meaning does not matter
abbrev over : Meaning → OpenState Symbol → OpenState Symbol
over N o = record { meaning = N; number = o.number; shift = o.shift; symbols = o.symbols; reference = o.reference }

over-place : (N : Meaning) (v : Verdict) (o : OpenState Symbol) (p : Placing) → place_after symbol_of v (over N o) p ≡ over N (place_after symbol_of v o p)
over-place N (Ok a) o p = refl
over-place N (Err e) o p = refl

over_placed : (N : Meaning) (ps : List Placing) (o : OpenState Symbol) → (placed_all (over N o) ps ≡ over N (placed_all o ps)) × (place_verdicts (over N o) ps ≡ place_verdicts o ps)
over_placed N [] o = (refl, refl)
over_placed N (p ∷ ps) o =
    let v = place_verdict (length o.symbols) o.reference p in
    let e = over-place N v o p in
    let more = over_placed N ps (place_after symbol_of v o p) in
    (ap (λ x. placed_all x ps) e ∙ more.0, ap (λ x. v ∷ place_verdicts x ps) e ∙ ap (λ vs. v ∷ vs) more.1)

closed-moved : (ps : List ℕ) (o : OpenState Symbol) → Order o.meaning.m ps → closed (over (shuffled ps o.meaning) o) ≡ moved_state ps (closed o)
closed-moved ps o O =
    ap (λ (ys : List (Placed Symbol)). record { meaning = shuffled ps o.meaning; number = o.number; shift = o.shift; symbols = ys; given = 0; out = false }) (go o.symbols)
  where
    go : (xs : List Symbol) → map (λ x. record { symbol = x; priors = replicate o.meaning.m (pos 0) }) xs ≡ map (moved_symbol ps) (map (λ x. record { symbol = x; priors = replicate o.meaning.m (pos 0) }) xs)
    go [] = refl
    go (x ∷ xs) = ap₂ (λ zs (ys : List (Placed Symbol)). record { symbol = x; priors = zs } ∷ ys) (sym (permute_zeros o.meaning.m ps O)) (go xs)

zeros_sound : (m : ℕ) (xs : List Symbol) → AllByRecursion (λ (y : Placed Symbol). length y.priors ≡ m) (map (λ x. record { symbol = x; priors = replicate m (pos 0) }) xs)
zeros_sound m [] = tt
zeros_sound m (x ∷ xs) = (length-replicate m (pos 0), zeros_sound m xs)

pub runs_moved : RunsMoved
runs_moved M L ps t number s placings cs =
    let o : OpenState Symbol = placed_all (opened M number s) placings in
    let c : o.meaning ≡ M = (chosen M number s placings).meaning in
    let t' : permutes o.meaning.m ps ≡ true = subst (λ N. permutes N.m ps ≡ true) (sym c) t in
    let placed = over_placed (shuffled ps M) placings (opened M number s) in
    let first : start (shuffled ps M) number s placings ≡ moved_state ps (start M number s placings)
    = ap closed placed.0 ∙ ap (λ N. closed (over (shuffled ps N) o)) (sym c) ∙ closed-moved ps o (order_from o.meaning.m ps t') in
    record {
      placed = placed.1;
      calls = subst (λ x. AllZip (Moved ps) (run step (start M number s placings) cs) (run step x (map (moved (length (start M number s placings).symbols) M.m ps) cs))) (sym first)
          (all_steps ps (length (start M number s placings).symbols) M.m cs (start M number s placings)
          (record { lawful = subst Lawful (sym c) L; order = t'; sound = zeros_sound o.meaning.m o.symbols }) refl (ap (λ N. N.m) c));
    }
