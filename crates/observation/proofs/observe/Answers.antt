use Rattle.observation.proofs.observe.Goals as goal
use Rattle.std.proofs.Common.{◌≡◌, ℕ, ◌+◌, ◌<◌, List, length, get_or, take, pos, sym, subst}
use Rattle.std.proofs.ByRecursion.{All-get_or}
use Rattle.std.proofs.lemmas.List.{length_push}
use Rattle.std.proofs.lemmas.Slice.Zip.{zip_turn}
use Rattle.std.specs.Iterator.Adapters.{zip_first, zip_second}
use Rattle.std.specs.List.{AllByRecursion}
use Rattle.std.specs.Slice.Iter.{iter_rest}
use Rattle.observation.specs.declared.Sample.{Sample}
use Rattle.observation.specs.declared.Record.{Record}
use Rattle.observation.specs.Observed.{Ranged, symbol_of, held}
use Rattle.observation.specs.Joining.{Summed, Joined}
use Rattle.observation.proofs.Antennas.{join_more, sum_small}

abbrev nothing : Sample
nothing = record { re = pos 0; im = pos 0 }

ranged_at : {s : Sample} (ss : List Sample) (i : ℕ) → i < length ss → s ≡ get_or ss i nothing → AllByRecursion Ranged ss → Ranged s
ranged_at ss i h e all = subst Ranged (sym e) (All-get_or Ranged ss i nothing h all)

-- the record of so many antennas
abbrev So_far : List Sample → List Sample → ℕ → ℕ → Record → Type 0
So_far ys hs w n r = (r ≡ held (symbol_of (take n ys) (take n hs) w)) × Summed n r

one_more : (ys hs : List Sample) (w n k : ℕ) {r s : Record} {y h : Sample} → length ys ≡ length hs → n < length ys → k ≡ n + 1 → y ≡ get_or ys n nothing → h ≡ get_or hs n nothing →
    Ranged y → Ranged h → So_far ys hs w n r → Joined r y h s → So_far ys hs w k s
one_more ys hs w n k {r} {s} {y} {h} e l f g i p q so j =
    subst (λ (m : ℕ). So_far ys hs w m s) (sym f) (
      join_more ys hs w n nothing e l so.0 (subst (λ (z : Sample). Joined r z (get_or hs n nothing) s) g (subst (λ (z : Sample). Joined r y z s) i j)),
      sum_small n so.1 j p q,
    )

pub invariant_of-antenna : goal.invariant_of-antenna
invariant_of-antenna c =
    let s = c.into_iter-received-iterator in
    let first : iter_rest (zip_first s.result) ≡ c.args.y.now = cc in
    let second : iter_rest (zip_second s.result) ≡ c.args.h.now = cc in
    let at = zip_turn c.args.y.now c.args.h.now c.loop-received.yielded s.result c.loop-received.received-iterator c.next.new.self c.next.result first second c.loop-received.yielded_by _ c.in-Some.is c.next.ensures.steps in
    record {
      y_ranged = ranged_at c.args.y.now (length c.loop-received.yielded) at.0 (at.2 nothing) c.requires.y_ranged;
      h_ranged = ranged_at c.args.h.now (length c.loop-received.yielded) at.1 (at.3 nothing) c.requires.h_ranged;
    }

pub loop-received-preserved : goal.loop-received-preserved
loop-received-preserved c =
    let s = c.into_iter-received-iterator in
    let first : iter_rest (zip_first s.result) ≡ c.args.y.now = cc in
    let second : iter_rest (zip_second s.result) ≡ c.args.h.now = cc in
    let at = zip_turn c.args.y.now c.args.h.now c.loop-received.yielded s.result c.loop-received.received-iterator c.next.new.self c.next.result first second c.loop-received.yielded_by _ c.in-Some.is c.next.ensures.steps in
    let n = length c.loop-received.yielded in
    one_more c.args.y.now c.args.h.now c.args.weight n _ c.requires.alike at.0 (length_push c.loop-received.yielded _) (at.2 nothing) (at.3 nothing)
    (ranged_at c.args.y.now n at.0 (at.2 nothing) c.requires.y_ranged) (ranged_at c.args.h.now n at.1 (at.3 nothing) c.requires.h_ranged) c.loop-received.invariant c.joined-total.ensures
