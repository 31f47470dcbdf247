use Rattle.std.proofs.Common.{◌≡◌, ℕ, ◌≤◌, length, None, sym, ap, ◌∙◌, subst, arith}
use Rattle.constellation.specs.Meaning.{Meaning}
use Rattle.catalogue.specs.Modes.{catalogue_meaning}
use Rattle.catalogue.specs.declared.Catalogue.{Catalogue}
use Rattle.metric.specs.Exhaustive.{Symbol}
use Rattle.protocol.specs.Placings.{OpenState, opened}
use Rattle.protocol.specs.Calls.{closed}
use Rattle.protocol.specs.Stands.{StandsOpen, Stands}
use Rattle.burst.specs.Public.{open_kept, closed_kept, ClosedBy}
use Rattle.burst.specs.declared.burst.OpenBurst.{OpenBurst}
use Rattle.burst.specs.declared.burst.Burst.{Burst}
use Rattle.burstfile.specs.declared.view.File.{File}
use Rattle.burstfile.specs.Format.{Contents, Shape, bits_of}
use Rattle.burstfile.specs.Reading.{laid, contents_of}
use Rattle.burstfile.specs.Values.{values_fault, numbered_fault, priors_fault}
use Rattle.burstfile.proofs.Ranges.{values_good}
use Rattle.reading.specs.Held.{offered, placed_all, told_all, file_state, Filled}
use Rattle.reading.proofs.Offering.{offered_bits, few_bits}
use Rattle.reading.proofs.Ready.{ready_few, ready_idle, ready_sized}
use Rattle.reading.proofs.Spreading.{told-stands, told_count, all_inside}
use Rattle.catalogue.specs.Modes.{mode_meaning}
use Rattle.reading.proofs.files.burst_of.Goals as goal

-- the burst, once its records are placed and it is closed
module _ (f : File) (s : Shape (contents_of (laid f))) (number : ℕ) (c : Catalogue) (is : catalogue_meaning c ≡ offered (mode_meaning (contents_of (laid f)).mode))
    (placed : OpenBurst Catalogue) (F : Filled (contents_of (laid f)) c number placed) (none : priors_fault 1 (contents_of (laid f)).priors ≡ None)
    (b : Burst Catalogue) (same : b.c ≡ placed.c) (P : ClosedBy (open_kept (catalogue_meaning placed.c) placed.draft) (closed_kept (catalogue_meaning b.c) b.table)) where
  abbrev C : Contents
  C = contents_of (laid f)

  no_fault : values_fault C ≡ None
  no_fault = F.fault ∙ ap (numbered_fault 0) none

  abbrev placings : OpenState Symbol
  placings = placed_all C.mode (opened (catalogue_meaning c) number C.shift) C.vectors

  stands : Stands (closed_kept (catalogue_meaning b.c) b.table) (closed placings)
  stands = P.stands placings (subst (λ (q : Catalogue). StandsOpen (open_kept (catalogue_meaning q) placed.draft) placings) (sym F.same) F.stands)

  bits : (catalogue_meaning b.c).m ≡ bits_of C.mode
  bits = ap (λ (q : Catalogue). (catalogue_meaning q).m) (same ∙ F.same) ∙ (ap (λ (M : Meaning). M.m) is ∙ offered_bits f.settings.mode)

pub tell_all-requires : goal.tell_all-requires
tell_all-requires c =
    let f = c.args.file in
    let C = contents_of (laid f) in
    let s = c.requires.shape in
    let n = c.args.number in
    let k = c.constellation_of-c.result in
    let e = c.constellation_of-c.ensures in
    let a = c.in_ok-placed.placed in
    let F = c.in_ok-placed.ensures in
    let z = c.in_ok-check_priors.ensures in
    let b = c.close-burst.result in
    let d = c.close-burst.ensures.same in
    let P = c.close-burst.ensures.closed in
    let o = placings f s n k e a F z b d P in
    let st = stands f s n k e a F z b d P in
    let v = no_fault f s n k e a F z b d P in
    let m = bits f s n k e a F z b d P in
    let q = closed_kept (catalogue_meaning b.c) b.table in
    record {
      few = omega (arith, m, few_bits C.mode);
      count = ready_few C s v (catalogue_meaning b.c).m m o F.count q st;
      idle = ready_idle C s v (catalogue_meaning b.c).m m o F.count q st;
      sized = ready_sized C s v (catalogue_meaning b.c).m m o F.count q st (length f.priors.now) c.requires.whole.priors;
      ranged = all_inside C.priors (values_good C v).priors;
    }

pub returns : goal.returns
returns c =
    let f = c.args.file in
    let C = contents_of (laid f) in
    let s = c.requires.shape in
    let n = c.args.number in
    let k = c.constellation_of-c.result in
    let e = c.constellation_of-c.ensures in
    let a = c.in_ok-placed.placed in
    let F = c.in_ok-placed.ensures in
    let z = c.in_ok-check_priors.ensures in
    let b = c.close-burst.result in
    let d = c.close-burst.ensures.same in
    let P = c.close-burst.ensures.closed in
    let o = placings f s n k e a F z b d P in
    let st = stands f s n k e a F z b d P in
    let v = no_fault f s n k e a F z b d P in
    let m = bits f s n k e a F z b d P in
    let q = closed_kept (catalogue_meaning b.c) b.table in
    let l = c.tell_all.new.burst in
    let t = c.tell_all.ensures.told in
    let same : l.c ≡ b.c = c.tell_all.ensures.same in
    let full : Stands (closed_kept (catalogue_meaning b.c) l.table) (file_state C n)
    = subst (λ (M : Meaning). Stands (closed_kept (catalogue_meaning b.c) l.table) (told_all (closed (placed_all C.mode (opened M n C.shift) C.vectors)) C.priors)) e
    (t ∙ told-stands q (closed o) C.priors st) in
    let few : length (closed_kept (catalogue_meaning b.c) l.table).symbols ≤ 128
    = omega (arith, ap (λ r. length r.symbols) t, told_count q C.priors, ready_few C s v (catalogue_meaning b.c).m m o F.count q st) in (
      v,
      subst (λ (r : Catalogue). Stands (closed_kept (catalogue_meaning r) l.table) (file_state C n)) (sym same) full,
      subst (λ (r : Catalogue). length (closed_kept (catalogue_meaning r) l.table).symbols ≤ 128) (sym same) few,
      subst (λ (r : Catalogue). (catalogue_meaning r).m ≤ 8) (sym same) (omega (arith, m, few_bits C.mode)),
    )
