-- Where the sections of a file stand, which refusal comes where they do not, and what they hold: as functions that compute.
use Rattle.std.specs.Prelude.{◌≡◌, ℕ, zero, suc, ◌+◌, ◌*◌, Bool, true, cond, List, [], ◌∷◌, length, take, drop, ℤ, Some, None, Ok, Err, Option, Result, ◌==◌, nat_le, slice_index}
use Rattle.std.specs.Int.{w16}
use Rattle.std.proofs.Common.{to_z}
use Rattle.refusal.specs.declared.Cause.TheVariants.{Cut, Field}
use Rattle.refusal.specs.declared.Refusal.{Refusal}
use Rattle.burstfile.specs.declared.view.File.{File}
use Rattle.burstfile.specs.declared.view.RecordView.{RecordView}
use Rattle.burstfile.specs.Modes.{mode_number}
use Rattle.burstfile.specs.Format.{Pair, Vector, Contents, vector_size, channel_of, symbols_of, bits_of}

-- the settings, and the bytes of the records and of the a priori values
pub record Layout : Type 0 where
  pub mode : ℕ
  pub shift : ℕ
  pub antennas : ℕ
  pub count : ℕ
  pub records : List ℕ
  pub priors : List ℕ

-- the file, of n bytes, ends inside a section
abbrev pub cut_at : ℕ → Refusal
cut_at n = record { cause = Cut; place = n }

-- the field at an offset breaks its rule
abbrev pub broken_at : ℕ → Refusal
broken_at offset = record { cause = Field; place = offset }

-- the refusal of the field that breaks its rule, if there is one
abbrev pub field_fault : Option ℕ → Option Refusal
field_fault None = None
field_fault (Some offset) = Some (broken_at offset)

-- goes on where no field of a section breaks its rule; else the field at the offset is refused
abbrev pub unless_broken : Option ℕ → Result Layout Refusal → Result Layout Refusal
unless_broken None r = r
unless_broken (Some offset) r = Err (broken_at offset)

-- Each section goes on with the next; total is the file's length.

-- may count vectors come with k a priori values
abbrev pub priors_allowed : ℕ → ℕ → ℕ → Bool
priors_allowed mode count k = cond (k == 0) true (k == symbols_of mode count * bits_of mode)

-- section 4, after size bytes of records: its count k, and the left bytes, which are k values and no more
abbrev pub broken_priors : ℕ → ℕ → ℕ → ℕ → ℕ → Option ℕ
broken_priors mode count size k left = cond (priors_allowed mode count k) (cond (left == 2 * k) None (Some (8 + size + 2 * k))) (Some (6 + size))

-- section 4: its count, and two bytes a value; then the file ends
abbrev pub cut_priors : ℕ → ℕ → ℕ → ℕ → ℕ → List ℕ → List ℕ → Result Layout Refusal
cut_priors total mode shift antennas count records [] = Err (cut_at total)
cut_priors total mode shift antennas count records (x ∷ []) = Err (cut_at total)
cut_priors total mode shift antennas count records (high ∷ low ∷ rest) =
    cond (nat_le (2 * (high * 256 + low)) (length rest))
    (unless_broken (broken_priors mode count (length records) (high * 256 + low) (length rest))
    (Ok (record { mode = mode; shift = shift; antennas = antennas; count = count; records = records; priors = rest })))
    (Err (cut_at total))

abbrev pub records_size : ℕ → ℕ → ℕ → ℕ
records_size mode antennas count = count * vector_size antennas (channel_of mode antennas)

-- section 3: its count, and the records
abbrev pub cut_vectors : ℕ → ℕ → ℕ → ℕ → List ℕ → Result Layout Refusal
cut_vectors total mode shift antennas [] = Err (cut_at total)
cut_vectors total mode shift antennas (x ∷ []) = Err (cut_at total)
cut_vectors total mode shift antennas (high ∷ low ∷ rest) =
    cond (nat_le (records_size mode antennas (high * 256 + low)) (length rest))
    (cut_priors total mode shift antennas (high * 256 + low)
    (take (records_size mode antennas (high * 256 + low)) rest)
    (drop (records_size mode antennas (high * 256 + low)) rest))
    (Err (cut_at total))

-- section 2: 1 to 4 antennas
abbrev pub broken_antennas : ℕ → Option ℕ
broken_antennas antennas = cond (nat_le 1 antennas) (cond (nat_le antennas 4) None (Some 3)) (Some 3)

abbrev pub cut_antennas : ℕ → ℕ → ℕ → List ℕ → Result Layout Refusal
cut_antennas total mode shift [] = Err (cut_at total)
cut_antennas total mode shift (antennas ∷ rest) = unless_broken (broken_antennas antennas) (cut_vectors total mode shift antennas rest)

-- section 1: byte 2, mode 1 to 10, shift
abbrev pub broken_settings : ℕ → ℕ → Option ℕ
broken_settings magic mode = cond (magic == 2) (cond (nat_le 1 mode) (cond (nat_le mode 10) None (Some 1)) (Some 1)) (Some 0)

abbrev pub cut_settings : ℕ → List ℕ → Result Layout Refusal
cut_settings total [] = Err (cut_at total)
cut_settings total (a ∷ []) = Err (cut_at total)
cut_settings total (a ∷ b ∷ []) = Err (cut_at total)
cut_settings total (magic ∷ mode ∷ shift ∷ rest) = unless_broken (broken_settings magic mode) (cut_antennas total mode shift rest)

-- the sections of a file
abbrev pub cut : List ℕ → Result Layout Refusal
cut bytes = cut_settings (length bytes) bytes

-- the sections that the code hands back
abbrev pub laid : File → Layout
laid f = record {
  mode = mode_number f.settings.mode;
  shift = f.settings.shift;
  antennas = f.settings.antennas;
  count = f.count;
  records = f.records.now;
  priors = f.priors.now;
}

-- a signed number from its two bytes
abbrev pub signed_of : ℕ → ℕ → ℤ
signed_of high low = to_z w16 (high * 256 + low)

abbrev pub pair_of : ℤ → ℤ → Pair
pair_of re im = record { re = re; im = im }

-- pairs, four bytes each
abbrev pub pairs_of : List ℕ → List Pair
pairs_of [] = []
pairs_of (a ∷ []) = []
pairs_of (a ∷ b ∷ []) = []
pairs_of (a ∷ b ∷ c ∷ []) = []
pairs_of (a ∷ b ∷ c ∷ d ∷ bs) = pair_of (signed_of a b) (signed_of c d) ∷ pairs_of bs

-- signed numbers, two bytes each
abbrev pub signeds_of : List ℕ → List ℤ
signeds_of [] = []
signeds_of (a ∷ []) = []
signeds_of (a ∷ b ∷ bs) = signed_of a b ∷ signeds_of bs

-- a vector from its bytes, with a pairs of y
abbrev pub vector_of : ℕ → List ℕ → Vector
vector_of a bs = record {
  weight = slice_index bs 0 * 256 + slice_index bs 1;
  y = pairs_of (take (4 * a) (drop 2 bs));
  h = pairs_of (drop (4 * a) (drop 2 bs));
}

-- n vectors, size bytes each
abbrev pub vectors_of : ℕ → ℕ → ℕ → List ℕ → List Vector
vectors_of zero size a bs = []
vectors_of (suc n) size a bs = vector_of a (take size bs) ∷ vectors_of n size a (drop size bs)

-- the vector that the code shows
abbrev pub shown : RecordView → Vector
shown v = record { weight = v.weight; y = pairs_of v.y.now; h = pairs_of v.h.now }

-- the bytes of a record
abbrev pub size_of : Layout → ℕ
size_of l = vector_size l.antennas (channel_of l.mode l.antennas)

-- what the sections hold
abbrev pub contents_of : Layout → Contents
contents_of l = record {
  mode = l.mode;
  shift = l.shift;
  antennas = l.antennas;
  vectors = vectors_of l.count (size_of l) l.antennas l.records;
  priors = signeds_of l.priors;
}

-- the sections are as long as their counts say
pub record Whole (l : Layout) : Type 0 where
  pub records : length l.records ≡ l.count * size_of l
  pub vectors : length (contents_of l).vectors ≡ l.count
  pub priors : length l.priors ≡ 2 * length (contents_of l).priors
