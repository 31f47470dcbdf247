-- What is accepted, in the format's terms.
use Rattle.std.specs.Prelude.{◌≡◌, ℕ, ◌<◌, List, Ok}
use Rattle.std.specs.List.{AllByRecursion}
use Rattle.burstfile.specs.Format.{Contents, Shape, Rules, encode}
use Rattle.burstfile.specs.Reading.{Layout, cut, contents_of}
use Rattle.burstfile.specs.Values.{read_spec}

abbrev pub Bytes : List ℕ → Type 0
Bytes bs = AllByRecursion (λ b. b < 256) bs

-- the bytes are the encoding of contents that can be written
abbrev pub Shaped : List ℕ → Contents → Type 0
Shaped bs c = (bs ≡ encode c) × Shape c

-- the bytes are the encoding of contents within all their rules
abbrev pub Written : List ℕ → Contents → Type 0
Written bs c = (bs ≡ encode c) × Rules c

-- what is cut was written
abbrev pub CutIsEncoded : Type 0
CutIsEncoded = (bs : List ℕ) (l : Layout) → Bytes bs → cut bs ≡ Ok l → Shaped bs (contents_of l)

-- what is written is cut, into the same contents
abbrev pub EncodedIsCut : Type 0
EncodedIsCut = (c : Contents) → Shape c → (l : Layout) × (cut (encode c) ≡ Ok l) × (contents_of l ≡ c)

-- Exactly the encodings of contents within their rules are accepted, and those contents are handed back.
abbrev pub AcceptsEncodings : Type 0
AcceptsEncodings = (bs : List ℕ) (c : Contents) → Bytes bs
    → (read_spec bs ≡ Ok c → Written bs c) × (Written bs c → read_spec bs ≡ Ok c)
