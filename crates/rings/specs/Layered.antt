-- A constellation that has the points of another several times, each time at another scale and with a code put after the label.
use Rattle.std.specs.Prelude.{ℕ, ◌+◌, ◌*◌, ◌/◌, ◌%◌, ◌^◌, min, Bool, cond, ◌&&◌, List, map, length, nat_le, slice_index_or}
use Rattle.std.specs.List.{flat_map}
use Rattle.constellation.specs.Meaning.{Meaning, nth}
use Rattle.constellation.specs.declared.Point.{Point}
use Rattle.rings.specs.Copies.{nothing, Plan}
use Rattle.rings.specs.declared.copied.Copied.{Copied}

-- a coordinate times r / 1024, rounded to the nearest
abbrev pub scaled : ℕ → ℕ → ℕ
scaled r z = min 4095 ((r * z + 512) / 1024)

-- the point p in one copy, with a code of k bits. Where nothing is added, e stays, since none is above 2 ^ 27.
abbrev pub copied : ℕ → Copied → Point → Point
copied k t p = record { x = scaled t.scale p.x; y = scaled t.scale p.y; e = min (2 ^ 27) (p.e + t.added); label = p.label * 2 ^ k + t.code }

-- for each copy, every point below in order
abbrev pub spread : ℕ → List Copied → List Point → List Point
spread k ts ps = flat_map (λ t. map (copied k t) ps) ts

-- the point of index i among them
abbrev pub copied_at : Plan → List Point → ℕ → Point
copied_at plan ps i = copied plan.bits (slice_index_or plan.copies (i / length ps) nothing) (nth ps (i % length ps + 1))

-- the layer's meaning over what is below
abbrev pub stacked : Plan → Meaning → Meaning
stacked plan M = record { m = M.m + plan.bits; u = M.u; v = M.v; points = spread plan.bits plan.copies M.points }

-- the layer passes neither 8 bits nor 64 points of the quadrant
abbrev pub room : Plan → Meaning → Bool
room plan M = nat_le (M.m + plan.bits) 8 && nat_le (length M.points * length plan.copies) 64

-- over any meaning: where the layer would not fit, the one below
abbrev pub layered : Plan → Meaning → Meaning
layered plan M = cond (room plan M) (stacked plan M) M
