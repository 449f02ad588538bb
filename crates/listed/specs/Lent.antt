-- A section whose records are given back by value: the first of so many equal records were lent to the reader.
use Rattle.std.specs.Prelude.{◌≡◌, List, ℕ, ◌-◌, min, take, drop, replicate}
use Rattle.section_steps.specs.declared.Field.{Field}
use Rattle.decoder.specs.Section.{Reader, section_of, read_all}
use Rattle.listed.specs.declared.Listed.{Listed}

-- how many records there are
abbrev pub records : ℕ
records = 1024

-- how many records are lent where `room` are asked for
abbrev pub lent_of : ℕ → ℕ
lent_of room = min room records

-- The answer, the n records that were lent and the buffer are what the reader k makes of n records `fill` and the buffer `out`; the records past them are as they were.
abbrev pub Lists : Reader → List ℕ → Field → ℕ → List ℕ → Listed → List ℕ → Type 0
Lists k s fill n out r last =
    (section_of r.decoded (take n r.fields) last ≡ read_all (λ f. f) k s (replicate n fill) out)
    × (drop n r.fields ≡ replicate (records - n) fill)
