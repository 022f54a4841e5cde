-- The first line of a script.
use Rattle.std.specs.Prelude.{ℕ, Bool, cond, ◌&&◌, List, length, replicate, Some, None, Ok, Err, Option, Result, ◌==◌, nat_le, slice_index}
use Rattle.std.specs.Option.{option_map}
use Rattle.text.specs.Decimal.{decimal}
use Rattle.text.specs.Fields.{taken}
use Rattle.zoned.specs.declared.counts.Counts.{Counts}
use Rattle.zoned.specs.declared.refusals.InputRefusal.{InputRefusal}
use Rattle.zoned.specs.declared.refusals.InputRefusal.TheVariants as Input
use Rattle.zoned.specs.Limits.{within, bytes_of}
use Rattle.zoned.specs.Rules.{Blocks}
use Rattle.drives.specs.declared.kind.DriveKind.{DriveKind}
use Rattle.drives.specs.declared.kind.DriveKind.TheVariants.{Magnetic, Flash}
use Rattle.setup.specs.declared.line.KindWord.{KindWord}
use Rattle.setup.specs.declared.line.Setup.{Setup}

-- a field of these three bytes
abbrev pub is_word : ℕ → ℕ → ℕ → List ℕ → Bool
is_word a b c w = length w == 3 && (slice_index w 0 == a && (slice_index w 1 == b && slice_index w 2 == c))

-- smr or zns
abbrev pub kind_of : List ℕ → Option DriveKind
kind_of w = cond (is_word 115 109 114 w) (Some Magnetic) (cond (is_word 122 110 115 w) (Some Flash) None)

abbrev pub kind_word : List ℕ → Option KindWord
kind_word w = option_map (λ k. record { 0 = k }) (kind_of w)

-- reading on, where a field was understood
abbrev pub reading_on : {A B : Type 0} → Option A × List (List ℕ) → (A → List (List ℕ) → Option B × List (List ℕ)) → Option B × List (List ℕ)
reading_on (None, ws) f = (None, ws)
reading_on (Some a, ws) f = f a ws

-- seven fields: the kind; zones, conventional zones, blocks, bytes, open limit and reserve
abbrev pub setup_taken : List (List ℕ) → Option Setup × List (List ℕ)
setup_taken ws =
    reading_on (taken kind_word ws) (λ word ws.
    reading_on (taken decimal ws) (λ zones ws.
    reading_on (taken decimal ws) (λ conventional ws.
    reading_on (taken decimal ws) (λ blocks ws.
    reading_on (taken decimal ws) (λ bytes ws.
    reading_on (taken decimal ws) (λ open_limit ws.
    reading_on (taken decimal ws) (λ reserve ws.
    (Some (record { kind = word.0; counts = record { zones = zones; conventional = conventional; blocks = blocks; bytes = bytes; open_limit = open_limit; reserve = reserve } }), ws))))))))

-- all bytes of the blocks
abbrev pub all_bytes : Counts → ℕ
all_bytes c = bytes_of c c.zones

-- counts within the limits, and at most 65,536 bytes
abbrev pub setup_checked : Setup → Result Unit InputRefusal
setup_checked s = cond (within s.counts && nat_le (all_bytes s.counts) 65536) (Ok tt) (Err Input.Geometry)

-- blocks of bytes 0, for each zone and place
abbrev pub zero_blocks : Counts → Blocks
zero_blocks c = replicate c.zones (replicate c.blocks (replicate c.bytes 0))
