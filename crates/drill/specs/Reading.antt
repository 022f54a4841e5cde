-- The lines of a drill, from their fields.
use Rattle.std.specs.Prelude.{ℕ, cond, ◌&&◌, List, [], ◌∷◌, length, Some, None, Option, ◌==◌, slice_index}
use Rattle.std.specs.Option.{option_map}
use Rattle.setup.specs.Setup.{is_word}
use Rattle.text.specs.Decimal.{decimal}
use Rattle.text.specs.Fields.{and_then, at_end, taken}
use Rattle.text.specs.Hexadecimal.{hex_byte}
use Rattle.zoned.specs.declared.commands.Action.{Action}
use Rattle.zoned.specs.declared.commands.Action.TheVariants as Act
use Rattle.zoned.specs.declared.conditions.Bad.{Bad}
use Rattle.zoned.specs.declared.conditions.Bad.TheVariants as BadAs
use Rattle.drill.specs.declared.instruction.Instruction.{Instruction}
use Rattle.drill.specs.declared.instruction.Instruction.TheVariants as To
use Rattle.drill.specs.declared.reading.FaultWord.{FaultWord}

-- ro or off
abbrev pub bad_of : List ℕ → Option Bad
bad_of w = cond (length w == 2 && (slice_index w 0 == 114 && slice_index w 1 == 111)) (Some BadAs.ReadOnly) (cond (is_word 111 102 102 w) (Some BadAs.Offline) None)

abbrev pub fault_word : List ℕ → Option FaultWord
fault_word w = option_map (λ b. record { 0 = b }) (bad_of w)

-- zone, count, condition
abbrev pub trip_of : List (List ℕ) → Option Instruction
trip_of ws =
    and_then (taken decimal ws) (λ zone ws.
    and_then (taken decimal ws) (λ count ws.
    and_then (taken bad_of ws) (λ bad ws.
    at_end ws (To.SetTrip (record { 0 = zone }) (record { count = count; into = bad })))))

-- zone
abbrev pub manage_of : Action → List (List ℕ) → Option Instruction
manage_of a ws = and_then (taken decimal ws) (λ zone ws. at_end ws (To.Manage (record { 0 = zone }) a))

-- zone, place, byte
abbrev pub write_of : List (List ℕ) → Option Instruction
write_of ws =
    and_then (taken decimal ws) (λ zone ws.
    and_then (taken decimal ws) (λ place ws.
    and_then (taken hex_byte ws) (λ byte ws.
    at_end ws (To.Write (record { 0 = zone }) (record { 0 = place }) byte))))

-- zone, place
abbrev pub read_of : List (List ℕ) → Option Instruction
read_of ws =
    and_then (taken decimal ws) (λ zone ws.
    and_then (taken decimal ws) (λ place ws.
    at_end ws (To.Read (record { 0 = zone }) (record { 0 = place }))))

-- the fields after the field of a letter: t, o, c, f, x, w, r, l or q
abbrev pub lettered_by : ℕ → List (List ℕ) → Option Instruction
lettered_by b ws =
    cond (b == 116) (trip_of ws)
    (cond (b == 111) (manage_of Act.Open ws)
    (cond (b == 99) (manage_of Act.Close ws)
    (cond (b == 102) (manage_of Act.Finish ws)
    (cond (b == 120) (manage_of Act.Reset ws)
    (cond (b == 119) (write_of ws)
    (cond (b == 114) (read_of ws)
    (cond (b == 108) (at_end ws To.List)
    (cond (b == 113) (at_end ws To.Mark)
    None))))))))

-- a letter is a field of one byte
abbrev pub lettered : List ℕ → List (List ℕ) → Option Instruction
lettered [] ws = None
lettered (b ∷ []) ws = lettered_by b ws
lettered (b ∷ (c ∷ cs)) ws = None

-- what a line of these fields asks for, if it is understood
abbrev pub instruction_of : List (List ℕ) → Option Instruction
instruction_of ws = and_then (taken Some ws) lettered
