-- What a drill prints.
use Rattle.std.specs.Prelude.{ℕ, Bool, true, false, cond, List, [], ◌∷◌, ◌++◌, replicate, Some, None, Ok, Err, Option, Result}
use Rattle.drives.specs.Drives.{new_table, trip_set}
use Rattle.drives.specs.Table.{table_after, table_verdict}
use Rattle.setup.specs.declared.line.Setup.{Setup}
use Rattle.setup.specs.Setup.{setup_checked, setup_taken, zero_blocks}
use Rattle.text.specs.Fields.{at_end}
use Rattle.text.specs.Hexadecimal.{hex}
use Rattle.text.specs.Pieces.{all_ended, cut_at, ended_lines, fields}
use Rattle.text.specs.Replies.{not_understood, numbered_answer, refusal}
use Rattle.zoned.specs.declared.refusals.DeviceRefusal.{DeviceRefusal}
use Rattle.zoned.specs.declared.refusals.InputRefusal.{InputRefusal}
use Rattle.zoned.specs.Codes.{device_number, input_number}
use Rattle.zoned.specs.Commands.{Command, manage, read, write}
use Rattle.zoned.specs.Limits.{kept}
use Rattle.zoned.specs.Listing.{listing}
use Rattle.zoned.specs.Rules.{Verdict, answer, block_at, blocks_after}
use Rattle.drill.specs.declared.instruction.Instruction.{Instruction}
use Rattle.drill.specs.declared.instruction.Instruction.TheVariants as To
use Rattle.drill.specs.Drilled.{Drilled}
use Rattle.drill.specs.Reading.{instruction_of}

-- ---- what is printed

abbrev pub reply : Result Unit DeviceRefusal → List ℕ
reply = numbered_answer device_number

abbrev pub input_reply : Result Unit InputRefusal → List ℕ
input_reply = numbered_answer input_number

-- the bytes read, or why not
abbrev pub read_reply : Result Unit DeviceRefusal → List ℕ → List ℕ
read_reply (Ok u) block = hex block ++ (10 ∷ [])
read_reply (Err e) block = refusal (device_number e)

-- a line for three bytes
abbrev pub in_threes : List ℕ → List ℕ
in_threes [] = []
in_threes (a ∷ []) = []
in_threes (a ∷ (b ∷ [])) = []
in_threes (a ∷ (b ∷ (c ∷ rest))) = (hex (a ∷ (b ∷ (c ∷ []))) ++ (10 ∷ [])) ++ in_threes rest

-- up or down
abbrev pub mark_line : Bool → List ℕ
mark_line true = 117 ∷ (112 ∷ (10 ∷ []))
mark_line false = 100 ∷ (111 ∷ (119 ∷ (110 ∷ (10 ∷ []))))

-- ---- what is done

abbrev pub verdict_on : Drilled → Command → Verdict
verdict_on m c = table_verdict m.zones c

abbrev pub commanded : Drilled → Command → Drilled
commanded m c = record { zones = table_after m.zones c; blocks = blocks_after m.blocks c (verdict_on m c) }

abbrev pub bytes_of : Drilled → ℕ
bytes_of m = m.zones.told.counts.bytes

-- the drive after an instruction, and what is printed for it
abbrev pub obeyed : Drilled → Instruction → Drilled × List ℕ
obeyed m (To.SetTrip z t) = (record { zones = (trip_set m.zones z.0 t).1; blocks = m.blocks }, input_reply (trip_set m.zones z.0 t).0)
obeyed m (To.Manage z a) = (commanded m (manage a z.0), reply (answer (verdict_on m (manage a z.0))))
obeyed m (To.Write z p b) = (commanded m (write z.0 p.0 (replicate (bytes_of m) b)), reply (answer (verdict_on m (write z.0 p.0 (replicate (bytes_of m) b)))))
obeyed m (To.Read z p) = (commanded m (read z.0 p.0 (bytes_of m)), read_reply (answer (verdict_on m (read z.0 p.0 (bytes_of m)))) (block_at m.blocks z.0 p.0))
obeyed m To.List = (m, in_threes (listing m.zones.told))
obeyed m To.Mark = (m, mark_line m.zones.misused)

-- what was printed before stays before it
abbrev pub printed : Drilled × List ℕ → List ℕ → Drilled × List ℕ
printed p out = (p.0, out ++ p.1)

abbrev pub answered : Drilled → Option Instruction → Drilled × List ℕ
answered m None = (m, not_understood)
answered m (Some i) = obeyed m i

-- a line, and the lines of a drill
abbrev pub line_answered : Drilled → List ℕ → Drilled × List ℕ
line_answered m line = answered m (instruction_of (fields line))

abbrev pub drilled : Drilled → List (List ℕ) → List ℕ
drilled m [] = []
drilled m (line ∷ lines) = (line_answered m line).1 ++ drilled (line_answered m line).0 lines

-- ---- a whole script

-- the setup that a first line asks for, if it is understood
abbrev pub first_understood : Option Setup × List (List ℕ) → Option Setup
first_understood (None, ws) = None
first_understood (Some s, ws) = at_end ws s

abbrev pub new_model : Setup → Drilled
new_model s = record { zones = new_table (kept s.counts); blocks = zero_blocks (kept s.counts) }

abbrev pub set_up : Setup → List ℕ → Result Unit InputRefusal → List ℕ
set_up s rest (Err e) = refusal (input_number e)
set_up s rest (Ok u) = drilled (new_model s) (ended_lines rest) ++ cond (all_ended rest) [] not_understood

abbrev pub after_first : Option Setup → List ℕ → List ℕ
after_first None rest = not_understood
after_first (Some s) rest = set_up s rest (setup_checked s)

abbrev pub lines_played : Option (List ℕ × List ℕ) → List ℕ
lines_played None = not_understood
lines_played (Some (line, rest)) = after_first (first_understood (setup_taken (fields line))) rest

-- what a script prints
abbrev pub transcript : List ℕ → List ℕ
transcript script = lines_played (cut_at 10 script)
