-- A text in pieces: cut at a mark, its fields and its ended lines.
use Rattle.std.specs.Prelude.{ℕ, Bool, true, cond, List, [], ◌∷◌, Some, None, Option, ◌==◌}
use Rattle.std.specs.Borrow.{Bor}
use Rattle.std.specs.Option.{option_map}

-- what two slices hold
abbrev pub both_now : Bor (List ℕ) × Bor (List ℕ) → List ℕ × List ℕ
both_now p = (p.0.now, p.1.now)

-- a byte put before the first of two pieces
abbrev pub before : ℕ → List ℕ × List ℕ → List ℕ × List ℕ
before b p = (b ∷ p.0, p.1)

-- the bytes before the first mark and those after it, if there is a mark
abbrev pub cut_at : ℕ → List ℕ → Option (List ℕ × List ℕ)
cut_at mark [] = None
cut_at mark (b ∷ bs) = cond (b == mark) (Some ([], bs)) (option_map (before b) (cut_at mark bs))

-- a byte put before the first piece, if there is one
abbrev pub onto : ℕ → List (List ℕ) → List (List ℕ)
onto b [] = []
onto b (w ∷ ws) = (b ∷ w) ∷ ws

-- the fields of a line, with one space between two of them
abbrev pub fields : List ℕ → List (List ℕ)
fields [] = [] ∷ []
fields (b ∷ bs) = cond (b == 32) ([] ∷ fields bs) (onto b (fields bs))

-- the lines of a text that a byte 10 ends, without it
abbrev pub ended_lines : List ℕ → List (List ℕ)
ended_lines [] = []
ended_lines (b ∷ bs) = cond (b == 10) ([] ∷ ended_lines bs) (onto b (ended_lines bs))

-- whether the last byte is 10, or, where there is none, what is given
abbrev pub ends_ended : Bool → List ℕ → Bool
ends_ended given [] = given
ends_ended given (b ∷ bs) = ends_ended (b == 10) bs

-- whether nothing stands after the last byte 10
abbrev pub all_ended : List ℕ → Bool
all_ended text = ends_ended true text
