-- The fields of a line that are not yet taken.
use Rattle.std.specs.Prelude.{ℕ, List, [], ◌∷◌, Some, None, Option}
use Rattle.std.specs.Borrow.{Bor}
use Rattle.text.specs.Pieces.{fields}

-- the fields of the text that is left
abbrev pub fields_left : Option (Bor (List ℕ)) → List (List ℕ)
fields_left None = []
fields_left (Some line) = fields line.now

-- the next field as `f` reads it, and the fields after it
abbrev pub taken : {A : Type 0} → (List ℕ → Option A) → List (List ℕ) → Option A × List (List ℕ)
taken f [] = (None, [])
taken f (w ∷ ws) = (f w, ws)

-- `Some` of the empty list
abbrev pub none_left : List (List ℕ) → Option (Unit {0})
none_left [] = Some tt
none_left (w ∷ ws) = None

-- what is read of a field handed on with the fields after it, if it was read
abbrev pub and_then : {A B : Type 0} → Option A × List (List ℕ) → (A → List (List ℕ) → Option B) → Option B
and_then (None, ws) f = None
and_then (Some a, ws) f = f a ws

-- what was read, if no field is left
abbrev pub at_end : {A : Type 0} → List (List ℕ) → A → Option A
at_end [] a = Some a
at_end (w ∷ ws) a = None
