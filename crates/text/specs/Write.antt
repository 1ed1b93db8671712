-- The canonical text of a draft, and what a buffer holds after it was written.
use Rattle.std.specs.Prelude.{ℕ, cond, List, [], ◌∷◌, ◌++◌, length, take, drop, Ok, Err, codes, decimal, Result, nat_le}
use Rattle.std.specs.List.{flat_map}
use Rattle.text.specs.declared.draft.Draft.{Draft}
use Rattle.text.specs.declared.draft.End.{End}
use Rattle.text.specs.declared.draft.End.TheVariants.{Shut, Open}
use Rattle.text.specs.declared.draft.Guard.{Guard}
use Rattle.text.specs.declared.draft.High.{High}
use Rattle.text.specs.declared.draft.High.TheVariants.{At, Inf}
use Rattle.text.specs.declared.draft.Row.{Row}
use Rattle.text.specs.declared.draft.State.{State}
use Rattle.text.specs.declared.draft.State.TheVariants.{Stay, Hold}
use Rattle.text.specs.declared.fault.TextFault.{TextFault}
use Rattle.text.specs.declared.fault.TextFault.TheVariants.{BufferTooShort}
use Rattle.text.specs.declared.mark.Side.{Side}
use Rattle.text.specs.declared.mark.Side.TheVariants.{Low, High as HighSide}

abbrev pub head_line : List ℕ → ℕ → List ℕ
head_line w n = w ++ (32 ∷ (decimal n ++ (10 ∷ [])))

abbrev pub state_line : State → List ℕ
state_line Stay = codes "stay" ++ (10 ∷ [])
state_line (Hold t u) = codes "hold" ++ (32 ∷ (decimal t ++ (32 ∷ (decimal u ++ (10 ∷ [])))))

abbrev pub opener : End → ℕ
opener Shut = 91
opener Open = 40

abbrev pub closer : End → ℕ
closer Shut = 93
closer Open = 41

-- the mark of an end on a side
abbrev pub mark_of : Side → End → ℕ
mark_of Low = opener
mark_of HighSide = closer

abbrev pub high_text : High → List ℕ
high_text (At n e) = decimal n ++ (closer e ∷ [])
high_text Inf = codes "inf" ++ (41 ∷ [])

abbrev pub guard_text : Guard → List ℕ
guard_text g = opener g.end ∷ (decimal g.low ++ (44 ∷ high_text g.high))

abbrev pub row_line : Row → List ℕ
row_line r =
    decimal r.state ++ (32 ∷ (decimal r.input ++ (32 ∷ (guard_text r.guard ++ (32 ∷ (decimal r.output ++ (32 ∷ (decimal r.next ++ (10 ∷ [])))))))))

-- a line for each head of a section, each state and each row
unfoldable pub canonical : Draft → List ℕ
canonical d =
    head_line (codes "inputs") d.inputs
    ++ (head_line (codes "outputs") d.outputs
    ++ (head_line (codes "states") d.states.count
    ++ (flat_map state_line (take d.states.count d.states.all)
    ++ (head_line (codes "rows") d.rows.count
    ++ flat_map row_line (take d.rows.count d.rows.all)))))

-- how many places of a buffer a text fills; a buffer that is too short is refused
abbrev pub written : List ℕ → List ℕ → Result ℕ TextFault
written t buffer = cond (nat_le (length t) (length buffer)) (Ok (length t)) (Err BufferTooShort)

-- the text from the buffer's start, and then what the buffer had; one that is too short stays
abbrev pub filled : List ℕ → List ℕ → List ℕ
filled t buffer = cond (nat_le (length t) (length buffer)) (t ++ drop (length t) buffer) buffer
