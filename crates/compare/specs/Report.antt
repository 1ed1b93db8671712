-- The bytes of a judge's report.
use Rattle.std.specs.Prelude.{ℕ, cond, List, [], ◌∷◌, ◌++◌, length, take, Some, None, Ok, Err, codes, decimal, Option, Result, nat_le}
use Rattle.std.specs.List.{flat_map}
use Rattle.table.specs.declared.fault.Place.{Place}
use Rattle.table.specs.declared.fault.Place.TheVariants.{At, Spot}
use Rattle.table.specs.declared.word.Entry.{Entry}
use Rattle.compare.specs.declared.fault.CompareFault.{CompareFault}
use Rattle.compare.specs.declared.fault.CompareFault.TheVariants.{Report}
use Rattle.compare.specs.declared.compare.Verdict.{Verdict}
use Rattle.compare.specs.declared.compare.Verdict.TheVariants.{Alike, Different}
use Rattle.compare.specs.declared.outcome.Finding.{Finding}
use Rattle.compare.specs.declared.outcome.Refusal.{Refusal}
use Rattle.compare.specs.Fault.{number_of, layer_of, place_of}

-- a number behind a blank
abbrev pub field : ℕ → List ℕ
field n = 32 ∷ decimal n

abbrev pub place_fields : Option Place → List ℕ
place_fields None = []
place_fields (Some (At n)) = field n
place_fields (Some (Spot p)) = field p.state ++ (field p.input ++ field p.stretch)

abbrev pub alike_line : ℕ → ℕ → List ℕ
alike_line a b = codes "alike" ++ (field a ++ (field b ++ (10 ∷ [])))

abbrev pub different_line : ℕ → ℕ → ℕ → ℕ → List ℕ
different_line a b steps entries = codes "different" ++ (field a ++ (field b ++ (field steps ++ (field entries ++ (10 ∷ [])))))

abbrev pub fault_line : ℕ → CompareFault → List ℕ
fault_line book f = codes "fault" ++ (field book ++ (codes " " ++ (layer_of f ++ (field (number_of f) ++ (place_fields (place_of f) ++ (10 ∷ []))))))

abbrev pub verdict_line : ℕ → ℕ → Verdict → List ℕ
verdict_line a b Alike = alike_line a b
verdict_line a b (Different steps entries) = different_line a b steps entries

-- the first line
abbrev pub head_line : Result Finding Refusal → List ℕ
head_line (Ok f) = verdict_line f.left f.right f.verdict
head_line (Err r) = fault_line r.book r.fault

-- a line for an entry: its wait in half days, and its input
abbrev pub entry_line : Entry → List ℕ
entry_line e = decimal e.wait ++ (field e.input ++ (10 ∷ []))

-- the entries of the word that was found
abbrev pub word_of : Verdict → List Entry → List Entry
word_of Alike w = []
word_of (Different steps entries) w = take entries w

-- the entries that a report shows
abbrev pub shown_entries : Result Finding Refusal → List Entry → List Entry
shown_entries (Ok f) w = word_of f.verdict w
shown_entries (Err r) w = []

-- the bytes of a report
abbrev pub report : Result Finding Refusal → List Entry → List ℕ
report o w = head_line o ++ flat_map entry_line (shown_entries o w)

-- how many places of the buffer a report fills; a buffer that is too short is refused
abbrev pub reported : List ℕ → List ℕ → Result ℕ CompareFault
reported t buffer = cond (nat_le (length t) (length buffer)) (Ok (length t)) (Err Report)
