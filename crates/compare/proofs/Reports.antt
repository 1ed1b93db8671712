-- Lines of a report, one after another.
use Rattle.std.proofs.Common.{◌≡◌, ℕ, ◌+◌, ◌<◌, ◌≤◌, true, false, leb, List, [], ◌∷◌, ◌++◌, length, get_or, take, drop, Ok, Err, Result, sym, refl, ap, ◌∙◌, subst, append-nil, arith, length-append, take-append-drop}
use Rattle.std.proofs.lemmas.List.{take_more}
use Rattle.std.proofs.lemmas.Bool.{le-leb, lt-leb}
use Rattle.std.proofs.lemmas.Grind.{common_steps, flat_map-append}
use Rattle.std.specs.List.{flat_map}
use Rattle.text.specs.Put.{Puts}
use Rattle.text.specs.Write.{filled}
use Rattle.table.specs.declared.word.Entry.{Entry}
use Rattle.table.specs.declared.fault.TableFault.{TableFault}
use Rattle.table.specs.declared.fault.TableFault.TheVariants.{Text, EmptyGuard, PastTimeout, TwoRows, NoRow, Landings, QuietDays, Output}
use Rattle.table.specs.Fault as table
use Rattle.compare.specs.declared.fault.CompareFault.{CompareFault}
use Rattle.compare.specs.declared.fault.CompareFault.TheVariants.{Table, Inputs, Cells, Entries, Report}
use Rattle.compare.specs.declared.outcome.Finding.{Finding}
use Rattle.compare.specs.declared.outcome.Refusal.{Refusal}
use Rattle.compare.specs.Fault.{layer_of}
use Rattle.compare.specs.Report.{head_line, entry_line, shown_entries, report, reported}

-- the word of a layer is short
table_layer_short : (f : TableFault) → length (table.layer_of f) ≤ 8
table_layer_short (Text f) = omega arith
table_layer_short (EmptyGuard k) = omega arith
table_layer_short (PastTimeout k) = omega arith
table_layer_short (TwoRows p) = omega arith
table_layer_short (NoRow p) = omega arith
table_layer_short Landings = omega arith
table_layer_short QuietDays = omega arith
table_layer_short (Output k) = omega arith

layer_of_short : (f : CompareFault) → length (layer_of f) ≤ 8
layer_of_short (Table f) = table_layer_short f
layer_of_short Inputs = omega arith
layer_of_short Cells = omega arith
layer_of_short Entries = omega arith
layer_of_short Report = omega arith

pub layer_short : (f : CompareFault) (bytes : List ℕ) → bytes ≡ layer_of f → length bytes ≤ 8
layer_short f bytes is = subst (λ b. length b ≤ 8) (sym is) (layer_of_short f)

module _ {X : Type 0} (f : X → List ℕ) where
  joined_append : (xs ys : List X) → length (flat_map f (xs ++ ys)) ≡ length (flat_map f xs) + length (flat_map f ys)
  joined_append xs ys = ap length (flat_map-append f xs ys) ∙ length-append (flat_map f xs) (flat_map f ys)

  -- the lines of one more element
  pub lines_more : (xs : List X) (i : ℕ) (d : X) → i < length xs → length (flat_map f (take (i + 1) xs)) ≡ length (flat_map f (take i xs)) + length (f (get_or xs i d))
  lines_more xs i d h = ap (λ ys. length (flat_map f ys)) (take_more xs i d h) ∙ joined_append (take i xs) (get_or xs i d ∷ []) ∙ simp append-nil

  -- those of the first elements are no more than those of all
  pub lines_front : (xs : List X) (i : ℕ) → length (flat_map f (take i xs)) ≤ length (flat_map f xs)
  lines_front xs i = omega (arith, joined_append (take i xs) (drop i xs), ap (λ ys. length (flat_map f ys)) (take-append-drop i xs))

-- what stands past the last entry
abbrev pub no_entry : Entry
no_entry = record { wait = 0; input = 0 }

-- a report that was put into the buffer from its start
pub reported_all : (o p t : List ℕ) (e : ℕ) → Puts o 0 p e t → e ≤ length o → (Ok e ≡ reported t o) × (p ≡ filled t o)
reported_all o p t e put h =
    let size : e ≡ length t = omega (arith, put.long) in
    let f : leb (length t) (length o) ≡ true = le-leb _ _ (omega arith) in
    let whole : p ≡ t ++ drop (length t) o = grind (arith, common_steps, take-append-drop e p, put.front, put.rest) in
    (rw f (ap Ok size), rw f whole)

pub reported_none : (o t : List ℕ) → length o < length t → (Err Report ≡ reported t o) × (o ≡ filled t o)
reported_none o t h = let f : leb (length t) (length o) ≡ false = lt-leb _ _ h in (rw f, rw f)

pub report_length : (o : Result Finding Refusal) (w : List Entry) → length (report o w) ≡ length (head_line o) + length (flat_map entry_line (shown_entries o w))
report_length o w = length-append (head_line o) (flat_map entry_line (shown_entries o w))

pub report_is : (o : Result Finding Refusal) (w : List Entry) → head_line o ++ flat_map entry_line (shown_entries o w) ≡ report o w
report_is o w = refl
