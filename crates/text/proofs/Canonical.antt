-- The canonical text of a draft has the draft's parts, and whatever stands behind it, it begins with them.
use Rattle.std.proofs.Common.{◌≡◌, ℕ, ◌<◌, ◌≤◌, true, false, List, [], ◌∷◌, ◌++◌, length, codes, decimal, sym, refl, subst, append_assoc, arith}
use Rattle.std.specs.List.{flat_map, AllByRecursion}
use Rattle.text.specs.declared.mark.Side.{Side}
use Rattle.text.specs.declared.mark.Side.TheVariants.{Low, High as HighSide}
use Rattle.text.specs.declared.draft.Draft.{Draft}
use Rattle.text.specs.declared.draft.End.{End}
use Rattle.text.specs.declared.draft.End.TheVariants.{Shut, Open}
use Rattle.text.specs.declared.draft.Guard.{Guard}
use Rattle.text.specs.declared.draft.High.{High}
use Rattle.text.specs.declared.draft.High.TheVariants.{At, Inf}
use Rattle.text.specs.declared.draft.Row.{Row}
use Rattle.text.specs.declared.draft.State.{State}
use Rattle.text.specs.declared.draft.State.TheVariants.{Stay, Hold}
use Rattle.text.specs.declared.token.Kind.TheVariants.{Blank, Letter, Digit}
use Rattle.text.specs.Draft.{no_row, StateRanged, GuardRanged, RowRanged, Formed}
use Rattle.text.specs.Limits.{number_limit, max_inputs, max_outputs, max_states, max_rows}
use Rattle.text.specs.Parts.{All, spelling, Proper, Stops, Next, Begins}
use Rattle.text.specs.Token.{Part, word, number, mark, is_of, is_mark}
use Rattle.text.specs.Write.{head_line, state_line, opener, closer, mark_of, high_text, guard_text, row_line, canonical}
use Rattle.text.proofs.DraftParts.{states_of, rows_of, draft_parts, every_front}
use Rattle.text.proofs.Follows.{begins_append}
use Rattle.text.proofs.Spelling.{head_parts, state_parts, high_parts, guard_parts, row_parts}

-- a part that is written behind blanks comes next
next_written : (p : Part) (blanks rest : List ℕ) → All Blank blanks → Proper p → Stops p rest → Next p (blanks ++ (spelling p ++ rest)) rest
next_written p blanks rest b h s = record { blanks = blanks; blank = b; proper = h; stops = s; is = refl }

-- a number with a byte behind it that is no digit
next_number : (n : ℕ) (blanks : List ℕ) (c : ℕ) (rest : List ℕ) → All Blank blanks → n < number_limit → is_of Digit c ≡ false → Next (number n) (blanks ++ (decimal n ++ (c ∷ rest))) (c ∷ rest)
next_number n blanks c rest b h s = next_written (number n) blanks (c ∷ rest) b h s

-- the head of a section

head_text : (w ds more : List ℕ) → (w ++ (32 ∷ (ds ++ (10 ∷ [])))) ++ more ≡ w ++ (32 ∷ (ds ++ (10 ∷ more)))
head_text w ds more = simp append_assoc

head_begins : (w : List ℕ) (n : ℕ) (blanks more : List ℕ) → All Blank blanks → 1 ≤ length w → All Letter w → n < number_limit → Begins (head_parts w n) (blanks ++ (head_line w n ++ more)) (10 ∷ more)
head_begins w n blanks more b some letters h =
    subst (λ (t : List ℕ). Begins (head_parts w n) (blanks ++ t) (10 ∷ more)) (sym (head_text w (decimal n) more))
    (32 ∷ (decimal n ++ (10 ∷ more)), next_written (word w) blanks _ b (some, letters) refl, (10 ∷ more, next_number n (32 ∷ []) 10 more (refl, tt) h refl, refl))

-- states

hold_text : (ds es more : List ℕ) → (codes "hold" ++ (32 ∷ (ds ++ (32 ∷ (es ++ (10 ∷ [])))))) ++ more ≡ codes "hold" ++ (32 ∷ (ds ++ (32 ∷ (es ++ (10 ∷ more)))))
hold_text ds es more = simp append_assoc

state_begins : (n : ℕ) (s : State) (more : List ℕ) → n ≤ number_limit → StateRanged n s → Begins (state_parts s) (10 ∷ (state_line s ++ more)) (10 ∷ more)
state_begins n Stay more h r = (10 ∷ more, next_written (word (codes "stay")) (10 ∷ []) (10 ∷ more) (refl, tt) (omega arith, (refl, (refl, (refl, (refl, tt))))) refl, refl)
state_begins n (Hold t u) more h r =
    subst (λ (x : List ℕ). Begins (state_parts (Hold t u)) (10 ∷ x) (10 ∷ more)) (sym (hold_text (decimal t) (decimal u) more)) (
      32 ∷ (decimal t ++ (32 ∷ (decimal u ++ (10 ∷ more)))),
      next_written (word (codes "hold")) (10 ∷ []) _ (refl, tt) (omega arith, (refl, (refl, (refl, (refl, tt))))) refl,
      (32 ∷ (decimal u ++ (10 ∷ more)), next_number t (32 ∷ []) 32 _ (refl, tt) (omega (arith, r.1)) refl, (10 ∷ more, next_number u (32 ∷ []) 10 more (refl, tt) (omega (arith, r.2)) refl, refl)),
    )

-- guards

end_mark : (s : Side) (e : End) → is_mark (mark_of s e) ≡ true
end_mark Low Shut = refl
end_mark Low Open = refl
end_mark HighSide Shut = refl
end_mark HighSide Open = refl

closer_stops : (e : End) → is_of Digit (closer e) ≡ false
closer_stops Shut = refl
closer_stops Open = refl

high_begins : (h : High) (low : ℕ) (e : End) (rest : List ℕ) → GuardRanged (record { low = low; end = e; high = h }) → Begins (high_parts h) (high_text h ++ rest) rest
high_begins (At n f) low e rest r =
    subst (λ (t : List ℕ). Begins (high_parts (At n f)) t rest) (sym (append_assoc (decimal n) (closer f ∷ []) rest))
    (closer f ∷ rest, next_number n [] (closer f) rest tt (omega (arith, r.1)) (closer_stops f), (rest, next_written (mark (closer f)) [] rest tt (end_mark HighSide f) tt, refl))
high_begins Inf low e rest r = (41 ∷ rest, next_written (word (codes "inf")) [] (41 ∷ rest) tt (omega arith, (refl, (refl, (refl, tt)))) refl, (rest, next_written (mark 41) [] rest tt refl tt, refl))

guard_begins : (g : Guard) (rest : List ℕ) → GuardRanged g → Begins (guard_parts g) (32 ∷ (guard_text g ++ rest)) rest
guard_begins g rest r =
    subst (λ (t : List ℕ). Begins (guard_parts g) (32 ∷ (opener g.end ∷ t)) rest) (sym (append_assoc (decimal g.low) (44 ∷ high_text g.high) rest)) (
      decimal g.low ++ (44 ∷ (high_text g.high ++ rest)),
      next_written (mark (opener g.end)) (32 ∷ []) _ (refl, tt) (end_mark Low g.end) tt,
      (
        44 ∷ (high_text g.high ++ rest),
        next_number g.low [] 44 _ tt (omega (arith, r.0)) refl,
        (high_text g.high ++ rest, next_written (mark 44) [] _ tt refl tt, high_begins g.high g.low g.end rest r),
      ),
    )

-- rows

row_text : (a b c d e more : List ℕ) → (a ++ (32 ∷ (b ++ (32 ∷ (c ++ (32 ∷ (d ++ (32 ∷ (e ++ (10 ∷ [])))))))))) ++ more ≡ a ++ (32 ∷ (b ++ (32 ∷ (c ++ (32 ∷ (d ++ (32 ∷ (e ++ (10 ∷ more)))))))))
row_text a b c d e more = simp append_assoc

row_begins : (i o n : ℕ) (r : Row) (more : List ℕ) → i ≤ number_limit → o ≤ number_limit → n ≤ number_limit → RowRanged i o n r → Begins (row_parts r) (10 ∷ (row_line r ++ more)) (10 ∷ more)
row_begins i o n r more hi ho hn h =
    let last : List ℕ = 32 ∷ (decimal r.next ++ (10 ∷ more)) in
    let output : List ℕ = 32 ∷ (decimal r.output ++ last) in
    let guard : List ℕ = 32 ∷ (guard_text r.guard ++ output) in
    let input : List ℕ = 32 ∷ (decimal r.input ++ guard) in
    subst (λ (t : List ℕ). Begins (row_parts r) (10 ∷ t) (10 ∷ more)) (sym (row_text (decimal r.state) (decimal r.input) (guard_text r.guard) (decimal r.output) (decimal r.next) more)) (
      input,
      next_number r.state (10 ∷ []) 32 _ (refl, tt) (omega (arith, h.0.0)) refl,
      (
        guard,
        next_number r.input (32 ∷ []) 32 _ (refl, tt) (omega (arith, h.0.1)) refl,
        begins_append (guard_parts r.guard) (number r.output ∷ number r.next ∷ []) guard output (10 ∷ more) (guard_begins r.guard output h.1)
            (last, next_number r.output (32 ∷ []) 32 _ (refl, tt) (omega (arith, h.0.2)) refl, (10 ∷ more, next_number r.next (32 ∷ []) 10 more (refl, tt) (omega (arith, h.0.3)) refl, refl)),
      ),
    )

-- line after line
lines_begin : {A : Type 0} (parts : A → List Part) (line : A → List ℕ) (P : A → Type 0) → ((x : A) (more : List ℕ) → P x → Begins (parts x) (10 ∷ (line x ++ more)) (10 ∷ more)) → (xs : List A) (more : List ℕ) → AllByRecursion P xs → Begins (flat_map parts xs) (10 ∷ (flat_map line xs ++ more)) (10 ∷ more)
lines_begin parts line P each [] more h = refl
lines_begin parts line P each (x ∷ xs) more h =
    subst (λ (t : List ℕ). Begins (parts x ++ flat_map parts xs) (10 ∷ t) (10 ∷ more)) (sym (append_assoc (line x) (flat_map line xs) more))
    (begins_append (parts x) (flat_map parts xs) _ (10 ∷ (flat_map line xs ++ more)) (10 ∷ more) (each x (flat_map line xs ++ more) h.0) (lines_begin parts line P each xs more h.1))

-- the whole text

sections_text : (a b c d e f more : List ℕ) → (a ++ (b ++ (c ++ (d ++ (e ++ f))))) ++ more ≡ a ++ (b ++ (c ++ (d ++ (e ++ (f ++ more)))))
sections_text a b c d e f more = simp append_assoc

canonical_text : (d : Draft) (more : List ℕ)
    → canonical d ++ more
    ≡ head_line (codes "inputs") d.inputs
    ++ (head_line (codes "outputs") d.outputs
    ++ (head_line (codes "states") d.states.count
    ++ (flat_map state_line (states_of d) ++ (head_line (codes "rows") d.rows.count ++ (flat_map row_line (rows_of d) ++ more)))))
unfolding canonical
canonical_text d more =
    sections_text (head_line (codes "inputs") d.inputs) (head_line (codes "outputs") d.outputs) (head_line (codes "states") d.states.count) (flat_map state_line (states_of d)) (head_line (codes "rows") d.rows.count) (flat_map row_line (rows_of d)) more

pub canonical_begins : (d : Draft) (more : List ℕ) → Formed d → Begins (draft_parts d) (canonical d ++ more) (10 ∷ more)
canonical_begins d more f =
    let r = f.ranged in
    let i : ℕ = d.inputs in
    let o : ℕ = d.outputs in
    let n : ℕ = d.states.count in
    let m : ℕ = d.rows.count in
    let few_inputs : i ≤ max_inputs = r.inputs.1 in
    let few_outputs : o ≤ max_outputs = r.inputs.3 in
    let few_states : n ≤ max_states = r.counts.1 in
    let few_rows : m ≤ max_rows = r.counts.3 in
    let all_states : length d.states.all ≡ max_states = f.sized.0 in
    let all_rows : length d.rows.all ≡ max_rows = f.sized.1 in
    let row_section : List Part = head_parts (codes "rows") m ++ flat_map row_parts (rows_of d) in
    let state_section : List Part = head_parts (codes "states") n ++ (flat_map state_parts (states_of d) ++ row_section) in
    let rows : List ℕ = flat_map row_line (rows_of d) ++ more in
    let rows_head : List ℕ = head_line (codes "rows") m ++ rows in
    let states : List ℕ = flat_map state_line (states_of d) ++ rows_head in
    let states_head : List ℕ = head_line (codes "states") n ++ states in
    let outputs_head : List ℕ = head_line (codes "outputs") o ++ states_head in
    let row_lines : Begins (flat_map row_parts (rows_of d)) (10 ∷ rows) (10 ∷ more) = lines_begin row_parts row_line (RowRanged i o n) (λ x t. row_begins i o n x t (omega arith) (omega arith) (omega arith)) (rows_of d) more (every_front (RowRanged i o n) no_row m d.rows.all (omega arith) (λ k l. (r.named k l, r.guards k l))) in
    let state_lines : Begins (flat_map state_parts (states_of d)) (10 ∷ states) (10 ∷ rows_head) = lines_begin state_parts state_line (StateRanged n) (λ x t. state_begins n x t (omega arith)) (states_of d) rows_head (every_front (StateRanged n) Stay n d.states.all (omega arith) r.states) in
    subst (λ (t : List ℕ). Begins (draft_parts d) t (10 ∷ more)) (sym (canonical_text d more))
    (begins_append (head_parts (codes "inputs") i) (head_parts (codes "outputs") o ++ state_section) _ (10 ∷ outputs_head) (10 ∷ more) (head_begins (codes "inputs") i [] outputs_head tt (omega arith) (refl, (refl, (refl, (refl, (refl, (refl, tt)))))) (omega arith))
    (begins_append (head_parts (codes "outputs") o) state_section _ (10 ∷ states_head) (10 ∷ more) (head_begins (codes "outputs") o (10 ∷ []) states_head (refl, tt) (omega arith) (refl, (refl, (refl, (refl, (refl, (refl, (refl, tt))))))) (omega arith))
    (begins_append (head_parts (codes "states") n) (flat_map state_parts (states_of d) ++ row_section) _ (10 ∷ states) (10 ∷ more) (head_begins (codes "states") n (10 ∷ []) states (refl, tt) (omega arith) (refl, (refl, (refl, (refl, (refl, (refl, tt)))))) (omega arith))
    (begins_append (flat_map state_parts (states_of d)) row_section _ (10 ∷ rows_head) (10 ∷ more) state_lines
    (begins_append (head_parts (codes "rows") m) (flat_map row_parts (rows_of d)) _ (10 ∷ rows) (10 ∷ more) (head_begins (codes "rows") m (10 ∷ []) rows (refl, tt) (omega arith) (refl, (refl, (refl, (refl, tt)))) (omega arith))
    row_lines)))))
