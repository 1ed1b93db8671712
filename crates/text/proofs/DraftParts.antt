-- The parts of a draft, and that the grammar reads a formed draft from exactly these.
use Rattle.std.proofs.Common.{◌≡◌, ℕ, zero, suc, ◌+◌, ◌-◌, ◌<◌, ◌≤◌, List, [], ◌∷◌, ◌++◌, length, get_or, take, drop, replicate, codes, sym, ap, ◌∙◌, append-nil, arith, length-drop, take-append-drop, length-take}
use lib.ListN.{length-replicate, get_or-replicate}
use Rattle.std.proofs.lemmas.List.{take_at, get_or-drop, same_lists, get_or_default}
use Rattle.std.specs.List.{flat_map, AllByRecursion}
use Rattle.text.specs.declared.draft.Draft.{Draft}
use Rattle.text.specs.declared.draft.Row.{Row}
use Rattle.text.specs.declared.draft.State.{State}
use Rattle.text.specs.declared.draft.State.TheVariants.{Stay}
use Rattle.text.specs.Draft.{no_row, StateRanged, RowRanged, Formed}
use Rattle.text.specs.Grammar.{◌>>=◌, done, section, many, state, row, padded, draft_of, book}
use Rattle.text.specs.Limits.{max_inputs, max_outputs, max_states, max_rows}
use Rattle.text.specs.Token.{Part}
use Rattle.text.proofs.Drafts.{made_of, formed}
use Rattle.text.proofs.Readers.{Spelt, Several, spelt_done, spelt_then, spelt_given, spelt_as, spelt_many}
use Rattle.text.proofs.Spelling.{Range, head_parts, state_parts, row_parts, spelt_section, spelt_state, spelt_row}

abbrev pub states_of : Draft → List State
states_of d = take d.states.count d.states.all

abbrev pub rows_of : Draft → List Row
rows_of d = take d.rows.count d.rows.all

-- the parts of a draft
abbrev pub draft_parts : Draft → List Part
draft_parts d =
    head_parts (codes "inputs") d.inputs
    ++ (head_parts (codes "outputs") d.outputs
    ++ (head_parts (codes "states") d.states.count
    ++ (flat_map state_parts (states_of d) ++ (head_parts (codes "rows") d.rows.count ++ flat_map row_parts (rows_of d)))))

-- what holds of each element of the front of a list

pub every_front : {A : Type 0} (P : A → Type 0) (d : A) (n : ℕ) (xs : List A) → n ≤ length xs → ((k : ℕ) → k < n → P (get_or xs k d)) → AllByRecursion P (take n xs)
every_front P d zero xs h each = tt
every_front P d (suc n) [] h each = absurd (omega arith)
every_front P d (suc n) (x ∷ xs) h each = (each 0 (omega arith), every_front P d n xs (omega arith) (λ k l. each (suc k) (omega arith)))

front_every : {A : Type 0} (P : A → Type 0) (d : A) (n : ℕ) (xs : List A) → length (take n xs) ≡ n → AllByRecursion P (take n xs) → (k : ℕ) → k < n → P (get_or xs k d)
front_every P d zero xs h all k l = absurd (omega arith)
front_every P d (suc n) [] h all k l = absurd (omega arith)
front_every P d (suc n) (x ∷ xs) h all zero l = all.0
front_every P d (suc n) (x ∷ xs) h all (suc k) l = front_every P d n xs (omega arith) all.1 k (omega arith)

-- an array that holds d past its front is the front, filled up
front_padded : {A : Type 0} (d : A) (size n : ℕ) (xs : List A) → length xs ≡ size → n ≤ size → ((k : ℕ) → n ≤ k → get_or xs k d ≡ d) → xs ≡ padded size d (take n xs)
front_padded d size n xs sized h past =
    let front : length (take n xs) ≡ n = length-take n xs ∙ omega arith in
    let long : length (drop n xs) ≡ length (replicate (size - length (take n xs)) d) = length-drop n xs ∙ omega (arith, length-replicate (size - length (take n xs)) d) in
    let inside : (k : ℕ) → k < length (drop n xs) → k < size - length (take n xs) = λ k l. omega (arith, length-drop n xs) in
    let rest : drop n xs ≡ replicate (size - length (take n xs)) d =
    same_lists (drop n xs) (replicate (size - length (take n xs)) d) long
    (λ k e l. get_or_default (drop n xs) k e d l ∙ get_or-drop n xs k d ∙ past (n + k) (omega arith) ∙ sym (get_or-replicate _ k d e (inside k l))) in
    sym (take-append-drop n xs) ∙ ap (λ ys. take n xs ++ ys) rest

-- the book's readers, one after another

module _ (i o n : ℕ) (ss : List State) where
  abbrev RowsFit : Draft → Type 0
  RowsFit d = (Unit {0} × Range 1 (max_rows + 1) d.rows.count) × (Several (RowRanged i o n) d.rows.count (rows_of d) × (d ≡ draft_of i o n ss d.rows.count (rows_of d)))

  rows_found : (m : ℕ) (rs : List Row) (d : Draft) → length rs ≡ m → d ≡ draft_of i o n ss m rs → rows_of d ≡ rs
  rows_found m rs d h e = ap rows_of e ∙ take_at rs _ m h

  spelt_rows : 1 ≤ i → 1 ≤ o → 1 ≤ n → Spelt (section (codes "rows") (max_rows + 1) >>= (λ m. many (row i o n) m [] >>= (λ rs. done (draft_of i o n ss m rs)))) (λ d. head_parts (codes "rows") d.rows.count ++ (flat_map row_parts (rows_of d) ++ [])) RowsFit
  spelt_rows some_inputs some_outputs some_states =
      spelt_then (section (codes "rows") (max_rows + 1)) _ (head_parts (codes "rows")) (λ m. Unit {0} × Range 1 (max_rows + 1) m) (λ m d. flat_map row_parts (rows_of d) ++ []) (λ m d. Several (RowRanged i o n) m (rows_of d) × (d ≡ draft_of i o n ss m (rows_of d))) (λ d. d.rows.count)
      (λ m d p q. ap (λ (x : Draft). x.rows.count) q.1)
      (spelt_section (codes "rows") (max_rows + 1) (omega arith))
      (λ m. spelt_then (many (row i o n) m []) _ (flat_map row_parts) (Several (RowRanged i o n) m) (λ rs d. []) (λ rs d. d ≡ draft_of i o n ss m rs) rows_of
      (λ rs d p q. rows_found m rs d p.0 q)
      (spelt_many (row i o n) row_parts (RowRanged i o n) (spelt_row i o n some_inputs some_outputs some_states) m)
      (λ rs. spelt_done (draft_of i o n ss m rs)))

module _ (i o n : ℕ) where
  abbrev StatesFit : Draft → Type 0
  StatesFit d = Several (StateRanged n) n (states_of d) × RowsFit i o n (states_of d) d

  states_found : (ss : List State) (d : Draft) → length ss ≡ n → RowsFit i o n ss d → states_of d ≡ ss
  states_found ss d h f = ap states_of f.1.1 ∙ take_at ss _ n h

  abbrev rows_spelt : Draft → List Part
  rows_spelt d = head_parts (codes "rows") d.rows.count ++ (flat_map row_parts (rows_of d) ++ [])

  spelt_states : 1 ≤ i → 1 ≤ o → 1 ≤ n → Spelt (many (state n) n [] >>= (λ ss. section (codes "rows") (max_rows + 1) >>= (λ m. many (row i o n) m [] >>= (λ rs. done (draft_of i o n ss m rs))))) (λ d. flat_map state_parts (states_of d) ++ rows_spelt d) StatesFit
  spelt_states some_inputs some_outputs some =
      spelt_then (many (state n) n []) _ (flat_map state_parts) (Several (StateRanged n) n) (λ ss d. rows_spelt d) (RowsFit i o n) states_of
      (λ ss d p q. states_found ss d p.0 q)
      (spelt_many (state n) state_parts (StateRanged n) (spelt_state n some) n)
      (λ ss. spelt_rows i o n ss some_inputs some_outputs some)

abbrev CountFits : ℕ → ℕ → Type 0
CountFits limit n = Unit {0} × Range 1 (limit + 1) n

abbrev BookFits : Draft → Type 0
BookFits d = CountFits max_inputs d.inputs × (CountFits max_outputs d.outputs × (CountFits max_states d.states.count × StatesFit d.inputs d.outputs d.states.count d))

abbrev states_spelt : Draft → List Part
states_spelt d = flat_map state_parts (states_of d) ++ (head_parts (codes "rows") d.rows.count ++ (flat_map row_parts (rows_of d) ++ []))

spelt_book : Spelt book (λ d. head_parts (codes "inputs") d.inputs ++ (head_parts (codes "outputs") d.outputs ++ (head_parts (codes "states") d.states.count ++ states_spelt d))) BookFits
spelt_book =
    spelt_given (section (codes "inputs") (max_inputs + 1)) _ (head_parts (codes "inputs")) (CountFits max_inputs) (λ i d. head_parts (codes "outputs") d.outputs ++ (head_parts (codes "states") d.states.count ++ states_spelt d)) (λ i d. CountFits max_outputs d.outputs × (CountFits max_states d.states.count × StatesFit i d.outputs d.states.count d)) (λ d. d.inputs)
    (λ i d p q. ap (λ (x : Draft). x.inputs) q.1.1.1.1.1)
    (spelt_section (codes "inputs") (max_inputs + 1) (omega arith))
    (λ i a. spelt_given (section (codes "outputs") (max_outputs + 1)) _ (head_parts (codes "outputs")) (CountFits max_outputs) (λ o d. head_parts (codes "states") d.states.count ++ states_spelt d) (λ o d. CountFits max_states d.states.count × StatesFit i o d.states.count d) (λ d. d.outputs)
    (λ o d p q. ap (λ (x : Draft). x.outputs) q.1.1.1.1)
    (spelt_section (codes "outputs") (max_outputs + 1) (omega arith))
    (λ o b. spelt_given (section (codes "states") (max_states + 1)) _ (head_parts (codes "states")) (CountFits max_states) (λ n d. states_spelt d) (λ n d. StatesFit i o n d) (λ d. d.states.count)
    (λ n d p q. ap (λ (x : Draft). x.states.count) q.1.1.1)
    (spelt_section (codes "states") (max_states + 1) (omega arith))
    (λ n h. spelt_states i o n a.1.0 b.1.0 h.1.0)))

-- what the readers ask of a draft is that it is formed

formed_fits : (d : Draft) → Formed d → BookFits d
formed_fits d w =
    let r = w.ranged in
    let n : ℕ = d.states.count in
    let m : ℕ = d.rows.count in
    let few : n ≤ max_states = r.counts.1 in
    let short : m ≤ max_rows = r.counts.3 in
    let all_states : length d.states.all ≡ max_states = w.sized.0 in
    let all_rows : length d.rows.all ≡ max_rows = w.sized.1 in
    let states = front_padded Stay max_states n d.states.all all_states few r.states_padded in
    let rows = front_padded no_row max_rows m d.rows.all all_rows short r.rows_padded in (
      (tt, (r.inputs.0, omega (arith, r.inputs.1))),
      (
        (tt, (r.inputs.2, omega (arith, r.inputs.3))),
        (
          (tt, (r.counts.0, omega arith)),
          (
            (length-take n d.states.all ∙ omega arith, every_front (StateRanged n) Stay n d.states.all (omega arith) r.states),
            (
              (tt, (r.counts.2, omega arith)),
              (
                (length-take m d.rows.all ∙ omega arith, every_front (RowRanged d.inputs d.outputs n) no_row m d.rows.all (omega arith) (λ k l. (r.named k l, r.guards k l))),
                λ j. made_of d.inputs d.outputs n (states j) m (rows j),
              ),
            ),
          ),
        ),
      ),
    )

fits_formed : (d : Draft) → BookFits d → Formed d
fits_formed d f =
    let all = f.1.1.1 in
    let lines = all.1.1 in
    formed {i = d.inputs} {o = d.outputs} {n = d.states.count} {m = d.rows.count} {kinds = d.states.all} {lines = d.rows.all} (record {
      inputs = f.0.1;
      outputs = f.1.0.1;
      states = f.1.1.0.1;
      rows = all.1.0.1;
      kinds_filled = record { rest = ap (λ (x : Draft). x.states.all) lines.1; each = front_every (StateRanged d.states.count) Stay d.states.count d.states.all all.0.0 all.0.1 };
      lines_filled = record { rest = ap (λ (x : Draft). x.rows.all) lines.1; each = front_every (RowRanged d.inputs d.outputs d.states.count) no_row d.rows.count d.rows.all lines.0.0 lines.0.1 };
    })

pub spelt_draft : Spelt book draft_parts Formed
spelt_draft =
    let same : (d : Draft) → draft_parts d ≡ head_parts (codes "inputs") d.inputs ++ (head_parts (codes "outputs") d.outputs ++ (head_parts (codes "states") d.states.count ++ states_spelt d)) =
    λ d. ap (λ ps. head_parts (codes "inputs") d.inputs ++ (head_parts (codes "outputs") d.outputs ++ (head_parts (codes "states") d.states.count ++ (flat_map state_parts (states_of d) ++ (head_parts (codes "rows") d.rows.count ++ ps))))) (sym (append-nil (flat_map row_parts (rows_of d)))) in
    spelt_as (λ d r. (formed_fits d r, same d)) (λ d f. (fits_formed d f, same d)) spelt_book
